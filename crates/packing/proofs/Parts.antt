-- Where the parts of a grid stand in the two slices, `packed_parts`, and which places stay as they were, `others_stay`. Assumes nothing.
use Prim.Native.Nat.{ℕ, ◌+◌, ◌≤◌}
use native.Mathlib.Omega.{arith}
use mathlib.Core.Path.{◌≡◌, refl, sym, ap, ◌∙◌}
use mathlib.Core.List.{List, ◌++◌, append_assoc}
use lib.ListN.{length, take, drop, length-append, length-drop, length-map}
use lib.Seq.{drop-drop, take_at, drop_at, length-take-le}
use lib.Ieee.{Float, binary32}
use Rattle.binary32.specs.Convert.{convert_format}
use Rattle.std.proofs.lemmas.List.{drop-take, take-append-le, take-take}
use Rattle.sequences.specs.Tabulate.{overwrite}
use Rattle.sequences.proofs.Tabulate.{length_overwrite}
use Rattle.grid.specs.Grid.{Grid}
use Rattle.packing.specs.declared.Taken.{Taken}
use Rattle.packing.specs.Packing.{packed_words, packed_floats, overwrite_from, level_record}
use Rattle.packing.specs.Laws.{StandsAt, PartsStand, OthersStay}

module _ {A : Type 0} where
  part_at : (before part after : List A) (n : ℕ) → length before ≡ n → StandsAt part (before ++ (part ++ after)) n
  part_at before part after n e = ap (take (length part)) (drop_at before (part ++ after) n e) ∙ take_at part after (length part) refl

  module _ (taken : ℕ) (new old : List A) (room : taken + length new ≤ length old) where
    length_before : length (take taken old) ≡ taken
    length_before = length-take-le taken old (omega arith)

    -- what ends within the taken places stays
    pub kept_before : (from count : ℕ) → from + count ≤ taken → take count (drop from (overwrite_from taken new old)) ≡ take count (drop from old)
    unfolding overwrite_from
    kept_before from count h =
        let rest = overwrite new (drop taken old) in
        sym (drop-take from count (take taken old ++ rest))
        ∙ ap (drop from) (take-append-le (from + count) (take taken old) rest (omega (arith, length_before)) ∙ take-take (from + count) taken old h)
        ∙ drop-take from count old

    kept_behind : drop (taken + length new) (overwrite_from taken new old) ≡ drop (taken + length new) old
    unfolding overwrite_from overwrite
    kept_behind =
        let written : length (take taken old ++ new) ≡ taken + length new = simp length-append (ap (λ (k : ℕ). k + length new) length_before) in
        ap (drop (taken + length new)) (sym (append_assoc (take taken old) new (drop (length new) (drop taken old))))
        ∙ drop_at (take taken old ++ new) (drop (length new) (drop taken old)) (taken + length new) written
        ∙ drop-drop (length new) taken old

    same_length : length (overwrite_from taken new old) ≡ length old
    unfolding overwrite_from
    same_length =
        let rest : length (overwrite new (drop taken old)) ≡ length (drop taken old) = length_overwrite new (drop taken old) (omega (arith, length-drop taken old)) in
        length-append (take taken old) (overwrite new (drop taken old)) ∙ omega (arith, rest, length_before, length-drop taken old)

    pub others_stay : (to : ℕ) → to ≡ taken + length new → OthersStay taken to old (overwrite_from taken new old)
    others_stay to e = rw e (record { same_length = same_length; before = kept_before 0 taken (omega arith); behind = kept_behind })

pub packed_parts : (grid : Grid) (positions : List Float) (taken : Taken) (words : List ℕ) (floats : List Float) → taken.words ≤ length words → taken.floats ≤ length floats
    → PartsStand grid positions (level_record grid positions taken) (overwrite_from taken.words (packed_words grid) words) (overwrite_from taken.floats (packed_floats positions) floats)
unfolding overwrite_from overwrite packed_words level_record
packed_parts grid positions taken words floats w f =
    let before = take taken.words words in
    let starts = grid.cell_starts in
    let ids = grid.cell_ids in
    let triangles = grid.triangle_starts in
    let triples = grid.triples in
    let rest = drop (length (starts ++ (ids ++ (triangles ++ triples)))) (drop taken.words words) in
    let n : length before ≡ taken.words = length-take-le taken.words words w in
    record {
      cell_starts = ap (λ (l : List ℕ). take (length starts) (drop taken.words l)) (regroup before starts ids triangles triples rest) ∙ part_at before starts _ taken.words n;
      cell_ids = ap (λ (l : List ℕ). take (length ids) (drop (taken.words + length starts) l)) (regroup_1 before starts ids triangles triples rest)
          ∙ part_at (before ++ starts) ids _ _ (length-append before starts ∙ ap (λ (k : ℕ). k + length starts) n);
      triangle_starts = ap (λ (l : List ℕ). take (length triangles) (drop (taken.words + length starts + length ids) l)) (regroup_2 before starts ids triangles triples rest)
          ∙ part_at ((before ++ starts) ++ ids) triangles _ _ (simp length-append (ap (λ (k : ℕ). k + length starts + length ids) n));
      triples = ap (λ (l : List ℕ). take (length triples) (drop (taken.words + length starts + length ids + length triangles) l)) (regroup_3 before starts ids triangles triples rest)
          ∙ part_at (((before ++ starts) ++ ids) ++ triangles) triples _ _ (simp length-append (ap (λ (k : ℕ). k + length starts + length ids + length triangles) n));
      converted = part_at (take taken.floats floats) (packed_floats positions) _ taken.floats (length-take-le taken.floats floats f);
    }
  where
    regroup : (b s i t r x : List ℕ) → b ++ ((s ++ (i ++ (t ++ r))) ++ x) ≡ b ++ (s ++ (i ++ (t ++ (r ++ x))))
    regroup b s i t r x = simp append_assoc

    regroup_1 : (b s i t r x : List ℕ) → b ++ ((s ++ (i ++ (t ++ r))) ++ x) ≡ (b ++ s) ++ (i ++ (t ++ (r ++ x)))
    regroup_1 b s i t r x = simp append_assoc

    regroup_2 : (b s i t r x : List ℕ) → b ++ ((s ++ (i ++ (t ++ r))) ++ x) ≡ ((b ++ s) ++ i) ++ (t ++ (r ++ x))
    regroup_2 b s i t r x = simp append_assoc

    regroup_3 : (b s i t r x : List ℕ) → b ++ ((s ++ (i ++ (t ++ r))) ++ x) ≡ (((b ++ s) ++ i) ++ t) ++ (r ++ x)
    regroup_3 b s i t r x = simp append_assoc

pub length_floats : (positions : List Float) → length (packed_floats positions) ≡ length positions
unfolding packed_floats
length_floats positions = length-map positions (convert_format binary32)
