-- Laws of lists written behind one another, over the first places of a slice and behind its taken ones. Assumes nothing.
use Prim.Native.Nat.{ℕ, ◌+◌, ◌-◌}
use native.Mathlib.Omega.{arith}
use mathlib.Core.Path.{◌≡◌, sym, ap, ◌∙◌}
use mathlib.Core.List.{List, [], ◌++◌, append_assoc, append-nil}
use borrow.Rule.Slice.PartMut.{put_mid, mid_of}
use Rattle.std.proofs.Math.Seq.{take_all}
use lib.ListN.{length, take, drop, length-append, length-drop, drop_of_length-le}
use lib.Seq.{drop-drop, take_at, drop_at}
use Rattle.sequences.specs.Tabulate.{overwrite}
use Rattle.grid.specs.Grid.{Grid}
use Rattle.packing.specs.Packing.{packed_words, overwrite_from}

module _ {A : Type 0} where
  -- the first n places hold what was written, and what stands behind them was lent and written over from its front
  overwrite_behind : (new more old : List A) (n : ℕ) → length new ≡ n → take n (overwrite new old) ++ overwrite more (drop n (overwrite new old)) ≡ overwrite (new ++ more) old
  unfolding overwrite
  overwrite_behind new more old n e =
      let a : drop (length more) (drop n old) ≡ drop (length (new ++ more)) old = drop-drop (length more) n old ∙ ap (λ (k : ℕ). drop k old) (simp length-append (omega arith)) in
      rw (take_at new (drop (length new) old) n e, drop_at new (drop (length new) old) n e, e, a) (sym (append_assoc new more (drop (length (new ++ more)) old)))

  -- a lent part that reaches to the end of the slice
  part_to_end : (n k : ℕ) (w : List A) → k ≡ length w - n → (take k (drop n w) ≡ drop n w) × (drop k (drop n w) ≡ [])
  part_to_end n k w f = (take_all k (drop n w) (omega (arith, length-drop n w)), drop_of_length-le (drop n w) (omega (arith, length-drop n w)))

  -- the same of a part that was lent behind the first n places of what an earlier write left
  pub put_behind : (new more old w after : List A) (n k : ℕ) → length new ≡ n → k ≡ length w - n → w ≡ overwrite new old → after ≡ overwrite more (mid_of n k w) → put_mid n k w after ≡ overwrite (new ++ more) old
  put_behind new more old w after n k e f h g =
      let part = part_to_end n k w f in
      ap (λ (l : List A). take n w ++ (after ++ l)) part.1 ∙ ap (λ (l : List A). take n w ++ l) (append-nil after ∙ g ∙ ap (overwrite more) part.0)
      ∙ ap (λ (l : List A). take n l ++ overwrite more (drop n l)) h ∙ overwrite_behind new more old n e

  -- and of one that was lent behind the taken places
  pub put_from : (new old after : List A) (taken k : ℕ) → k ≡ length old - taken → after ≡ overwrite new (mid_of taken k old) → put_mid taken k old after ≡ overwrite_from taken new old
  unfolding overwrite_from
  put_from new old after taken k f g =
      let part = part_to_end taken k old f in
      ap (λ (l : List A). take taken old ++ (after ++ l)) part.1 ∙ ap (λ (l : List A). take taken old ++ l) (append-nil after ∙ g ∙ ap (overwrite new) part.0)

pub length_packed : (grid : Grid) → length (packed_words grid) ≡ length grid.cell_starts + length grid.cell_ids + length grid.triangle_starts + length grid.triples
unfolding packed_words
length_packed grid = simp length-append (omega arith)
