-- Laws of lists of slabs. Assumes nothing.
-- To read: `slab_of`, `slabs_tail`. To recognise: `slabs_unique`. One change after another: `slabs_compose`.
-- A loop that changes one slab after another in place: `slabs_written` says what the last leaves.
use Prim.Native.Nat.{ℕ, ◌+◌, ◌*◌, ◌/◌, ◌%◌, ◌≤◌, ◌<◌}
use native.Mathlib.Nat.{div-mul-le_self, div-lt_iff_lt-mul, div-add-mod', mod-lt, mul-le-mul_right}
use native.Mathlib.Omega.{arith}
use native.Mathlib.Decide.{dec_lt}
use mathlib.Core.Path.{◌≡◌, sym, ap, ◌∙◌}
use mathlib.Core.List.{List}
use lib.ListN.{length, get_or, drop}
use lib.Seq.{ext_get_or}
use Rattle.sequences.specs.Tabulate.{block, overwrite}
use Rattle.sequences.specs.Starts.{concatenate}
use Rattle.sequences.specs.Slabs.{map_slabs}
use Rattle.sequences.proofs.Tabulate.{length_block, block_unique, blocks_agree, length_overwrite, overwrite_at, overwrite_beyond, drop_overwrite}
use Rattle.sequences.proofs.Starts.{concatenate_even_length, concatenate_even_at, concatenate_extensional}

module _ {A : Type 0} where
  -- ---- the whole
  module _ (w : ℕ) (change : List A → List A) (l : List A) (d : A) (keeps : (b : List A) → length b ≡ w → length (change b) ≡ w) where
    even : (s : ℕ) → s < length l / w → length (change (block w l d s)) ≡ w
    even s lt = keeps (block w l d s) (length_block w l d s)

    slabs_length : length (concatenate (length l / w) (λ s. change (block w l d s))) ≡ length l / w * w
    slabs_length = concatenate_even_length (length l / w) w (λ s. change (block w l d s)) even

    pub length_slabs : length (map_slabs w change l d) ≡ length l
    unfolding map_slabs
    length_slabs = length_overwrite (concatenate (length l / w) (λ s. change (block w l d s))) l (omega (arith, slabs_length, div-mul-le_self (length l) w))

    -- the slab s afterwards
    pub slab_of : (s : ℕ) → s < length l / w → block w (map_slabs w change l d) d s ≡ change (block w l d s)
    unfolding map_slabs
    slab_of s lt =
        sym (block_unique w (map_slabs w change l d) d s (change (block w l d s)) (even s lt) (λ k lk.
        sym (overwrite_at (concatenate (length l / w) (λ s. change (block w l d s))) l (s * w + k) d (omega (arith, slabs_length, mul-le-mul_right w lt))
        ∙ concatenate_even_at (length l / w) w (λ s. change (block w l d s)) even s k d lt lk)))

    -- the tail
    pub slabs_tail : drop (length l / w * w) (map_slabs w change l d) ≡ drop (length l / w * w) l
    unfolding map_slabs
    slabs_tail = drop_overwrite (concatenate (length l / w) (λ s. change (block w l d s))) l (length l / w * w) slabs_length

    pub slabs_tail_at : (j : ℕ) → length l / w * w ≤ j → get_or (map_slabs w change l d) j d ≡ get_or l j d
    unfolding map_slabs
    slabs_tail_at j le = overwrite_beyond (concatenate (length l / w) (λ s. change (block w l d s))) l j d (omega (arith, slabs_length))

    -- a list with these slabs and this tail
    pub slabs_unique : (r : List A) → 0 < w → length r ≡ length l → ((s : ℕ) → s < length l / w → block w r d s ≡ change (block w l d s))
        → ((j : ℕ) → length l / w * w ≤ j → get_or r j d ≡ get_or l j d) → r ≡ map_slabs w change l d
    slabs_unique r pos e inside tail = ext_get_or d r (map_slabs w change l d) (e ∙ sym length_slabs) (λ j lt. each j (dec_lt j (length l / w * w)))
      where
        each : (j : ℕ) → Dec (j < length l / w * w) → get_or r j d ≡ get_or (map_slabs w change l d) j d
        each j (yes h) =
            let q : j / w * w + j % w ≡ j = div-add-mod' j w in
            let ls : j / w < length l / w = (div-lt_iff_lt-mul pos).1 h in
            ap (λ (z : ℕ). get_or r z d) (sym q) ∙ blocks_agree w r (map_slabs w change l d) d (j / w) (j / w) (inside (j / w) ls ∙ sym (slab_of (j / w) ls)) (j % w) (mod-lt j pos)
            ∙ ap (λ (z : ℕ). get_or (map_slabs w change l d) z d) q
        each j (no h) = tail j (omega arith) ∙ sym (slabs_tail_at j (omega arith))

  -- the loop's end
  pub slabs_written : (w : ℕ) (change : List A → List A) (l : List A) (d : A) (s : ℕ) → s ≡ length l / w → overwrite (concatenate s (λ s. change (block w l d s))) l ≡ map_slabs w change l d
  unfolding map_slabs
  slabs_written w change l d s e = ap (λ (k : ℕ). overwrite (concatenate k (λ s. change (block w l d s))) l) e

  -- only what the changes do to a slab matters
  pub slabs_extensional : (w : ℕ) (change change-other : List A → List A) (l : List A) (d : A) → ((b : List A) → length b ≡ w → change b ≡ change-other b) → map_slabs w change l d ≡ map_slabs w change-other l d
  unfolding map_slabs
  slabs_extensional w change change-other l d h =
      ap (λ (n : List A). overwrite n l)
      (concatenate_extensional (length l / w) (λ s. change (block w l d s)) (λ s. change-other (block w l d s)) (λ s lt. h (block w l d s) (length_block w l d s)))

  -- one change after another
  pub slabs_compose : (w : ℕ) (first second : List A → List A) (l : List A) (d : A) → 0 < w
      → ((b : List A) → length b ≡ w → length (first b) ≡ w) → ((b : List A) → length b ≡ w → length (second b) ≡ w)
      → map_slabs w second (map_slabs w first l d) d ≡ map_slabs w (λ b. second (first b)) l d
  slabs_compose w first second l d pos keeps-first keeps-second =
      let m : List A = map_slabs w first l d in
      let same : length m ≡ length l = length_slabs w first l d keeps-first in
      let parts : length m / w ≡ length l / w = ap (λ (k : ℕ). k / w) same in
      slabs_unique w (λ b. second (first b)) l d (λ b e. keeps-second (first b) (keeps-first b e)) (map_slabs w second m d) pos (length_slabs w second m d keeps-second ∙ same)
      (λ s lt. slab_of w second m d keeps-second s (omega arith) ∙ ap second (slab_of w first l d keeps-first s lt))
      (λ j le. slabs_tail_at w second m d keeps-second j (rw parts le) ∙ slabs_tail_at w first l d keeps-first j le)
