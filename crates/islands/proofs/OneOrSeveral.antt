-- There is one island, the ordinary walk's, or there are several, and that walk leaves a vertex out. Assumes nothing.
use Prim.Native.Nat.{ℕ, zero, suc, ◌-◌, ◌<◌}
use native.Mathlib.Omega.{arith}
use mathlib.Core.Path.{◌≡◌, refl}
use mathlib.Core.Logic.{◌⊎◌, inl, inr}
use mathlib.Core.Bool.{Bool, true, false}
use mathlib.Core.List.{List, [], ◌∷◌, Memᴰ}
use lib.ListN.{length, length-append}
use Rattle.sequences.specs.Ascending.{is_member}
use Rattle.walk.specs.Walk.{walk_from, breadth_first}
use Rattle.walk.proofs.Queue.{room_for_absent}
use Rattle.walk.proofs.Continued.{walk_ids}
use Rattle.islands.specs.Islands.{Islands, islands_below, islands_of}
use Rattle.islands.proofs.Numbered.{islands_step}

module _ (lists : ℕ → List ℕ) {n : ℕ} (below : (v : ℕ) → v < n → (x : ℕ) → Memᴰ x (lists v) → x < n) (some : 0 < n) where
  abbrev walk_alone : Islands
  walk_alone = record { visit = breadth_first n lists; starts = 0 ∷ [] }

  abbrev OneOrSeveral : Islands → Type 0
  OneOrSeveral found = (found ≡ walk_alone) ⊎ ((1 < length found.starts) × (length (breadth_first n lists).queue < n))

  -- an id is tried that the walk has or has not
  one_more : (k : ℕ) → k < n → (b : Bool) → is_member k (breadth_first n lists).queue ≡ b → islands_below lists n k ≡ walk_alone → OneOrSeveral (islands_below lists n (suc k))
  unfolding islands_below
  one_more k lt true e one = inl (rw (one, e) refl)
  one_more k lt false e one = inr (rw (one, e) (omega arith), room_for_absent (walk_ids lists 0 some below) k lt e)

  one_or_several_below : (k : ℕ) → k < n → OneOrSeveral (islands_below lists n (suc k))
  unfolding islands_below is_member walk_from
  one_or_several_below zero lt = inl refl
  one_or_several_below (suc k) lt =
      let next = suc k in
      elim (one_or_several_below k (omega arith)) [
        | inl one ↦ one_more next lt (is_member next (breadth_first n lists).queue) refl one
        | inr r ↦
            let found = islands_below lists n next in
            inr (islands_step lists below (λ (i : Islands). 1 < length i.starts) next (λ m. r.0) (λ absent. omega (arith, length-append found.starts (length found.visit.queue ∷ []), r.0)), r.1)
      ]

  pub one_or_several : (islands_of n lists ≡ record { visit = breadth_first n lists; starts = 0 ∷ [] }) ⊎ ((1 < length (islands_of n lists).starts) × (length (breadth_first n lists).queue < n))
  unfolding islands_of
  one_or_several = let e : suc (n - 1) ≡ n = omega arith in rw e at (one_or_several_below (n - 1) (omega arith))
