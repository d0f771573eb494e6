-- Where the islands' numbers start: ascending from 0, no more than there are ids, and each at an id below which all are numbered before it. Assumes nothing.
use Prim.Native.Nat.{ℕ, zero, suc, ◌-◌, ◌≤◌, ◌<◌}
use native.Mathlib.Omega.{arith}
use mathlib.Core.Path.{◌≡◌, refl, ◌∙◌}
use mathlib.Core.Logic.{◌⊎◌, inl, inr}
use mathlib.Core.List.Memᴰ
use mathlib.Core.List.{List, [], ◌∷◌, Memᴰ}
use lib.ListN.{length, length-append, get_or-append}
use lib.Seq.{get_or-append_seam}
use Rattle.sequences.specs.Ascending.{Ascending, is_member}
use Rattle.sequences.specs.Permutation.{at}
use Rattle.sequences.proofs.Range.{last_or_below}
use Rattle.sequences.proofs.Tabulate.{get_d_member, member_get_d}
use Rattle.sequences.proofs.Ascending.{pairwise_append}
use Rattle.islands.specs.Islands.{Islands, island_from, islands_below, islands_of}
use Rattle.islands.proofs.Numbered.{islands_step, islands_have, after_front, after_root, after_longer}

-- the places of a queue where islands start
pub record StartsOf (found : Islands) : Type 0 where
  pub ascend : Ascending found.starts
  pub inside : (s : ℕ) → Memᴰ s found.starts → s < length found.visit.queue
  pub few : length found.starts ≤ length found.visit.queue
  -- every id below the one that stands at a start stands before it
  pub lowest : (i : ℕ) → i < length found.starts → (v : ℕ) → v < at found.visit.queue (at found.starts i) → (j : ℕ) × (j < at found.starts i) × (at found.visit.queue j ≡ v)

module _ (lists : ℕ → List ℕ) {n : ℕ} (below : (v : ℕ) → v < n → (x : ℕ) → Memᴰ x (lists v) → x < n) where
  -- an island more
  module _ (k : ℕ) (lt : k < n) (absent : Memᴰ k (islands_below lists n k).visit.queue → ⊥) (before : StartsOf (islands_below lists n k)) where
    abbrev found : Islands
    found = islands_below lists n k

    abbrev next : Islands
    next = island_from lists n (islands_below lists n k) k

    abbrev begins : ℕ
    begins = length (islands_below lists n k).visit.queue

    inside_behind : (s : ℕ) → Memᴰ s next.starts → s < length next.visit.queue
    inside_behind s m =
        let longer = after_longer lists below k lt absent in
        elim (Memᴰ.append_cases found.starts m) [ inl a ↦ let r = before.inside s a in omega arith | inr a ↦ let e = Memᴰ.eq_of_singleton a in omega arith ]

    -- its own start, with the ids below its root before it
    lowest_here : (v : ℕ) → v < at next.visit.queue begins → (j : ℕ) × (j < begins) × (at next.visit.queue j ≡ v)
    lowest_here v l =
        let r = member_get_d v found.visit.queue 0 (islands_have lists below k v (omega (arith, after_root lists below k lt absent))) in
        (r.0, r.1, after_front lists below k lt absent r.0 r.1 ∙ r.2)

    -- an earlier one
    lowest_before : (s : ℕ) → s < begins → ((v : ℕ) → v < at found.visit.queue s → (j : ℕ) × (j < s) × (at found.visit.queue j ≡ v))
        → (v : ℕ) → v < at next.visit.queue s → (j : ℕ) × (j < s) × (at next.visit.queue j ≡ v)
    lowest_before s ls all v l =
        let r = all v (omega (arith, after_front lists below k lt absent s ls)) in
        (r.0, r.1, after_front lists below k lt absent r.0 (omega (arith, r.1)) ∙ r.2)

    lowest_behind : (i : ℕ) → i < length next.starts → (v : ℕ) → v < at next.visit.queue (at next.starts i) → (j : ℕ) × (j < at next.starts i) × (at next.visit.queue j ≡ v)
    lowest_behind i li = go (last_or_below i (length found.starts) (omega (arith, length-append found.starts (begins ∷ []))))
      where
        go : (i ≡ length found.starts) ⊎ (i < length found.starts) → (v : ℕ) → v < at next.visit.queue (at next.starts i) → (j : ℕ) × (j < at next.starts i) × (at next.visit.queue j ≡ v)
        go (inl e) = rw (e, get_or-append_seam found.starts begins [] 0) lowest_here
        go (inr l) = rw (get_or-append found.starts (begins ∷ []) 0 i l) (lowest_before (at found.starts i) (before.inside (at found.starts i) (get_d_member found.starts i 0 l)) (before.lowest i l))

    starts_behind : StartsOf next
    starts_behind = record {
      ascend = pairwise_append (λ x y. x < y) found.starts (begins ∷ []) before.ascend (λ y m. absurd (Memᴰ.not-nil m), tt)
          (λ x y mx my. let e = Memᴰ.eq_of_singleton my in let r = before.inside x mx in omega arith);
      inside = inside_behind;
      few = omega (arith, length-append found.starts (begins ∷ []), before.few, after_longer lists below k lt absent);
      lowest = lowest_behind;
    }

  starts_below : (k : ℕ) → k ≤ n → StartsOf (islands_below lists n k)
  unfolding islands_below
  starts_below zero le = record { ascend = tt; inside = λ s m. absurd (Memᴰ.not-nil m); few = omega arith; lowest = λ i l. absurd (omega arith) }
  starts_below (suc k) le = let before = starts_below k (omega arith) in islands_step lists below StartsOf k (λ m. before) (λ absent. starts_behind k (omega arith) absent before)

  pub island_starts : StartsOf (islands_of n lists)
  unfolding islands_of
  island_starts = starts_below n (omega arith)

  -- the first is 0
  first_start : (k : ℕ) → (0 < length (islands_below lists n (suc k)).starts) × (at (islands_below lists n (suc k)).starts 0 ≡ 0)
  unfolding islands_below is_member
  first_start zero = (omega arith, refl)
  first_start (suc k) =
      let before = first_start k in
      let found = islands_below lists n (suc k) in
      let begins = length found.visit.queue in
      islands_step lists below (λ (i : Islands). (0 < length i.starts) × (at i.starts 0 ≡ 0)) (suc k) (λ m. before)
      (λ absent. (let e = length-append found.starts (begins ∷ []) in omega arith, get_or-append found.starts (begins ∷ []) 0 0 before.0 ∙ before.1))

  pub starts_from_zero : 0 < n → (0 < length (islands_of n lists).starts) × (at (islands_of n lists).starts 0 ≡ 0)
  unfolding islands_of
  starts_from_zero some = let e : suc (n - 1) ≡ n = omega arith in rw e at (first_start (n - 1))
