-- The first start that falls: `fall_first`, `fall_none`, and the row that names it. Assumes nothing.
use Prim.Native.Nat.{ℕ, suc, ◌+◌, ◌-◌, ◌≤◌, ◌<◌}
use native.Mathlib.Omega.{arith}
use native.Mathlib.Numerals.{add-one}
use mathlib.Core.Path.{◌≡◌, refl, sym, ap, ◌∙◌}
use mathlib.Core.Bool.{Bool, true, false}
use mathlib.Core.List.{List}
use lib.ListN.{length, get_or}
use borrow.Author.Tests.{leb-true, leb-false, le-leb, lt-leb}
use Rattle.sequences.specs.Range.{all_below, first_failing}
use Rattle.std.specs.Option.{MatchOption}
use Rattle.sequences.proofs.Range.{all_below_at, all_below_intro, all_below_fails, first_failing_at, first_failing_lem}
use Rattle.std.specs.Prelude.{Option, Some, None, Ok}
use Rattle.refusal.specs.declared.Refusal.TheVariants.{StartsFall}
use Rattle.refusal.specs.Refusal.{Verdict}
use Rattle.refusal.proofs.Rows.{refused_not_passed}
use Rattle.mesh.specs.Rows.{not_falling, falling_start, fall_row, starts_ascend}
use Rattle.mesh.specs.Laws.{FirstFall}

module _ (starts : List ℕ) where
  -- how many starts have one before them
  abbrev pairs : ℕ
  pairs = length starts - 1

  -- ---- a search that has passed the starts up to i
  pub nowhere_falls : all_below (not_falling starts) pairs ≡ true → falling_start starts ≡ None
  unfolding falling_start
  nowhere_falls h = rw h refl

  pub falls_behind : (i : ℕ) → suc i < length starts → all_below (not_falling starts) i ≡ true → not_falling starts i ≡ false → falling_start starts ≡ Some (suc i)
  unfolding falling_start
  falls_behind i lt all fails =
      let below : i < pairs = omega arith in
      rw (all_below_fails (not_falling starts) pairs i below fails, first_failing_at (not_falling starts) pairs i below all fails) refl

  -- ---- what the index tells
  all_ascend : falling_start starts ≡ None → all_below (not_falling starts) pairs ≡ true
  unfolding falling_start
  all_ascend h = go (all_below (not_falling starts) pairs) refl
    where
      go : (b : Bool) → all_below (not_falling starts) pairs ≡ b → b ≡ true
      go true e = refl
      go false e = absurd (let z : Some (suc (first_failing (not_falling starts) pairs)) ≡ None = (rw e at h) in let y : ⊥ = cc in y)

  not_all_ascend : (index : ℕ) → falling_start starts ≡ Some index → (all_below (not_falling starts) pairs ≡ false) × (index ≡ suc (first_failing (not_falling starts) pairs))
  unfolding falling_start
  not_all_ascend index h = go (all_below (not_falling starts) pairs) refl
    where
      go : (b : Bool) → all_below (not_falling starts) pairs ≡ b → (b ≡ false) × (index ≡ suc (first_failing (not_falling starts) pairs))
      go true e = absurd (let z : None ≡ Some index = (rw e at h) in let y : ⊥ = cc in y)
      go false e = (refl, let z : Some (suc (first_failing (not_falling starts) pairs)) ≡ Some index = (rw e at h) in cc)

  -- the start at i, and the one before it, as a pair of neighbours
  pub pair_of : (i : ℕ) → 1 ≤ i → get_or starts (suc (i - 1)) 0 ≡ get_or starts i 0
  pair_of i h = ap (λ (k : ℕ). get_or starts k 0) (let e : suc (i - 1) ≡ i = omega arith in e)

  pub fall_none : falling_start starts ≡ None → (i : ℕ) → 1 ≤ i → i < length starts → get_or starts (i - 1) 0 ≤ get_or starts i 0
  fall_none h i some lt =
      let ascends = leb-true (get_or starts (i - 1) 0) (get_or starts (suc (i - 1)) 0) (all_below_at (not_falling starts) pairs (i - 1) (all_ascend h) (omega arith)) in
      omega (arith, pair_of i some)

  pub fall_first : (index : ℕ) → falling_start starts ≡ Some index → FirstFall starts index
  fall_first index h =
      let k = first_failing (not_falling starts) pairs in
      let told = not_all_ascend index h in
      let first = first_failing_lem (not_falling starts) pairs told.0 in
      rw told.1 (record {
        behind_another = omega arith;
        inside = omega (arith, first.0);
        falls =
            let before = ap (λ (j : ℕ). get_or starts j 0) (let e : suc k - 1 ≡ k = omega arith in e) in
            let falls = leb-false (get_or starts k 0) (get_or starts (suc k) 0) first.2 in
            omega arith;
        none_before = λ i some lt.
            let ascends = leb-true (get_or starts (i - 1) 0) (get_or starts (suc (i - 1)) 0) (all_below_at (not_falling starts) k (i - 1) first.1 (omega arith)) in
            omega (arith, pair_of i some);
      })

-- what a search for the first two neighbours that fall finds
pub fall_found : (starts : List ℕ) (r : Option ℕ)
    → MatchOption r ((k : ℕ) → k + 2 ≤ length starts → get_or starts k 0 ≤ get_or starts (k + 1) 0)
    (λ index. (k : ℕ) × (index ≡ k + 1) × (k + 2 ≤ length starts) × (get_or starts (k + 1) 0 < get_or starts k 0) × ((j : ℕ) → j < k → get_or starts j 0 ≤ get_or starts (j + 1) 0))
    → r ≡ falling_start starts
fall_found starts None none = sym (nowhere_falls starts (all_below_intro (not_falling starts) (length starts - 1) (λ v lt. le-leb _ _ (rw add-one at (none v (omega arith))))))
fall_found starts (Some index) found =
    let k = found.0 in
    let e : index ≡ suc k = omega (arith, found.1) in
    ap Some e ∙ sym (falls_behind starts k (omega (arith, found.2)) (all_below_intro (not_falling starts) k (λ v lt. le-leb _ _ (rw add-one at (found.4 v lt)))) (lt-leb _ _ (rw add-one at found.3)))

-- ---- row 18 and its index, where the starts have their length
module _ (n : ℕ) (starts : List ℕ) (size : length starts ≡ suc n) where
  same_pairs : length starts - 1 ≡ n
  same_pairs = omega arith

  pub ascend_no_fall : falling_start starts ≡ None → starts_ascend n starts ≡ true
  unfolding starts_ascend
  ascend_no_fall h = ap (all_below (not_falling starts)) (sym same_pairs) ∙ all_ascend starts h

  pub ascend_fall : (index : ℕ) → falling_start starts ≡ Some index → starts_ascend n starts ≡ false
  unfolding starts_ascend
  ascend_fall index h = ap (all_below (not_falling starts)) (sym same_pairs) ∙ (not_all_ascend starts index h).0

  pub no_fall : starts_ascend n starts ≡ true → falling_start starts ≡ None
  unfolding starts_ascend
  no_fall h = nowhere_falls starts (ap (all_below (not_falling starts)) same_pairs ∙ h)

-- the row passes exactly where the starts ascend
pub fall_row_passed : (n : ℕ) (starts : List ℕ) (next : Verdict) → length starts ≡ suc n → fall_row (falling_start starts) next ≡ Ok tt → (starts_ascend n starts ≡ true) × (next ≡ Ok tt)
fall_row_passed n starts next size h = go (falling_start starts) refl
  where
    go : (fall : Option ℕ) → falling_start starts ≡ fall → (starts_ascend n starts ≡ true) × (next ≡ Ok tt)
    go None e = (ascend_no_fall n starts size e, let z : next ≡ Ok tt = (rw e at h) in z)
    go (Some index) e = absurd (refused_not_passed (StartsFall index) (rw e at h))
