-- The four cases of a conversion. `case_holds` and `case_only`: exactly one holds of every datum. What the number then is: `held_is_an_end`, `kept_is_the_value`, `cut_toward_zero`. Assumes nothing.
use Rattle.std.proofs.Common.{◌≡◌, ℕ, ◌+◌, ◌-◌, ◌*◌, ◌/◌, ◌%◌, ◌^◌, ◌<◌, ◌≤◌, min, Bool, true, false, T, ◌≢◌, ◌⊎◌, ℤ, pos, negsuc, neg_ℤ, sym, refl, ap, subst, inl, inr, lt_of_mul-lt-mul_right, div-add-mod', div-mul-le_self, le_of_mul-le-mul_right, arith, ltb-true, lt-ltb, eqb-true}
use mathlib.Core.Bool.{false≢true}
use lib.Ieee.{Float, nan, inf, fin, up, down, lt, le, ne, is_nan}
use lib.Ieee.Exact.{HasValue}
use lib.Ieee.Fits.{down_pos}
use borrow.Author.Tests.{eqb-false}
use Rattle.binary64.specs.declared.Conversion.{Conversion}
use Rattle.binary64.specs.declared.Conversion.TheVariants.{Kept, Cut, Held, NotANumber}
use Rattle.binary64.specs.Convert.{to_i64, least_of_range, above_range, is_whole, CaseHolds, conversion_of, signed_whole}
use Rattle.binary64.proofs.Nan.{is_nan_lem, not_nan, same_number}
use Rattle.binary64.proofs.FloatOrder.{lt_left_number, lt_not_le, le_not_lt, le_of_not_lt, not_le_lt}
use Rattle.binary64.proofs.SignedOrder.{signed_of_le}
use Rattle.binary64.proofs.ConvertSteps.{held_high, held_low}

-- ---- exactly one case holds
at_most_number : (x : Float) → le above_range x ≡ true → is_nan x ≡ false
unfolding le is_nan
at_most_number nan h = absurd (false≢true h)
at_most_number (inf s) h = refl
at_most_number (fin s m e) h = refl

-- below the range is below its end above too
below_above : (x : Float) → lt x least_of_range ≡ true → lt x above_range ≡ true
unfolding lt
below_above nan h = absurd (false≢true h)
below_above (inf true) h = refl
below_above (inf false) h = absurd (false≢true h)
below_above (fin true m e) h = lt-ltb 0 (m * up e * 1 + 1 * 2 ^ 63 * down e) (omega (arith, down_pos e))
below_above (fin false m e) h = absurd (false≢true h)

-- a case that holds is the answer's
pub case_only : (x : Float) (how : Conversion) → CaseHolds how x → how ≡ conversion_of x
unfolding conversion_of
case_only x Kept (least, above, whole) = rw (lt_left_number x above_range above, above, least, whole) refl
case_only x Cut (least, above, fraction) = rw (lt_left_number x above_range above, above, least, fraction) refl
case_only x Held (inl below) = rw (lt_left_number x least_of_range below, below_above x below, lt_not_le x least_of_range below) refl
case_only x Held (inr beyond) = rw (at_most_number x beyond, le_not_lt x above_range beyond) refl
case_only x NotANumber e = unfold is_nan in rw e refl

-- and one holds
case_covers : (x : Float) → (how : Conversion) × CaseHolds how x
case_covers x = go (ne x x) (lt x above_range) (le least_of_range x) (is_whole x) refl refl refl refl
  where
    go : (n a b w : Bool) → ne x x ≡ n → lt x above_range ≡ a → le least_of_range x ≡ b → is_whole x ≡ w → (how : Conversion) × CaseHolds how x
    go true a b w differs above least whole = (NotANumber, is_nan_lem x differs)
    go false false b w differs above least whole = (Held, inr (le_of_not_lt above_range x (unfold is_nan in refl) (not_nan x differs) above))
    go false true false w differs above least whole = (Held, inl (not_le_lt x least_of_range (not_nan x differs) (unfold is_nan in refl) least))
    go false true true true differs above least whole = (Kept, (least, above, whole))
    go false true true false differs above least whole = (Cut, (least, above, whole))

pub case_holds : (x : Float) → CaseHolds (conversion_of x) x
case_holds x = let one = case_covers x in subst (λ (how : Conversion). CaseHolds how x) (case_only x one.0 one.1) one.1

-- ---- what the number is
of_case : (x : Float) (how : Conversion) → conversion_of x ≡ how → CaseHolds how x
of_case x how e = subst (λ (h : Conversion). CaseHolds h x) e (case_holds x)

-- A value that was held lies beyond the range, and the number is the end on its side.
pub held_is_an_end : (x : Float) → conversion_of x ≡ Held
    → ((lt x least_of_range ≡ true) × (to_i64 x ≡ negsuc (2 ^ 63 - 1))) ⊎ ((le above_range x ≡ true) × (to_i64 x ≡ pos (2 ^ 63 - 1)))
unfolding to_i64
held_is_an_end x h = go (of_case x Held h)
  where
    go : CaseHolds Held x → ((lt x least_of_range ≡ true) × (to_i64 x ≡ negsuc (2 ^ 63 - 1))) ⊎ ((le above_range x ≡ true) × (to_i64 x ≡ pos (2 ^ 63 - 1)))
    go (inl below) = inl (below, sym (held_low 63 x (lt_not_le x least_of_range below) (below_above x below)))
    go (inr beyond) = inr (beyond, sym (held_high 63 x (le_not_lt x above_range beyond) (same_number x (at_most_number x beyond))))

-- In the range the number is the whole part of the magnitude, with the sign.
below_end : (n d k : ℕ) → 0 < d → n * 1 < 1 * k * d → n / d < k
below_end n d k p l = lt_of_mul-lt-mul_right d {m = n / d} {n = k} (omega (arith, div-mul-le_self n d))

up_to_end : (n d k : ℕ) → 0 < d → n * 1 ≤ k * d → n / d ≤ k
up_to_end n d k p l = le_of_mul-le-mul_right {m = n / d} {n = k} (omega (arith, div-mul-le_self n d)) p

pub whole_part_of : (s : Bool) (m : ℕ) (e : ℤ) → lt (fin s m e) above_range ≡ true → le least_of_range (fin s m e) ≡ true → to_i64 (fin s m e) ≡ signed_whole s (m * up e / down e)
unfolding to_i64 lt
whole_part_of false m e above least =
    let b = below_end (m * up e) (down e) (2 ^ 63) (down_pos e) (ltb-true (m * up e * 1) (1 * 2 ^ 63 * down e) above) in
    ap pos (let z : min (m * up e / down e) (2 ^ 63 - 1) ≡ m * up e / down e = omega arith in z)
whole_part_of true m e above least =
    let b = up_to_end (m * up e) (down e) (2 ^ 63) (down_pos e) (signed_of_le least_of_range (fin true m e) true (2 ^ 63) 1 true (m * up e) (down e) (refl, refl) (refl, refl) (subst T (sym least) tt)) in
    ap (λ (n : ℕ). neg_ℤ (pos n)) (let z : min (m * up e / down e) (2 ^ 63) ≡ m * up e / down e = omega arith in z)

-- A value that was kept is that number.
pub kept_is_the_value : (x : Float) → conversion_of x ≡ Kept → (s : Bool) × (n : ℕ) × HasValue x s n 1 × (to_i64 x ≡ signed_whole s n)
kept_is_the_value x h = go x (of_case x Kept h)
  where
    go : (x : Float) → CaseHolds Kept x → (s : Bool) × (n : ℕ) × HasValue x s n 1 × (to_i64 x ≡ signed_whole s n)
    go nan (least, above, whole) = absurd (false≢true whole)
    go (inf s) (least, above, whole) = absurd (false≢true whole)
    go (fin s m e) (least, above, whole) =
        (s, m * up e / down e, (refl, omega (arith, div-add-mod' (m * up e) (down e), eqb-true (m * up e % down e) 0 whole)), whole_part_of s m e above least)

-- A value that was cut is the fraction a / c, not whole, and the number is its whole part with its sign.
pub cut_toward_zero : (x : Float) → conversion_of x ≡ Cut → (s : Bool) × (a : ℕ) × (c : ℕ) × (0 < c) × HasValue x s a c × (a % c ≢ 0) × (to_i64 x ≡ signed_whole s (a / c))
cut_toward_zero x h = go x (of_case x Cut h)
  where
    go : (x : Float) → CaseHolds Cut x → (s : Bool) × (a : ℕ) × (c : ℕ) × (0 < c) × HasValue x s a c × (a % c ≢ 0) × (to_i64 x ≡ signed_whole s (a / c))
    go nan (least, above, fraction) = absurd (unfold lt in false≢true above)
    go (inf true) (least, above, fraction) = absurd (unfold le in false≢true least)
    go (inf false) (least, above, fraction) = absurd (unfold lt in false≢true above)
    go (fin s m e) (least, above, fraction) = (s, m * up e, down e, down_pos e, (refl, refl), eqb-false (m * up e % down e) 0 fraction, whole_part_of s m e above least)
