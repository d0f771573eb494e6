-- Laws of a coordinate's floor, held between 0 and n: it is the truncation where that is possible. Assumes nothing.
use Rattle.std.proofs.Common.{◌≡◌, ℕ, zero, suc, ◌+◌, ◌-◌, ◌*◌, ◌/◌, ◌^◌, ◌≤◌, min, true, false, T, ℤ, pos, negsuc, neg_ℤ, sym, refl, ap, ◌∙◌, true≢false, le_refl, arith, ltb-false}
use mathlib.Core.Bool.{false≢true}
use native.Mathlib.Nat.{zero-div}
use lib.Ieee.{Float, nan, inf, fin, binary64, up, down, lt, le, is_nan, fits, of_int, to_unsigned}
use lib.Ieee.Bits.{is_true}
use lib.Ieee.Fits.{down_pos}
use Rattle.std.proofs.lemmas.Float.{T_from_true, lt_of_lt_of_le, le_of_lt}
use Rattle.binary64.specs.Integral.{negative, whole_magnitude, round_to_integral, floor_of}
use Rattle.binary64.specs.Convert.{whole, to_i64}
use Rattle.binary64.proofs.Integral.{integral_exact}
use Rattle.binary64.proofs.Convert.{to_i64_nonnegative, to_i64_negative}
use Rattle.binary64.proofs.NotNan.{finite_number, value_finite}
use Rattle.binary64.proofs.FloatOrder.{le_of_not_lt, lt_right_number}
use Rattle.binary64.proofs.WholeNumbers.{whole_value, whole_monotone, whole_converted, to_unsigned_monotone}
use Rattle.analytic.specs.SubTriangle.{clamp_to, clamped_floor}

-- A magnitude m * 2 ^ e: its whole part, at most n.
clamped_nonnegative : (n m : ℕ) (e : ℤ) → T (fits binary64 (fin false m e)) → n ≤ 80 → clamped_floor n (fin false m e) ≡ min (m * up e / down e) n
unfolding clamped_floor
clamped_nonnegative n m e t h =
    ap (clamp_to n) (to_i64_nonnegative (floor_of (fin false m e)) (m * up e / down e + 0) 1 (omega arith) (integral_exact negative (fin false m e) false (m * up e) (down e) t (down_pos e) (refl, refl)))
    ∙ within (m * up e / down e)
  where
    within : (q : ℕ) → min (min ((q + 0) / 1) (2 ^ 63 - 1)) n ≡ min q n
    within q = omega arith

-- What is not above 0 gives 0.
clamp_negated : (n k : ℕ) → clamp_to n (neg_ℤ (pos k)) ≡ 0
clamp_negated n zero = omega arith
clamp_negated n (suc k) = refl

clamped_negative : (n m : ℕ) (e : ℤ) → T (fits binary64 (fin true m e)) → clamped_floor n (fin true m e) ≡ 0
unfolding clamped_floor
clamped_negative n m e t =
    ap (clamp_to n) (to_i64_negative (floor_of (fin true m e)) (whole_magnitude true (m * up e) (down e)) 1 (omega arith) (integral_exact negative (fin true m e) true (m * up e) (down e) t (down_pos e) (refl, refl)))
    ∙ clamp_negated n (min (whole_magnitude true (m * up e) (down e) / 1) (2 ^ 63))

-- The result is at most n.
pub clamped_floor_le : (n : ℕ) (x : Float) → clamped_floor n x ≤ n
unfolding clamped_floor
clamped_floor_le n x = held (to_i64 (floor_of x))
  where
    held : (z : ℤ) → clamp_to n z ≤ n
    held (pos m) = omega arith
    held (negsuc m) = omega arith

abbrev plus_zero : Float
plus_zero = fin false 0 (pos 0)

-- ---- the three ways of the code
-- What is below n is below 2 ^ 53, and its whole part is at most n.
pub below_digits : (n : ℕ) (x : Float) → n ≤ 80 → lt x (whole n) ≡ true → lt x (fin false 1 (pos 53)) ≡ true
unfolding of_int
below_digits n x h p = is_true _ (lt_of_lt_of_le x (whole n) (whole (2 ^ 53)) (T_from_true _ p) (whole_monotone n (2 ^ 53) (omega arith) (le_refl _)))

pub whole_at_most : (n : ℕ) (x : Float) → n ≤ 80 → lt x (whole n) ≡ true → to_unsigned 64 x ≤ n
whole_at_most n x h p = omega (arith, to_unsigned_monotone 64 x (whole n) (le_of_lt x (whole n) (T_from_true _ p)), whole_converted n (omega arith))

pub floor_truncated : (n : ℕ) (x : Float) → n ≤ 80 → T (fits binary64 x) → lt plus_zero x ≡ true → lt x (fin false 1 (pos 53)) ≡ true → min (to_unsigned 64 x) n ≡ clamped_floor n x
unfolding lt to_unsigned
floor_truncated n nan h t p q = absurd (false≢true p)
floor_truncated n (inf true) h t p q = absurd (false≢true p)
floor_truncated n (inf false) h t p q = absurd (false≢true q)
floor_truncated n (fin true m e) h t p q = absurd (false≢true p)
floor_truncated n (fin false m e) h t p q = capped (m * up e / down e) ∙ sym (clamped_nonnegative n m e t h)
  where
    capped : (q : ℕ) → min (min q (2 ^ 64 - 1)) n ≡ min q n
    capped q = omega arith

pub floor_below : (n : ℕ) (x : Float) → n ≤ 80 → T (fits binary64 x) → lt plus_zero x ≡ true → lt x (whole n) ≡ true → to_unsigned 64 x ≡ clamped_floor n x
floor_below n x h t p q = omega (arith, whole_at_most n x h q, floor_truncated n x h t p (below_digits n x h q))

pub floor_beyond : (n : ℕ) (x : Float) → n ≤ 80 → T (fits binary64 x) → lt plus_zero x ≡ true → lt x (whole n) ≡ false → n ≡ clamped_floor n x
unfolding lt clamped_floor round_to_integral to_i64 to_unsigned
floor_beyond n nan h t p q = absurd (false≢true p)
floor_beyond n (inf true) h t p q = absurd (false≢true p)
floor_beyond n (inf false) h t p q = omega arith
floor_beyond n (fin true m e) h t p q = absurd (false≢true p)
floor_beyond n (fin false m e) h t p q = large (m * up e / down e) far ∙ sym (clamped_nonnegative n m e t h)
  where
    number : is_nan (whole n) ≡ false
    number = finite_number (whole n) (value_finite (whole n) false n 1 (whole_value n (omega arith)))

    from_n : T (le (whole n) (fin false m e))
    from_n = T_from_true _ (le_of_not_lt (whole n) (fin false m e) number (lt_right_number plus_zero (fin false m e) p) q)

    far : n ≤ min (m * up e / down e) (2 ^ 64 - 1)
    far = omega (arith, whole_converted n (omega arith), to_unsigned_monotone 64 (whole n) (fin false m e) from_n)

    large : (q : ℕ) → n ≤ min q (2 ^ 64 - 1) → n ≡ min q n
    large q l = omega arith

clamped_zero : (n m : ℕ) (e : ℤ) → n ≤ 80 → T (fits binary64 (fin false m e)) → m * up e ≡ 0 → 0 ≡ clamped_floor n (fin false m e)
clamped_zero n m e h t z = none (m * up e / down e) (ap (λ (k : ℕ). k / down e) z ∙ zero-div (down e)) ∙ sym (clamped_nonnegative n m e t h)
  where
    none : (q : ℕ) → q ≡ 0 → 0 ≡ min q n
    none q l = omega arith

pub floor_none : (n : ℕ) (x : Float) → n ≤ 80 → T (fits binary64 x) → lt plus_zero x ≡ false → 0 ≡ clamped_floor n x
unfolding lt clamped_floor round_to_integral to_i64
floor_none n nan h t p = omega arith
floor_none n (inf true) h t p = refl
floor_none n (inf false) h t p = absurd (true≢false p)
floor_none n (fin true m e) h t p = sym (clamped_negative n m e t)
floor_none n (fin false m e) h t p = clamped_zero n m e h t (omega (arith, ltb-false (0 * 1 * down e) (m * up e * 1) p))
