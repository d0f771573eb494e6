-- Laws of a clamped conversion: what is clamped to 0..n converts to a whole number from 0 to n, and the order is kept. Assumes nothing.
use Rattle.std.proofs.Common.{◌≡◌, ℕ, suc, ◌-◌, ◌*◌, ◌/◌, ◌^◌, ◌<◌, ◌≤◌, min, Bool, true, false, cond, T, pos, sym, refl, ap, ◌∙◌, true≢false, zero-le, div-lt_iff_lt-mul, mul-one, mul_right_comm, le_of_mul-le-mul_right, arith, ltb-false}
use native.Mathlib.Nat.{zero-div}
use lib.Ieee.{Float, nan, inf, fin, up, down, lt, le, to_unsigned, is_nan, of_bits}
use lib.Ieee.Fits.{down_pos}
use lib.Ieee.Exact.{HasValue}
use Rattle.std.proofs.lemmas.Float as float
use Rattle.binary64.proofs.FloatOrder.{lt_right_number, lt_asymmetric, le_of_not_lt}
use Rattle.binary64.proofs.WholeNumbers.{whole_value, whole_converted, to_unsigned_monotone}
use Rattle.binary64.specs.Constants.{positive_zero}
use Rattle.binary64.specs.Convert.{whole}
use Rattle.grid_query.specs.Cell.{clamped_cell}

-- no positive number above n
abbrev pub AtMost : ℕ → Float → Type 0
AtMost n nan = Unit {0}
AtMost n (inf true) = Unit {0}
AtMost n (inf false) = ⊥
AtMost n (fin true m e) = Unit {0}
AtMost n (fin false m e) = m * up e ≤ n * down e

value_at_most : (n : ℕ) (x : Float) → HasValue x false n 1 → AtMost n x
value_at_most n (fin true m e) v = tt
value_at_most n (fin false m e) v = omega (arith, v.1)
value_at_most n nan v = elim v [ ]
value_at_most n (inf _) v = elim v [ ]

zero_at_most : (n : ℕ) → AtMost n positive_zero
unfolding of_bits
zero_at_most n = omega arith

-- what lies not above a float of the value n
not_above_at_most : (n : ℕ) (top x : Float) → HasValue top false n 1 → lt top x ≡ false → AtMost n x
unfolding lt
not_above_at_most n (fin s k f) nan v h = tt
not_above_at_most n (fin s k f) (inf true) v h = tt
not_above_at_most n (fin s k f) (inf false) v h = true≢false h
not_above_at_most n (fin s k f) (fin true m e) v h = tt
not_above_at_most n (fin true k f) (fin false m e) v h = absurd (true≢false v.0)
not_above_at_most n (fin false k f) (fin false m e) v h =
    let a : m * up e * down f ≤ k * up f * down e = ltb-false (k * up f * down e) (m * up e * down f) h in
    let b : k * up f ≡ n * down f = sym (mul-one (k * up f)) ∙ v.1 in
    let c : k * up f * down e ≡ n * down e * down f = ap (λ (x : ℕ). x * down e) b ∙ mul_right_comm n (down f) (down e) in
    le_of_mul-le-mul_right {k = down f} (omega arith) (down_pos f)
not_above_at_most n nan _ v h = elim v [ ]
not_above_at_most n (inf _) _ v h = elim v [ ]

pub clamp_at_most : (n : ℕ) (x : Float) → n ≤ 2 ^ 53 → AtMost n (cond (lt x positive_zero) positive_zero (cond (lt (whole n) x) (whole n) x))
clamp_at_most n x h = go (lt x positive_zero) (lt (whole n) x) refl
  where
    go : (s t : Bool) → lt (whole n) x ≡ t → AtMost n (cond s positive_zero (cond t (whole n) x))
    go true t e = zero_at_most n
    go false true e = value_at_most n (whole n) (whole_value n h)
    go false false e = not_above_at_most n (whole n) x (whole_value n h) e

pub at_most_converts : (w n : ℕ) (x : Float) → AtMost n x → to_unsigned w x ≤ n
unfolding to_unsigned
at_most_converts w n nan v = zero-le
at_most_converts w n (inf true) v = zero-le
at_most_converts w n (inf false) v = absurd v
at_most_converts w n (fin true m e) v = zero-le
at_most_converts w n (fin false m e) v =
    let below : m * up e < suc n * down e = (let p = down_pos e in omega arith) in
    let q : m * up e / down e < suc n = (div-lt_iff_lt-mul (down_pos e)).1 below in
    omega arith

-- a NaN, and what is not above zero, converts to 0
pub not_positive_converts : (w : ℕ) (x : Float) → lt positive_zero x ≡ false → to_unsigned w x ≡ 0
unfolding lt to_unsigned of_bits
not_positive_converts w nan h = refl
not_positive_converts w (inf true) h = refl
not_positive_converts w (inf false) h = absurd (true≢false h)
not_positive_converts w (fin true m e) h = refl
not_positive_converts w (fin false m e) h =
    let none : m * up e ≡ 0 = omega (arith, ltb-false (0 * 1 * down e) (m * up e * 1) h) in
    rw (none, zero-div (down e)) (omega arith)

-- ---- "clamps to 0..g − 1 before it converts": the same as converted, and then cut to at most g − 1
pub clamped_is_cut : (g : ℕ) (x : Float) → g ≤ 2 ^ 53 → clamped_cell g x ≡ min (to_unsigned 64 x) (g - 1)
unfolding clamped_cell of_bits
clamped_is_cut g x h = go (lt x positive_zero) (lt top x) refl refl (clamp_at_most (g - 1) x (omega arith))
  where
    top : Float
    top = whole (g - 1)

    go : (s t : Bool) → lt x positive_zero ≡ s → lt top x ≡ t → AtMost (g - 1) (cond s positive_zero (cond t top x)) → to_unsigned 64 (cond s positive_zero (cond t top x)) ≡ min (to_unsigned 64 x) (g - 1)
    go true t below above a = omega (arith, at_most_converts 64 0 positive_zero (zero_at_most 0), not_positive_converts 64 x (lt_asymmetric x positive_zero below))
    go false true below above a = omega (arith, whole_converted (g - 1) (omega arith), to_unsigned_monotone 64 top x (float.le_of_lt top x (float.T_from_true _ above)))
    go false false below above a = omega (arith, at_most_converts 64 (g - 1) x a)

-- from 2 ^ 53 on, the last one
pub beyond_last : (g : ℕ) (x : Float) → g ≤ 2 ^ 53 → lt positive_zero x ≡ true → lt x (fin false 1 (pos 53)) ≡ false → g - 1 ≡ clamped_cell g x
unfolding to_unsigned is_nan
beyond_last g x few above h =
    let far : 2 ^ 53 ≤ to_unsigned 64 x = to_unsigned_monotone 64 (fin false 1 (pos 53)) x (float.T_from_true _ (le_of_not_lt (fin false 1 (pos 53)) x refl (lt_right_number positive_zero x above) h)) in
    omega (arith, clamped_is_cut g x few)

pub none_before : (g : ℕ) (x : Float) → g ≤ 2 ^ 53 → lt positive_zero x ≡ false → 0 ≡ clamped_cell g x
none_before g x few h = omega (arith, clamped_is_cut g x few, not_positive_converts 64 x h)

-- so it is a row or a column of cells
pub clamped_below : (g : ℕ) (x : Float) → 0 < g → g ≤ 2 ^ 53 → clamped_cell g x < g
clamped_below g x p h = omega (arith, clamped_is_cut g x h)

-- and keeps the order
pub clamped_monotone : (g : ℕ) (x y : Float) → g ≤ 2 ^ 53 → T (le x y) → clamped_cell g x ≤ clamped_cell g y
clamped_monotone g x y h k = rw (clamped_is_cut g x h, clamped_is_cut g y h) (omega (arith, to_unsigned_monotone 64 x y k))
