-- Whole numbers as doubles, and doubles as unsigned whole numbers: up to 2 ^ 53 the second undoes the first, `whole_converted`, and both keep the order. Assumes nothing.
use Rattle.std.proofs.Common.{◌≡◌, ℕ, ◌+◌, ◌*◌, ◌/◌, ◌^◌, ◌<◌, ◌≤◌, true, false, T, pos, ap, ◌∙◌, true≢false, zero-le, le_refl, div-one, arith}
use native.Mathlib.Nat.{zero-div, eq_of_mul-eq-mul_right}
use Rattle.std.proofs.lemmas.Float.{T_from_true, lt_of_lt_of_le}
use lib.Ieee.{Float, inf, fin, binary64, up, down, lt, le, of_int, to_unsigned, nan}
use lib.Ieee.Back.{round_whole}
use lib.Ieee.Exact.{HasValue}
use lib.Ieee.Fits.{down_pos}
use lib.Ieee.Nearest.{div_mono, div_same}
use lib.Ieee.Order.{le_of_values}
use lib.Ieee.Positive.{positive, positive_of_value}
use Rattle.binary64.specs.Convert.{whole}
use Rattle.binary64.proofs.SignedOrder.{signed_of_finite}

-- ---- a whole number as a double (IEEE 754-2019, 5.4.1: convertFromInt)
pub whole_value : (n : ℕ) → n ≤ 2 ^ 53 → HasValue (whole n) false n 1
unfolding of_int
whole_value n h = round_whole binary64 false n h

pub whole_positive : (n : ℕ) → 0 < n → n ≤ 2 ^ 53 → T (positive (whole n))
whole_positive n some h = positive_of_value (whole n) n 1 (whole_value n h) some

pub whole_monotone : (n k : ℕ) → n ≤ k → k ≤ 2 ^ 53 → T (le (whole n) (whole k))
whole_monotone n k h few = le_of_values (whole n) (whole k) n 1 k 1 (omega arith) (omega arith) (whole_value n (omega arith)) (whole_value k few) (omega arith)

-- ---- a double without its fraction, toward zero (IEEE 754-2019, 5.8)
-- a value n, of whatever double
pub to_unsigned_whole : (w : ℕ) (x : Float) (n : ℕ) → HasValue x false n 1 → n < 2 ^ w → to_unsigned w x ≡ n
unfolding to_unsigned
to_unsigned_whole w (fin true m e) n v h = absurd (true≢false v.0)
to_unsigned_whole w (fin false m e) n v h = let q : m * up e / down e ≡ n = div_same (m * up e) (down e) n 1 (down_pos e) (omega arith) v.1 ∙ div-one n in omega arith
to_unsigned_whole w nan n v h = elim v [ ]
to_unsigned_whole w (inf _) n v h = elim v [ ]

pub whole_converted : (n : ℕ) → n ≤ 2 ^ 53 → to_unsigned 64 (whole n) ≡ n
whole_converted n h = to_unsigned_whole 64 (whole n) n (whole_value n h) (omega arith)

pub to_unsigned_monotone : (w : ℕ) (x y : Float) → T (le x y) → to_unsigned w x ≤ to_unsigned w y
unfolding le to_unsigned
to_unsigned_monotone w (inf true) y h = zero-le
to_unsigned_monotone w (inf false) (inf false) h = le_refl _
to_unsigned_monotone w (fin true m e) y h = zero-le
to_unsigned_monotone w (fin false m e) (inf false) h = omega arith
to_unsigned_monotone w (fin false m e) (fin true n d) h =
    let level : m * up e * down d + n * up d * down e ≤ 0 = signed_of_finite false m e true n d h in
    let none : m * up e / down e ≡ 0 = ap (λ (a : ℕ). a / down e) (eq_of_mul-eq-mul_right (down d) (down_pos d) (m * up e) 0 (omega arith)) ∙ zero-div (down e) in
    omega arith
to_unsigned_monotone w (fin false m e) (fin false n d) h =
    let q : m * up e / down e ≤ n * up d / down d = div_mono (m * up e) (down e) (n * up d) (down d) (down_pos e) (down_pos d) (signed_of_finite false m e false n d h) in
    omega arith
to_unsigned_monotone w nan y h = elim h [ ]
to_unsigned_monotone w (inf false) nan h = elim h [ ]
to_unsigned_monotone w (inf false) (inf true) h = elim h [ ]
to_unsigned_monotone w (inf false) (fin _ n d) h = elim h [ ]
to_unsigned_monotone w (fin false m e) nan h = elim h [ ]
to_unsigned_monotone w (fin false m e) (inf true) h = elim h [ ]

-- its lower end: what is not below zero is above −1
pub above_minus_one : (x : Float) → le (fin false 0 (pos 0)) x ≡ true → T (lt (fin true 1 (pos 0)) x)
unfolding lt
above_minus_one x h = lt_of_lt_of_le (fin true 1 (pos 0)) (fin false 0 (pos 0)) x tt (T_from_true _ h)
