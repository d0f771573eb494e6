-- Operations that leave a value as it is, but for its sign: a product with 1 or −1, and a sum with −0, over any format and all of its values, infinities and the NaN among them (IEEE 754-2019, 4.3.1, 6.3).
-- A value of the format is the only one of its sign and magnitude, `value_unique`, and so is its own rounding, `round_own`. Assumes nothing.
use mathlib.Core.Path.{◌≡◌, refl, sym, ap, ◌∙◌}
use mathlib.Core.Bool.{Bool, true, false, true≢false, false≢true, cond}
use mathlib.Core.Logic.{◌⊎◌, inl, inr}
use Prim.Native.Nat.{ℕ, zero, suc, ◌+◌, ◌-◌, ◌*◌, ◌/◌, ◌^◌, ◌<◌}
use native.Mathlib.Nat.{one-mul, mul-pos, mul_right_comm, zero-lt-suc}
use native.Mathlib.Omega.{arith}
use lib.Dec.{T}
use lib.IntN.{ℤ, pos}
use lib.Ieee.{Float, nan, inf, fin, Format, prec, low, hid, top, up, down, size, round, sum, neg, add, sub, mul, fits, of_bits, to_bits}
use lib.Ieee.Bits.{of_bits-to_bits}
use lib.Ieee.Exact.{HasValue}
use lib.Ieee.Fits.{up_pos, down_pos, round-fits, neg-fits}
use lib.Ieee.Nearest.{div_same}
use Rattle.rounding.proofs.Exact.{own_rounding}
use Rattle.rounding.proofs.Sum.{sum_same_sign, sum_opposite_lt, sum_opposite_eq}

-- ---- one value of the format for a sign and a magnitude
-- the bit pattern of n units
abbrev pattern : Format → Bool → ℕ → ℕ
pattern f s n = cond s (top f) 0 + (size n - prec f) * hid f + n / 2 ^ (size n - prec f)

bits_of_value : (f : Format) (x : Float) (s : Bool) (a c : ℕ) → 0 < c → HasValue x s a c → to_bits f x ≡ pattern f s (a * 2 ^ low f / c)
unfolding to_bits
bits_of_value f (fin t m e) s a c C h =
    let units : m * up e * 2 ^ low f / down e ≡ a * 2 ^ low f / c =
    div_same (m * up e * 2 ^ low f) (down e) (a * 2 ^ low f) c (down_pos e) C (mul_right_comm (m * up e) (2 ^ low f) c ∙ ap (λ (z : ℕ). z * 2 ^ low f) h.1 ∙ mul_right_comm a (down e) (2 ^ low f)) in
    λ i. pattern f (h.0 i) (units i)
bits_of_value f nan s a c C h = elim h [ ]
bits_of_value f (inf _) s a c C h = elim h [ ]

pub value_unique : (f : Format) (x y : Float) (s : Bool) (a c : ℕ) → 0 < c → T (fits f x) → T (fits f y) → HasValue x s a c → HasValue y s a c → x ≡ y
value_unique f x y s a c C p q h k =
    sym (of_bits-to_bits f x p) ∙ ap (of_bits f) (bits_of_value f x s a c C h ∙ sym (bits_of_value f y s a c C k)) ∙ of_bits-to_bits f y q

pub round_own : (f : Format) (s : Bool) (m : ℕ) (e : ℤ) → T (fits f (fin s m e)) → round f s (m * up e) (down e) ≡ fin s m e
round_own f s m e t = value_unique f (round f s (m * up e) (down e)) (fin s m e) s (m * up e) (down e) (down_pos e) (round-fits f s (m * up e) (down e)) t (own_rounding f s s m e t) (refl, refl)

-- ---- products with 1 and −1
times_one : (f : Format) (s : Bool) (m : ℕ) (e : ℤ) → T (fits f (fin s m e)) → round f s (1 * 1 * (m * up e)) (1 * down e) ≡ fin s m e
times_one f s m e t = rw (one-mul (m * up e), one-mul (down e)) (round_own f s m e t)

pub one_times : (f : Format) (x : Float) → T (fits f x) → mul f (fin false 1 (pos 0)) x ≡ x
unfolding mul
one_times f nan t = refl
one_times f (inf true) t = refl
one_times f (inf false) t = refl
one_times f (fin true m e) t = times_one f true m e t
one_times f (fin false m e) t = times_one f false m e t

pub minus_one_times : (f : Format) (x : Float) → T (fits f x) → mul f (fin true 1 (pos 0)) x ≡ neg x
unfolding mul neg
minus_one_times f nan t = refl
minus_one_times f (inf true) t = refl
minus_one_times f (inf false) t = refl
minus_one_times f (fin true m e) t = times_one f false m e (neg-fits f (fin true m e) t)
minus_one_times f (fin false m e) t = times_one f true m e (neg-fits f (fin false m e) t)

-- ---- sums with −0
-- of a magnitude n / d that is no zero, or has the same sign
zero_plus : (f : Format) (s : Bool) (n d : ℕ) → (s ≡ true) ⊎ (0 < n) → sum f true (0 * 1 * d) s (n * 1) (1 * d) ≡ round f s n d
zero_plus f true n d h = sum_same_sign f true true (0 * 1 * d) (n * 1) (1 * d) refl ∙ (λ i. round f true (whole i) (one-mul d i))
  where
    whole : 0 * 1 * d + n * 1 ≡ n
    whole = omega arith
zero_plus f false n d (inl e) = absurd (false≢true e)
zero_plus f false n d (inr h) = sum_opposite_lt f true false (0 * 1 * d) (n * 1) (1 * d) (λ e. true≢false e) (omega arith) ∙ (λ i. round f false (whole i) (one-mul d i))
  where
    whole : n * 1 - 0 * 1 * d ≡ n
    whole = omega arith

pub negative_zero_plus : (f : Format) (x : Float) → T (fits f x) → add f (fin true 0 (pos 0)) x ≡ x
unfolding add
negative_zero_plus f nan t = refl
negative_zero_plus f (inf s) t = refl
negative_zero_plus f (fin true m e) t = zero_plus f true (m * up e) (down e) (inl refl) ∙ round_own f true m e t
negative_zero_plus f (fin false zero e) t =
    sum_opposite_eq f true false (0 * 1 * down e) (0 * up e * 1) (1 * down e) (λ e. true≢false e) (omega arith) (omega (arith, down_pos e))
    ∙ value_unique f (fin false 0 (pos 0)) (fin false zero e) false 0 1 (zero-lt-suc 0) (unfold fits in tt) t (refl, refl) (refl, omega arith)
negative_zero_plus f (fin false (suc m) e) t = zero_plus f false (suc m * up e) (down e) (inr (mul-pos (zero-lt-suc m) (up_pos e))) ∙ round_own f false (suc m) e t

-- ---- both at once
pub same_by_unit : (f : Format) (x : Float) → T (fits f x) → add f (fin true 0 (pos 0)) (mul f (fin false 1 (pos 0)) x) ≡ x
same_by_unit f x t = ap (add f (fin true 0 (pos 0))) (one_times f x t) ∙ negative_zero_plus f x t

pub difference_by_unit : (f : Format) (x y : Float) → T (fits f y) → add f x (mul f (fin true 1 (pos 0)) y) ≡ sub f x y
unfolding sub
difference_by_unit f x y t = ap (add f x) (minus_one_times f y t)
