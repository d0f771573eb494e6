-- Which case of `square_root` an operand meets, by its comparisons with zero. Assumes nothing.
use Rattle.std.proofs.Common.{◌≡◌, ℕ, zero, suc, ◌+◌, ◌*◌, ◌/◌, ◌^◌, ◌<◌, ◌≤◌, Bool, true, false, not, ◌&&◌, T, ltb, ℤ, pos, sym, refl, ap, ◌∙◌, subst, true≢false, lt_irrefl, zero-lt-suc, mul_assoc, mul-pos, zero-mul, mul-one, mul_right_comm, mul-div_cancel, arith, ltb→lt, lt→ltb, nltb→le, pow_pos}
use mathlib.Core.Bool.{false≢true}
use lib.Ieee.{Float, nan, inf, fin, binary64, up, down, lt, div, of_bits}
use lib.Ieee.Fits.{up_pos, down_pos}
use lib.Ieee.Bits.{is_true}
use lib.Ieee.Exact.{HasValue}
use lib.Ieee.Scale.{finite}
use lib.Ieee.Positive.{positive, first_pos, value_pos}
use Rattle.root.specs.Root.{scaled_root, square_root}

zero_bits : fin false 0 (pos 0) ≡ of_bits binary64 0
unfolding of_bits
zero_bits = refl

-- ---- finite and above zero, by two tests
positive_by_sign : (x : Float) → (finite x && lt (fin false 0 (pos 0)) x) ≡ positive x
unfolding lt
positive_by_sign nan = refl
positive_by_sign (inf s) = refl
positive_by_sign (fin true m e) = refl
positive_by_sign (fin false zero e) = ap (ltb (0 * 1 * down e)) (mul-one (zero * up e) ∙ zero-mul (up e)) ∙ ap (λ (z : ℕ). ltb z 0) (zero-mul (down e))
positive_by_sign (fin false (suc m) e) =
    ap (λ (z : ℕ). ltb z (suc m * up e * 1)) (zero-mul (down e))
    ∙ is_true (ltb 0 (suc m * up e * 1)) (lt→ltb 0 (suc m * up e * 1) (subst (λ (z : ℕ). 0 < z) (sym (mul-one (suc m * up e))) (mul-pos (zero-lt-suc m) (up_pos e))))
    ∙ sym (is_true (ltb 0 (suc m)) (lt→ltb 0 (suc m) (zero-lt-suc m)))

pub positive_test : (x : Float) → (finite x && lt (of_bits binary64 0) x) ≡ positive x
positive_test x = ap (λ (z : Float). finite x && lt z x) (sym zero_bits) ∙ positive_by_sign x

-- ---- below zero
zero_size : (e : ℤ) → zero * up e * 1 ≡ 0 * 1 * down e
zero_size e = mul-one (zero * up e) ∙ zero-mul (up e) ∙ sym (zero-mul (down e))

zero_by_zero : div binary64 (fin false 0 (pos 0)) (fin false 0 (pos 0)) ≡ nan
unfolding div
zero_by_zero = refl

below_zero : (x : Float) → lt x (fin false 0 (pos 0)) ≡ true → nan ≡ square_root binary64 x
unfolding lt square_root
below_zero nan h = absurd (false≢true h)
below_zero (inf true) h = refl
below_zero (inf false) h = absurd (false≢true h)
below_zero (fin false m e) h = absurd (above (m * up e * 1) (0 * 1 * down e) (zero-mul (down e)) (ltb→lt (m * up e * 1) (0 * 1 * down e) (subst T (sym h) tt)))
  where
    above : (a b : ℕ) → b ≡ 0 → a < b → ⊥
    above a b e h = omega arith
below_zero (fin true zero e) h =
    absurd (none (zero * up e * 1) (0 * 1 * down e) (zero_size e) (zero-mul (down e)) (ltb→lt 0 (zero * up e * 1 + 0 * 1 * down e) (subst T (sym h) tt)))
  where
    none : (a b : ℕ) → a ≡ b → b ≡ 0 → 0 < a + b → ⊥
    none a b d e h = omega arith
below_zero (fin true (suc m) e) h = refl

pub negative_root : (x : Float) → lt x (of_bits binary64 0) ≡ true → div binary64 (of_bits binary64 0) (of_bits binary64 0) ≡ square_root binary64 x
negative_root x h = (λ i. div binary64 (sym zero_bits i) (sym zero_bits i)) ∙ zero_by_zero ∙ below_zero x (ap (lt x) zero_bits ∙ h)

-- ---- neither above zero nor below it
own_root_of : (x : Float) → positive x ≡ false → lt x (fin false 0 (pos 0)) ≡ false → x ≡ square_root binary64 x
unfolding lt square_root
own_root_of nan h k = refl
own_root_of (inf true) h k = absurd (true≢false k)
own_root_of (inf false) h k = refl
own_root_of (fin s zero e) h k = refl
own_root_of (fin false (suc m) e) h k = absurd (true≢false (sym (is_true (ltb 0 (suc m)) (lt→ltb 0 (suc m) (zero-lt-suc m))) ∙ h))
own_root_of (fin true (suc m) e) h k =
    absurd (none (suc m * up e * 1) (0 * 1 * down e) (subst (λ (x : ℕ). 0 < x) (sym (mul-one (suc m * up e))) (mul-pos (zero-lt-suc m) (up_pos e)))
    (nltb→le 0 (suc m * up e * 1 + 0 * 1 * down e) (subst (λ (b : Bool). T (not b)) (sym k) tt)))
  where
    none : (a b : ℕ) → 0 < a → a + b ≤ 0 → ⊥
    none a b p q = omega arith

pub own_root : (x : Float) → positive x ≡ false → lt x (of_bits binary64 0) ≡ false → x ≡ square_root binary64 x
own_root x h k = own_root_of x h (ap (lt x) zero_bits ∙ k)

-- ---- a value above zero, as a / 2 ^ 1074
own_sign : (x : Float) (s : Bool) (a c : ℕ) → T (positive x) → HasValue x s a c → HasValue x false a c
own_sign (fin false m e) s a c p v = (refl, v.1)
own_sign nan s a c p v = elim p [ ]
own_sign (inf _) s a c p v = elim p [ ]
own_sign (fin true m e) s a c p v = elim p [ ]

of_finite : (m : ℕ) (e : ℤ) → square_root binary64 (fin false (suc m) e) ≡ scaled_root binary64 (suc m * up e * 2 ^ 2148 / down e)
unfolding square_root
of_finite m e = refl

pub positive_root : (x : Float) (s : Bool) (a : ℕ) → T (positive x) → HasValue x s a (2 ^ 1074) → square_root binary64 x ≡ scaled_root binary64 (a * 2 ^ 1074)
positive_root (fin false zero e) s a p v = absurd (lt_irrefl 0 (ltb→lt 0 0 p))
positive_root (fin false (suc m) e) s a p v =
    of_finite m e
    ∙ ap (scaled_root binary64)
    (ap (λ (x : ℕ). x / down e) (sym (mul_assoc (suc m * up e) (2 ^ 1074) (2 ^ 1074)) ∙ ap (λ (x : ℕ). x * 2 ^ 1074) v.1 ∙ mul_right_comm a (down e) (2 ^ 1074))
    ∙ mul-div_cancel (a * 2 ^ 1074) (down_pos e))
positive_root nan s a p v = elim p [ ]
positive_root (inf _) s a p v = elim p [ ]
positive_root (fin true _ e) s a p v = elim p [ ]

pub significand_positive : (x : Float) (s : Bool) (m e : ℕ) → T (positive x) → HasValue x s (m * 2 ^ e) (2 ^ 1074) → 0 < m
significand_positive x s m e p v = first_pos m (2 ^ e) (value_pos x (m * 2 ^ e) (2 ^ 1074) p (pow_pos 1074) (own_sign x s (m * 2 ^ e) (2 ^ 1074) p v))
