-- Rounding beside values that the format has (IEEE 754-2019, 4.3.1). A value of the format is its own rounding, so a rounded fraction lies on the same side of it as the fraction: `rounding_not_below`, `rounding_not_above`; and a sum of what is not below zero is not below a term: `first_term_at_most`, `second_term_at_most`.
-- A fraction of few digits over a power of two is exact: `round_over_power`. Products, sums and quotients see only the values of their operands: `product_of_values`, `sum_of_values`, `quotient_of_values`. Over any format. Assumes nothing.
use mathlib.Core.Path.{◌≡◌, refl, sym, ap, ◌∙◌, subst}
use mathlib.Core.Bool.{Bool, true, false, true≢false}
use Prim.Native.Nat.{ℕ, suc, ◌+◌, ◌-◌, ◌*◌, ◌^◌, ◌≤◌, ◌<◌}
use native.Mathlib.Nat.{le_refl, le_trans, le_of_eq, lt_of_lt_of_le, mul_comm, mul_assoc, mul_left_comm, mul_right_comm, mul-mul-mul_comm, mul-pos, mul-le-mul_right, mul-lt-mul_of_pos_right, lt_of_mul-lt-mul_right}
use native.Mathlib.Omega.{arith}
use borrow.Author.Tests.{ne_eqb}
use lib.Dec.{T, ltb→lt}
use lib.IntN.{ℤ}
use lib.Pow.{pow-add, pow_pos, pow_mono, shl_lt}
use lib.Ieee.{Float, inf, fin, Format, prec, emax, low, up, down, unlike, round, sum, add, mul, div, le, fits, nan}
use lib.Ieee.Exact.{HasValue, round_exact}
use lib.Ieee.Fits.{up_pos, down_pos, reach}
use lib.Ieee.Order.{le_of_values, round_mono}
use lib.Ieee.Positive.{positive_of_value}
use lib.Ieee.Scale.{round_same}
use Rattle.std.proofs.lemmas.Float as float
use Rattle.binary64.proofs.FloatOrder.{infinity_greatest}
use Rattle.binary64.proofs.Integral.{significand_bound}
use Rattle.binary64.proofs.NotNan.{Signed, infinite, number, signed_not_nan}
use Rattle.binary64.proofs.SignedOrder.{unlike_plus}
use Rattle.rounding.proofs.Sum.{sum_same}
use Rattle.rounding.proofs.TiesToEven.{in_units}

-- ---- a value of the format is its own rounding
-- x / l is a / d, and below h
pub scaled_below : (x d l h a : ℕ) → 0 < l → a * l ≡ x * d → a < h * d → x < l * h
scaled_below x d l h a L e k =
    lt_of_mul-lt-mul_right d
    (lt_of_lt_of_le (subst (λ (z : ℕ). z < h * d * l) e (mul-lt-mul_of_pos_right k L)) (le_of_eq (mul_right_comm h d l ∙ ap (λ (z : ℕ). z * d) (mul_comm h l))))

-- with either sign: r beside the value's own s
pub own_rounding : (f : Format) (s r : Bool) (m : ℕ) (e : ℤ) → T (fits f (fin s m e)) → HasValue (round f r (m * up e) (down e)) r (m * up e) (down e)
own_rounding f s r m e t =
    let u = in_units f s m e t in
    let j = u.1 in
    round_exact f r (m * up e) (down e) m j (down_pos e) u.0
    (subst (λ (z : ℕ). m * 2 ^ j < z) (sym (pow-add 2 (low f) (suc (emax f)))) (scaled_below (m * 2 ^ j) (down e) (2 ^ low f) (2 ^ suc (emax f)) (m * up e) (pow_pos (low f)) u.2 (significand_bound f s m e t).1))
    u.2

-- a fraction a / c and a value m * 2 ^ e, both with the sign +
module _ (f : Format) (s : Bool) (a c m : ℕ) (e : ℤ) (C : 0 < c) (t : T (fits f (fin s m e))) where
  pub rounding_not_below : m * up e * c ≤ a * down e → T (le (fin false m e) (round f false a c))
  rounding_not_below h =
      float.le_trans (fin false m e) (round f false (m * up e) (down e)) (round f false a c)
      (le_of_values (fin false m e) (round f false (m * up e) (down e)) (m * up e) (down e) (m * up e) (down e) (down_pos e) (down_pos e) (refl, refl) (own_rounding f s false m e t) (le_refl _))
      (round_mono f (m * up e) (down e) a c (down_pos e) C h)

  pub rounding_not_above : a * down e ≤ m * up e * c → T (le (round f false a c) (fin false m e))
  rounding_not_above h =
      float.le_trans (round f false a c) (round f false (m * up e) (down e)) (fin false m e)
      (round_mono f a c (m * up e) (down e) C (down_pos e) h)
      (le_of_values (round f false (m * up e) (down e)) (fin false m e) (m * up e) (down e) (m * up e) (down e) (down_pos e) (down_pos e) (own_rounding f s false m e t) (refl, refl) (le_refl _))

-- ---- a sum and its terms
at_infinity : {x : Float} → Signed false x → T (le x (inf false))
at_infinity {x} h = subst T (sym (infinity_greatest x (signed_not_nan h))) tt

pub first_term_at_most : (f : Format) {x y : Float} → T (fits f x) → Signed false x → Signed false y → T (le x (add f x y))
unfolding add sum
first_term_at_most f t infinite infinite = at_infinity infinite
first_term_at_most f t infinite (number n d) = at_infinity infinite
first_term_at_most f t (number m e) infinite = at_infinity (number m e)
first_term_at_most f t (number m e) (number n d) =
    rounding_not_below f false (m * up e * down d + n * up d * down e) (down e * down d) m e (mul-pos (down_pos e) (down_pos d)) t
    (le_trans (le_of_eq ((let k : m * up e * (down e * down d) ≡ m * up e * down d * down e = simp (mul_assoc, mul_comm, mul_left_comm) in k))) (mul-le-mul_right (down e) (omega arith)))

pub second_term_at_most : (f : Format) {x y : Float} → T (fits f y) → Signed false x → Signed false y → T (le y (add f x y))
unfolding add sum
second_term_at_most f t infinite infinite = at_infinity infinite
second_term_at_most f t infinite (number n d) = at_infinity (number n d)
second_term_at_most f t (number m e) infinite = at_infinity infinite
second_term_at_most f t (number m e) (number n d) =
    rounding_not_below f false (m * up e * down d + n * up d * down e) (down e * down d) n d (mul-pos (down_pos e) (down_pos d)) t
    (le_trans (le_of_eq (sym (mul_assoc (n * up d) (down e) (down d)))) (mul-le-mul_right (down d) (omega arith)))

-- ---- a fraction with fewer digits than the format keeps, over a power of two
pub round_over_power : (f : Format) (s : Bool) (a k : ℕ) → k ≤ low f → a < 2 ^ prec f → HasValue (round f s a (2 ^ k)) s a (2 ^ k)
round_over_power f s a k h few =
    let j = low f - k in
    round_exact f s a (2 ^ k) a j (pow_pos k) few
    (lt_of_lt_of_le (shl_lt (prec f) j few) (pow_mono (let z : prec f + j ≤ low f + suc (emax f) = omega (arith, reach f) in z)))
    (ap (λ (z : ℕ). a * z) (ap (λ (z : ℕ). 2 ^ z) (let z : low f ≡ j + k = omega arith in z) ∙ pow-add 2 j k) ∙ sym (mul_assoc a (2 ^ j) (2 ^ k)))

-- ---- by the fractions that the operands equal
pub product_of_values : (f : Format) (x y : Float) (s : Bool) (a c : ℕ) (t : Bool) (b d : ℕ) → 0 < c → 0 < d → HasValue x s a c → HasValue y t b d → mul f x y ≡ round f (unlike s t) (a * b) (c * d)
unfolding mul
product_of_values f (fin u m e) (fin w n g) s a c t b d C D h k =
    (λ i. round f (unlike (h.0 i) (k.0 i)) (m * up e * (n * up g)) (down e * down g))
    ∙ round_same f (unlike s t) (m * up e * (n * up g)) (down e * down g) (a * b) (c * d) (mul-pos (down_pos e) (down_pos g)) (mul-pos C D)
    (mul-mul-mul_comm (m * up e) (n * up g) c d ∙ (λ i. h.1 i * k.1 i) ∙ mul-mul-mul_comm a (down e) b (down g))
product_of_values f nan y s a c t b d C D h k = elim h [ ]
product_of_values f (inf _) y s a c t b d C D h k = elim h [ ]
product_of_values f (fin u m e) nan s a c t b d C D h k = elim k [ ]
product_of_values f (fin u m e) (inf _) s a c t b d C D h k = elim k [ ]

pub sum_of_values : (f : Format) (x y : Float) (s : Bool) (a : ℕ) (t : Bool) (b c : ℕ) → 0 < c → HasValue x s a c → HasValue y t b c → add f x y ≡ sum f s a t b c
unfolding add
sum_of_values f (fin u m e) (fin w n g) s a t b c C h k =
    (λ i. sum f (h.0 i) (m * up e * down g) (k.0 i) (n * up g * down e) (down e * down g))
    ∙ sum_same f s t (m * up e * down g) (n * up g * down e) (down e * down g) a b c (mul-pos (down_pos e) (down_pos g)) C
    (mul_right_comm (m * up e) (down g) c ∙ ap (λ (z : ℕ). z * down g) h.1 ∙ mul_assoc a (down e) (down g))
    (mul_right_comm (n * up g) (down e) c ∙ ap (λ (z : ℕ). z * down e) k.1 ∙ mul_assoc b (down g) (down e) ∙ ap (λ (z : ℕ). b * z) (mul_comm (down g) (down e)))
sum_of_values f nan y s a t b c C h k = elim h [ ]
sum_of_values f (inf _) y s a t b c C h k = elim h [ ]
sum_of_values f (fin u m e) nan s a t b c C h k = elim k [ ]
sum_of_values f (fin u m e) (inf _) s a t b c C h k = elim k [ ]

pub quotient_of_values : (f : Format) (x y : Float) (s : Bool) (a c b d : ℕ) → 0 < c → 0 < b → 0 < d → HasValue x s a c → HasValue y false b d → div f x y ≡ round f s (a * d) (b * c)
unfolding div
quotient_of_values f nan y s a c b d C B D h k = elim h [ ]
quotient_of_values f (inf _) y s a c b d C B D h k = elim h [ ]
quotient_of_values f (fin u m e) nan s a c b d C B D h k = elim k [ ]
quotient_of_values f (fin u m e) (inf _) s a c b d C B D h k = elim k [ ]
quotient_of_values f (fin u m e) (fin true n g) s a c b d C B D h k = absurd (true≢false k.0)
quotient_of_values f (fin u m e) (fin false n g) s a c b d C B D h k =
    let some : 0 < n = ltb→lt 0 n (positive_of_value (fin false n g) b d k B) in
    rw (ne_eqb n 0 (λ z. omega arith), unlike_plus u, h.0)
    (round_same f s (m * up e * down g) (n * up g * down e) (a * d) (b * c) (mul-pos (mul-pos some (up_pos g)) (down_pos e)) (mul-pos B C)
    (crossed (m * up e) (n * up g) (down e) (down g) h.1 k.1))
  where
    crossed : (x y u w : ℕ) → x * c ≡ a * u → y * d ≡ b * w → x * w * (b * c) ≡ a * d * (y * u)
    crossed x y u w p q =
        (let z : x * w * (b * c) ≡ x * c * (b * w) = simp (mul_assoc, mul_comm, mul_left_comm) in z)
        ∙ (λ i. p i * sym q i)
        ∙ (let z : a * u * (y * d) ≡ a * d * (y * u) = simp (mul_assoc, mul_comm, mul_left_comm) in z)
