-- A rounding keeps the order (IEEE 754-2019, 4.3.1), whatever the signs: `round_monotone`. So an operation that rounds an exact result once keeps it where the exact result does:
-- of finite operands `sum_monotone`, `add_monotone`, `square_monotone` and, by a value above zero, `div_monotone`, whose results may be subnormal or overflow without a case of their own; `div_antitone` turns it round. Infinite operands come in by `monotone_to_infinities`: `mul_monotone` has them, beside a factor above zero.
-- Over any format. Assumes nothing.
use mathlib.Core.Path.{◌≡◌, refl, sym, ap, ◌∙◌, subst}
use mathlib.Core.Logic.{inl, inr}
use mathlib.Core.Bool.{Bool, true, false, cond}
use Prim.Native.Nat.{ℕ, ◌+◌, ◌-◌, ◌*◌, ◌≤◌, ◌<◌}
use native.Mathlib.Nat.{le_refl, le_trans, le_of_eq, zero-mul, mul_comm, mul_assoc, mul_left_comm, mul_right_comm, mul-mul-mul_comm, mul-le-mul, mul-le-mul_right, mul-pos, eq_of_mul-eq-mul_right}
use native.Mathlib.Omega.{arith}
use borrow.Author.Tests.{lt-ltb, le-ltb, ne_eqb}
use lib.Dec.{T, ltb→lt}
use lib.IntN.{ℤ, pos}
use lib.Ieee.{Float, inf, fin, Format, up, down, unlike, round, sum, add, mul, div, neg, le, is_nan, nan}
use lib.Ieee.Bits.{is_false}
use Rattle.std.proofs.lemmas.Float as float
use lib.Ieee.Fits.{up_pos, down_pos}
use lib.Ieee.Order.{round_mono}
use lib.Ieee.Positive.{positive, positive-finite, le→cross}
use lib.Ieee.Scale.{finite}
use Rattle.binary64.specs.Absolute.{abs}
use Rattle.binary64.proofs.FloatOrder.{infinity_least, infinity_greatest, signs_apart}
use Rattle.binary64.proofs.Negation.{neg_round}
use Rattle.binary64.proofs.NotNan.{round_signed, round_not_nan}
use Rattle.binary64.proofs.SignedOrder.{SignedLe, signed_same, signed_scaled, signed_product, unlike_plus, signed_of_finite, signed_of_not_below, positive_not_below, neg_le}
use Rattle.std.proofs.lemmas.Bool.{cases_lt}
use Rattle.rounding.proofs.Sum.{round_zero, sum_same_sign, sum_comm, sum_same}

-- ---- one rounding
-- ±a / c is at most ±b / d, and so are the values that they are rounded to
pub round_monotone : (f : Format) (s : Bool) (a c : ℕ) (t : Bool) (b d : ℕ) → 0 < c → 0 < d → SignedLe s (a * d) t (b * c) → T (le (round f s a c) (round f t b d))
unfolding le
round_monotone f false a c false b d C D h = round_mono f a c b d C D h
round_monotone f false a c true b d C D h =
    let left : round f false a c ≡ fin false 0 (pos 0) = ap (λ (z : ℕ). round f false z c) (eq_of_mul-eq-mul_right d D a 0 (omega arith)) ∙ round_zero f false c C in
    let right : round f true b d ≡ fin true 0 (pos 0) = ap (λ (z : ℕ). round f true z d) (eq_of_mul-eq-mul_right c C b 0 (omega arith)) ∙ round_zero f true d D in
    rw (left, right) tt
round_monotone f true a c false b d C D h =
    float.le_of_not-lt (round f false b d) (round f true a c) (float.T_from_false _ (round_not_nan f false b d)) (float.T_from_false _ (round_not_nan f true a c)) (float.T_from_false _ (signs_apart (round_signed f true a c) (round_signed f false b d)))
round_monotone f true a c true b d C D h =
    subst (λ (z : Float). T (le z (round f true b d))) (neg_round f false a c)
    (subst (λ (z : Float). T (le (neg (round f false a c)) z)) (neg_round f false b d)
    (neg_le (round f false b d) (round f false a c) (round_mono f b d a c D C h)))

-- ---- one rounding of a sum
-- ±a as a difference of two natural numbers, so that its order is linear: ±a is at most ±b where a⁺ + b⁻ ≤ b⁺ + a⁻
abbrev positive_part : Bool → ℕ → ℕ
positive_part s a = cond s 0 a

abbrev negative_part : Bool → ℕ → ℕ
negative_part s a = cond s a 0

parts_of_signed : (s : Bool) (a : ℕ) (t : Bool) (b : ℕ) → SignedLe s a t b → positive_part s a + negative_part t b ≤ positive_part t b + negative_part s a
parts_of_signed false a false b h = omega arith
parts_of_signed false a true b h = omega arith
parts_of_signed true a false b h = omega arith
parts_of_signed true a true b h = omega arith

signed_of_parts : (s : Bool) (a : ℕ) (t : Bool) (b : ℕ) → positive_part s a + negative_part t b ≤ positive_part t b + negative_part s a → SignedLe s a t b
signed_of_parts false a false b h = omega arith
signed_of_parts false a true b h = omega arith
signed_of_parts true a false b h = tt
signed_of_parts true a true b h = omega arith

-- the exact sum ±a + ±b has a sign and a magnitude, and is rounded over the denominator c
record ExactSum (f : Format) (s : Bool) (a : ℕ) (t : Bool) (b c : ℕ) : Type 0 where
  sign : Bool
  magnitude : ℕ
  rounded : sum f s a t b c ≡ round f sign magnitude c
  exact : positive_part sign magnitude + (negative_part s a + negative_part t b) ≡ negative_part sign magnitude + (positive_part s a + positive_part t b)

-- +a and −b
unlike_signs : (f : Format) (a b c : ℕ) → ExactSum f false a true b c
unfolding sum
unlike_signs f a b c = elim (cases_lt a b) [
  | inl l ↦ record { sign = true; magnitude = b - a; rounded = rw (lt-ltb a b l); exact = omega arith }
  | inr g ↦ record { sign = false; magnitude = a - b; rounded = rw (le-ltb a b g); exact = omega arith }
]

exact_sum : (f : Format) (s : Bool) (a : ℕ) (t : Bool) (b c : ℕ) → 0 < c → ExactSum f s a t b c
exact_sum f true a true b c C = record { sign = true; magnitude = a + b; rounded = sum_same_sign f true true a b c refl; exact = omega arith }
exact_sum f false a false b c C = record { sign = false; magnitude = a + b; rounded = sum_same_sign f false false a b c refl; exact = omega arith }
exact_sum f false a true b c C = unlike_signs f a b c
exact_sum f true a false b c C =
    let turned = unlike_signs f b a c in
    record { sign = turned.sign; magnitude = turned.magnitude; rounded = sum_comm f true false a b c C ∙ turned.rounded; exact = omega (arith, turned.exact) }

-- over one denominator; p and n are the parts of the sums, and the others those of their terms
sums_in_order : (p n p' n' ap an bp bn ap' an' bp' bn' : ℕ) → p + (an + bn) ≡ n + (ap + bp) → p' + (an' + bn') ≡ n' + (ap' + bp') → ap + an' ≤ ap' + an → bp + bn' ≤ bp' + bn → p + n' ≤ p' + n
sums_in_order p n p' n' ap an bp bn ap' an' bp' bn' h k l m = omega arith

sum_monotone_over : (f : Format) (s : Bool) (a : ℕ) (t : Bool) (b : ℕ) (s' : Bool) (a' : ℕ) (t' : Bool) (b' c : ℕ) → 0 < c → SignedLe s a s' a' → SignedLe t b t' b' → T (le (sum f s a t b c) (sum f s' a' t' b' c))
sum_monotone_over f s a t b s' a' t' b' c C h k =
    let x = exact_sum f s a t b c C in
    let y = exact_sum f s' a' t' b' c C in
    let in_order =
    sums_in_order (positive_part x.sign x.magnitude) (negative_part x.sign x.magnitude) (positive_part y.sign y.magnitude) (negative_part y.sign y.magnitude)
    (positive_part s a) (negative_part s a) (positive_part t b) (negative_part t b) (positive_part s' a') (negative_part s' a') (positive_part t' b') (negative_part t' b')
    x.exact y.exact (parts_of_signed s a s' a' h) (parts_of_signed t b t' b' k) in
    rw (x.rounded, y.rounded)
    (round_monotone f x.sign x.magnitude c y.sign y.magnitude c C C
    (signed_scaled c x.sign x.magnitude y.sign y.magnitude (signed_of_parts x.sign x.magnitude y.sign y.magnitude in_order)))

-- ±a / c + ±b / c grows with each of its terms
pub sum_monotone : (f : Format) (s : Bool) (a : ℕ) (t : Bool) (b c : ℕ) (s' : Bool) (a' : ℕ) (t' : Bool) (b' c' : ℕ) → 0 < c → 0 < c'
    → SignedLe s (a * c') s' (a' * c) → SignedLe t (b * c') t' (b' * c) → T (le (sum f s a t b c) (sum f s' a' t' b' c'))
sum_monotone f s a t b c s' a' t' b' c' C C' h k =
    let left = sum_same f s t a b c (a * c') (b * c') (c * c') C (mul-pos C C') (widened a c c') (widened b c c') in
    let right = sum_same f s' t' a' b' c' (a' * c) (b' * c) (c * c') C' (mul-pos C C') (sym (mul_assoc a' c c')) (sym (mul_assoc b' c c')) in
    rw (left, right) (sum_monotone_over f s (a * c') t (b * c') s' (a' * c) t' (b' * c) (c * c') (mul-pos C C') h k)
  where
    widened : (x c d : ℕ) → x * (c * d) ≡ x * d * c
    widened x c d = sym (mul_assoc x c d) ∙ mul_right_comm x c d

pub add_monotone : (f : Format) (x x' y y' : Float) → T (finite x) → T (finite x') → T (finite y) → T (finite y') → T (le x x') → T (le y y') → T (le (add f x y) (add f x' y'))
unfolding add
add_monotone f (fin s m e) (fin s' m' e') (fin t n d) (fin t' n' d') X X' Y Y' h k =
    sum_monotone f s (m * up e * down d) t (n * up d * down e) (down e * down d) s' (m' * up e' * down d') t' (n' * up d' * down e') (down e' * down d')
    (mul-pos (down_pos e) (down_pos d)) (mul-pos (down_pos e') (down_pos d'))
    (signed_same s (m * up e * down e' * (down d * down d')) (m * up e * down d * (down e' * down d')) s' (m' * up e' * down e * (down d * down d')) (m' * up e' * down d' * (down e * down d))
    (simp (mul_assoc, mul_comm, mul_left_comm)) (simp (mul_assoc, mul_comm, mul_left_comm))
    (signed_scaled (down d * down d') s (m * up e * down e') s' (m' * up e' * down e) (signed_of_finite s m e s' m' e' h)))
    (signed_same t (n * up d * down d' * (down e * down e')) (n * up d * down e * (down e' * down d')) t' (n' * up d' * down d * (down e * down e')) (n' * up d' * down e' * (down e * down d))
    (simp (mul_assoc, mul_comm, mul_left_comm)) (simp (mul_assoc, mul_comm, mul_left_comm))
    (signed_scaled (down e * down e') t (n * up d * down d') t' (n' * up d' * down d) (signed_of_finite t n d t' n' d' k)))
add_monotone f nan _ y _ X X' Y Y' h k = elim X [ ]
add_monotone f (inf _) _ y _ X X' Y Y' h k = elim X [ ]
add_monotone f (fin s m e) nan y _ X X' Y Y' h k = elim X' [ ]
add_monotone f (fin s m e) (inf _) y _ X X' Y Y' h k = elim X' [ ]
add_monotone f (fin s m e) (fin s' m' e') nan _ X X' Y Y' h k = elim Y [ ]
add_monotone f (fin s m e) (fin s' m' e') (inf _) _ X X' Y Y' h k = elim Y [ ]
add_monotone f (fin s m e) (fin s' m' e') (fin t n d) nan X X' Y Y' h k = elim Y' [ ]
add_monotone f (fin s m e) (fin s' m' e') (fin t n d) (inf _) X X' Y Y' h k = elim Y' [ ]

-- ---- one rounding of a product with, or a quotient by, a value above zero
-- y may be −0 or +0 here
pub mul_monotone_finite : (f : Format) (x x' y : Float) → T (finite x) → T (finite x') → T (finite y) → T (le (fin false 0 (pos 0)) y) → T (le x x') → T (le (mul f x y) (mul f x' y))
unfolding mul
mul_monotone_finite f (fin s m e) (fin t n d) (fin u k g) X X' Y not_below h =
    let factor = signed_of_not_below (fin u k g) u (k * up g) (down g) (refl, refl) not_below in
    let operands = signed_of_finite s m e t n d h in
    round_monotone f (unlike s u) (m * up e * (k * up g)) (down e * down g) (unlike t u) (n * up d * (k * up g)) (down d * down g) (mul-pos (down_pos e) (down_pos g)) (mul-pos (down_pos d) (down_pos g))
    (signed_same (unlike s u) (m * up e * down d * down g * (k * up g)) (m * up e * (k * up g) * (down d * down g)) (unlike t u) (n * up d * down e * down g * (k * up g)) (n * up d * (k * up g) * (down e * down g))
    (simp (mul_assoc, mul_comm, mul_left_comm)) (simp (mul_assoc, mul_comm, mul_left_comm))
    (signed_product u (k * up g) s (m * up e * down d * down g) t (n * up d * down e * down g) factor (signed_scaled (down g) s (m * up e * down d) t (n * up d * down e) operands)))
mul_monotone_finite f nan _ y X X' Y not_below h = elim X [ ]
mul_monotone_finite f (inf _) _ y X X' Y not_below h = elim X [ ]
mul_monotone_finite f (fin s m e) nan y X X' Y not_below h = elim X' [ ]
mul_monotone_finite f (fin s m e) (inf _) y X X' Y not_below h = elim X' [ ]
mul_monotone_finite f (fin s m e) (fin t n d) nan X X' Y not_below h = elim Y [ ]
mul_monotone_finite f (fin s m e) (fin t n d) (inf _) X X' Y not_below h = elim Y [ ]

pub div_monotone : (f : Format) (x x' y : Float) → T (finite x) → T (finite x') → T (positive y) → T (le x x') → T (le (div f x y) (div f x' y))
unfolding div
div_monotone f (fin s m e) (fin t n d) (fin false k g) X X' Y h =
    let some : 0 < k = ltb→lt 0 k Y in
    let D : 0 < k * up g = mul-pos some (up_pos g) in
    let operands = signed_of_finite s m e t n d h in
    rw (ne_eqb k 0 (λ z. omega arith))
    (round_monotone f (unlike s false) (m * up e * down g) (k * up g * down e) (unlike t false) (n * up d * down g) (k * up g * down d) (mul-pos D (down_pos e)) (mul-pos D (down_pos d))
    (signed_same (unlike s false) (m * up e * down d * (down g * (k * up g))) (m * up e * down g * (k * up g * down d)) (unlike t false) (n * up d * down e * (down g * (k * up g))) (n * up d * down g * (k * up g * down e))
    (simp (mul_assoc, mul_comm, mul_left_comm)) (simp (mul_assoc, mul_comm, mul_left_comm))
    (signed_product false (down g * (k * up g)) s (m * up e * down d) t (n * up d * down e) (omega arith) operands)))
div_monotone f nan _ y X X' Y h = elim X [ ]
div_monotone f (inf _) _ y X X' Y h = elim X [ ]
div_monotone f (fin s m e) nan y X X' Y h = elim X' [ ]
div_monotone f (fin s m e) (inf _) y X X' Y h = elim X' [ ]
div_monotone f (fin s m e) (fin t n d) nan X X' Y h = elim Y [ ]
div_monotone f (fin s m e) (fin t n d) (inf _) X X' Y h = elim Y [ ]
div_monotone f (fin s m e) (fin t n d) (fin true k g) X X' Y h = elim Y [ ]

-- the divisor turns the order round, of what is not below zero
pub div_antitone : (f : Format) (x y y' : Float) → T (finite x) → T (le (fin false 0 (pos 0)) x) → T (positive y) → T (positive y') → T (le y y') → T (le (div f x y') (div f x y))
unfolding div
div_antitone f nan y _ X not_below Y Y' h = elim X [ ]
div_antitone f (inf _) y _ X not_below Y Y' h = elim X [ ]
div_antitone f (fin s m e) nan _ X not_below Y Y' h = elim Y [ ]
div_antitone f (fin s m e) (inf _) _ X not_below Y Y' h = elim Y [ ]
div_antitone f (fin s m e) (fin false k g) nan X not_below Y Y' h = elim Y' [ ]
div_antitone f (fin s m e) (fin false k g) (inf _) X not_below Y Y' h = elim Y' [ ]
div_antitone f (fin s m e) (fin false k g) (fin true n d) X not_below Y Y' h = elim Y' [ ]
div_antitone f (fin s m e) (fin true k g) _ X not_below Y Y' h = elim Y [ ]
div_antitone f (fin s m e) (fin false k g) (fin false n d) X not_below Y Y' h =
    let some : 0 < k = ltb→lt 0 k Y in
    let some' : 0 < n = ltb→lt 0 n Y' in
    let dividend = signed_of_not_below (fin s m e) s (m * up e) (down e) (refl, refl) not_below in
    let divisors = mul-le-mul_right (down e) (le→cross (fin false k g) (fin false n d) Y Y' h) in
    rw (ne_eqb k 0 (λ z. omega arith), ne_eqb n 0 (λ z. omega arith))
    (round_monotone f (unlike s false) (m * up e * down d) (n * up d * down e) (unlike s false) (m * up e * down g) (k * up g * down e) (mul-pos (mul-pos some' (up_pos d)) (down_pos e)) (mul-pos (mul-pos some (up_pos g)) (down_pos e))
    (rw (unlike_plus s)
    (signed_same s (m * up e * (k * up g * down d * down e)) (m * up e * down d * (k * up g * down e)) s (m * up e * (n * up d * down g * down e)) (m * up e * down g * (n * up d * down e))
    (simp (mul_assoc, mul_comm, mul_left_comm)) (simp (mul_assoc, mul_comm, mul_left_comm))
    (scaled_dividend s (m * up e) (k * up g * down d * down e) (n * up d * down g * down e) dividend divisors))))
  where
    -- ±x, which is not below zero, times a and times b
    scaled_dividend : (s : Bool) (x a b : ℕ) → SignedLe false 0 s x → a ≤ b → SignedLe s (x * a) s (x * b)
    scaled_dividend false x a b z h = mul-le-mul (le_refl x) h
    scaled_dividend true x a b z h = let none : x ≡ 0 = omega arith in rw (none, zero-mul a, zero-mul b) (le_refl 0)

-- ---- one rounding of a square
pub square_monotone : (f : Format) (x y : Float) → T (finite x) → T (finite y) → T (le (abs x) (abs y)) → T (le (mul f x x) (mul f y y))
unfolding mul abs
square_monotone f nan y X Y h = elim X [ ]
square_monotone f (inf _) y X Y h = elim X [ ]
square_monotone f (fin s m e) nan X Y h = elim Y [ ]
square_monotone f (fin s m e) (inf _) X Y h = elim Y [ ]
square_monotone f (fin s m e) (fin t n d) X Y h =
    let sizes = signed_of_finite false m e false n d h in
    rw (like_itself s, like_itself t)
    (round_monotone f false (m * up e * (m * up e)) (down e * down e) false (n * up d * (n * up d)) (down d * down d) (mul-pos (down_pos e) (down_pos e)) (mul-pos (down_pos d) (down_pos d))
    (le_trans (le_of_eq (mul-mul-mul_comm (m * up e) (m * up e) (down d) (down d))) (le_trans (mul-le-mul sizes sizes) (le_of_eq (mul-mul-mul_comm (n * up d) (down e) (n * up d) (down e))))))
  where
    like_itself : (s : Bool) → unlike s s ≡ false
    like_itself true = refl
    like_itself false = refl

-- ---- infinite operands
-- What keeps the order of finite values and leaves the infinities keeps the order of all numbers.
module _ (F : Float → Float) (leaves : (s : Bool) → F (inf s) ≡ inf s) (grows : (x y : Float) → T (finite x) → T (finite y) → T (le x y) → T (le (F x) (F y))) where
  stays_number : (s : Bool) (m : ℕ) (e : ℤ) → is_nan (F (fin s m e)) ≡ false
  unfolding is_nan
  stays_number s m e = let x = fin s m e in is_false (is_nan (F x)) (float.le_right (F x) (F x) (grows x x tt tt (float.le_refl x tt)))

  pub monotone_to_infinities : (x y : Float) → T (le x y) → T (le (F x) (F y))
  unfolding le
  monotone_to_infinities (inf s) (inf t) h = rw (leaves s, leaves t) h
  monotone_to_infinities (inf true) (fin t n d) h = rw (leaves true) (subst T (sym (infinity_least (F (fin t n d)) (stays_number t n d))) tt)
  monotone_to_infinities (fin s m e) (inf false) h = rw (leaves false) (subst T (sym (infinity_greatest (F (fin s m e)) (stays_number s m e))) tt)
  monotone_to_infinities (fin s m e) (fin t n d) h = grows (fin s m e) (fin t n d) tt tt h
  monotone_to_infinities nan y h = elim h [ ]
  monotone_to_infinities (inf s) nan h = elim h [ ]
  monotone_to_infinities (inf false) (fin t n d) h = elim h [ ]
  monotone_to_infinities (fin s m e) nan h = elim h [ ]
  monotone_to_infinities (fin s m e) (inf true) h = elim h [ ]

mul_leaves_infinity : (f : Format) (y : Float) (s : Bool) → T (positive y) → mul f (inf s) y ≡ inf s
unfolding mul
mul_leaves_infinity f (fin false k g) s Y = let some : 0 < k = ltb→lt 0 k Y in rw (ne_eqb k 0 (λ z. omega arith), unlike_plus s)
mul_leaves_infinity f nan s Y = elim Y [ ]
mul_leaves_infinity f (inf _) s Y = elim Y [ ]
mul_leaves_infinity f (fin true k g) s Y = elim Y [ ]

pub mul_monotone : (f : Format) (x x' y : Float) → T (positive y) → T (le x x') → T (le (mul f x y) (mul f x' y))
mul_monotone f x x' y Y h =
    monotone_to_infinities (λ z. mul f z y) (λ s. mul_leaves_infinity f y s Y) (λ z w Z W k. mul_monotone_finite f z w y Z W (positive-finite y Y) (positive_not_below y Y) k) x x' h
