-- The order of two finite values of either sign, by the fractions that they equal. Assumes nothing.
use Rattle.std.proofs.Common.{◌≡◌, ℕ, zero, suc, ◌+◌, ◌*◌, ◌<◌, ◌≤◌, Bool, true, false, not, ◌&&◌, ◌||◌, T, eqb, ltb, ℤ, pos, sym, refl, ap, ◌∙◌, subst, inl, inr, le_trans, le_of_eq, le_refl, le_of_lt, mul-le-mul_right, eq-or-lt_of_le, mul-zero, zero-mul, mul-one, le_of_mul-le-mul_right, arith, eqb→eq, ltb→lt}
use lib.Arith.{le-zero}
use lib.Ieee.{Float, inf, fin, up, down, unlike, below, level, le, neg, nan}
use lib.Ieee.Exact.{HasValue}
use lib.Ieee.Fits.{and_l, and_r, down_pos}
use lib.Ieee.Order.{transfer}
use lib.Ieee.Positive.{positive}
use mir.Facts.{or_yes}
use Rattle.std.proofs.lemmas.Bool.{and_from, or_left, or_right, lt-ltb, eq-eqb}
use Rattle.std.proofs.lemmas.Float.{T_from_true}

-- ±a is at most ±b; the two zeros are equal.
abbrev pub SignedLe : Bool → ℕ → Bool → ℕ → Type 0
SignedLe false a false b = a ≤ b
SignedLe false a true b = a + b ≤ 0
SignedLe true a false b = Unit
SignedLe true a true b = b ≤ a

pub signed_refl : (s : Bool) (a : ℕ) → SignedLe s a s a
signed_refl true a = le_refl a
signed_refl false a = le_refl a

-- a and b written otherwise
pub signed_same : (s : Bool) (a x : ℕ) (t : Bool) (b y : ℕ) → a ≡ x → b ≡ y → SignedLe s a t b → SignedLe s x t y
signed_same s a x t b y p q h = subst (λ (z : ℕ). SignedLe s x t z) q (subst (λ (z : ℕ). SignedLe s z t b) p h)

-- both times k
pub signed_scaled : (k : ℕ) (s : Bool) (a : ℕ) (t : Bool) (b : ℕ) → SignedLe s a t b → SignedLe s (a * k) t (b * k)
signed_scaled k false a false b h = mul-le-mul_right k h
signed_scaled k false a true b h = let p : a ≡ 0 = omega arith in let q : b ≡ 0 = omega arith in rw (p, q, zero-mul k) (omega arith)
signed_scaled k true a false b h = tt
signed_scaled k true a true b h = mul-le-mul_right k h

-- the sign of a product with a number of the sign +
pub unlike_plus : (s : Bool) → unlike s false ≡ s
unlike_plus true = refl
unlike_plus false = refl

pub zeros_level : (s t : Bool) → SignedLe s 0 t 0
zeros_level true true = le_refl 0
zeros_level true false = tt
zeros_level false true = le_refl 0
zeros_level false false = le_refl 0

-- both times ±k, which is not below zero; it may be −0
pub signed_product : (u : Bool) (k : ℕ) (s : Bool) (a : ℕ) (t : Bool) (b : ℕ) → SignedLe false 0 u k → SignedLe s a t b → SignedLe (unlike s u) (a * k) (unlike t u) (b * k)
signed_product false k s a t b not_below h = rw (unlike_plus s, unlike_plus t) (signed_scaled k s a t b h)
signed_product true k s a t b not_below h =
    let none : k ≡ 0 = omega arith in
    rw (none, mul-zero a, mul-zero b) (zeros_level (unlike s true) (unlike t true))

-- ---- the test on magnitudes decides it
-- the test for two numbers of one sign: p and q are a and b in either order
at_most_says : (a b p q : ℕ) → (p ≡ q → a ≡ b) → T (ltb a b || (eqb p q && true)) → a ≤ b
at_most_says a b p q same h =
    elim (or_yes (ltb a b) (eqb p q && true) h) [ inl l ↦ le_of_lt (ltb→lt a b l) | inr e ↦ le_of_eq (same (eqb→eq p q (and_l (eqb p q) true e))) ]

at_most_passes : (a b p q : ℕ) → (a ≡ b → p ≡ q) → a ≤ b → T (ltb a b || (eqb p q && true))
at_most_passes a b p q same h =
    elim (eq-or-lt_of_le h) [ inl e ↦ T_from_true _ (or_right (ltb a b) (eqb p q && true) (and_from (eqb p q) true (eq-eqb p q (same e)) refl)) | inr l ↦ T_from_true _ (or_left (ltb a b) (eqb p q && true) (lt-ltb a b l)) ]

test_says : (s : Bool) (a : ℕ) (t : Bool) (b : ℕ) → T (below s a t b || level s a t b) → SignedLe s a t b
test_says false a false b h = at_most_says a b a b (λ e. e) h
test_says false a true b h = omega (arith, eqb→eq a b (and_l (eqb a b) (eqb a 0) h), eqb→eq a 0 (and_r (eqb a b) (eqb a 0) h))
test_says true a false b h = tt
test_says true a true b h = at_most_says b a a b sym h

test_passes : (s : Bool) (a : ℕ) (t : Bool) (b : ℕ) → SignedLe s a t b → T (below s a t b || level s a t b)
test_passes false a false b h = at_most_passes a b a b (λ e. e) h
test_passes false a true b h = let p : a ≡ 0 = omega arith in let q : b ≡ 0 = omega arith in rw (p, q) tt
test_passes true zero false zero h = tt
test_passes true zero false (suc b) h = T_from_true _ (or_left (ltb 0 (0 + suc b)) _ (lt-ltb 0 (0 + suc b) (omega arith)))
test_passes true (suc a) false b h = T_from_true _ (or_left (ltb 0 (suc a + b)) _ (lt-ltb 0 (suc a + b) (omega arith)))
test_passes true a true b h = at_most_passes b a a b sym h

-- ---- other fractions of the same value
-- x / u is a / c
vanishes : (x u a c d : ℕ) → 0 < c → 0 < d → x * c ≡ a * u → a * d ≤ 0 → x ≡ 0
vanishes x u a c d C D v h =
    let none : a ≡ 0 = le-zero (le_of_mul-le-mul_right (le_trans h (le_of_eq (sym (zero-mul d)))) D) in
    le-zero (le_of_mul-le-mul_right (le_of_eq (v ∙ ap (λ (k : ℕ). k * u) none ∙ zero-mul u ∙ sym (zero-mul c))) C)

-- x / u is a / c and y / w is b / d
signed_transfer : (s : Bool) (x u a c : ℕ) (t : Bool) (y w b d : ℕ) → 0 < c → 0 < d → x * c ≡ a * u → y * d ≡ b * w
    → SignedLe s (a * d) t (b * c) → SignedLe s (x * w) t (y * u)
signed_transfer false x u a c false y w b d C D p q h = transfer x y u w a b c d C D p q h
signed_transfer false x u a c true y w b d C D p q h = rw (vanishes x u a c d C D p (omega arith), vanishes y w b d c D C q (omega arith), zero-mul w, zero-mul u) (omega arith)
signed_transfer true x u a c false y w b d C D p q h = tt
signed_transfer true x u a c true y w b d C D p q h = transfer y x w u b a d c D C q p h

-- ---- the comparison of two values
pub signed_of_finite : (s : Bool) (m : ℕ) (e : ℤ) (t : Bool) (n : ℕ) (d : ℤ) → T (le (fin s m e) (fin t n d)) → SignedLe s (m * up e * down d) t (n * up d * down e)
unfolding le
signed_of_finite s m e t n d h = test_says s (m * up e * down d) t (n * up d * down e) h

-- x is ±a / c and y is ±b / d.
pub signed_of_le : (x y : Float) (s : Bool) (a c : ℕ) (t : Bool) (b d : ℕ) → HasValue x s a c → HasValue y t b d → T (le x y) → SignedLe s (a * d) t (b * c)
signed_of_le (fin u m e) (fin w n g) s a c t b d p q h =
    subst (λ (z : Bool). SignedLe z (a * d) t (b * c)) p.0
    (subst (λ (z : Bool). SignedLe u (a * d) z (b * c)) q.0
    (signed_transfer u a c (m * up e) (down e) w b d (n * up g) (down g) (down_pos e) (down_pos g) (sym p.1) (sym q.1) (signed_of_finite u m e w n g h)))
signed_of_le nan y s a c t b d p q h = elim p [ ]
signed_of_le (inf _) y s a c t b d p q h = elim p [ ]
signed_of_le (fin u m e) nan s a c t b d p q h = elim q [ ]
signed_of_le (fin u m e) (inf _) s a c t b d p q h = elim q [ ]

pub le_of_signed : (x y : Float) (s : Bool) (a c : ℕ) (t : Bool) (b d : ℕ) → 0 < c → 0 < d → HasValue x s a c → HasValue y t b d → SignedLe s (a * d) t (b * c) → T (le x y)
unfolding le
le_of_signed (fin u m e) (fin w n g) s a c t b d C D p q h =
    test_passes u (m * up e * down g) w (n * up g * down e)
    (signed_transfer u (m * up e) (down e) a c w (n * up g) (down g) b d C D p.1 q.1
    (subst (λ (z : Bool). SignedLe z (a * d) w (b * c)) (sym p.0) (subst (λ (z : Bool). SignedLe s (a * d) z (b * c)) (sym q.0) h)))
le_of_signed nan y s a c t b d C D p q h = elim p [ ]
le_of_signed (inf _) y s a c t b d C D p q h = elim p [ ]
le_of_signed (fin u m e) nan s a c t b d C D p q h = elim q [ ]
le_of_signed (fin u m e) (inf _) s a c t b d C D p q h = elim q [ ]

-- against zero
pub signed_of_not_below : (x : Float) (s : Bool) (a c : ℕ) → HasValue x s a c → T (le (fin false 0 (pos 0)) x) → SignedLe false 0 s a
signed_of_not_below x s a c v h = signed_same false (0 * c) 0 s (a * 1) a (zero-mul c) (mul-one a) (signed_of_le (fin false 0 (pos 0)) x false 0 1 s a c (refl, refl) v h)

pub positive_not_below : (x : Float) → T (positive x) → T (le (fin false 0 (pos 0)) x)
positive_not_below (fin false m e) p = le_of_signed (fin false 0 (pos 0)) (fin false m e) false 0 1 false (m * up e) (down e) (omega arith) (down_pos e) (refl, refl) (refl, refl) (omega (arith, zero-mul (down e)))
positive_not_below nan p = elim p [ ]
positive_not_below (inf _) p = elim p [ ]
positive_not_below (fin true m e) p = elim p [ ]

neg_signed : (s : Bool) (a : ℕ) (t : Bool) (b : ℕ) → SignedLe s a t b → SignedLe (not t) b (not s) a
neg_signed false a false b h = h
neg_signed false a true b h = omega arith
neg_signed true a false b h = tt
neg_signed true a true b h = h

-- Negation turns the order round.
pub neg_le : (x y : Float) → T (le x y) → T (le (neg y) (neg x))
unfolding le neg
neg_le (inf true) (inf true) h = tt
neg_le (inf true) (inf false) h = tt
neg_le (inf true) (fin t n d) h = tt
neg_le (inf false) (inf false) h = tt
neg_le (fin s m e) (inf false) h = tt
neg_le (fin s m e) (fin t n d) h = test_passes (not t) _ (not s) _ (neg_signed s (m * up e * down d) t (n * up d * down e) (test_says s _ t _ h))
neg_le nan y h = elim h [ ]
neg_le (inf false) nan h = elim h [ ]
neg_le (inf false) (inf true) h = elim h [ ]
neg_le (inf false) (fin t n d) h = elim h [ ]
neg_le (inf true) nan h = elim h [ ]
neg_le (fin s m e) nan h = elim h [ ]
neg_le (fin s m e) (inf true) h = elim h [ ]
