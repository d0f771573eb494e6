-- `fused_multiply_add` of finite operands sees only their values, and is one `sum` over any scale that holds product and addend. Where the product is zero, product and sum may be rounded apart. Over any format. Assumes nothing.
use mathlib.Core.Path.{◌≡◌, refl, sym, ap, ◌∙◌}
use Prim.Native.Nat.{ℕ, ◌+◌, ◌*◌, ◌^◌, ◌<◌}
use native.Mathlib.Nat.{eq_of_mul-eq-mul_right, mul_comm, mul_assoc, mul_left_comm, mul-pos, mul-one, one-mul, zero-mul}
use mathlib.Core.Bool.{Bool}
use lib.Dec.{T, lit<}
use lib.IntN.{ℤ, pos}
use lib.Pow.{pow-add, pow_pos}
use lib.Ieee.{Float, fin, Format, up, down, unlike, round, sum, add, mul, inf, nan}
use lib.Ieee.Exact.{HasValue}
use lib.Ieee.Fits.{down_pos}
use lib.Ieee.Scale.{finite}
use Rattle.rounding.proofs.Sum.{round_zero, sum_same}
use Rattle.fused.specs.Fused.{fused_multiply_add}

fused_finite : (f : Format) (s : Bool) (m : ℕ) (e : ℤ) (t : Bool) (n : ℕ) (d : ℤ) (u : Bool) (o : ℕ) (g : ℤ)
    → fused_multiply_add f (fin s m e) (fin t n d) (fin u o g) ≡ sum f (unlike s t) (m * up e * (n * up d) * down g) u (o * up g * (down e * down d)) (down e * down d * down g)
unfolding fused_multiply_add
fused_finite f s m e t n d u o g = refl

-- ---- by fractions A / C, B / C and O / C that the operands equal
product_cross : (x y g A B de dd C : ℕ) → x * C ≡ A * de → y * C ≡ B * dd → x * y * g * (C * C * C) ≡ A * B * C * (de * dd * g)
product_cross x y g A B de dd C p q =
    (let k : x * y * g * (C * C * C) ≡ x * C * (y * C) * (g * C) = simp (mul_assoc, mul_comm, mul_left_comm) in k)
    ∙ (λ i. p i * q i * (g * C))
    ∙ (let k : A * de * (B * dd) * (g * C) ≡ A * B * C * (de * dd * g) = simp (mul_assoc, mul_comm, mul_left_comm) in k)

addend_cross : (z O de dd g C : ℕ) → z * C ≡ O * g → z * (de * dd) * (C * C * C) ≡ O * (C * C) * (de * dd * g)
addend_cross z O de dd g C r =
    (let k : z * (de * dd) * (C * C * C) ≡ z * C * (de * dd * (C * C)) = simp (mul_assoc, mul_comm, mul_left_comm) in k)
    ∙ ap (λ (w : ℕ). w * (de * dd * (C * C))) r
    ∙ (let k : O * g * (de * dd * (C * C)) ≡ O * (C * C) * (de * dd * g) = simp (mul_assoc, mul_comm, mul_left_comm) in k)

fused_by_values : (f : Format) (x y z : Float) (s t u : Bool) (A B O C : ℕ) → 0 < C → HasValue x s A C → HasValue y t B C → HasValue z u O C
    → fused_multiply_add f x y z ≡ sum f (unlike s t) (A * B * C) u (O * (C * C)) (C * C * C)
fused_by_values f (fin sx m e) (fin sy n d) (fin sz o g) s t u A B O C P h k l =
    fused_finite f sx m e sy n d sz o g
    ∙ (λ i. sum f (unlike (h.0 i) (k.0 i)) (m * up e * (n * up d) * down g) (l.0 i) (o * up g * (down e * down d)) (down e * down d * down g))
    ∙ sum_same f (unlike s t) u (m * up e * (n * up d) * down g) (o * up g * (down e * down d)) (down e * down d * down g) (A * B * C) (O * (C * C)) (C * C * C)
    (mul-pos (mul-pos (down_pos e) (down_pos d)) (down_pos g)) (mul-pos (mul-pos P P) P)
    (product_cross (m * up e) (n * up d) (down g) A B (down e) (down d) C h.1 k.1)
    (addend_cross (o * up g) O (down e) (down d) (down g) C l.1)
fused_by_values f nan y z s t u A B O C P h k l = elim h [ ]
fused_by_values f (inf _) y z s t u A B O C P h k l = elim h [ ]
fused_by_values f (fin sx m e) nan z s t u A B O C P h k l = elim k [ ]
fused_by_values f (fin sx m e) (inf _) z s t u A B O C P h k l = elim k [ ]
fused_by_values f (fin sx m e) (fin sy n d) nan s t u A B O C P h k l = elim l [ ]
fused_by_values f (fin sx m e) (fin sy n d) (inf _) s t u A B O C P h k l = elim l [ ]

-- ---- operands over 2 ^ l, product and addend over 2 ^ (2l + i)
product_scaled : (A B C I S P : ℕ) → S ≡ C * C * I → P ≡ A * B * I → A * B * C * S ≡ P * (C * C * C)
product_scaled A B C I S P s p =
    ap (λ (z : ℕ). A * B * C * z) s
    ∙ (let k : A * B * C * (C * C * I) ≡ A * B * I * (C * C * C) = simp (mul_assoc, mul_comm, mul_left_comm) in k)
    ∙ ap (λ (z : ℕ). z * (C * C * C)) (sym p)

addend_scaled : (O C I S J W : ℕ) → S ≡ C * C * I → J ≡ C * I → W ≡ O * J → O * (C * C) * S ≡ W * (C * C * C)
addend_scaled O C I S J W s j v =
    ap (λ (z : ℕ). O * (C * C) * z) s
    ∙ (let k : O * (C * C) * (C * C * I) ≡ O * (C * I) * (C * C * C) = simp (mul_assoc, mul_comm, mul_left_comm) in k)
    ∙ ap (λ (z : ℕ). O * z * (C * C * C)) (sym j)
    ∙ ap (λ (z : ℕ). z * (C * C * C)) (sym v)

pub fused_scaled : (f : Format) (l i A B O P W : ℕ) (x y z : Float) (s t u : Bool) → HasValue x s A (2 ^ l) → HasValue y t B (2 ^ l) → HasValue z u O (2 ^ l)
    → P ≡ A * B * 2 ^ i → W ≡ O * 2 ^ (l + i) → fused_multiply_add f x y z ≡ sum f (unlike s t) P u W (2 ^ (l + l + i))
fused_scaled f l i A B O P W x y z s t u h k o p v =
    let C = 2 ^ l in
    let c : 0 < C = pow_pos l in
    let S : 2 ^ (l + l + i) ≡ C * C * 2 ^ i = pow-add 2 (l + l) i ∙ ap (λ (w : ℕ). w * 2 ^ i) (pow-add 2 l l) in
    fused_by_values f x y z s t u A B O C c h k o
    ∙ sum_same f (unlike s t) u (A * B * C) (O * (C * C)) (C * C * C) P W (2 ^ (l + l + i)) (mul-pos (mul-pos c c) c) (pow_pos (l + l + i))
    (product_scaled A B C (2 ^ i) (2 ^ (l + l + i)) P S p)
    (addend_scaled O C (2 ^ i) (2 ^ (l + l + i)) (2 ^ (l + i)) W S (pow-add 2 l i) v)

-- ---- a product that is zero
mul_finite : (f : Format) (s : Bool) (m : ℕ) (e : ℤ) (t : Bool) (n : ℕ) (d : ℤ) → mul f (fin s m e) (fin t n d) ≡ round f (unlike s t) (m * up e * (n * up d)) (down e * down d)
unfolding mul
mul_finite f s m e t n d = refl

add_to_zero : (f : Format) (s : Bool) (t : Bool) (n : ℕ) (d : ℤ) → add f (fin s 0 (pos 0)) (fin t n d) ≡ sum f s (0 * 1 * down d) t (n * up d * 1) (1 * down d)
unfolding add
add_to_zero f s t n d = refl

apart : (f : Format) (s t u : Bool) (m : ℕ) (e : ℤ) (n : ℕ) (d : ℤ) (o : ℕ) (g : ℤ) → m * up e * (n * up d) ≡ 0
    → add f (mul f (fin s m e) (fin t n d)) (fin u o g) ≡ fused_multiply_add f (fin s m e) (fin t n d) (fin u o g)
apart f s t u m e n d o g z =
    ap (λ (w : Float). add f w (fin u o g)) (mul_finite f s m e t n d ∙ ap (λ (w : ℕ). round f (unlike s t) w (down e * down d)) z ∙ round_zero f (unlike s t) (down e * down d) (mul-pos (down_pos e) (down_pos d)))
    ∙ add_to_zero f (unlike s t) u o g
    ∙ sum_same f (unlike s t) u (0 * 1 * down g) (o * up g * 1) (1 * down g) (m * up e * (n * up d) * down g) (o * up g * (down e * down d)) (down e * down d * down g)
    (mul-pos (lit< tt) (down_pos g)) (mul-pos (mul-pos (down_pos e) (down_pos d)) (down_pos g))
    (ap (λ (w : ℕ). w * (down e * down d * down g)) (zero-mul (down g)) ∙ zero-mul (down e * down d * down g) ∙ sym (ap (λ (w : ℕ). w * down g * (1 * down g)) z ∙ ap (λ (w : ℕ). w * (1 * down g)) (zero-mul (down g)) ∙ zero-mul (1 * down g)))
    (ap (λ (w : ℕ). w * (down e * down d * down g)) (mul-one (o * up g)) ∙ sym (mul_assoc (o * up g) (down e * down d) (down g)) ∙ ap (λ (w : ℕ). o * up g * (down e * down d) * w) (sym (one-mul (down g))))
    ∙ sym (fused_finite f s m e t n d u o g)

product_zero : (x y A B de dd C : ℕ) → 0 < C → x * C ≡ A * de → y * C ≡ B * dd → A * B ≡ 0 → x * y ≡ 0
product_zero x y A B de dd C P p q z =
    eq_of_mul-eq-mul_right (C * C) (mul-pos P P) (x * y) 0
    ((let k : x * y * (C * C) ≡ x * C * (y * C) = simp (mul_assoc, mul_comm, mul_left_comm) in k)
    ∙ (λ i. p i * q i)
    ∙ (let k : A * de * (B * dd) ≡ A * B * (de * dd) = simp (mul_assoc, mul_comm, mul_left_comm) in k)
    ∙ ap (λ (w : ℕ). w * (de * dd)) z
    ∙ zero-mul (de * dd)
    ∙ sym (zero-mul (C * C)))

pub zero_product_apart : (f : Format) (x y z : Float) (s t : Bool) (A B C : ℕ) → 0 < C → HasValue x s A C → HasValue y t B C → T (finite z) → A * B ≡ 0 → add f (mul f x y) z ≡ fused_multiply_add f x y z
zero_product_apart f (fin sx m e) (fin sy n d) (fin u o g) s t A B C P h k v zero-AB =
    apart f sx sy u m e n d o g (product_zero (m * up e) (n * up d) A B (down e) (down d) C P h.1 k.1 zero-AB)
zero_product_apart f nan y z s t A B C P h k v zero-AB = elim h [ ]
zero_product_apart f (inf _) y z s t A B C P h k v zero-AB = elim h [ ]
zero_product_apart f (fin sx m e) nan z s t A B C P h k v zero-AB = elim k [ ]
zero_product_apart f (fin sx m e) (inf _) z s t A B C P h k v zero-AB = elim k [ ]
zero_product_apart f (fin sx m e) (fin sy n d) nan s t A B C P h k v zero-AB = elim v [ ]
zero_product_apart f (fin sx m e) (fin sy n d) (inf _) s t A B C P h k v zero-AB = elim v [ ]
