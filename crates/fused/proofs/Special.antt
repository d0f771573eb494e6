-- Operands that are no finite numbers: the test for one among three, and `fused_multiply_add` of them. Over any format. Assumes nothing.
use mathlib.Core.Path.{◌≡◌, refl, ap₂, ◌∙◌}
use mathlib.Core.Bool.{Bool, true, false, ◌&&◌, cond, true≢false, false≢true}
use lib.Dec.{T, eqb}
use lib.IntN.{pos}
use lib.Ieee.{Float, nan, inf, fin, Format, binary32, binary64, unlike, of_bits, eq, add, sub, mul}
use lib.Ieee.Scale.{finite}
use Rattle.rounding.proofs.Finite.{zero_pattern, finite_sub_self, nan_sub_self, infinite_sub_self}
use Rattle.fused.specs.Fused.{fused_multiply_add, infinite_product_plus}

-- ---- the test
abbrev zero_or_nan : Bool → Float
zero_or_nan b = cond b (fin false 0 (pos 0)) nan

self_difference : (f : Format) (x : Float) → sub f x x ≡ zero_or_nan (finite x)
self_difference f nan = nan_sub_self f
self_difference f (inf s) = infinite_sub_self f s
self_difference f (fin s m e) = finite_sub_self f s m e

add_zeros : (f : Format) (p q : Bool) → add f (zero_or_nan p) (zero_or_nan q) ≡ zero_or_nan (p && q)
unfolding add
add_zeros binary32 true true = refl
add_zeros binary64 true true = refl
add_zeros f true false = refl
add_zeros f false q = refl

equals_zero : (p : Bool) → eq (zero_or_nan p) (fin false 0 (pos 0)) ≡ p
unfolding eq
equals_zero true = refl
equals_zero false = refl

pub all_finite_test : (f : Format) (x y z : Float) → eq (add f (sub f x x) (add f (sub f y y) (sub f z z))) (of_bits f 0) ≡ (finite x && (finite y && finite z))
all_finite_test f x y z =
    ap₂ (λ (a b : Float). eq a b)
    (ap₂ (λ (a b : Float). add f a b) (self_difference f x) (ap₂ (λ (a b : Float). add f a b) (self_difference f y) (self_difference f z) ∙ add_zeros f (finite y) (finite z)) ∙ add_zeros f (finite x) (finite y && finite z))
    (zero_pattern f)
    ∙ equals_zero (finite x && (finite y && finite z))

-- what a passed test says of each
pub each_finite : (p q r : Bool) → (p && (q && r)) ≡ true → T p × (T q × T r)
each_finite true true true e = (tt, (tt, tt))
each_finite true true false e = absurd (false≢true e)
each_finite true false r e = absurd (false≢true e)
each_finite false q r e = absurd (false≢true e)

-- ---- a factor that is no finite number: product and sum may be rounded apart
add_infinity : (f : Format) (s : Bool) (z : Float) → add f (inf s) z ≡ infinite_product_plus s z
unfolding add
add_infinity f s nan = refl
add_infinity f s (inf t) = refl
add_infinity f s (fin t n d) = refl

add_nan : (f : Format) (z : Float) → add f nan z ≡ nan
unfolding add
add_nan f z = refl

add_nan_or_infinity : (f : Format) (b s : Bool) (z : Float) → add f (cond b nan (inf s)) z ≡ cond b nan (infinite_product_plus s z)
add_nan_or_infinity f true s z = add_nan f z
add_nan_or_infinity f false s z = add_infinity f s z

pub special_factor_apart : (f : Format) (x y z : Float) → (finite x && finite y) ≡ false → add f (mul f x y) z ≡ fused_multiply_add f x y z
unfolding fused_multiply_add mul
special_factor_apart f nan y z h = add_nan f z
special_factor_apart f (inf s) nan z h = add_nan f z
special_factor_apart f (inf s) (inf t) z h = add_infinity f (unlike s t) z
special_factor_apart f (inf s) (fin t n d) z h = add_nan_or_infinity f (eqb n 0) (unlike s t) z
special_factor_apart f (fin s m e) nan z h = add_nan f z
special_factor_apart f (fin s m e) (inf t) z h = add_nan_or_infinity f (eqb m 0) (unlike s t) z
special_factor_apart f (fin s m e) (fin t n d) z h = absurd (true≢false h)

-- ---- finite factors: the addend is the result
pub special_addend : (f : Format) (x y z : Float) → (finite x && finite y) ≡ true → (finite x && (finite y && finite z)) ≡ false → z ≡ fused_multiply_add f x y z
unfolding fused_multiply_add
special_addend f nan y z h k = absurd (false≢true h)
special_addend f (inf s) y z h k = absurd (false≢true h)
special_addend f (fin s m e) nan z h k = absurd (false≢true h)
special_addend f (fin s m e) (inf t) z h k = absurd (false≢true h)
special_addend f (fin s m e) (fin t n d) nan h k = refl
special_addend f (fin s m e) (fin t n d) (inf u) h k = refl
special_addend f (fin s m e) (fin t n d) (fin u o g) h k = absurd (true≢false k)
