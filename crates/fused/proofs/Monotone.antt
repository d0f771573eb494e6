-- A fused multiply-add of finite operands keeps the order of a factor beside one that is not below zero: `fused_monotone`. Product and sum are exact and the one rounding keeps the order, so that a subnormal result, a zero and an overflow have no case of their own.
-- Over any format. Assumes nothing.
use mathlib.Core.Path.{◌≡◌, refl, subst}
use mathlib.Core.Bool.{Bool, true, false}
use Prim.Native.Nat.{ℕ, ◌*◌, ◌<◌}
use native.Mathlib.Nat.{mul_comm, mul_assoc, mul_left_comm, mul-pos}
use native.Mathlib.Omega.{arith}
use borrow.Author.Tests.{ne_eqb}
use lib.Dec.{T, ltb→lt}
use lib.Ieee.{Float, inf, fin, Format, up, down, unlike, le, of_bits, nan}
use lib.Ieee.Fits.{down_pos}
use lib.Ieee.Positive.{positive, positive-finite}
use lib.Ieee.Scale.{finite}
use Rattle.binary64.proofs.SignedOrder.{SignedLe, signed_refl, signed_same, signed_scaled, signed_product, unlike_plus, signed_of_finite, signed_of_not_below, positive_not_below}
use Rattle.rounding.proofs.Monotone.{sum_monotone, monotone_to_infinities}
use Rattle.fused.specs.Fused.{fused_multiply_add}
use Rattle.fused.specs.FusedOrder.{FusedKeepsOrder}

unlike_comm : (s t : Bool) → unlike s t ≡ unlike t s
unlike_comm true true = refl
unlike_comm true false = refl
unlike_comm false true = refl
unlike_comm false false = refl

pub fused_monotone : FusedKeepsOrder
unfolding fused_multiply_add of_bits
fused_monotone f (fin s m e) (fin t n d) (fin t' n' d') (fin u o g) A B B' C not_below h =
    let factor = signed_of_not_below (fin s m e) s (m * up e) (down e) (refl, refl) not_below in
    let common = down e * (down g * down g) in
    let operands = signed_scaled common t (n * up d * down d') t' (n' * up d' * down d) (signed_of_finite t n d t' n' d' h) in
    rw (unlike_comm s t, unlike_comm s t')
    (sum_monotone f (unlike t s) (m * up e * (n * up d) * down g) u (o * up g * (down e * down d)) (down e * down d * down g)
    (unlike t' s) (m * up e * (n' * up d') * down g) u (o * up g * (down e * down d')) (down e * down d' * down g)
    (mul-pos (mul-pos (down_pos e) (down_pos d)) (down_pos g)) (mul-pos (mul-pos (down_pos e) (down_pos d')) (down_pos g))
    (signed_same (unlike t s) (n * up d * down d' * common * (m * up e)) (m * up e * (n * up d) * down g * (down e * down d' * down g))
    (unlike t' s) (n' * up d' * down d * common * (m * up e)) (m * up e * (n' * up d') * down g * (down e * down d * down g))
    (simp (mul_assoc, mul_comm, mul_left_comm)) (simp (mul_assoc, mul_comm, mul_left_comm))
    (signed_product s (m * up e) t (n * up d * down d' * common) t' (n' * up d' * down d * common) factor operands))
    (subst (λ (addend : ℕ). SignedLe u (o * up g * (down e * down d) * (down e * down d' * down g)) u addend) (simp (mul_assoc, mul_comm, mul_left_comm))
    (signed_refl u (o * up g * (down e * down d) * (down e * down d' * down g)))))
fused_monotone f nan b _ c A B B' C not_below h = elim A [ ]
fused_monotone f (inf _) b _ c A B B' C not_below h = elim A [ ]
fused_monotone f (fin s m e) nan _ c A B B' C not_below h = elim B [ ]
fused_monotone f (fin s m e) (inf _) _ c A B B' C not_below h = elim B [ ]
fused_monotone f (fin s m e) (fin t n d) nan c A B B' C not_below h = elim B' [ ]
fused_monotone f (fin s m e) (fin t n d) (inf _) c A B B' C not_below h = elim B' [ ]
fused_monotone f (fin s m e) (fin t n d) (fin t' n' d') nan A B B' C not_below h = elim C [ ]
fused_monotone f (fin s m e) (fin t n d) (fin t' n' d') (inf _) A B B' C not_below h = elim C [ ]

-- ---- the order of the first factor, infinite ones included, beside one above zero
factors_exchanged : (f : Format) (x y z : Float) → T (finite x) → T (finite y) → T (finite z) → fused_multiply_add f x y z ≡ fused_multiply_add f y x z
unfolding fused_multiply_add
factors_exchanged f (fin s m e) (fin t n d) (fin u o g) X Y Z = rw (unlike_comm s t, mul_comm (m * up e) (n * up d), mul_comm (down e) (down d))
factors_exchanged f nan y z X Y Z = elim X [ ]
factors_exchanged f (inf _) y z X Y Z = elim X [ ]
factors_exchanged f (fin s m e) nan z X Y Z = elim Y [ ]
factors_exchanged f (fin s m e) (inf _) z X Y Z = elim Y [ ]
factors_exchanged f (fin s m e) (fin t n d) nan X Y Z = elim Z [ ]
factors_exchanged f (fin s m e) (fin t n d) (inf _) X Y Z = elim Z [ ]

fused_leaves_infinity : (f : Format) (y z : Float) (s : Bool) → T (positive y) → T (finite z) → fused_multiply_add f (inf s) y z ≡ inf s
unfolding fused_multiply_add
fused_leaves_infinity f (fin false n d) (fin u o g) s Y Z = let some : 0 < n = ltb→lt 0 n Y in rw (ne_eqb n 0 (λ k. omega arith), unlike_plus s)
fused_leaves_infinity f nan z s Y Z = elim Y [ ]
fused_leaves_infinity f (inf _) z s Y Z = elim Y [ ]
fused_leaves_infinity f (fin false n d) nan s Y Z = elim Z [ ]
fused_leaves_infinity f (fin false n d) (inf _) s Y Z = elim Z [ ]
fused_leaves_infinity f (fin true n d) z s Y Z = elim Y [ ]

pub fused_monotone_first : (f : Format) (x x' y z : Float) → T (positive y) → T (finite z) → T (le x x') → T (le (fused_multiply_add f x y z) (fused_multiply_add f x' y z))
unfolding of_bits
fused_monotone_first f x x' y z Y Z h =
    monotone_to_infinities (λ p. fused_multiply_add f p y z) (λ s. fused_leaves_infinity f y z s Y Z)
    (λ p q P Q k. rw (factors_exchanged f p y z P (positive-finite y Y) Z, factors_exchanged f q y z Q (positive-finite y Y) Z) (fused_monotone f y p q z (positive-finite y Y) P Q Z (positive_not_below y Y) k)) x x' h
