-- x - x is +0 where x is finite, and else a NaN, over any format; and what `is_finite` tests. Assumes nothing.
use mathlib.Core.Path.{◌≡◌, refl, ◌∙◌}
use Prim.Native.Nat.{ℕ, ◌*◌}
use native.Mathlib.Nat.{mul-pos}
use mathlib.Core.Bool.{Bool, true, false, not, true≢false, false≢true}
use lib.IntN.{ℤ, pos}
use Rattle.std.specs.Float.{float_is_finite}
use lib.Ieee.{Float, nan, inf, fin, Format, binary32, binary64, of_bits, sub, sum, up, down}
use lib.Ieee.Fits.{down_pos}
use lib.Ieee.Scale.{finite}
use Rattle.rounding.proofs.Sum.{sum_opposite_eq}

pub zero_pattern : (f : Format) → of_bits f 0 ≡ fin false 0 (pos 0)
unfolding of_bits
zero_pattern binary32 = refl
zero_pattern binary64 = refl

opposite : (s : Bool) → s ≡ not s → ⊥
opposite true e = true≢false e
opposite false e = false≢true e

sub_self : (f : Format) (s : Bool) (m : ℕ) (e : ℤ) → sub f (fin s m e) (fin s m e) ≡ sum f s (m * up e * down e) (not s) (m * up e * down e) (down e * down e)
unfolding sub
sub_self f s m e = refl

pub finite_sub_self : (f : Format) (s : Bool) (m : ℕ) (e : ℤ) → sub f (fin s m e) (fin s m e) ≡ fin false 0 (pos 0)
finite_sub_self f s m e =
    sub_self f s m e
    ∙ sum_opposite_eq f s (not s) (m * up e * down e) (m * up e * down e) (down e * down e) (opposite s) refl (mul-pos (down_pos e) (down_pos e))

pub nan_sub_self : (f : Format) → sub f nan nan ≡ nan
unfolding sub
nan_sub_self f = refl

pub infinite_sub_self : (f : Format) (s : Bool) → sub f (inf s) (inf s) ≡ nan
unfolding sub
infinite_sub_self f true = refl
infinite_sub_self f false = refl

-- the library's test is that of the definitions
pub finite_alike : (x : Float) → float_is_finite x ≡ finite x
unfolding float_is_finite
finite_alike nan = refl
finite_alike (inf s) = refl
finite_alike (fin s m e) = refl
