-- How a fused multiply-add follows the order of a factor. Definitions only.
use Rattle.std.specs.Prelude.{T, Float}
use Rattle.std.specs.Float.{Format}
use Rattle.std.specs.Float.Ieee.{le}
use Rattle.std.specs.Float.Ieee.Scale.{finite}
use Rattle.binary64.specs.Constants.{positive_zero}
use Rattle.fused.specs.Fused.{fused_multiply_add}

-- For finite a, b, b' and c with a not below 0 and b at most b': a * b + c, rounded once, is at most a * b' + c. At most is the comparison of IEEE 754-2019, 5.11, in which −0 equals +0:
-- a may be −0, and of two results that are zeros the first may be +0 and the second −0.
abbrev pub FusedKeepsOrder : Type 0
FusedKeepsOrder = (f : Format) (a b b' c : Float) → T (finite a) → T (finite b) → T (finite b') → T (finite c) → T (le positive_zero a) → T (le b b')
    → T (le (fused_multiply_add f a b c) (fused_multiply_add f a b' c))
