-- Fused multiply-add. Definitions only.
use Rattle.std.specs.Prelude.{◌*◌, Bool, cond, eqb, Float}
use Rattle.std.specs.Bool.{beq}
use Rattle.std.specs.Float.{nan, inf, fin, Format}
use Rattle.std.specs.Float.Ieee.{unlike, up, down, sum}

-- An infinite product of the sign s, plus z. IEEE 754-2019, 6.1: exact; 7.2 d): invalid, so NaN, where z is an infinity of the other sign.
abbrev pub infinite_product_plus : Bool → Float → Float
infinite_product_plus s nan = nan
infinite_product_plus s (inf u) = cond (beq s u) (inf s) nan
infinite_product_plus s (fin u o g) = inf s

-- IEEE 754-2019, 5.4.1: fusedMultiplyAdd(x, y, z) is x × y + z as if with unbounded range and precision, rounded once, to nearest, ties to even (4.3.1).
-- The product and the sum are exact fractions over one denominator; `sum` alone rounds, and gives an exact zero its sign (6.3): +0 from opposite signs, else the common sign.
-- A NaN operand gives NaN (6.2), and so does zero times infinity, whatever the addend (7.2 c): NaN also where the addend is a NaN).
unfoldable pub fused_multiply_add : Format → Float → Float → Float → Float
unfolding sum
fused_multiply_add f nan y z = nan
fused_multiply_add f (inf s) nan z = nan
fused_multiply_add f (inf s) (inf t) z = infinite_product_plus (unlike s t) z
fused_multiply_add f (inf s) (fin t n d) z = cond (eqb n 0) nan (infinite_product_plus (unlike s t) z)
fused_multiply_add f (fin s m e) nan z = nan
fused_multiply_add f (fin s m e) (inf t) z = cond (eqb m 0) nan (infinite_product_plus (unlike s t) z)
fused_multiply_add f (fin s m e) (fin t n d) nan = nan
fused_multiply_add f (fin s m e) (fin t n d) (inf u) = inf u
fused_multiply_add f (fin s m e) (fin t n d) (fin u o g) =
    sum f (unlike s t) (m * up e * (n * up d) * down g) u (o * up g * (down e * down d)) (down e * down d * down g)
