-- The minimum of two doubles, and data that differ in the sign of a zero at most. Definitions only.
use Rattle.std.specs.Prelude.{◌≡◌, Bool, true, false, cond, ◌&&◌, ◌||◌, ◌⊎◌, ◌==◌, Float}
use Rattle.std.specs.Bool.{beq}
use Rattle.std.specs.Float.{nan, inf, fin}
use Rattle.std.specs.Float.Ieee.{lt, is_nan}

-- Whether x is the zero of the sign s, −0 where s is true.
abbrev pub is_zero : Bool → Float → Bool
is_zero s nan = false
is_zero s (inf t) = false
is_zero s (fin t m e) = beq s t && m == 0

-- IEEE 754-2019, 9.6: x is less than y (5.11), and for this operation −0 compares less than +0.
unfoldable pub below_or_negative_zero : Float → Float → Bool
unfolding lt
below_or_negative_zero x y = lt x y || (is_zero true x && is_zero false y)

-- IEEE 754-2019, 9.6: minimumNumber(x, y) is x if x is less than y, y if y is less than x, the number where one operand is a NaN, and a NaN where both are.
-- A NaN y is less than nothing. Where neither is less and neither a NaN, both are the same datum, and the answer is x or y alike (`minimum_commutes`).
unfoldable pub minimum_number : Float → Float → Float
unfolding below_or_negative_zero is_nan
minimum_number x y = cond (is_nan x) y (cond (below_or_negative_zero y x) y x)

-- "Rust leaves the sign of such a zero open" (W-201): the same double, or a zero each, whatever their signs.
abbrev pub SameButZeroSign : Float → Float → Type 0
SameButZeroSign x y = (x ≡ y) ⊎ ((s : Bool) × (t : Bool) × (is_zero s x ≡ true) × (is_zero t y ≡ true))
