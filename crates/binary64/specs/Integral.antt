-- Rounding a double to an integral value in a named direction. Definitions only.
use Rattle.std.specs.Prelude.{ℕ, ◌+◌, ◌*◌, ◌/◌, ◌%◌, Bool, cond, not, ◌&&◌, ◌==◌, Float}
use Rattle.std.specs.Float.{nan, inf, fin, binary64}
use Rattle.std.specs.Float.Ieee.{up, down, round}

-- IEEE 754-2019, 4.3.2: the directed roundings that 5.9 names here, roundTowardNegative and roundTowardPositive.
pub data Toward : Type 0 where
  negative positive : Toward

-- Whether a number of the sign s is rounded away from zero.
abbrev pub away_from_zero : Toward → Bool → Bool
away_from_zero negative s = s
away_from_zero positive s = not s

-- The magnitude a / c as a whole number: cut, and the next one up where something is cut off and the rounding is away from zero.
abbrev pub whole_magnitude : Bool → ℕ → ℕ → ℕ
whole_magnitude away a c = a / c + cond (away && not (a % c == 0)) 1 0

-- IEEE 754-2019, 5.9: roundToIntegralTowardNegative and roundToIntegralTowardPositive. The sign stays, also that of a zero (6.3); an infinity stays (5.9's own sentence), and so does a NaN (6.2).
-- The whole magnitude is a value of the format, so that `round` changes nothing (`integral_exact`).
unfoldable pub round_to_integral : Toward → Float → Float
unfolding round
round_to_integral d nan = nan
round_to_integral d (inf s) = inf s
round_to_integral d (fin s m e) = round binary64 s (whole_magnitude (away_from_zero d s) (m * up e) (down e)) 1

abbrev pub floor_of : Float → Float
floor_of x = round_to_integral negative x

abbrev pub ceil_of : Float → Float
ceil_of x = round_to_integral positive x
