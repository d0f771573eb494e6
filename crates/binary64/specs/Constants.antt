-- The three constants that the papers' steps have by name. Definitions only.
use Rattle.std.specs.Prelude.{from_bits, Float}
use Rattle.std.specs.Float.{binary64}

-- +0, 1 and 0.5 by their encodings (IEEE 754-2019, 3.4), as a literal of the code is such a datum. Their values are those of every format.
abbrev pub positive_zero : Float
positive_zero = from_bits binary64 0

abbrev pub one : Float
one = from_bits binary64 0x3ff0000000000000

abbrev pub half : Float
half = from_bits binary64 0x3fe0000000000000
