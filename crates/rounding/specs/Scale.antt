-- Exponents as natural numbers. Definitions only.
-- A significand m and an exponent e stand for m * 2 ^ e in units of 2 ^ -scale, so that no exponent is below 0. Each stage has its own scale.
use Rattle.std.specs.Prelude.{ℕ, ◌+◌}
use Rattle.std.specs.Float.{binary64}
use Rattle.std.specs.Float.Ieee.{low}

-- An unpacked significand of at most 53 bits: 2 ^ -1074 is the smallest positive value of binary64 (IEEE 754-2019, 3.3).
abbrev pub unpacked_scale : ℕ
unpacked_scale = low binary64

-- A significand brought to the top bit of a word: a left shift of at most 64 is made up for.
abbrev pub normalised_scale : ℕ
normalised_scale = unpacked_scale + 64

-- The product of two such significands, in two words.
abbrev pub product_scale : ℕ
product_scale = normalised_scale + normalised_scale

-- The high one of two such words alone.
abbrev pub high_word_scale : ℕ
high_word_scale = product_scale + 64
