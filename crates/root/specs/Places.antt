-- The places by which the steps of a root differ, each as the sum that gives it. Definitions only.
use Rattle.std.specs.Prelude.{ℕ, suc, ◌+◌, ◌-◌, ◌*◌, ◌/◌}
use Rattle.std.specs.Float.{binary64}
use Rattle.std.specs.Float.Ieee.{prec}
use Rattle.rounding.specs.Scale.{unpacked_scale, normalised_scale, high_word_scale}

-- A root has one digit for two of its radicand's: behind a word of 64 these zeros give it so many digits.
abbrev pub zeros_for : ℕ → ℕ
zeros_for digits = 2 * digits - 64

-- for the digits of a significand, and for one more
abbrev pub significand_zeros : ℕ
significand_zeros = zeros_for (prec binary64)

abbrev pub root_zeros : ℕ
root_zeros = zeros_for (suc (prec binary64))

-- The exponents of such roots, the one where 2 ^ -unpacked_scale is the unit and the other in the scale of a high word: the root of 2 ^ normalised_scale is taken off, and that of the zeros.
abbrev pub significand_place : ℕ
significand_place = unpacked_scale - normalised_scale / 2 - significand_zeros / 2

abbrev pub root_place : ℕ
root_place = high_word_scale - normalised_scale / 2 - root_zeros / 2

-- From the scale of a normalised significand to units of 4 ^ -unpacked_scale, in which `scaled_root` has its number.
abbrev pub squared_place : ℕ
squared_place = unpacked_scale + unpacked_scale - normalised_scale
