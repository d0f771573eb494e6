-- Conversions between doubles and whole numbers. Definitions only.
use Rattle.std.specs.Prelude.{◌≡◌, ℕ, ◌*◌, ◌%◌, Bool, true, false, cond, if◌then◌else◌, ◌&&◌, ◌⊎◌, ℤ, pos, neg_ℤ, ◌==◌, Float}
use Rattle.std.specs.Float.{nan, inf, fin, binary64}
use Rattle.std.specs.Float.Ieee.{up, down, lt, le, is_nan, of_int, to_signed}
use Rattle.binary64.specs.declared.Conversion.{Conversion}
use Rattle.binary64.specs.declared.Conversion.TheVariants.{Kept, Cut, Held, NotANumber}
use Rattle.binary64.specs.declared.Converted.{Converted}

-- IEEE 754-2019, 5.8: convertToIntegerTowardZero. Where the standard leaves the result open: the nearer end of the range for a value or infinity beyond it, 0 for a NaN.
unfoldable pub to_i64 : Float → ℤ
unfolding to_signed
to_i64 x = to_signed 63 x

-- A whole number with a sign.
abbrev pub signed_whole : Bool → ℕ → ℤ
signed_whole negative n = if negative then neg_ℤ (pos n) else pos n

-- −2 ^ 63, the least number of the range, and 2 ^ 63, the first above it.
abbrev pub least_of_range : Float
least_of_range = fin true 1 (pos 63)

abbrev pub above_range : Float
above_range = fin false 1 (pos 63)

-- Nothing is cut off a value whose magnitude, the fraction m · up e / down e, has no remainder. A zero of either sign has none.
abbrev pub is_whole : Float → Bool
is_whole nan = false
is_whole (inf s) = false
is_whole (fin s m e) = m * up e % down e == 0

-- The four cases of a conversion: the value was kept, cut toward zero, held at an end of the range, or is not a number.
-- In IEEE 754-2019, 5.8: what convertToIntegerExactTowardZero gives exactly; where it signals inexact; and the last two where it signals invalid operation.
abbrev pub CaseHolds : Conversion → Float → Type 0
CaseHolds Kept x = (le least_of_range x ≡ true) × (lt x above_range ≡ true) × (is_whole x ≡ true)
CaseHolds Cut x = (le least_of_range x ≡ true) × (lt x above_range ≡ true) × (is_whole x ≡ false)
CaseHolds Held x = (lt x least_of_range ≡ true) ⊎ (le above_range x ≡ true)
CaseHolds NotANumber x = x ≡ nan

-- The one that holds: exactly one does (`laws::cases_of_a_conversion`).
unfoldable pub conversion_of : Float → Conversion
unfolding is_nan lt le
conversion_of x = cond (is_nan x) NotANumber (cond (lt x above_range && le least_of_range x) (cond (is_whole x) Kept Cut) Held)

-- The whole answer of a conversion.
unfoldable pub converted_of : Float → Converted
unfolding to_i64 conversion_of
converted_of x = record { whole = to_i64 x; how = conversion_of x }

-- IEEE 754-2019, 5.4.1: convertFromInt. The numbers here are below 2^53, and so converted exactly.
abbrev pub whole : ℕ → Float
whole k = of_int binary64 (pos k)
