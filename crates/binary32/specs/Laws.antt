-- What conversion to a format is, in either one and of every value. Definitions only.
use Rattle.std.specs.Prelude.{ℕ, ℤ, pos, ◌*◌, ◌≡◌, Bool, T, Float, [], ◌∷◌, map}
use Rattle.std.specs.Float.{nan, inf, fin, Format, binary32, binary64}
use Rattle.std.specs.Float.Ieee.{up, down, neg, le, fits, of_bits, to_bits}
use Rattle.rounding.specs.TiesToEven.{Overflows, InRange, RoundedToEven}
use Rattle.binary32.specs.Convert.{convert_format}

-- ---- finite numbers, m * 2 ^ e with the sign s (IEEE 754-2019, 4.3.1)
-- below the threshold: a finite value of the format than which none lies nearer, and the one with an even last digit where another lies as near
abbrev pub ConvertsToEven : Type 0
ConvertsToEven = (f : Format) (s : Bool) (m : ℕ) (e : ℤ) → InRange f (m * up e) (down e) → RoundedToEven f s (m * up e) (down e) (convert_format f (fin s m e))

-- from the threshold on: an infinity with the number's sign
abbrev pub ConvertsToInfinity : Type 0
ConvertsToInfinity = (f : Format) (s : Bool) (m : ℕ) (e : ℤ) → Overflows f (m * up e) (down e) → convert_format f (fin s m e) ≡ inf s

-- a zero keeps its sign
abbrev pub ZeroKeepsSign : Type 0
ZeroKeepsSign = (f : Format) (s : Bool) (e : ℤ) → convert_format f (fin s 0 e) ≡ fin s 0 (pos 0)

-- ---- all values (IEEE 754-2019, 5.4.2)
abbrev pub InfinityStays : Type 0
InfinityStays = (f : Format) (s : Bool) → convert_format f (inf s) ≡ inf s

abbrev pub NanStays : Type 0
NanStays = (f : Format) → convert_format f nan ≡ nan

-- a value of the format stays as it is
abbrev pub OwnValueStays : Type 0
OwnValueStays = (f : Format) (x : Float) → T (fits f x) → convert_format f x ≡ x

-- of either sign alike
abbrev pub ConvertsNegated : Type 0
ConvertsNegated = (f : Format) (x : Float) → convert_format f (neg x) ≡ neg (convert_format f x)

-- what comes out is a value of the format
abbrev pub ConvertedFits : Type 0
ConvertedFits = (f : Format) (x : Float) → T (fits f (convert_format f x))

-- a greater number, an infinity too, never gives a lesser one
abbrev pub ConversionKeepsOrder : Type 0
ConversionKeepsOrder = (f : Format) (x y : Float) → T (le x y) → T (le (convert_format f x) (convert_format f y))

-- ---- worked cases, by bit patterns
-- the binary32 that a double is converted to
abbrev pub converted_bits : ℕ → ℕ
converted_bits bits = to_bits binary32 (convert_format binary32 (of_bits binary64 bits))

pub record WorkedConversions : Type 0 where
  -- 0.1, and −0
  pub plain : map converted_bits (0x3fb999999999999a ∷ 0x8000000000000000 ∷ []) ≡ 0x3dcccccd ∷ 0x80000000 ∷ []
  -- 1 + 2 ^ −24 and 1 + 3 * 2 ^ −24 lie halfway between two binary32
  pub ties : map converted_bits (0x3ff0000010000000 ∷ 0x3ff0000030000000 ∷ []) ≡ 0x3f800000 ∷ 0x3f800002 ∷ []
  -- 2 ^ −150 is half of the smallest binary32, and the next double is above it; 3 * 2 ^ −150 is halfway between the smallest and the next; −2 ^ −151
  pub subnormal : map converted_bits (0x3690000000000000 ∷ 0x3690000000000001 ∷ 0x36a8000000000000 ∷ 0xb680000000000000 ∷ []) ≡ 0 ∷ 1 ∷ 2 ∷ 0x80000000 ∷ []
  -- the last double below 2 ^ 128 - 2 ^ 103, which gives the greatest finite binary32, and that number itself
  pub overflow : map converted_bits (0x47efffffefffffff ∷ 0x47effffff0000000 ∷ []) ≡ 0x7f7fffff ∷ 0x7f800000 ∷ []
  -- both infinities, and a NaN
  pub special : map converted_bits (0x7ff0000000000000 ∷ 0xfff0000000000000 ∷ 0x7ff8000000000000 ∷ []) ≡ 0x7f800000 ∷ 0xff800000 ∷ 0x7fc00000 ∷ []
