-- Laws of this crate's definitions, as statements: each is a clause of a function of `laws`.
use Rattle.std.specs.Prelude.{◌≡◌, ◌≢◌, ℕ, ◌-◌, ◌/◌, ◌%◌, ◌^◌, ◌<◌, min, Bool, true, false, ◌||◌, T, ◌⊎◌, pos, negsuc, nat_le, Float}
use Rattle.std.specs.Float.{nan, fin, binary64, NotNan, ◌≤ᶠ◌}
use Rattle.std.specs.Float.Ieee.{lt, le, fits, nan_bits}
use lib.Ieee.Exact.{HasValue}
use Rattle.binary64.specs.declared.Conversion.{Conversion}
use Rattle.binary64.specs.declared.Conversion.TheVariants.{Cut, Held, Kept}
use Rattle.binary64.specs.Convert.{to_i64, signed_whole, least_of_range, above_range, CaseHolds, conversion_of}
use Rattle.binary64.specs.Minimum.{minimum_number}
use Rattle.binary64.specs.Integral.{Toward, away_from_zero, whole_magnitude, round_to_integral, floor_of, ceil_of}
use Rattle.binary64.specs.TotalOrder.{is_negative, total_order, StrictlyBelow, rank_of_bits, rank_of}

-- A value that binary64 has.
abbrev pub IsDouble : Float → Type 0
IsDouble x = T (fits binary64 x)

-- ---- the conversion to a whole number (IEEE 754-2019, 5.8)

-- The case that is told holds.
abbrev pub ToldCaseHolds : Type 0
ToldCaseHolds = (x : Float) → CaseHolds (conversion_of x) x

-- No other case holds.
abbrev pub NoOtherCaseHolds : Type 0
NoOtherCaseHolds = (x : Float) (how : Conversion) → CaseHolds how x → how ≡ conversion_of x

-- Of a value held at an end, which lies beyond the range, the whole number is the end on its side.
abbrev pub HeldIsAnEnd : Type 0
HeldIsAnEnd =
    (x : Float) → conversion_of x ≡ Held
    → ((lt x least_of_range ≡ true) × (to_i64 x ≡ negsuc (2 ^ 63 - 1))) ⊎ ((le above_range x ≡ true) × (to_i64 x ≡ pos (2 ^ 63 - 1)))

-- Of a value kept, the whole number is that value.
abbrev pub KeptIsTheValue : Type 0
KeptIsTheValue = (x : Float) → conversion_of x ≡ Kept → (s : Bool) × (n : ℕ) × HasValue x s n 1 × (to_i64 x ≡ signed_whole s n)

-- A value cut is no whole number, a / c in size, and its whole part with its sign is left.
abbrev pub CutIsTowardZero : Type 0
CutIsTowardZero =
    (x : Float) → conversion_of x ≡ Cut
    → (s : Bool) × (a : ℕ) × (c : ℕ) × (0 < c) × HasValue x s a c × (a % c ≢ 0) × (to_i64 x ≡ signed_whole s (a / c))

-- ---- minimumNumber (IEEE 754-2019, 9.6)

-- −0 where either zero is −0, whichever comes first.
abbrev pub MinimumOfZeros : Type 0
MinimumOfZeros = (s t : Bool) → minimum_number (fin s 0 (pos 0)) (fin t 0 (pos 0)) ≡ fin (s || t) 0 (pos 0)

-- Of a NaN and another operand, the other, which may be a NaN too.
abbrev pub MinimumSkipsNan : Type 0
MinimumSkipsNan = (x : Float) → (minimum_number x nan ≡ x) × (minimum_number nan x ≡ x)

abbrev pub MinimumCommutes : Type 0
MinimumCommutes = (x y : Float) → IsDouble x → IsDouble y → minimum_number x y ≡ minimum_number y x

abbrev pub MinimumAssociates : Type 0
MinimumAssociates =
    (x y z : Float) → IsDouble x → IsDouble y → IsDouble z
    → minimum_number (minimum_number x y) z ≡ minimum_number x (minimum_number y z)

-- Its place in the total order is the lesser of the operands' places: a NaN counts as a positive one, and so as greater than every number.
abbrev pub MinimumHasLesserRank : Type 0
MinimumHasLesserRank = (x y : Float) → IsDouble x → IsDouble y → rank_of (minimum_number x y) ≡ min (rank_of x) (rank_of y)

-- ---- floor and ceiling (IEEE 754-2019, 5.9)

abbrev pub FloorNotAbove : Type 0
FloorNotAbove = (x : Float) → IsDouble x → NotNan x → floor_of x ≤ᶠ x

-- No whole number that is not above x is above the floor of x.
abbrev pub FloorGreatest : Type 0
FloorGreatest = (x y : Float) (s : Bool) (n : ℕ) → IsDouble x → HasValue y s n 1 → y ≤ᶠ x → y ≤ᶠ floor_of x

abbrev pub CeilNotBelow : Type 0
CeilNotBelow = (x : Float) → IsDouble x → NotNan x → x ≤ᶠ ceil_of x

-- No whole number that is not below x is below the ceiling of x.
abbrev pub CeilLeast : Type 0
CeilLeast = (x y : Float) (s : Bool) (n : ℕ) → IsDouble x → HasValue y s n 1 → x ≤ᶠ y → ceil_of x ≤ᶠ y

-- Of a number a / c in size, floor and ceiling are the whole number in their direction, exactly: nothing is rounded off it, and the sign stays.
abbrev pub IntegralExact : Type 0
IntegralExact =
    (d : Toward) (x : Float) (s : Bool) (a c : ℕ) → IsDouble x → 0 < c → HasValue x s a c
    → HasValue (round_to_integral d x) s (whole_magnitude (away_from_zero d s) a c) 1

-- ---- the total order (IEEE 754-2019, 5.10)

-- A bit pattern as a number.
abbrev pub IsPattern : ℕ → Type 0
IsPattern b = b < 2 ^ 64

abbrev pub TotalOrderReflexive : Type 0
TotalOrderReflexive = (x : ℕ) → IsPattern x → total_order x x ≡ true

abbrev pub TotalOrderTotal : Type 0
TotalOrderTotal = (x y : ℕ) → IsPattern x → IsPattern y → (total_order x y ≡ true) ⊎ (total_order y x ≡ true)

abbrev pub TotalOrderAntisymmetric : Type 0
TotalOrderAntisymmetric = (x y : ℕ) → IsPattern x → IsPattern y → total_order x y ≡ true → total_order y x ≡ true → x ≡ y

abbrev pub TotalOrderTransitive : Type 0
TotalOrderTransitive =
    (x y z : ℕ) → IsPattern x → IsPattern y → IsPattern z → total_order x y ≡ true → total_order y z ≡ true → total_order x z ≡ true

-- The order is that of the ranks, which are the numbers below 2 ^ 64, each one pattern's.
abbrev pub TotalOrderByRank : Type 0
TotalOrderByRank = (x y : ℕ) → IsPattern x → IsPattern y → total_order x y ≡ nat_le (rank_of_bits x) (rank_of_bits y)

abbrev pub RankBelow : Type 0
RankBelow = (b : ℕ) → IsPattern b → rank_of_bits b < 2 ^ 64

abbrev pub RankInjective : Type 0
RankInjective = (x y : ℕ) → IsPattern x → IsPattern y → rank_of_bits x ≡ rank_of_bits y → x ≡ y

abbrev pub RankOnto : Type 0
RankOnto = (r : ℕ) → r < 2 ^ 64 → (b : ℕ) × IsPattern b × (rank_of_bits b ≡ r)

-- −NaN < −∞ < −0 < +0 < +∞ < +NaN, for every NaN's pattern.
pub record SpecialDataInOrder : Type 0 where
  pub negative_nan : (x : ℕ) → IsPattern x → nan_bits binary64 x ≡ true → is_negative x ≡ true → StrictlyBelow x 0xfff0_0000_0000_0000
  pub negative_infinity : StrictlyBelow 0xfff0_0000_0000_0000 0x8000_0000_0000_0000
  pub zeros : StrictlyBelow 0x8000_0000_0000_0000 0
  pub positive_infinity : StrictlyBelow 0 0x7ff0_0000_0000_0000
  pub positive_nan : (x : ℕ) → IsPattern x → nan_bits binary64 x ≡ true → is_negative x ≡ false → StrictlyBelow 0x7ff0_0000_0000_0000 x
