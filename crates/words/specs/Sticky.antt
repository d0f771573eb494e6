-- What a right shift that keeps a sticky bit preserves. Definitions only.
use Rattle.std.specs.Prelude.{◌≡◌, ℕ, ◌*◌, ◌/◌, ◌%◌}

-- The whole number t stands for the fraction n / d among the multiples of `unit`: both have the same whole number of units, and one is a multiple of the unit exactly where the other is.
-- So each multiple of the unit compares with t as it does with n / d, which is all that rounding asks (IEEE 754-2019, 4.3.1).
-- A right shift by k places whose last bit is also set where a 1 was shifted out, the sticky bit, gives the one t for n / 2 ^ k at the unit 2.
pub record StickyEquivalent (unit d n t : ℕ) : Type 0 where
  pub quotient : n / (d * unit) ≡ t / unit
  pub exact : n % (d * unit) ≡ 0 → t % unit ≡ 0
  pub only_exact : t % unit ≡ 0 → n % (d * unit) ≡ 0
