-- What the steps between unpacking and rounding hand on. Definitions only.
use Rattle.std.specs.Prelude.{◌≡◌, ℕ, ◌%◌, ◌^◌, ◌≤◌, ◌<◌}

-- A magnitude in two words that another may be aligned with and added to: there is room for a carry, the leading bit is at one of two places, and the last four bits are 0.
-- So a right shift by at most four places is exact, and after a longer one the sum or difference still has all the bits that rounding asks for.
pub record Alignable (v : ℕ) : Type 0 where
  pub least : 2 ^ 124 ≤ v
  pub most : v < 2 ^ 126
  pub last_bits : v % 16 ≡ 0
