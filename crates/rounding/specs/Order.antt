-- Rounding keeps the order of what it rounds (IEEE 754-2019, 4.3.1), and so do the operations that round once, in either format. Definitions only.
use Rattle.std.specs.Prelude.{ℕ, ◌+◌, ◌*◌, ◌≤◌, ◌<◌, Bool, true, false, T, Float}
use Rattle.std.specs.Float.{Format}
use Rattle.std.specs.Float.Ieee.{round, add, mul, div, le}
use Rattle.std.specs.Float.Ieee.Scale.{finite}
use Rattle.std.specs.Float.Ieee.Positive.{positive}
use Rattle.binary64.specs.Absolute.{abs}
use Rattle.binary64.specs.Constants.{positive_zero}

-- ±a is at most ±b; the two zeros are equal.
abbrev pub SignedAtMost : Bool → ℕ → Bool → ℕ → Type 0
SignedAtMost false a false b = a ≤ b
SignedAtMost false a true b = a + b ≤ 0
SignedAtMost true a false b = Unit
SignedAtMost true a true b = b ≤ a

-- where ±a / c is at most ±b / d, so is what it rounds to
abbrev pub RoundingKeepsOrder : Type 0
RoundingKeepsOrder = (f : Format) (s : Bool) (a c : ℕ) (t : Bool) (b d : ℕ) → 0 < c → 0 < d → SignedAtMost s (a * d) t (b * c) → T (le (round f s a c) (round f t b d))

-- a sum of finite numbers, in both of its terms
abbrev pub SumKeepsOrder : Type 0
SumKeepsOrder = (f : Format) (x x' y y' : Float) → T (finite x) → T (finite x') → T (finite y) → T (finite y') → T (le x x') → T (le y y') → T (le (add f x y) (add f x' y'))

-- a product beside a finite factor above zero
abbrev pub ProductKeepsOrder : Type 0
ProductKeepsOrder = (f : Format) (x x' y : Float) → T (positive y) → T (le x x') → T (le (mul f x y) (mul f x' y))

-- a square, in the size of its finite factor
abbrev pub SquareKeepsOrder : Type 0
SquareKeepsOrder = (f : Format) (x y : Float) → T (finite x) → T (finite y) → T (le (abs x) (abs y)) → T (le (mul f x x) (mul f y y))

-- a quotient of finite numbers by one above zero
abbrev pub QuotientKeepsOrder : Type 0
QuotientKeepsOrder = (f : Format) (x x' y : Float) → T (finite x) → T (finite x') → T (positive y) → T (le x x') → T (le (div f x y) (div f x' y))

-- and by a greater one: the quotient of what is not below zero is no greater
abbrev pub DivisorTurnsOrder : Type 0
DivisorTurnsOrder = (f : Format) (x y y' : Float) → T (finite x) → T (le positive_zero x) → T (positive y) → T (positive y') → T (le y y') → T (le (div f x y') (div f x y))
