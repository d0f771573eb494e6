-- What a square root is to the value that it is the root of. Definitions only.
use Rattle.std.specs.Prelude.{ℕ, ◌+◌, ◌*◌, ◌≤◌, ◌<◌, T, Float}
use Rattle.std.specs.Float.{Format}
use Rattle.std.specs.Float.Ieee.{lt, le, fits, size}
use Rattle.std.specs.Float.Ieee.Scale.{finite}
use Rattle.binary64.specs.Constants.{positive_zero}
use Rattle.root.specs.Root.{integer_root, square_root}
use Rattle.root.specs.Middle.{MiddleAtMostRoot, MiddleAtLeastRoot}

-- q is a finite value of the format, and no finite value v of it lies nearer to √x: the middle between v and q is not on v's side of √x (IEEE 754-2019, 4.3.1).
pub record NearestRoot (f : Format) (x q : Float) : Type 0 where
  pub is_finite : T (finite q)
  pub of_format : T (fits f q)
  pub none_below : (v : Float) → T (fits f v) → T (finite v) → T (le positive_zero v) → T (lt v q) → MiddleAtMostRoot x v q
  pub none_above : (v : Float) → T (fits f v) → T (finite v) → T (le positive_zero v) → T (lt q v) → MiddleAtLeastRoot x v q

-- the root of every finite value from zero up, −0 too
abbrev pub RootIsNearest : Type 0
RootIsNearest = (f : Format) (x : Float) → T (fits f x) → T (finite x) → T (le positive_zero x) → NearestRoot f x (square_root f x)

-- Of what is not below zero, −0 and +∞ too, a greater number never has a lower root.
abbrev pub RootKeepsOrder : Type 0
RootKeepsOrder = (f : Format) (x y : Float) → T (le positive_zero x) → T (le x y) → T (le (square_root f x) (square_root f y))

-- The whole number of which `square_root` is made: r * r ≤ n < (r + 1) * (r + 1), with as many steps as n has binary digits.
abbrev pub IntegerRootIsGreatest : Type 0
IntegerRootIsGreatest = (n : ℕ) → (integer_root (size n) n * integer_root (size n) n ≤ n) × (n < (integer_root (size n) n + 1) * (integer_root (size n) n + 1))
