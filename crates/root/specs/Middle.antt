-- Where the middle between two values lies, seen from the square root of a third: over whole numbers, with each finite value x as the fraction num x / den x. Definitions only.
use Rattle.std.specs.Prelude.{ℕ, ◌+◌, ◌*◌, ◌≤◌, Float}
use Rattle.std.specs.Float.Ieee.Positive.{num, den}

-- v + q is sum_over v q / (den v * den q)
abbrev pub sum_over : Float → Float → ℕ
sum_over v q = num v * den q + num q * den v

-- (v + q)² ≤ 4x: the middle between v and q is not above √x (IEEE 754-2019, 5.4.1 with 4.3.1: the root is rounded to nearest)
abbrev pub MiddleAtMostRoot : Float → Float → Float → Type 0
MiddleAtMostRoot x v q = sum_over v q * sum_over v q * den x ≤ 4 * num x * (den v * den q * (den v * den q))

-- 4x ≤ (v + q)²: it is not below √x
abbrev pub MiddleAtLeastRoot : Float → Float → Float → Type 0
MiddleAtLeastRoot x v q = 4 * num x * (den v * den q * (den v * den q)) ≤ sum_over v q * sum_over v q * den x
