-- Square root. Definitions only.
use Rattle.std.specs.Prelude.{ℕ, zero, suc, ◌+◌, ◌*◌, ◌/◌, ◌^◌, false, cond, ◌==◌, nat_le, Float}
use Rattle.std.specs.Float.{nan, inf, fin, Format}
use Rattle.std.specs.Float.Ieee.{low, up, down, size, round}

-- The integer square root of n, for an n below 4 ^ k: the greatest r with r * r ≤ n. Twice that of n / 4, or one more.
unfoldable pub integer_root : ℕ → ℕ → ℕ
integer_root zero n = 0
integer_root (suc k) n = let r = 2 * integer_root k (n / 4) in cond (nat_le ((r + 1) * (r + 1)) n) (r + 1) r

-- √n in halves, for r the integer square root of n: 2r where r * r is n, and otherwise 2r + 1 for the √n that lies strictly between r and r + 1.
abbrev pub root_in_halves : ℕ → ℕ → ℕ
root_in_halves n r = cond (r * r == n) (2 * r) (2 * r + 1)

-- The root of n / 4 ^ low, that is √n in units of the format's smallest value 2 ^ -low, rounded to nearest, ties to even (IEEE 754-2019, 4.3.1).
-- No value of the format, and no middle between two neighbours of it, lies strictly between r and r + 1 units where √n is, so 2r + 1 halves round as √n does.
-- That the result is nearest is the theorem `square_root_nearest`.
unfoldable pub scaled_root : Format → ℕ → Float
unfolding round integer_root size
scaled_root f n = round f false (root_in_halves n (integer_root (size n) n)) (2 ^ (low f + 1))

-- IEEE 754-2019, 5.4.1: squareRoot. A zero is its own root, −0 too (6.3); the root of a number below zero is invalid, so NaN (7.2 g)); +∞ is its own root (6.1).
-- m * 2 ^ e times 4 ^ low is a whole number for any value of the format.
unfoldable pub square_root : Format → Float → Float
unfolding scaled_root
square_root f nan = nan
square_root f (inf s) = cond s nan (inf false)
square_root f (fin s zero e) = fin s zero e
square_root f (fin s (suc m) e) = cond s nan (scaled_root f (suc m * up e * 2 ^ (low f + low f) / down e))
