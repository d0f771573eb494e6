-- The words in which IEEE 754-2019, 4.3.1 describes roundTiesToEven, over whole numbers. Definitions only.
use Rattle.std.specs.Prelude.{◌≡◌, ℕ, suc, ◌+◌, ◌-◌, ◌*◌, ◌%◌, ◌^◌, ◌≤◌, ◌<◌, Bool, cond, not, T, Float}
use Rattle.std.specs.Bool.{beq}
use Rattle.std.specs.Float.{nan, inf, fin, Format}
use Rattle.std.specs.Float.Ieee.{prec, emax, up, down, round, neg, ne, fits, to_bits}
use Rattle.std.specs.Float.Ieee.Scale.{finite}
use Rattle.std.specs.Float.Ieee.Positive.{den}

-- |a − b|
abbrev pub abs_diff : ℕ → ℕ → ℕ
abs_diff a b = (a - b) + (b - a)

-- How far the finite value v lies from num / den with the sign s, as a numerator over den times v's own denominator (IEEE 754-2019, 4.3.1: "nearest to the infinitely precise result").
-- Two numbers of unlike signs lie as far apart as their sizes together. Of an infinity and a NaN it says nothing: what is stated with it below says of each value that it is finite.
unfoldable pub distance : Bool → ℕ → ℕ → Float → ℕ
distance s num den nan = 0
distance s num den (inf t) = 0
distance s num den (fin t m e) = cond (beq s t) (abs_diff (num * down e) (m * up e * den)) (num * down e + m * up e * den)

-- 2 ^ emax * (2 − 2 ^ −prec) times 2 ^ prec: IEEE 754-2019, 4.3.1 rounds to an infinity from b ^ emax × (b − ½ b ^ (1 − p)) on, which for binary64 is 2 ^ 1023 * (2 − 2 ^ −53).
abbrev pub overflow_threshold : Format → ℕ
overflow_threshold f = 2 ^ emax f * (2 ^ suc (prec f) - 1)

-- num / den reaches that threshold, and lies below it
abbrev pub Overflows : Format → ℕ → ℕ → Type 0
Overflows f num den = overflow_threshold f * den ≤ num * 2 ^ prec f

abbrev pub InRange : Format → ℕ → ℕ → Type 0
InRange f num den = num * 2 ^ prec f < overflow_threshold f * den

-- num / den with the sign s, rounded to q: a finite value of the format than which no finite value of the format lies nearer; where another lies as near, the last digit of q's encoding is 0.
pub record RoundedToEven (f : Format) (s : Bool) (num denom : ℕ) (q : Float) : Type 0 where
  pub is_finite : T (finite q)
  pub of_format : T (fits f q)
  pub none_nearer : (v : Float) → T (fits f v) → T (finite v) → distance s num denom q * den v ≤ distance s num denom v * den q
  pub tie_even : (v : Float) → T (fits f v) → T (finite v) → T (ne v q) → distance s num denom q * den v ≡ distance s num denom v * den q → to_bits f q % 2 ≡ 0

-- IEEE 754-2019, 4.3.1, roundTiesToEven: below the threshold
abbrev pub RoundsToEven : Type 0
RoundsToEven = (f : Format) (s : Bool) (num denom : ℕ) → 0 < denom → InRange f num denom → RoundedToEven f s num denom (round f s num denom)

-- from the threshold on: an infinity with the number's sign
abbrev pub RoundsToInfinity : Type 0
RoundsToInfinity = (f : Format) (s : Bool) (num denom : ℕ) → 0 < denom → Overflows f num denom → round f s num denom ≡ inf s

-- and of either sign alike
abbrev pub RoundsNegated : Type 0
RoundsNegated = (f : Format) (s : Bool) (num denom : ℕ) → round f (not s) num denom ≡ neg (round f s num denom)
