-- Conversion to a format, either one, is roundTiesToEven (IEEE 754-2019, 4.3.1) of the value, and keeps the order. Assumes nothing.
use Prim.Native.Nat.{ℕ, ◌*◌, ◌%◌, ◌≤◌}
use native.Mathlib.Nat.{zero-mul}
use mathlib.Core.Path.{◌≡◌, refl}
use mathlib.Core.Bool.{Bool}
use lib.IntN.{ℤ, pos}
use lib.Dec.{T}
use lib.Ieee.{Float, nan, inf, fin, Format, up, down, neg, ne, le, fits, to_bits}
use lib.Ieee.Fits.{down_pos, nan-fits, inf-fits, round-fits}
use lib.Ieee.Positive.{den}
use lib.Ieee.Scale.{finite}
use Rattle.std.specs.Float as library
use Rattle.rounding.specs.TiesToEven.{distance, Overflows, InRange}
use Rattle.binary64.proofs.SignedOrder.{signed_of_finite}
use Rattle.rounding.proofs.Monotone.{round_monotone, monotone_to_infinities}
use Rattle.rounding.proofs.Neutral.{round_own}
use Rattle.rounding.proofs.Sum.{round_zero}
use Rattle.rounding.proofs.TiesToEven.{round_nearest, round_tie_even, round_overflows, round_finite, round_negates}
use Rattle.binary32.specs.Convert.{convert_format}

-- the library's word for the same
pub convert_is_library : (f : Format) (x : Float) → library.round_to_format f x ≡ convert_format f x
unfolding convert_format library.round_to_format
convert_is_library f nan = refl
convert_is_library f (inf s) = refl
convert_is_library f (fin s m e) = refl

-- the result is a value of the format
pub convert_fits : (f : Format) (x : Float) → T (fits f (convert_format f x))
unfolding convert_format
convert_fits f nan = nan-fits f
convert_fits f (inf s) = inf-fits f s
convert_fits f (fin s m e) = round-fits f s (m * up e) (down e)

-- Of a finite number, m * 2 ^ e with the sign s. From the threshold on it is an infinity of that sign, and below it finite.
module _ (f : Format) (s : Bool) (m : ℕ) (e : ℤ) where
  pub convert_overflows : Overflows f (m * up e) (down e) → convert_format f (fin s m e) ≡ inf s
  unfolding convert_format
  convert_overflows h = round_overflows f s (m * up e) (down e) (down_pos e) h

  pub convert_finite : InRange f (m * up e) (down e) → T (finite (convert_format f (fin s m e)))
  unfolding convert_format
  convert_finite h = round_finite f s (m * up e) (down e) (down_pos e) h

  -- no finite value of the format lies nearer
  pub convert_nearest : InRange f (m * up e) (down e) → (v : Float) → T (fits f v) → T (finite v)
      → distance s (m * up e) (down e) (convert_format f (fin s m e)) * den v ≤ distance s (m * up e) (down e) v * den (convert_format f (fin s m e))
  unfolding convert_format
  convert_nearest h v t u = round_nearest f s (m * up e) (down e) (down_pos e) h v t u

  -- where another lies as near, the last digit of the result is even
  pub convert_tie_even : InRange f (m * up e) (down e) → (v : Float) → T (fits f v) → T (finite v) → T (ne v (convert_format f (fin s m e)))
      → distance s (m * up e) (down e) (convert_format f (fin s m e)) * den v ≡ distance s (m * up e) (down e) v * den (convert_format f (fin s m e))
      → to_bits f (convert_format f (fin s m e)) % 2 ≡ 0
  unfolding convert_format
  convert_tie_even h v t u n d = round_tie_even f s (m * up e) (down e) (down_pos e) h v t u n d

-- a zero keeps its sign
pub convert_zero : (f : Format) (s : Bool) (e : ℤ) → convert_format f (fin s 0 e) ≡ fin s 0 (pos 0)
unfolding convert_format
convert_zero f s e = rw (zero-mul (up e)) (round_zero f s (down e) (down_pos e))

-- a value of the format stays
pub convert_own : (f : Format) (x : Float) → T (fits f x) → convert_format f x ≡ x
unfolding convert_format
convert_own f nan h = refl
convert_own f (inf s) h = refl
convert_own f (fin s m e) h = round_own f s m e h

-- of the opposite the opposite
pub convert_negates : (f : Format) (x : Float) → convert_format f (neg x) ≡ neg (convert_format f x)
unfolding convert_format neg
convert_negates f nan = refl
convert_negates f (inf s) = refl
convert_negates f (fin s m e) = round_negates f s (m * up e) (down e)

-- infinities stay, so that what holds of finite numbers holds of all
convert_infinity : (f : Format) (s : Bool) → convert_format f (inf s) ≡ inf s
unfolding convert_format
convert_infinity f s = refl

convert_grows : (f : Format) (x y : Float) → T (finite x) → T (finite y) → T (le x y) → T (le (convert_format f x) (convert_format f y))
unfolding convert_format
convert_grows f (fin s m e) (fin t n d) X Y h = round_monotone f s (m * up e) (down e) t (n * up d) (down d) (down_pos e) (down_pos d) (signed_of_finite s m e t n d h)
convert_grows f nan y X Y h = elim X [ ]
convert_grows f (inf _) y X Y h = elim X [ ]
convert_grows f (fin s m e) nan X Y h = elim Y [ ]
convert_grows f (fin s m e) (inf _) X Y h = elim Y [ ]

pub convert_monotone : (f : Format) (x y : Float) → T (le x y) → T (le (convert_format f x) (convert_format f y))
convert_monotone f x y h = monotone_to_infinities (convert_format f) (convert_infinity f) (convert_grows f) x y h
