-- A vector that rows 5 and 9 let pass, normalised, passes them again: `admissible_normalised`. The ends of these rows lie far from 1, so that no error of a rounding has to be known, only that each keeps the order: four bands of squared lengths between powers of two, and in each the ends of the components are worked out. Assumes nothing.
use mathlib.Core.Path.{◌≡◌, refl, subst}
use mathlib.Core.Logic.{inl, inr}
use mathlib.Core.Bool.{true, false}
use lib.Dec.{T}
use lib.IntN.{ℤ, pos, negsuc}
use lib.Ieee.{Float, fin, binary64, add, mul, div, lt, le, round, is_nan}
use lib.Ieee.Bits.{is_true, is_false}
use lib.Ieee.Positive.{positive, between}
use lib.Ieee.Scale.{finite}
use Rattle.std.proofs.lemmas.Float.{T_from_true, le_right, le_trans, lt_of_lt_of_le, lt_of_le_of_lt}
use Rattle.binary64.proofs.FloatOrder.{le_total}
use Rattle.root.specs.Root.{square_root}
use Rattle.root.proofs.Monotone.{square_root_monotone}
use Rattle.vector.specs.declared.Vector3.{Vector3}
use Rattle.vector.specs.Vector.{squared_length, length_of, normalized}
use Rattle.vector.specs.Direction.{admissible, least_squared_length}
use Rattle.vector.proofs.Admissible.{Finite, Admissible, admissible_parts}
use Rattle.vector.proofs.Extent.{Within, Reaches, three_squares, within_of_squared_length, reaches_of_squared_length, quotient_within, quotient_reaches, admissible_of_extent}

abbrev two_to : ℤ → Float
two_to e = fin false 1 e

-- ---- a band: a squared length from low² to high², so a length from low to high, and components of which one is at least `shortest` and none above `longest`. What is asked of these four is evaluated below.
module _ (low high shortest longest : Float) (L : T (positive low)) (H : T (positive high)) (S : T (positive shortest)) (M : T (positive longest))
    (low-not-below : T (le (fin false 0 (pos 0)) (mul binary64 low low))) (root-low : square_root binary64 (mul binary64 low low) ≡ low) (root-high : square_root binary64 (mul binary64 high high) ≡ high)
    (beyond : lt (mul binary64 high high) (mul binary64 longest longest) ≡ true) (short : lt (three_squares shortest) (mul binary64 low low) ≡ true)
    (one-finite : T (finite (mul binary64 shortest shortest))) (two_finite : T (finite (add binary64 (mul binary64 shortest shortest) (mul binary64 shortest shortest))))
    (least : div binary64 shortest high ≡ two_to (negsuc 10)) (most : div binary64 longest low ≡ two_to (pos 11))
    (v : Vector3) (f : Finite v) (not_below : T (le (mul binary64 low low) (squared_length v))) (not_above : T (le (squared_length v) (mul binary64 high high))) where
  length_not_below : T (le low (length_of v))
  length_not_below = subst (λ (z : Float). T (le z (length_of v))) root-low (square_root_monotone binary64 (mul binary64 low low) (squared_length v) low-not-below not_below)

  length_not_above : T (le (length_of v) high)
  length_not_above = subst (λ (z : Float). T (le (length_of v) z)) root-high (square_root_monotone binary64 (squared_length v) (mul binary64 high high) (le_trans _ _ _ low-not-below not_below) not_above)

  length_positive : T (positive (length_of v))
  length_positive = between low (length_of v) high L H length_not_below length_not_above

  normalized_within : Within (two_to (pos 11)) (normalized v)
  normalized_within =
      subst (λ (z : Float). Within z (normalized v)) most
      (quotient_within v longest (length_of v) low M length_positive L length_not_below
      (within_of_squared_length v longest M f (is_true _ (lt_of_le_of_lt (squared_length v) (mul binary64 high high) (mul binary64 longest longest) not_above (T_from_true _ beyond)))))

  normalized_reaches : Reaches (two_to (negsuc 10)) (normalized v)
  normalized_reaches =
      subst (λ (z : Float). Reaches z (normalized v)) least
      (quotient_reaches v shortest (length_of v) high f S length_positive H length_not_above
      (reaches_of_squared_length v shortest S one-finite two_finite f (is_true _ (lt_of_lt_of_le (three_squares shortest) (mul binary64 low low) (squared_length v) (T_from_true _ short) not_below))))

  in_band : T (admissible (normalized v))
  unfolding mul add le round
  in_band = admissible_of_extent (normalized v) (two_to (negsuc 10)) (two_to (pos 11)) tt tt tt tt tt tt normalized_within normalized_reaches

-- ---- the four bands, a factor of 2 ^ 20 each
module _ (v : Vector3) (f : Finite v) where
  band_1 : T (le (two_to (negsuc 39)) (squared_length v)) → T (le (squared_length v) (two_to (negsuc 19))) → T (admissible (normalized v))
  unfolding add mul div round square_root lt le
  band_1 = in_band (two_to (negsuc 19)) (two_to (negsuc 9)) (two_to (negsuc 20)) (two_to (negsuc 8)) tt tt tt tt tt refl refl refl refl tt tt refl refl v f

  band_2 : T (le (two_to (negsuc 19)) (squared_length v)) → T (le (squared_length v) (two_to (pos 0))) → T (admissible (normalized v))
  unfolding add mul div round square_root lt le
  band_2 = in_band (two_to (negsuc 9)) (two_to (pos 0)) (two_to (negsuc 10)) (two_to (pos 1)) tt tt tt tt tt refl refl refl refl tt tt refl refl v f

  band_3 : T (le (two_to (pos 0)) (squared_length v)) → T (le (squared_length v) (two_to (pos 20))) → T (admissible (normalized v))
  unfolding add mul div round square_root lt le
  band_3 = in_band (two_to (pos 0)) (two_to (pos 10)) (two_to (negsuc 0)) (two_to (pos 11)) tt tt tt tt tt refl refl refl refl tt tt refl refl v f

  band_4 : T (le (two_to (pos 20)) (squared_length v)) → T (le (squared_length v) (two_to (pos 40))) → T (admissible (normalized v))
  unfolding add mul div round square_root lt le
  band_4 = in_band (two_to (pos 10)) (two_to (pos 20)) (two_to (pos 9)) (two_to (pos 21)) tt tt tt tt tt refl refl refl refl tt tt refl refl v f

pub admissible_normalised : (v : Vector3) → T (admissible v) → T (admissible (normalized v))
unfolding is_nan
admissible_normalised v t =
    let s = squared_length v in
    elim (le_total s (two_to (pos 0)) number refl) [
      | inl low ↦ elim (le_total s (two_to (negsuc 19)) number refl) [ inl m ↦ band_1 v f parts.not_below m | inr m ↦ band_2 v f m low ]
      | inr high ↦ elim (le_total s (two_to (pos 20)) number refl) [ inl m ↦ band_3 v f high m | inr m ↦ band_4 v f m parts.not_above ]
    ]
  where
    parts : Admissible v
    parts = admissible_parts v t

    f : Finite v
    f = parts.components

    number : is_nan (squared_length v) ≡ false
    number = is_false _ (le_right least_squared_length (squared_length v) parts.not_below)
