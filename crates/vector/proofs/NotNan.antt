-- Where vectors have no NaN: a sum of squares (`squared_length_not_nan`), a difference from a finite vector (`difference_not_nan`), and a direction that row 9 lets pass, normalised (`normalized_not_nan`). Assumes nothing.
use mathlib.Core.Path.{◌≡◌}
use mathlib.Core.Bool.{false}
use lib.Dec.{T}
use lib.Ieee.{binary64, is_nan}
use Rattle.binary64.proofs.NotNan.{signed_not_nan, finite_number, square_signed, add_signed, sub_not_nan}
use Rattle.vector.specs.declared.Vector3.{Vector3}
use Rattle.vector.specs.Vector.{squared_length, vector_difference, normalized}
use Rattle.vector.specs.Direction.{admissible}
use Rattle.vector.proofs.Admissible.{Finite, admissible_parts}
use Rattle.vector.proofs.Normalized.{admissible_normalised}

-- no component is a NaN
pub record NotNan (v : Vector3) : Type 0 where
  pub x_not_nan : is_nan v.x ≡ false
  pub y_not_nan : is_nan v.y ≡ false
  pub z_not_nan : is_nan v.z ≡ false

pub squared_length_not_nan : (v : Vector3) → NotNan v → is_nan (squared_length v) ≡ false
squared_length_not_nan v h =
    signed_not_nan (add_signed binary64 (add_signed binary64 (square_signed binary64 v.x h.x_not_nan) (square_signed binary64 v.y h.y_not_nan)) (square_signed binary64 v.z h.z_not_nan))

pub difference_not_nan : (a b : Vector3) → NotNan a → Finite b → NotNan (vector_difference a b)
difference_not_nan a b h k = record {
  x_not_nan = sub_not_nan binary64 a.x b.x h.x_not_nan k.x_finite;
  y_not_nan = sub_not_nan binary64 a.y b.y h.y_not_nan k.y_finite;
  z_not_nan = sub_not_nan binary64 a.z b.z h.z_not_nan k.z_finite;
}

pub normalized_not_nan : (v : Vector3) → T (admissible v) → NotNan (normalized v)
normalized_not_nan v h =
    let f = (admissible_parts (normalized v) (admissible_normalised v h)).components in
    record {
      x_not_nan = finite_number (normalized v).x f.x_finite;
      y_not_nan = finite_number (normalized v).y f.y_finite;
      z_not_nan = finite_number (normalized v).z f.z_finite;
    }
