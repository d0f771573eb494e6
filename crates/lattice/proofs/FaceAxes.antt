-- The corners of the twenty faces, by evaluation: no component is above 1 in magnitude (`corners_within`), and along one axis all three are at least 1/4 in magnitude, with one sign (`face_on_one_side`). Assumes nothing.
use Rattle.std.proofs.Common.{◌≡◌, ℕ, zero, suc, ◌<◌, Bool, true, false, ◌&&◌, refl}
use lib.Ieee.{le, of_bits}
use Rattle.std.proofs.lemmas.Bool.{and_parts}
use Rattle.sequences.specs.Range.{all_below}
use Rattle.sequences.proofs.Range.{all_below_at}
use Rattle.icosahedron.specs.Icosahedron.{icosahedron_point, face_corner}
use Rattle.lattice.specs.FaceAxes.{signed_one, corners_between, face_axis, on_one_side}

all_on_one_side : all_below on_one_side 20 ≡ true
unfolding all_below le of_bits icosahedron_point face_corner corners_between face_axis on_one_side
all_on_one_side = refl

pub face_on_one_side : (face : ℕ) → face < 20 → on_one_side face ≡ true
face_on_one_side face lt = all_below_at on_one_side 20 face all_on_one_side lt

within_one : ℕ → ℕ → Bool
within_one axis face = corners_between (signed_one true) (signed_one false) face axis

all_within : all_below (λ face. within_one 0 face && (within_one 1 face && within_one 2 face)) 20 ≡ true
unfolding all_below le of_bits icosahedron_point face_corner corners_between within_one
all_within = refl

pub corners_within : (face axis : ℕ) → face < 20 → corners_between (signed_one true) (signed_one false) face axis ≡ true
unfolding corners_between within_one
corners_within face axis lt = go axis
  where
    x_and_rest : (within_one 0 face ≡ true) × (within_one 1 face && within_one 2 face ≡ true)
    x_and_rest = and_parts _ _ (all_below_at (λ face. within_one 0 face && (within_one 1 face && within_one 2 face)) 20 face all_within lt)

    y_and_z : (within_one 1 face ≡ true) × (within_one 2 face ≡ true)
    y_and_z = and_parts _ _ x_and_rest.1

    go : (axis : ℕ) → within_one axis face ≡ true
    go zero = x_and_rest.0
    go (suc zero) = y_and_z.0
    go (suc (suc axis)) = y_and_z.1
