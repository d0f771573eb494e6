-- The axis along which a master face lies apart from the origin, on one side of it: what bounds the positions of its points away from zero (row 5). Definitions only.
use Rattle.std.specs.Prelude.{ℕ, zero, suc, Bool, true, false, ◌&&◌, ◌||◌, List, [], ◌∷◌, pos, negsuc, slice_index, Float}
use Rattle.std.specs.Float.{fin}
use Rattle.std.specs.Float.Ieee.{le}
use Rattle.vector.specs.declared.Vector3.{Vector3}
use Rattle.icosahedron.specs.Icosahedron.{corner_point}

-- The component of a vector along an axis: 0 is x, 1 is y, 2 is z.
abbrev pub component : Vector3 → ℕ → Float
component v zero = v.x
component v (suc zero) = v.y
component v (suc (suc axis)) = v.z

-- ±1/4 and ±1, negative where s is true.
abbrev pub signed_quarter : Bool → Float
signed_quarter s = fin s 1 (negsuc 1)

abbrev pub signed_one : Bool → Float
signed_one s = fin s 1 (pos 0)

abbrev pub lies_between : Float → Float → Float → Bool
lies_between least most x = le least x && le x most

-- Each of the three corners of a face has its component along an axis from `least` to `most`.
unfoldable pub corners_between : Float → Float → ℕ → ℕ → Bool
corners_between least most face axis =
    lies_between least most (component (corner_point face 0) axis)
    && (lies_between least most (component (corner_point face 1) axis) && lies_between least most (component (corner_point face 2) axis))

-- For each face, 0 to 19, the axis along which its corners have one sign and lie at 1/4 or more in magnitude.
abbrev pub face_axes : List ℕ
face_axes = 2 ∷ 2 ∷ 2 ∷ 2 ∷ 2 ∷ 0 ∷ 1 ∷ 1 ∷ 0 ∷ 0 ∷ 0 ∷ 1 ∷ 1 ∷ 0 ∷ 0 ∷ 2 ∷ 2 ∷ 2 ∷ 2 ∷ 2 ∷ []

unfoldable pub face_axis : ℕ → ℕ
face_axis face = slice_index face_axes face

-- Along that axis all three lie from 1/4 to 1, or all three from −1 to −1/4.
unfoldable pub on_one_side : ℕ → Bool
on_one_side face =
    corners_between (signed_quarter false) (signed_one false) face (face_axis face) || corners_between (signed_one true) (signed_quarter true) face (face_axis face)
