-- The six faces of the cube around the sphere, as `cube_project` and `cube_face_project` number them. Definitions only.
use Rattle.std.specs.Prelude.{ℕ, zero, suc, cond, ◌&&◌, Float}
use Rattle.std.specs.Float.Ieee.{neg, lt, le}
use Rattle.binary64.specs.Absolute.{abs}
use Rattle.binary64.specs.Constants.{positive_zero}
use Rattle.vector.specs.declared.Vector3.{Vector3}
use Rattle.grid.specs.declared.cube_face.Projected.{Projected}

abbrev pub projected : Float → Float → Float → Projected
projected u w d = record { u = u; w = w; d = d }

-- What the face with a number from 0 to 5 shows of a point, one of six sign and axis arrangements.
unfoldable pub face_projection : ℕ → Vector3 → Projected
face_projection zero v = projected v.y v.z v.x
face_projection (suc zero) v = projected (neg v.y) v.z (neg v.x)
face_projection (suc (suc zero)) v = projected v.x v.z v.y
face_projection (suc (suc (suc zero))) v = projected (neg v.x) v.z (neg v.y)
face_projection (suc (suc (suc (suc zero)))) v = projected v.x v.y v.z
face_projection (suc (suc (suc (suc (suc face))))) v = projected (neg v.x) v.y (neg v.z)

-- One of the two faces of an axis, by the sign of the component along it.
abbrev pub side_of_axis : Float → ℕ → ℕ → ℕ
side_of_axis component positive negative = cond (lt positive_zero component) positive negative

-- "The cube face is chosen from 0 to 5 by the dominant axis": x where neither other component is larger in magnitude, else y where z is not larger, else z.
unfoldable pub dominant_face : Vector3 → ℕ
dominant_face v =
    cond (le (abs v.y) (abs v.x) && le (abs v.z) (abs v.x)) (side_of_axis v.x 0 1)
    (cond (le (abs v.z) (abs v.y)) (side_of_axis v.y 2 3) (side_of_axis v.z 4 5))
