-- The numbers of a master face, as they are compared. Definitions only.
use Rattle.std.specs.Prelude.{ℕ, List, [], ◌∷◌, ◌++◌, map, Float}
use Rattle.binary64.specs.TotalOrder.{rank_of}
use Rattle.vector.specs.declared.Vector3.{Vector3}
use Rattle.vector.specs.Vector.{coordinates}
use Rattle.master_face.specs.declared.Gram.{Gram}
use Rattle.master_face.specs.declared.MasterFace.{MasterFace}
use Rattle.master_face.specs.declared.Three.{Three}

-- The coordinates of three vectors, one behind another.
abbrev pub coordinates_of_three : Three Vector3 → List Float
coordinates_of_three t = coordinates t.first ++ coordinates t.second ++ coordinates t.third

abbrev pub gram_numbers : Gram → List Float
gram_numbers g = g.d00 ∷ g.d01 ∷ g.d11 ∷ g.inv_denom ∷ []

-- Every number of a face, in the order of its fields.
abbrev pub face_numbers : MasterFace → List Float
face_numbers f =
    coordinates_of_three f.corners ++ coordinates f.normal ++ (f.plane_offset ∷ []) ++ coordinates_of_three f.edge_planes
    ++ coordinates f.v0 ++ coordinates f.v1 ++ gram_numbers f.gram

-- The rank of each in the total order of doubles: two numbers of one rank have the same bits, or are both NaN.
abbrev pub face_ranks : MasterFace → List ℕ
face_ranks f = map rank_of (face_numbers f)
