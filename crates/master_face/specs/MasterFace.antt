-- A master face of the icosahedron, as `MasterFace::new` of the source (000) works it out. Definitions only.
-- Each operation is rounded once (IEEE 754-2019, 4.3.1), in the source's order.
use Rattle.std.specs.Prelude.{ℕ, Bool, Float}
use Rattle.std.specs.Float.{binary64}
use Rattle.std.specs.Float.Ieee.{of_bits, neg, sub, mul, div, lt}
use Rattle.binary64.specs.Constants.{one}
use Rattle.vector.specs.declared.Vector3.{Vector3}
use Rattle.vector.specs.declared.Weights.{Weights}
use Rattle.vector.specs.Vector.{dot_product, cross_product, vector_difference, vector_multiple, normalized}
use Rattle.vector.specs.Triangle.{weights}
use Rattle.icosahedron.specs.Icosahedron.{corner_point}
use Rattle.master_face.specs.declared.Gram.{Gram}
use Rattle.master_face.specs.declared.MasterFace.{MasterFace}
use Rattle.master_face.specs.declared.Three.{Three}

-- `d00`, `d01`, `d11` and 1 / (d00·d11 − d01·d01)
unfoldable pub gram_of : Vector3 → Vector3 → Gram
gram_of v0 v1 =
    let d00 = dot_product v0 v0 in
    let d01 = dot_product v0 v1 in
    let d11 = dot_product v1 v1 in
    record { d00 = d00; d01 = d01; d11 = d11; inv_denom = div binary64 one (sub binary64 (mul binary64 d00 d11) (mul binary64 d01 d01)) }

-- the normals of the side planes through the origin and two corners
unfoldable pub edge_planes_of : Vector3 → Vector3 → Vector3 → Three Vector3
edge_planes_of p1 p2 p3 = record { first = cross_product p1 p2; second = cross_product p2 p3; third = cross_product p3 p1 }

-- A master face: its corners, normal, offset, side planes and Gram numbers, as `MasterFace::new` of the source works them out.
unfoldable pub master_face : Vector3 → Vector3 → Vector3 → MasterFace
master_face p1 p2 p3 =
    let v0 = vector_difference p2 p1 in
    let v1 = vector_difference p3 p1 in
    let normal = normalized (cross_product v0 v1) in
    record {
      corners = record { first = p1; second = p2; third = p3 };
      normal = normal;
      plane_offset = dot_product normal p1;
      edge_planes = edge_planes_of p1 p2 p3;
      v0 = v0;
      v1 = v1;
      gram = gram_of v0 v1;
    }

-- `master_faces` of the source: the face of an index from 0 to 19, from its three corner points
unfoldable pub master_face_of : ℕ → MasterFace
master_face_of index = master_face (corner_point index 0) (corner_point index 1) (corner_point index 2)

-- `projection` of the source: p · (offset / (p · normal))
unfoldable pub radial_projection : MasterFace → Vector3 → Vector3
radial_projection face p = vector_multiple p (div binary64 face.plane_offset (dot_product p face.normal))

-- `barycentric` of the source: α, β and γ of a projected point
unfoldable pub face_weights : MasterFace → Vector3 → Weights
face_weights face pp =
    let v2 = vector_difference pp face.corners.first in
    let d20 = dot_product v2 face.v0 in
    let d21 = dot_product v2 face.v1 in
    let g = face.gram in
    let beta = mul binary64 (sub binary64 (mul binary64 g.d11 d20) (mul binary64 g.d01 d21)) g.inv_denom in
    let gamma = mul binary64 (sub binary64 (mul binary64 g.d00 d21) (mul binary64 g.d01 d20)) g.inv_denom in
    weights (sub binary64 (sub binary64 one beta) gamma) beta gamma

-- whether p lies on a plane's negative side, by more than a limit says
abbrev pub below_plane : Vector3 → Vector3 → Float → Bool
below_plane p plane limit = lt (dot_product p plane) limit

-- `-EPS` of the source, −1e-12
abbrev pub negative_eps : Float
negative_eps = neg (of_bits binary64 0x3d719799812dea11)

-- beyond which side planes of a face p lies
unfoldable pub outside_of : MasterFace → Vector3 → Three Bool
outside_of face p = record {
  first = below_plane p face.edge_planes.first negative_eps;
  second = below_plane p face.edge_planes.second negative_eps;
  third = below_plane p face.edge_planes.third negative_eps;
}
