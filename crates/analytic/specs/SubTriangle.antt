-- The sub-triangle of a master face that holds a point, as `locate` of the source (000) finds it. Each `add`, `sub` and `mul` is rounded once, to nearest, ties to even (IEEE 754-2019, 4.3.1). Definitions only.
use Rattle.std.specs.Prelude.{ℕ, ◌+◌, ◌-◌, min, cond, ℤ, pos, negsuc, from_bits, Float}
use Rattle.std.specs.Float.{binary64}
use Rattle.std.specs.Float.Ieee.{add, sub, mul, lt}
use Rattle.binary64.specs.Constants.{one}
use Rattle.binary64.specs.Integral.{floor_of}
use Rattle.binary64.specs.Convert.{to_i64, whole}
use Rattle.vector.specs.declared.Vector3.{Vector3}
use Rattle.vector.specs.declared.Weights.{Weights}
use Rattle.vector.specs.Triangle.{weights}
use Rattle.icosahedron.specs.Slots.{slot_of}
use Rattle.analytic.specs.declared.LatticeCoordinates.{LatticeCoordinates}
use Rattle.master_face.specs.declared.Three.{Three}
use Rattle.master_face.specs.declared.MasterFace.{MasterFace}
use Rattle.master_face.specs.MasterFace.{radial_projection, face_weights}

-- `.clamp(0, max)` of a signed whole number
abbrev pub clamp_to : ℕ → ℤ → ℕ
clamp_to n (pos m) = min m n
clamp_to n (negsuc m) = 0

-- `(u.floor() as i64).clamp(0, max)`: the floor is exact (IEEE 754-2019, 5.9), and so is its conversion (IEEE 754-2019, 5.8) but at the ends of the range
unfoldable pub clamped_floor : ℕ → Float → ℕ
clamped_floor n u = clamp_to n (to_i64 (floor_of u))

-- `u - i as f64`
abbrev pub fraction_over : ℕ → Float → Float
fraction_over i u = sub binary64 u (whole i)

-- 1.5, where up and down sub-triangles are told apart
abbrev pub orientation_limit : Float
orientation_limit = from_bits binary64 0x3ff8000000000000

abbrev pub lattice_coordinates : ℕ → ℕ → LatticeCoordinates
lattice_coordinates a b = record { a = a; b = b }

-- A sub-triangle's corners, and a point's weights on them.
pub record SubTriangle : Type 0 where
  pub corners : Three LatticeCoordinates
  pub weights : Weights

-- The corners `(i + 1, j), (i, j + 1), (i, j)` where `fu + fv + fw < 1.5`, with the weights fu, fv, fw; else `(i, j + 1), (i + 1, j), (i + 1, j + 1)` with 1 - fu, 1 - fv, 1 - fw.
-- A NaN among the sums is not below 1.5.
unfoldable pub sub_triangle : (i j : ℕ) (fu fv fw : Float) → SubTriangle
sub_triangle i j fu fv fw =
    cond (lt (add binary64 (add binary64 fu fv) fw) orientation_limit)
    (record {
      corners = record { first = lattice_coordinates (i + 1) j; second = lattice_coordinates i (j + 1); third = lattice_coordinates i j };
      weights = weights fu fv fw;
    })
    (record {
      corners = record { first = lattice_coordinates i (j + 1); second = lattice_coordinates (i + 1) j; third = lattice_coordinates (i + 1) (j + 1) };
      weights = weights (sub binary64 one fu) (sub binary64 one fv) (sub binary64 one fw);
    })

-- from the coordinates u = α·n, v = β·n and w = γ·n
unfoldable pub sub_triangle_at : ℕ → (u v w : Float) → SubTriangle
sub_triangle_at n u v w =
    let i = clamped_floor n u in
    let j = clamped_floor n v in
    let k = clamped_floor n w in
    sub_triangle i j (fraction_over i u) (fraction_over j v) (fraction_over k w)

-- from a direction, "the direction not normalised", on its master face
unfoldable pub sub_triangle_on : ℕ → MasterFace → Vector3 → SubTriangle
sub_triangle_on n face p =
    let nf = whole n in
    let t = face_weights face (radial_projection face p) in
    sub_triangle_at n (mul binary64 t.u nf) (mul binary64 t.v nf) (mul binary64 t.w nf)

-- `lookup` of the source: `a.clamp(0, max)`, `b.clamp(0, max - a)`, and the slot there. No corner is below 0.
unfoldable pub clamped_slot : ℕ → LatticeCoordinates → ℕ
clamped_slot n q = let a = min q.a n in slot_of n a (min q.b (n - a))
