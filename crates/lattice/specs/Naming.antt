-- What a program looks up as it goes through the points in order: the place of a point, the earliest tabled naming of its vertex, and its six steps. Definitions only.
use Rattle.std.specs.Prelude.{◌≡◌, ℕ, zero, suc, ◌+◌, ◌-◌, ◌*◌, ◌/◌, ◌%◌, cond, ◌==◌, nat_lt}
use Rattle.icosahedron.specs.declared.frequency.Frequency.{Frequency}
use Rattle.icosahedron.specs.Slots.{slot_of, slots_per_face}
use Rattle.lattice.specs.declared.face_points.FacePoint.{FacePoint}
use Rattle.lattice.specs.declared.face_points.Step.{Step}
use Rattle.lattice.specs.declared.face_points.Step.TheVariants.{FirstToThird, FirstToSecond, SecondToThird, SecondToFirst, ThirdToSecond, ThirdToFirst}
use Rattle.lattice.specs.Lattice.{LatticePoint, point_at}
use Rattle.lattice.specs.Shared.{corner_at, edge_at, first_corner, other_edge}

-- The program's point.
abbrev pub point_of : FacePoint → LatticePoint
point_of p = point_at p.face.index p.a p.b

-- The program's point p is the point q of the lattice of frequency f.
pub record IsPoint (p : FacePoint) (f : Frequency) (q : LatticePoint) : Type 0 where
  pub frequency : p.frequency ≡ f
  pub point : point_of p ≡ q

-- The place of a point among all: "the twenty faces' slots, one face behind another".
unfoldable pub place_of : ℕ → LatticePoint → ℕ
place_of n p = p.face * slots_per_face n + slot_of n p.a p.b

-- A corner, on the face that has it first.
unfoldable pub corner_naming : ℕ → ℕ → ℕ → LatticePoint
corner_naming n face place = corner_at n (first_corner face place / 3) (first_corner face place % 3)

-- A point of an edge, on the earlier of the two faces that have it; the other face counts it from the other end.
unfoldable pub edge_naming : ℕ → ℕ → ℕ → ℕ → LatticePoint
edge_naming n face place weight =
    cond (nat_lt face (other_edge face place / 3)) (edge_at n face place weight)
    (edge_at n (other_edge face place / 3) (other_edge face place % 3) (n - weight))

-- "ids follow first appearance": the first appearance of a point's vertex, by the weights that are zero.
unfoldable pub naming : ℕ → LatticePoint → LatticePoint
naming n p =
    cond (p.a == 0)
    (cond (p.b == 0) (corner_naming n p.face 2) (cond (p.a + p.b == n) (corner_naming n p.face 1) (edge_naming n p.face 0 p.b)))
    (cond (p.b == 0) (cond (p.a + p.b == n) (corner_naming n p.face 0) (edge_naming n p.face 1 (n - p.a)))
    (cond (p.a + p.b == n) (edge_naming n p.face 2 p.a) p))

-- "the six steps that keep a + b + c": the point that a step leads to, and p itself where the weight that falls is zero.
unfoldable pub step_from : ℕ → LatticePoint → ℕ → LatticePoint
step_from n p zero = cond (p.a == 0) p (point_at p.face (p.a - 1) p.b)
step_from n p (suc zero) = cond (p.a == 0) p (point_at p.face (p.a - 1) (p.b + 1))
step_from n p (suc (suc zero)) = cond (p.b == 0) p (point_at p.face p.a (p.b - 1))
step_from n p (suc (suc (suc zero))) = cond (p.b == 0) p (point_at p.face (p.a + 1) (p.b - 1))
step_from n p (suc (suc (suc (suc zero)))) = cond (p.a + p.b == n) p (point_at p.face p.a (p.b + 1))
step_from n p (suc (suc (suc (suc (suc step))))) = cond (p.a + p.b == n) p (point_at p.face (p.a + 1) p.b)

-- The number of the program's step.
abbrev pub number_of_step : Step → ℕ
number_of_step FirstToThird = 0
number_of_step FirstToSecond = 1
number_of_step SecondToThird = 2
number_of_step SecondToFirst = 3
number_of_step ThirdToSecond = 4
number_of_step ThirdToFirst = 5
