-- What a face keeps for its points: its corners, and the six ids around a point inside it. Definitions only.
use Rattle.std.specs.Prelude.{ℕ, ◌+◌, Bool, true, ◌&&◌, List, [], ◌∷◌, nat_lt}
use Rattle.icosahedron.specs.Icosahedron.{corner_point}
use Rattle.vector.specs.declared.Vector3.{Vector3}
use Rattle.lattice.specs.Lattice.{LatticePoint, id_of}
use Rattle.lattice.specs.Naming.{step_from}

-- P1, P2 and P3 of "((a·P1 + b·P2) + c·P3)/n".
unfoldable pub face_corners : ℕ → List Vector3
face_corners face = corner_point face 0 ∷ corner_point face 1 ∷ corner_point face 2 ∷ []

-- No weight is zero, so each of "the six steps that keep a + b + c" leads to a point of the face.
unfoldable pub is_inside : ℕ → LatticePoint → Bool
is_inside n p = nat_lt 0 p.a && (nat_lt 0 p.b && nat_lt (p.a + p.b) n)

-- The ids at the ends of the six steps, in the order of the places there: one less a, the same a, one more a.
unfoldable pub step_ids : ℕ → LatticePoint → List ℕ
step_ids n p =
    id_of n (step_from n p 0) ∷ id_of n (step_from n p 1) ∷ id_of n (step_from n p 2) ∷ id_of n (step_from n p 4) ∷ id_of n (step_from n p 3) ∷ id_of n (step_from n p 5) ∷ []

-- Each id is less than the next.
unfoldable pub ids_ascend : List ℕ → Bool
ids_ascend (x ∷ (y ∷ rest)) = nat_lt x y && ids_ascend (y ∷ rest)
ids_ascend (x ∷ []) = true
ids_ascend [] = true
