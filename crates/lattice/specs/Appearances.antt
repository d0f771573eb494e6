-- Where a lattice point appears: the faces that it lies on, and the first of them. Points with equal keys are one vertex, and ids follow the first appearance. Definitions only.
use Rattle.std.specs.Prelude.{ℕ, ◌+◌, ◌-◌, ◌<◌, ◌≤◌, Bool, not, ◌&&◌, ◌||◌, ◌==◌, nat_lt}
use Rattle.sequences.specs.Range.{some_below}
use Rattle.icosahedron.specs.Icosahedron.{face_corner}
use Rattle.lattice.specs.Lattice.{LatticePoint, point_at, weight_at}

-- "master faces 0 to 19; a from 0 to n; b from 0 to n − a"
pub record OnLattice (n : ℕ) (p : LatticePoint) : Type 0 where
  pub face_below : p.face < 20
  pub weights_within : p.a + p.b ≤ n

-- The corner is one of the face's three.
unfoldable pub has_corner : ℕ → ℕ → Bool
has_corner face corner = face_corner face 0 == corner || (face_corner face 1 == corner || face_corner face 2 == corner)

-- Where `counts`, the corner is one of the face's three.
unfoldable pub has_counted : ℕ → Bool → ℕ → Bool
has_counted face counts corner = not counts || has_corner face corner

-- The face has those of another face's three corners that count.
unfoldable pub has_corners : ℕ → ℕ → Bool → Bool → Bool → Bool
has_corners face other first second third =
    has_counted face first (face_corner other 0) && (has_counted face second (face_corner other 1) && has_counted face third (face_corner other 2))

-- A test of a point by its face and its support: which of its three weights are not zero.
abbrev pub by_support : (ℕ → Bool → Bool → Bool → Bool) → ℕ → LatticePoint → Bool
by_support test n p = test p.face (nat_lt 0 p.a) (nat_lt 0 p.b) (nat_lt 0 (n - p.a - p.b))

-- The face has each "corner with nonzero weight" of the point, so the point's vertex appears on it.
unfoldable pub lies_on : ℕ → ℕ → LatticePoint → Bool
lies_on n face p = by_support (has_corners face) n p

-- The point of a face with the given weights on its corners.
unfoldable pub point_with : ℕ → (ℕ → ℕ) → LatticePoint
point_with face weight = point_at face (weight (face_corner face 0)) (weight (face_corner face 1))

-- The point of a face that is one vertex with p, where p lies on the face.
abbrev pub appearance_on : ℕ → ℕ → LatticePoint → LatticePoint
appearance_on n face p = point_with face (weight_at n p)

-- No earlier face has the corners that count.
unfoldable pub is_new : ℕ → Bool → Bool → Bool → Bool
is_new face first second third = not (some_below (λ earlier. has_corners earlier face first second third) face)

-- The point is its vertex's first appearance.
unfoldable pub is_first_appearance : ℕ → LatticePoint → Bool
is_first_appearance n p = by_support is_new n p

-- One weight alone is not zero: the point is one of the twelve corners.
unfoldable pub is_single : Bool → Bool → Bool → Bool
is_single first second third = (first && (not second && not third)) || ((not first && (second && not third)) || (not first && (not second && third)))

unfoldable pub is_corner : ℕ → LatticePoint → Bool
is_corner n p = by_support (λ face. is_single) n p
