-- What is proved of every lattice, and of every call that makes one. Definitions only.
use Rattle.std.specs.Prelude.{◌≡◌, ℕ, ◌*◌, ◌<◌, Bool, true, if◌then◌else◌, length, take, slice_index_or, Ok}
use Rattle.sequences.specs.Filter.{filter}
use Rattle.refusal.specs.Refusal.{Verdict, answer}
use Rattle.vector.specs.Direction.{IsAdmissible}
use Rattle.icosahedron.specs.Slots.{IsFrequency, lattice_vertex_count}
use Rattle.mesh.specs.Mesh.{Mesh, mesh_of, count, neighbours}
use Rattle.mesh.specs.Rows.{adjacency_rows, mesh_rows}
use Rattle.mesh.specs.Adjacency.{Mutual, NoOwnVertex, NoRepeat}
use Rattle.mesh.specs.Mark.{lists_ascend, Truthful}
use Rattle.lattice.specs.Lattice.{LatticePoint, point_at, lattice_vertices, id_of, point_position, lattice_mesh, LatticeSlices, LatticeOutcome, lattice_geometry}
use Rattle.lattice.specs.Appearances.{OnLattice, is_corner}

-- ---- counts
-- 10n² + 2 vertices, and 60n² entries.
abbrev pub HasVertices : Type 0
HasVertices = (n : ℕ) → IsFrequency n → count (lattice_mesh n) ≡ lattice_vertex_count n

abbrev pub HasEntries : Type 0
HasEntries = (n : ℕ) → IsFrequency n → length (lattice_mesh n).entries ≡ 60 * (n * n)

-- The point at which a vertex appears first.
abbrev pub vertex_point : ℕ → ℕ → LatticePoint
vertex_point n v = slice_index_or (lattice_vertices n) v (point_at 0 0 0)

-- Twelve vertices are corners of the icosahedron.
abbrev pub HasTwelveCorners : Type 0
HasTwelveCorners = (n : ℕ) → IsFrequency n → length (filter (is_corner n) (lattice_vertices n)) ≡ 12

-- Those have five neighbours, and all others six.
abbrev pub HasFiveOrSix : Type 0
HasFiveOrSix = (n v : ℕ) → IsFrequency n → v < count (lattice_mesh n) → length (neighbours (lattice_mesh n) v) ≡ (if is_corner n (vertex_point n v) then 5 else 6)

-- Every point of a face has the id of a vertex.
abbrev pub HasIds : Type 0
HasIds = (n : ℕ) (p : LatticePoint) → OnLattice n p → id_of n p < count (lattice_mesh n)

-- ---- neighbour lists
abbrev pub ListsAreMutual : Type 0
ListsAreMutual = (n : ℕ) → Mutual (lattice_mesh n)

abbrev pub ListsNameOthers : Type 0
ListsNameOthers = (n : ℕ) → NoOwnVertex (lattice_mesh n)

abbrev pub ListsNameOnce : Type 0
ListsNameOnce = (n : ℕ) → NoRepeat (lattice_mesh n)

abbrev pub ListsAscend : Type 0
ListsAscend = (n : ℕ) → lists_ascend (lattice_mesh n) ≡ true

-- ---- rows of a mesh
-- Every position is admissible, so that row 5 lets it pass.
abbrev pub PositionsAreAdmissible : Type 0
PositionsAreAdmissible = (n : ℕ) (p : LatticePoint) → IsFrequency n → OnLattice n p → IsAdmissible (point_position n p)

-- The rows of the walk, the renumbering and the reading call, and those of the grid builder, let every lattice pass.
abbrev pub PassesAdjacencyRows : Type 0
PassesAdjacencyRows = (n : ℕ) → IsFrequency n → ◌≡◌ {A = Verdict} (adjacency_rows (lattice_mesh n)) (Ok tt)

abbrev pub PassesMeshRows : Type 0
PassesMeshRows = (n : ℕ) → IsFrequency n → ◌≡◌ {A = Verdict} (mesh_rows (lattice_mesh n)) (Ok tt)

-- ---- the mark
-- The mesh in slices that are lent.
abbrev pub mesh_in : LatticeSlices → Mesh
mesh_in slices = mesh_of slices.positions slices.starts slices.entries

-- What a call writes: the slices without their surplus.
unfoldable pub without_surplus : ℕ → LatticeSlices → Mesh
without_surplus n slices =
    let mesh = lattice_mesh n in
    mesh_of (take (length mesh.positions) slices.positions) (take (length mesh.starts) slices.starts) (take (length mesh.entries) slices.entries)

-- The mesh that a call leaves: what it was lent where it was refused, and what it wrote where it was accepted.
unfoldable pub mesh_left : ℕ → LatticeOutcome → Mesh
mesh_left n o = answer o.answered (λ reason. mesh_in o.slices) (without_surplus n o.slices)

-- A mark that is true of the mesh before a call is true of the mesh that the call leaves.
abbrev pub MarkStaysTruthful : Type 0
MarkStaysTruthful = (n : ℕ) (lent : LatticeSlices) (mark : Bool) → Truthful (mesh_in lent) mark
    → Truthful (mesh_left n (lattice_geometry n lent mark)) (lattice_geometry n lent mark).mark

-- Two outcomes that differ in their marks at most.
pub record SameButMark (o other : LatticeOutcome) : Type 0 where
  pub answered : o.answered ≡ other.answered
  pub slices : o.slices ≡ other.slices

-- What a call answers and writes does not depend on the mark that it is lent.
abbrev pub IgnoresMark : Type 0
IgnoresMark = (n : ℕ) (lent : LatticeSlices) (mark other : Bool) → SameButMark (lattice_geometry n lent mark) (lattice_geometry n lent other)
