-- What the answer of a query tells, accepted or refused. Definitions only.
use Rattle.std.specs.Prelude.{◌≡◌, ℕ, suc, ◌^◌, ◌<◌, ◌≤◌, true, ◌≢◌, ◌⊎◌, IsTrue, List, length, slice_index, Float, Ok, Err}
use Rattle.std.specs.Float.{inf}
use Rattle.std.specs.Float.Ieee.{lt}
use mathlib.Core.List.{Memᴰ}
use Rattle.refusal.specs.declared.Refusal.{Refusal}
use Rattle.refusal.specs.Refusal.{number_of, index_of}
use Rattle.vector.specs.declared.Vector3.{Vector3}
use Rattle.vector.specs.Vector.{normalized}
use Rattle.barycentric.specs.LeastWeight.{least_weight}
use Rattle.mesh.specs.Mesh.{vertex_count}
use Rattle.grid.specs.Cells.{cell_count}
use Rattle.grid.specs.Grid.{Grid}
use Rattle.grid.specs.Told.{StoredFacts}
use Rattle.grid_query.specs.declared.Nearest.{Nearest}
use Rattle.grid_query.specs.declared.LocatedTriangle.{LocatedTriangle}
use Rattle.grid_query.specs.Cell.{cell_of, cell_of_query, candidates, candidate_rows}
use Rattle.grid_query.specs.Nearest.{squared_distance, nearest_of, grid_nearest}
use Rattle.grid_query.specs.Locate.{grid_locate}

-- Every direction has a cell: its number is below that of all cells.
abbrev pub DirectionHasCell : Type 0
DirectionHasCell = (g : ℕ) (direction : Vector3) → 0 < g → g ≤ 2 ^ 53 → cell_of g direction < cell_count g

-- ---- accepted
-- A vertex that was found in a cell: it is the nearest candidate there and a vertex of the mesh, it has the distance told, and the count is that of all candidates.
pub record FoundFacts (grid : Grid) (positions : List Float) (direction : Vector3) (cell : ℕ) (found : Nearest) : Type 0 where
  pub passed : candidate_rows grid positions cell ≡ Ok tt
  pub is_nearest : found.id ≡ nearest_of positions direction (candidates grid cell)
  pub at_distance : found.distance ≡ squared_distance positions direction found.id
  pub counted : found.candidates ≡ length (candidates grid cell)
  pub candidate : Memᴰ found.id (candidates grid cell)
  pub below : found.id < vertex_count positions

-- So it is of every vertex that a nearest query answers.
abbrev pub VertexIsFound : Type 0
VertexIsFound = (grid : Grid) (positions : List Float) (direction : Vector3) (found : Nearest) → grid_nearest grid positions direction ≡ Ok found
    → FoundFacts grid positions (normalized direction) (cell_of_query grid direction) found

-- A triangle that was located in a mesh of n vertices: its corners are theirs, and its least is that of its weights and above minus infinity.
pub record LocatedFacts (n : ℕ) (located : LocatedTriangle) : Type 0 where
  pub first_below : located.triple.first < n
  pub second_below : located.triple.second < n
  pub third_below : located.triple.third < n
  pub is_least : located.least ≡ least_weight located.weights
  pub above : IsTrue (lt (inf true) located.least)

-- So it is of every triangle that a location answers.
abbrev pub TriangleIsLocated : Type 0
TriangleIsLocated = (grid : Grid) (positions : List Float) (direction : Vector3) (located : LocatedTriangle) → grid_locate grid positions direction ≡ Ok located
    → LocatedFacts (vertex_count positions) located

-- The grid of an accepted query keeps an allowed pair, and its g is the side of that factor.
abbrev pub QueryReadsPair : Type 0
QueryReadsPair = (grid : Grid) (positions : List Float) (direction : Vector3)
    → ((found : Nearest) → grid_nearest grid positions direction ≡ Ok found → StoredFacts grid positions)
    × ((located : LocatedTriangle) → grid_locate grid positions direction ≡ Ok located → StoredFacts grid positions)

-- ---- refused
-- The part i of a list falls: the start behind it is below its own.
abbrev pub PartFalls : List ℕ → ℕ → Type 0
PartFalls starts i = slice_index starts (suc i) < slice_index starts i

-- The vertex at which a location reads its triples.
abbrev pub nearest_of_query : Grid → List Float → Vector3 → ℕ
nearest_of_query grid positions direction = nearest_of positions (normalized direction) (candidates grid (cell_of_query grid direction))

-- The index of a nearest query's refusal: with 18 it is that of the start behind the cell, which is met falling, and with every other number 0.
abbrev pub CellIndex : Grid → ℕ → Refusal → Type 0
CellIndex grid cell reason = ((number_of reason ≡ 18) × (index_of reason ≡ suc cell) × PartFalls grid.cell_starts cell) ⊎ ((number_of reason ≢ 18) × (index_of reason ≡ 0))

-- Of a location's, in the cell or at the nearest vertex.
abbrev pub LocationIndex : Grid → ℕ → ℕ → Refusal → Type 0
LocationIndex grid cell v reason = CellIndex grid cell reason ⊎ ((number_of reason ≡ 18) × (index_of reason ≡ suc v) × PartFalls grid.triangle_starts v)

abbrev pub NearestIndexIsTold : Type 0
NearestIndexIsTold = (grid : Grid) (positions : List Float) (direction : Vector3) (reason : Refusal) → grid_nearest grid positions direction ≡ Err reason
    → CellIndex grid (cell_of_query grid direction) reason

abbrev pub LocationIndexIsTold : Type 0
LocationIndexIsTold = (grid : Grid) (positions : List Float) (direction : Vector3) (reason : Refusal) → grid_locate grid positions direction ≡ Err reason
    → LocationIndex grid (cell_of_query grid direction) (nearest_of_query grid positions direction) reason

-- No query returns 17, whatever its starts begin and end with.
abbrev pub NeverSeventeen : Type 0
NeverSeventeen = (grid : Grid) (positions : List Float) (direction : Vector3) (reason : Refusal)
    → (grid_nearest grid positions direction ≡ Err reason → number_of reason ≢ 17) × (grid_locate grid positions direction ≡ Err reason → number_of reason ≢ 17)
