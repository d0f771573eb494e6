-- What a worked case asks, and what the definitions that the code's contracts name answer. Definitions only.
use Rattle.std.specs.Prelude.{ℕ, ◌≡◌, List, [], ◌∷◌, map, nat_lt, ℤ, length, Float}
use Rattle.std.specs.Float.{binary64}
use Rattle.sequences.specs.Filter.{filter_range}
use Rattle.binary64.specs.Convert.{to_i64}
use Rattle.fused.specs.Fused.{fused_multiply_add}
use Rattle.root.specs.Root.{square_root}
use Rattle.vector.specs.declared.Vector3.{Vector3}
use Rattle.mesh.specs.Mesh.{mesh_of}
use Rattle.icosahedron.specs.Slots.{slot_of}
use Rattle.lattice.specs.Lattice.{lattice_list}
use Rattle.vector.specs.Vector.{coordinates}
use Rattle.grid.specs.CubeFace.{dominant_face}
use Rattle.grid.specs.Settings.{usual_factor, usual_settings}
use Rattle.grid.specs.Cells.{side_of, cell_count}
use Rattle.grid.specs.Grid.{Grid, grid_of}
use Rattle.grid_query.specs.Cell.{candidates}

pub data Question : Type 0 where
  -- a double, converted to a signed 64-bit whole number
  integer_from : Float → Question
  -- the side of the grid of so many vertices
  side_for : ℕ → Question
  -- the slot of (a, b) in its face, at the frequency n: n, a, b
  slot_of_point : ℕ → ℕ → ℕ → Question
  -- the neighbour list of a vertex, at the frequency n: n, vertex
  neighbours_of : ℕ → ℕ → Question
  -- the cube face of a direction
  face_of : Vector3 → Question
  -- the cells of the grid of a mesh that has one vertex
  cells_of_one : Vector3 → Question
  root_of : Float → Question
  fused_of : Float → Float → Float → Question

pub data Answer : Type 0 where
  integer : ℤ → Answer
  number : ℕ → Answer
  numbers : List ℕ → Answer
  double : Float → Answer
  -- the cells that are not empty, and the ids of all cells, one cell's behind another's
  cells : List ℕ → List ℕ → Answer

abbrev pub filled_cells : Grid → List ℕ
filled_cells grid = filter_range (λ cell. nat_lt 0 (length (candidates grid cell))) (cell_count grid.side)

-- One vertex has no neighbours. The factor and the margin are the usual ones, 1.2 and 1.
abbrev pub grid_of_one : Vector3 → Grid
grid_of_one position = grid_of (mesh_of (coordinates position) (0 ∷ 0 ∷ []) []) usual_settings

abbrev pub answer_to : Question → Answer
answer_to (integer_from x) = integer (to_i64 x)
answer_to (side_for count) = number (side_of usual_factor count)
answer_to (slot_of_point n a b) = number (slot_of n a b)
answer_to (neighbours_of n v) = numbers (lattice_list n v)
answer_to (face_of direction) = number (dominant_face direction)
answer_to (cells_of_one position) = cells (filled_cells (grid_of_one position)) (grid_of_one position).cell_ids
answer_to (root_of x) = double (square_root binary64 x)
answer_to (fused_of x y z) = double (fused_multiply_add binary64 x y z)

-- A row of the table.
pub record Case : Type 0 where
  pub question : Question
  pub expected : Answer

-- The definitions answer each row's question as the row expects.
abbrev pub AllHold : List Case → Type 0
AllHold table = map (λ row. answer_to row.question) table ≡ map (λ row. row.expected) table
