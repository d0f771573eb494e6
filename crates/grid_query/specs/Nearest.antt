-- The nearest query of a grid (document 01, "Cube grid"). Definitions only.
use Rattle.std.specs.Prelude.{ℕ, List, [], ◌∷◌, length, Float, Result, Ok, Err}
use Rattle.sequences.specs.Least.{least}
use Rattle.binary64.specs.TotalOrder.{rank_of}
use Rattle.refusal.specs.declared.Refusal.{Refusal}
use Rattle.refusal.specs.Refusal.{answer}
use Rattle.vector.specs.declared.Vector3.{Vector3}
use Rattle.vector.specs.Vector.{vector_difference, squared_length, normalized}
use Rattle.mesh.specs.Mesh.{position_of}
use Rattle.grid.specs.Grid.{Grid}
use Rattle.grid_query.specs.declared.Nearest.{Nearest}
use Rattle.grid_query.specs.Cell.{cell_of_query, candidates, candidate_rows, cell_rows}

-- Direction minus vertex, each difference squared once, summed from the left: three differences, three products and two sums, each rounded once, to nearest, ties to even (IEEE 754-2019, 4.3.1).
unfoldable pub squared_distance : List Float → Vector3 → ℕ → Float
squared_distance positions direction v = squared_length (vector_difference direction (position_of positions v))

-- "Nearest: the first candidate of the cell with the least squared distance in total order". The empty list, which row 11 keeps out, gives 0.
unfoldable pub nearest_of : List Float → Vector3 → List ℕ → ℕ
nearest_of positions direction [] = 0
nearest_of positions direction (i ∷ is) = least (λ v. rank_of (squared_distance positions direction v)) i is

-- A vertex as an answer.
abbrev pub nearest_found : ℕ → Float → ℕ → Nearest
nearest_found id distance candidates = record { id = id; distance = distance; candidates = candidates }

-- "the answer has id, distance and the count of candidates compared", "the first included".
unfoldable pub nearest_in : List Float → Vector3 → List ℕ → Nearest
nearest_in positions direction ids =
    let id = nearest_of positions direction ids in
    nearest_found id (squared_distance positions direction id) (length ids)

-- The same behind the rows that speak of the cell.
unfoldable pub nearest_of_cell : Grid → List Float → Vector3 → ℕ → Result Nearest Refusal
nearest_of_cell grid positions direction cell = answer (candidate_rows grid positions cell) Err (Ok (nearest_in positions direction (candidates grid cell)))

-- The whole outcome of a nearest query. Nothing is lent for writing.
unfoldable pub grid_nearest : Grid → List Float → Vector3 → Result Nearest Refusal
grid_nearest grid positions direction =
    answer (cell_rows grid positions direction) Err
    (Ok (nearest_in positions (normalized direction) (candidates grid (cell_of_query grid direction))))
