-- The cell of a direction, and what a query asks of a grid before it reads the cell (document 01, "Cube grid" and below the table of refusals). Definitions only.
use Rattle.std.specs.Prelude.{ℕ, suc, ◌+◌, ◌-◌, ◌*◌, Bool, cond, List, [], ◌∷◌, length, nat_le, nat_lt, slice_index, Float, Ok}
use Rattle.std.specs.Float.Ieee.{lt, to_unsigned}
use Rattle.sequences.specs.Starts.{part, block_part}
use Rattle.refusal.specs.declared.Refusal.TheVariants.{Starts, StartsFall, EmptyCell, Id}
use Rattle.refusal.specs.Refusal.{Verdict, row}
use Rattle.vector.specs.declared.Vector3.{Vector3}
use Rattle.vector.specs.Vector.{normalized}
use Rattle.vector.specs.Direction.{direction_row}
use Rattle.mesh.specs.Mesh.{vertex_count}
use Rattle.mesh.specs.Rows.{not_falling, ids_below}
use Rattle.grid.specs.declared.cube_face.Projected.{Projected}
use Rattle.binary64.specs.Constants.{positive_zero}
use Rattle.grid.specs.CubeFace.{face_projection, dominant_face}
use Rattle.binary64.specs.Convert.{whole}
use Rattle.grid.specs.Cells.{across_cells}
use Rattle.grid.specs.Grid.{Grid}
use Rattle.grid.specs.Stored.{stored_rows}

-- A query "clamps to 0..g − 1 before it converts".
unfoldable pub clamped_cell : ℕ → Float → ℕ
clamped_cell g x = to_unsigned 64 (cond (lt x positive_zero) positive_zero (cond (lt (whole (g - 1)) x) (whole (g - 1)) x))

-- "ci" and "cj" of what a face of the cube shows.
abbrev pub ci_of : ℕ → Projected → ℕ
ci_of g p = clamped_cell g (across_cells g p.u p.d)

abbrev pub cj_of : ℕ → Projected → ℕ
cj_of g p = clamped_cell g (across_cells g p.w p.d)

-- The cell of a direction that is normalised already: "face·g·g + ci·g + cj".
unfoldable pub cell_of : ℕ → Vector3 → ℕ
cell_of g direction =
    let face = dominant_face direction in
    let p = face_projection face direction in
    face * (g * g) + (ci_of g p * g + cj_of g p)

-- "A query normalises its direction first".
abbrev pub cell_of_query : Grid → Vector3 → ℕ
cell_of_query grid direction = cell_of grid.side (normalized direction)

-- The part i, whose starts count blocks of the width w, ends within a list of so many places.
unfoldable pub part_within : ℕ → List ℕ → ℕ → ℕ → Bool
part_within w starts places i = nat_le (slice_index starts (suc i) * w) places

-- "it tries the part read for falling (18), then for running past the ids, still 3" (W-209). Of falling the mesh's `not_falling` is the test, here at one part alone: where it falls, the start below the one before it is that behind the part's own.
abbrev pub part_rows : ℕ → List ℕ → ℕ → ℕ → Verdict → Verdict
part_rows w starts places i next =
    row (not_falling starts i) (StartsFall (suc i))
    (row (part_within w starts places i) Starts next)

-- "Candidates are the ids in the direction's cell".
unfoldable pub candidates : Grid → ℕ → List ℕ
candidates grid cell = part grid.cell_starts grid.cell_ids cell

-- A list of ids as triples, three ids each.
unfoldable pub in_triples : List ℕ → List (List ℕ)
in_triples [] = []
in_triples (a ∷ []) = []
in_triples (a ∷ b ∷ []) = []
in_triples (a ∷ b ∷ c ∷ rest) = (a ∷ b ∷ c ∷ []) ∷ in_triples rest

-- The triples listed at the vertex v: triangle starts are "in whole triples".
unfoldable pub triples_at : Grid → ℕ → List (List ℕ)
triples_at grid v = in_triples (block_part 3 grid.triangle_starts grid.triples v)

-- Rows 2, 19, 20, 2, 3 and then 9, which come before the cell is read, and then the next ones.
abbrev pub grid_rows : Grid → List Float → Vector3 → Verdict → Verdict
grid_rows grid positions direction next = stored_rows grid positions (direction_row direction next)

-- "then in its cell" rows 18, 3, 11, 4.
abbrev pub candidate_rows : Grid → List Float → ℕ → Verdict
candidate_rows grid positions cell =
    part_rows 1 grid.cell_starts (length grid.cell_ids) cell
    (row (nat_lt 0 (length (candidates grid cell))) EmptyCell
    (row (ids_below (vertex_count positions) (candidates grid cell)) Id (Ok tt)))

-- Both in their order, at the cell of the direction.
unfoldable pub cell_rows : Grid → List Float → Vector3 → Verdict
cell_rows grid positions direction = grid_rows grid positions direction (candidate_rows grid positions (cell_of_query grid direction))
