-- What a call asks of a grid that it is lent, before it reads a part of it, and of both start lists where it reads them whole. Definitions only.
use Rattle.std.specs.Prelude.{ℕ, suc, ◌*◌, Bool, ◌&&◌, List, length, slice_index, ◌==◌, Float, Ok}
use Rattle.refusal.specs.declared.Refusal.TheVariants.{Count, Starts, StartsSpan}
use Rattle.refusal.specs.Refusal.{Verdict, row}
use Rattle.mesh.specs.Mesh.{vertex_count}
use Rattle.mesh.specs.Rows.{positions_fit, starts_span, fall_row, falling_start}
use Rattle.grid.specs.declared.settings.Settings.{Settings}
use Rattle.grid.specs.Settings.{settings_rows}
use Rattle.grid.specs.Cells.{side_of, cell_count}
use Rattle.grid.specs.Grid.{Grid}

-- A pair, a side and four lent slices as a grid.
abbrev pub lent_grid : Settings → ℕ → List ℕ → List ℕ → List ℕ → List ℕ → Grid
lent_grid settings side cell_starts cell_ids triangle_starts triples = record {
  settings = settings;
  side = side;
  cell_starts = cell_starts;
  cell_ids = cell_ids;
  triangle_starts = triangle_starts;
  triples = triples;
}

-- A grid with other cell ids and triples in place of its own.
abbrev pub with_lists : Grid → List ℕ → List ℕ → Grid
with_lists grid cell_ids triples = lent_grid grid.settings grid.side grid.cell_starts cell_ids grid.triangle_starts triples

-- Row 2 again refuses a side that is not the one of the count and of the factor that the grid keeps.
unfoldable pub side_fits : Grid → List Float → Bool
side_fits grid positions = grid.side == side_of grid.settings.factor (vertex_count positions)

-- Row 3 refuses start lists of a wrong length: each has one start more than it has lists.
unfoldable pub both_starts_counted : Grid → List Float → Bool
both_starts_counted grid positions =
    (length grid.cell_starts == suc (cell_count grid.side)) && length grid.triangle_starts == suc (vertex_count positions)

abbrev pub side_rows : Grid → List Float → Verdict → Verdict
side_rows grid positions next = row (side_fits grid positions) Count (row (both_starts_counted grid positions) Starts next)

-- Rows 2, 19, 20, 2 and 3, and then the next ones: count and positions, the pair that the grid keeps, its side, the lengths.
abbrev pub stored_rows : Grid → List Float → Verdict → Verdict
stored_rows grid positions next = row (positions_fit positions) Count (settings_rows grid.settings (side_rows grid positions next))

-- ---- start lists read whole
-- Row 17 refuses starts that don't begin at 0 or whose last isn't the entry count. Cell starts count ids, and triangle starts triples, of three ids each.
unfoldable pub cell_starts_span : Grid → Bool
cell_starts_span grid = starts_span (cell_count grid.side) grid.cell_starts grid.cell_ids

unfoldable pub triangle_starts_span : Grid → List Float → Bool
triangle_starts_span grid positions =
    (slice_index grid.triangle_starts 0 == 0) && (slice_index grid.triangle_starts (vertex_count positions) * 3 == length grid.triples)

-- Both lists: each of rows 17 and 18 tries the cell starts first. A list between two starts may be of any length.
unfoldable pub whole_starts_rows : Grid → List Float → Verdict
whole_starts_rows grid positions =
    row (cell_starts_span grid) StartsSpan
    (row (triangle_starts_span grid positions) StartsSpan
    (fall_row (falling_start grid.cell_starts) (fall_row (falling_start grid.triangle_starts) (Ok tt))))
