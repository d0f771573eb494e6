-- What an answer of the builder tells of the grid, and what the rows of a stored grid tell that let it pass. Definitions only.
use Rattle.std.specs.Prelude.{◌≡◌, ℕ, suc, ◌<◌, ◌≤◌, IsTrue, EachIndex, List, length, slice_index, Float, Ok, Err}
use Rattle.refusal.specs.declared.Refusal.{Refusal}
use Rattle.mesh.specs.Mesh.{Mesh, count, vertex_count}
use Rattle.mesh.specs.Laws.{IndexTold}
use Rattle.grid.specs.declared.settings.Settings.{Settings}
use Rattle.grid.specs.Settings.{factor_fits, margin_fits}
use Rattle.grid.specs.Cells.{side_of, cell_count}
use Rattle.grid.specs.Grid.{Grid, GridSlices, built, build_grid, cut}
use Rattle.grid.specs.Passes.{greatest_side}
use Rattle.grid.specs.Stored.{stored_rows}

-- A grid that was built for n vertices: every id in its cells and in its triples is one of theirs.
pub record BuiltFacts (n : ℕ) (grid : Grid) : Type 0 where
  pub cell_ids_below : EachIndex grid.cell_ids (λ i. slice_index grid.cell_ids i < n)
  pub triples_below : EachIndex grid.triples (λ i. slice_index grid.triples i < n)

-- So it is of every accepted build, whose slices are cut to the grid's lengths.
abbrev pub BuiltIsBelow : Type 0
BuiltIsBelow = (m : Mesh) (settings : Settings) (lent : GridSlices) (g held : ℕ) → (build_grid m settings lent).answered ≡ Ok (built g held)
    → BuiltFacts (count m) (cut settings (count m) g (build_grid m settings lent).slices)

-- A refused build: 18 carries the index of the first start below the one before it, and every other refusal 0.
abbrev pub BuildIndexIsTold : Type 0
BuildIndexIsTold = (m : Mesh) (settings : Settings) (lent : GridSlices) (reason : Refusal) → (build_grid m settings lent).answered ≡ Err reason → IndexTold m.starts reason

-- A stored grid beside these positions: it keeps an allowed pair, its g is the side of count and factor, and both start lists are as long as these ask for.
pub record StoredFacts (grid : Grid) (positions : List Float) : Type 0 where
  pub allowed_factor : IsTrue (factor_fits grid.settings.factor)
  pub allowed_margin : IsTrue (margin_fits grid.settings.margin)
  pub is_side : grid.side ≡ side_of grid.settings.factor (vertex_count positions)
  pub side_low : 2 ≤ grid.side
  pub side_high : grid.side ≤ greatest_side
  pub cells_counted : length grid.cell_starts ≡ suc (cell_count grid.side)
  pub vertices_counted : length grid.triangle_starts ≡ suc (vertex_count positions)

-- So it is wherever the rows let the grid pass.
abbrev pub PassedIsStored : Type 0
PassedIsStored = (grid : Grid) (positions : List Float) → stored_rows grid positions (Ok tt) ≡ Ok tt → StoredFacts grid positions
