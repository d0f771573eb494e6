-- What a query answers behind the rows of its grid and its direction, and that a nearest query answers the same whatever the triples. Assumes nothing.
use Rattle.std.proofs.Common.{◌≡◌, ℕ, List, refl, arith}
use Rattle.std.specs.Prelude.{Ok, Err}
use lib.Ieee.{Float}
use Rattle.refusal.specs.declared.Refusal.{Refusal}
use Rattle.vector.specs.declared.Vector3.{Vector3}
use Rattle.vector.specs.Vector.{normalized}
use Rattle.grid.specs.declared.settings.Settings.{Settings}
use Rattle.grid.specs.Grid.{Grid}
use Rattle.grid.specs.Passes.{GridExtent}
use Rattle.grid.specs.Stored.{lent_grid, side_fits, both_starts_counted}
use Rattle.grid.proofs.SettingsRows.{margin_small}
use Rattle.grid_query.specs.declared.Nearest.{Nearest}
use Rattle.grid_query.specs.Cell.{cell_of_query, candidates, grid_rows, cell_rows}
use Rattle.grid_query.specs.Nearest.{nearest_of_cell, grid_nearest}
use Rattle.grid_query.specs.Locate.{located_at, grid_locate}
use Rattle.grid_query.proofs.GridRows.{grid_facts, cell_rows_refused, cell_rows_passed}
use Rattle.grid_query.proofs.VertexFound.{cell_found, cell_refused}

pub nearest_whatever_triples : (settings : Settings) (side : ℕ) (cell_starts cell_ids triangle_starts triples triples' : List ℕ) (positions : List Float) (direction : Vector3)
    → grid_nearest (lent_grid settings side cell_starts cell_ids triangle_starts triples) positions direction ≡ grid_nearest (lent_grid settings side cell_starts cell_ids triangle_starts triples') positions direction
unfolding grid_nearest cell_rows side_fits both_starts_counted candidates
nearest_whatever_triples settings side cell_starts cell_ids triangle_starts triples triples' positions direction = refl

module _ (grid : Grid) (positions : List Float) (direction : Vector3) where
  pub nearest_query_refused : (reason : Refusal) → grid_rows grid positions direction (Ok tt) ≡ Err reason → grid_nearest grid positions direction ≡ Err reason
  unfolding grid_nearest
  nearest_query_refused reason h = rw (cell_rows_refused grid positions direction reason h) refl

  pub location_refused : (reason : Refusal) → grid_rows grid positions direction (Ok tt) ≡ Err reason → grid_locate grid positions direction ≡ Err reason
  unfolding grid_locate
  location_refused reason h = rw (cell_rows_refused grid positions direction reason h) refl

  module _ (passes : grid_rows grid positions direction (Ok tt) ≡ Ok tt) where
    pub extent_passed : GridExtent grid.settings.margin grid.side
    extent_passed =
        let stored = (grid_facts grid positions direction passes).stored in
        (omega arith, omega arith, margin_small grid.settings stored.allowed_margin)

    pub nearest_in_its_cell : grid_nearest grid positions direction ≡ nearest_of_cell grid positions (normalized direction) (cell_of_query grid direction)
    unfolding grid_nearest nearest_of_cell
    nearest_in_its_cell = rw (cell_rows_passed grid positions direction passes) refl

    pub location_unmet : (reason : Refusal) → nearest_of_cell grid positions (normalized direction) (cell_of_query grid direction) ≡ Err reason → grid_locate grid positions direction ≡ Err reason
    unfolding grid_locate
    location_unmet reason h =
        rw (cell_rows_passed grid positions direction passes, cell_refused grid positions (normalized direction) (cell_of_query grid direction) reason h) refl

    pub location_at_vertex : (found : Nearest) → nearest_of_cell grid positions (normalized direction) (cell_of_query grid direction) ≡ Ok found
        → grid_locate grid positions direction ≡ located_at grid positions (normalized direction) found.id
    unfolding grid_locate
    location_at_vertex found h =
        let f = cell_found grid positions (normalized direction) (cell_of_query grid direction) found h in
        rw (cell_rows_passed grid positions direction passes, f.passed, ← f.is_nearest) refl
