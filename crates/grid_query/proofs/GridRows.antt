-- What rows 2, 19, 20, 2, 3 and 9 tell of a lent grid: `grid_facts`, and that the query's cell is one of its cells: `query_cell_inside`. Assumes nothing.
use Rattle.std.proofs.Common.{◌≡◌, ◌+◌, ◌<◌, Bool, true, false, List, length, refl, ap, ◌∙◌, arith}
use lib.Ieee.{Float}
use Rattle.refusal.specs.declared.Refusal.{Refusal}
use Rattle.std.specs.Prelude.{Result, Ok, Err}
use Rattle.refusal.specs.declared.Refusal.TheVariants.{Direction}
use Rattle.refusal.specs.Refusal.{Verdict, row, then, answer}
use Rattle.refusal.proofs.Rows.{row_passed, row_then}
use Rattle.vector.specs.declared.Vector3.{Vector3}
use Rattle.vector.specs.Vector.{normalized}
use Rattle.vector.specs.Direction.{admissible, direction_row, direction_of}
use Rattle.grid.specs.Cells.{cell_count}
use Rattle.grid.specs.Grid.{Grid}
use Rattle.grid.specs.Stored.{stored_rows}
use Rattle.grid.specs.Told.{StoredFacts}
use Rattle.grid.proofs.Stored.{stored_facts, stored_then, stored_passed, stored_through}
use Rattle.grid_query.specs.Cell.{cell_of_query, grid_rows, candidate_rows, cell_rows}
use Rattle.grid_query.proofs.CellBound.{cell_below}

-- what the rows let pass
pub record GridFacts (grid : Grid) (positions : List Float) (direction : Vector3) : Type 0 where
  pub stored : StoredFacts grid positions
  pub admitted : admissible direction ≡ true

pub grid_facts : (grid : Grid) (positions : List Float) (direction : Vector3) → grid_rows grid positions direction (Ok tt) ≡ Ok tt → GridFacts grid positions direction
grid_facts grid positions direction h =
    let rows = stored_passed grid positions (direction_row direction (Ok tt)) h in
    record {
      stored = stored_facts grid positions rows.0;
      admitted = (row_passed (admissible direction) Direction (Ok tt) rows.1).0;
    }

-- the part of the query's cell has both its starts
pub query_cell_inside : (grid : Grid) (positions : List Float) (direction : Vector3) → GridFacts grid positions direction → cell_of_query grid direction + 1 < length grid.cell_starts
query_cell_inside grid positions direction facts =
    let stored = facts.stored in
    let below : cell_of_query grid direction < cell_count grid.side = cell_below grid.side (normalized direction) (omega arith) (omega arith) in
    omega arith

-- ---- the chain of a query
module _ (grid : Grid) (positions : List Float) (direction : Vector3) where
  grid_rows_then : (v next : Verdict) → grid_rows grid positions direction (then v next) ≡ then (grid_rows grid positions direction v) next
  grid_rows_then v next =
      ap (stored_rows grid positions) (row_then (admissible direction) Direction v next) ∙ stored_then grid positions (direction_row direction v) next

  -- row 9 refuses behind the others
  pub query_direction_refused : stored_rows grid positions (Ok tt) ≡ Ok tt → (reason : Refusal) → direction_of direction ≡ Err reason → grid_rows grid positions direction (Ok tt) ≡ Err reason
  unfolding direction_of
  query_direction_refused h reason r = stored_through grid positions (direction_row direction (Ok tt)) h ∙ tells (admissible direction) r
    where
      tells : (b : Bool) → ◌≡◌ {A = Result Vector3 Refusal} (answer (row b Direction (Ok tt)) Err (Ok direction)) (Err reason) → row b Direction (Ok tt) ≡ Err reason
      tells true e = cc
      tells false e = cc

  pub query_direction_passed : stored_rows grid positions (Ok tt) ≡ Ok tt → (v : Vector3) → direction_of direction ≡ Ok v → grid_rows grid positions direction (Ok tt) ≡ Ok tt
  unfolding direction_of
  query_direction_passed h v r = stored_through grid positions (direction_row direction (Ok tt)) h ∙ tells (admissible direction) r
    where
      tells : (b : Bool) → ◌≡◌ {A = Result Vector3 Refusal} (answer (row b Direction (Ok tt)) Err (Ok direction)) (Ok v) → row b Direction (Ok tt) ≡ Ok tt
      tells true e = refl
      tells false e = cc

  -- the rows of the grid and of the direction first, then those of the cell
  pub cell_rows_then : cell_rows grid positions direction ≡ then (grid_rows grid positions direction (Ok tt)) (candidate_rows grid positions (cell_of_query grid direction))
  unfolding cell_rows
  cell_rows_then = grid_rows_then (Ok tt) (candidate_rows grid positions (cell_of_query grid direction))

  pub cell_rows_refused : (reason : Refusal) → grid_rows grid positions direction (Ok tt) ≡ Err reason → cell_rows grid positions direction ≡ Err reason
  cell_rows_refused reason h = cell_rows_then ∙ ap (λ (v : Verdict). then v (candidate_rows grid positions (cell_of_query grid direction))) h

  pub cell_rows_passed : grid_rows grid positions direction (Ok tt) ≡ Ok tt → cell_rows grid positions direction ≡ candidate_rows grid positions (cell_of_query grid direction)
  cell_rows_passed h = cell_rows_then ∙ ap (λ (v : Verdict). then v (candidate_rows grid positions (cell_of_query grid direction))) h
