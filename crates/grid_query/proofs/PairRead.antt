-- What an accepted query tells of the grid's pair: `query_reads_pair`. Assumes nothing.
use Rattle.std.proofs.Common.{◌≡◌, List}
use lib.Ieee.{Float}
use Rattle.std.specs.Prelude.{Ok, Err}
use Rattle.refusal.proofs.Rows.{answer_accepted}
use Rattle.vector.specs.declared.Vector3.{Vector3}
use Rattle.grid.specs.Grid.{Grid}
use Rattle.grid.specs.Told.{StoredFacts}
use Rattle.grid.proofs.Stored.{stored_facts, stored_passed}
use Rattle.grid_query.specs.Cell.{cell_rows}
use Rattle.grid_query.specs.Nearest.{grid_nearest}
use Rattle.grid_query.specs.Locate.{grid_locate}
use Rattle.grid_query.specs.Told.{QueryReadsPair}

module _ (grid : Grid) (positions : List Float) (direction : Vector3) where
  passed_stored : cell_rows grid positions direction ≡ Ok tt → StoredFacts grid positions
  unfolding cell_rows
  passed_stored h = stored_facts grid positions (stored_passed grid positions _ h).0

-- the grid of an accepted query keeps an allowed pair, and its g is the side of that factor
pub query_reads_pair : QueryReadsPair
unfolding grid_nearest grid_locate
query_reads_pair grid positions direction = (
  λ found h. passed_stored grid positions direction (answer_accepted (cell_rows grid positions direction) Err _ _ (λ reason q. cc) h).0,
  λ located h. passed_stored grid positions direction (answer_accepted (cell_rows grid positions direction) Err _ _ (λ reason q. cc) h).0,
)
