-- `grid_query::laws::direction_has_cell`: face, row and column are there. Assumes nothing.
use Rattle.grid_query.proofs.CellBound.{cell_below}
use Rattle.grid_query.proofs.laws.direction_has_cell.Goals as goal

pub returns : goal.returns
returns c = cell_below
