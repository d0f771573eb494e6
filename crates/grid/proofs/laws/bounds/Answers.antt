-- `grid::laws::bounds`: each of its bounds is a law of its own. Assumes nothing.
use Rattle.grid.proofs.SideBound.{side_bound, usual_side_bound}
use Rattle.grid.proofs.Margin.{cell_ids_room}
use Rattle.grid.proofs.Held.{held_most}
use Rattle.grid.proofs.laws.bounds.Goals as goal

pub returns-clause-side : goal.returns-clause-side
returns-clause-side c = side_bound

pub returns-clause-usual_side : goal.returns-clause-usual_side
returns-clause-usual_side c = usual_side_bound

pub returns-clause-cell_ids : goal.returns-clause-cell_ids
returns-clause-cell_ids c = cell_ids_room

pub returns-clause-held : goal.returns-clause-held
returns-clause-held c = held_most
