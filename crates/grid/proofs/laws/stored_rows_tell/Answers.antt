-- `grid::laws::stored_rows_tell`: the rows one by one. Assumes nothing.
use Rattle.grid.proofs.Stored.{stored_facts}
use Rattle.grid.proofs.laws.stored_rows_tell.Goals as goal

pub returns : goal.returns
returns c = stored_facts
