-- `walk::breadth_first` meets its contract: vertex 0 enters, and the walk goes on from there. Assumes nothing.
use Rattle.walk.proofs.Queue.{holding_again}
use Rattle.walk.proofs.Continued.{walk_traversed}
use Rattle.walk.proofs.breadth_first.Goals as goal

pub continue_walk-requires-clause-held : goal.continue_walk-requires-clause-held
continue_walk-requires-clause-held c = holding_again c.begin_walk.ensures

pub returns : goal.returns
returns c = walk_traversed c.begin_walk.ensures c.continue_walk.ensures
