-- `grid::laws::build_tells`: what an accepted build tells, and a refused one. Assumes nothing.
use Rattle.grid.proofs.BuiltBelow.{built_below}
use Rattle.grid.proofs.Refusals.{build_index}
use Rattle.grid.proofs.laws.build_tells.Goals as goal

pub returns-clause-accepted : goal.returns-clause-accepted
returns-clause-accepted c = built_below

pub returns-clause-refused : goal.returns-clause-refused
returns-clause-refused c = build_index
