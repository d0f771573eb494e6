-- `steps::laws::steps_beside_the_walk`: by the place where the walk meets the target. Assumes nothing.
use Rattle.steps.proofs.Calls.{steps_are_the_walks, entries_are_the_walks}
use Rattle.steps.proofs.laws.steps_beside_the_walk.Goals as goal

pub returns-clause-steps : goal.returns-clause-steps
returns-clause-steps c = steps_are_the_walks

pub returns-clause-entries : goal.returns-clause-entries
returns-clause-entries c = entries_are_the_walks
