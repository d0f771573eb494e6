-- `steps::laws::steps_are_shortest`: a search finds the least number of steps. Assumes nothing.
use Rattle.steps.proofs.Calls.{steps_are_shortest}
use Rattle.steps.proofs.laws.steps_are_shortest.Goals as goal

pub returns : goal.returns
returns c = steps_are_shortest
