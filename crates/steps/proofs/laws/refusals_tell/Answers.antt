-- `steps::laws::refusals_tell`: by the rows that give their reasons. Assumes nothing.
use Rattle.steps.proofs.Calls.{steps_index, within_index}
use Rattle.steps.proofs.laws.refusals_tell.Goals as goal

pub returns-clause-steps : goal.returns-clause-steps
returns-clause-steps c = steps_index

pub returns-clause-within : goal.returns-clause-within
returns-clause-within c = within_index
