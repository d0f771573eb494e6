use Rattle.invariance.proofs.Mark.{calls_truthful, calls_same}
use Rattle.invariance.proofs.mark_through_calls.Goals as goal

pub returns-clause-truthful : goal.returns-clause-truthful
returns-clause-truthful c = calls_truthful

pub returns-clause-nothing_depends : goal.returns-clause-nothing_depends
returns-clause-nothing_depends c = calls_same
