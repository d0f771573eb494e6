-- `steps::laws::calls_agree`: by the paths that both speak of. Assumes nothing.
use Rattle.steps.proofs.Calls.{both_calls_agree, back_as_forth}
use Rattle.steps.proofs.laws.calls_agree.Goals as goal

pub returns-clause-within : goal.returns-clause-within
returns-clause-within c = both_calls_agree

pub returns-clause-back : goal.returns-clause-back
returns-clause-back c = back_as_forth
