-- `islands::laws::islands_start`: by the ids that were tried before. Assumes nothing.
use Rattle.islands.proofs.Theorems.{starts_ascend_below, roots_are_lowest}
use Rattle.islands.proofs.laws.islands_start.Goals as goal

pub returns-clause-ascend : goal.returns-clause-ascend
returns-clause-ascend c = starts_ascend_below

pub returns-clause-lowest : goal.returns-clause-lowest
returns-clause-lowest c = roots_are_lowest
