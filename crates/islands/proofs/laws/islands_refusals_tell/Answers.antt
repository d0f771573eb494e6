-- `islands::laws::islands_refusals_tell`: by the rows that give their reasons. Assumes nothing.
use Rattle.islands.proofs.Theorems.{islands_index}
use Rattle.islands.proofs.laws.islands_refusals_tell.Goals as goal

pub returns : goal.returns
returns c = islands_index
