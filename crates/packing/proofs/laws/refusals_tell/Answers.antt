-- `packing::laws::refusals_tell`: by the rows that give their reasons. Assumes nothing.
use Rattle.packing.proofs.Refusals.{packing_index}
use Rattle.packing.proofs.laws.refusals_tell.Goals as goal

pub returns : goal.returns
returns c = packing_index
