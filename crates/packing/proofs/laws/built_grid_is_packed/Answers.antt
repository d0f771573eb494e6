-- `packing::laws::built_grid_is_packed`: every row but the last passes. Assumes nothing.
use Rattle.packing.proofs.Built.{built_packed}
use Rattle.packing.proofs.laws.built_grid_is_packed.Goals as goal

pub returns : goal.returns
returns c = built_packed
