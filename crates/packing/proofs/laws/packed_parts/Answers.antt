-- `packing::laws::packed_parts`: the parts at their offsets. Assumes nothing.
use Rattle.packing.proofs.Record.{parts_stand}
use Rattle.packing.proofs.laws.packed_parts.Goals as goal

pub returns : goal.returns
returns c = parts_stand
