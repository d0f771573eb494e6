-- `packing::laws::packed_ids_below`: by row 4. Assumes nothing.
use Rattle.packing.proofs.Contents.{ids_packed}
use Rattle.packing.proofs.laws.packed_ids_below.Goals as goal

pub returns : goal.returns
returns c = ids_packed
