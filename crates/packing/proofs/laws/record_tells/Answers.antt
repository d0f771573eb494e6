-- `packing::laws::record_tells`: its numbers, one by one. Assumes nothing.
use Rattle.packing.proofs.Record.{record_told}
use Rattle.packing.proofs.laws.record_tells.Goals as goal

pub returns : goal.returns
returns c = record_told
