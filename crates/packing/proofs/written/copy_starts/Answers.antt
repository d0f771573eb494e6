-- `packing::written::copy_starts` meets its contract: at the end all starts are written. Assumes nothing.
use Rattle.std.proofs.Common.{arith}
use Rattle.sequences.proofs.Tabulate.{overwritten_all}
use Rattle.packing.proofs.written.copy_starts.Goals as goal

pub returns : goal.returns
returns c = overwritten_all (omega arith) (omega arith) c.loop-i.invariant
