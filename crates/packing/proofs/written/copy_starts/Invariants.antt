-- What has been passed is written.
use Rattle.sequences.specs.Tabulate.{Overwritten}
use Rattle.packing.proofs.written.copy_starts.Given as goal

abbrev pub invariant-loop-i : goal.invariant-loop-i
invariant-loop-i l = Overwritten l.starts l.fn.words l.words l.i 0
