-- What has been passed is written.
use Rattle.sequences.specs.Tabulate.{Overwritten}
use Rattle.packing.proofs.written.widen_ids.Given as goal

abbrev pub invariant-loop-i : goal.invariant-loop-i
invariant-loop-i l = Overwritten l.ids l.fn.words l.words l.i 0
