-- What has been passed is written.
use Rattle.std.specs.Float.{nan}
use Rattle.sequences.specs.Tabulate.{Overwritten}
use Rattle.packing.specs.Packing.{packed_floats}
use Rattle.packing.proofs.written.convert_positions.Given as goal

abbrev pub invariant-loop-i : goal.invariant-loop-i
invariant-loop-i l = Overwritten (packed_floats l.positions) l.fn.floats l.floats l.i nan
