-- `packing::written::convert_positions` meets its contract: each coordinate is converted in its turn. Assumes nothing.
use Rattle.std.proofs.Common.{◌∙◌, arith}
use lib.ListN.{length-map}
use Rattle.std.specs.Float.{nan, binary32}
use Rattle.binary32.specs.Convert.{convert_format}
use Rattle.std.proofs.lemmas.List.{get_or-map}
use Rattle.sequences.proofs.Tabulate.{overwritten_set, overwritten_all}
use Rattle.packing.specs.Packing.{packed_floats}
use Rattle.packing.proofs.written.convert_positions.Goals as goal

pub loop-i-preserved : goal.loop-i-preserved
unfolding packed_floats
loop-i-preserved c = overwritten_set (omega arith) (cc (get_or-map (convert_format binary32) c.args.positions.now c.loop-i.i nan nan c.loop-i-test.true)) c.loop-i.invariant

pub returns : goal.returns
unfolding packed_floats
returns c = overwritten_all (length-map _ _ ∙ omega arith) (omega arith) c.loop-i.invariant
