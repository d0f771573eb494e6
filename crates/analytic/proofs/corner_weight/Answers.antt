-- `analytic::corner_weight` meets its contract. Assumes nothing.
use lib.Ieee.{fits, binary64, of_bits}
use denote.Floats.{passes}
use Rattle.analytic.proofs.Halves.{weight_by_unit}
use Rattle.analytic.proofs.corner_weight.Goals as goal

pub returns : goal.returns
unfolding of_bits
returns c = rw c.from.ensures (weight_by_unit c.args.up c.args.fraction (passes (fits binary64 c.args.fraction) c.well_formed.1.0.1))
