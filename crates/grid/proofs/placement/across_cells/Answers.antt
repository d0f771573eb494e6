-- `grid::placement::across_cells` meets its contract: one fused operation and one product. Assumes nothing.
use Rattle.std.proofs.Common.{◌^◌, ap, arith, le→leb}
use lib.Ieee.{Float, binary64, in_float, mul}
use Rattle.binary64.specs.Convert.{whole}
use Rattle.grid.specs.Cells.{across_cells}
use Rattle.grid.proofs.placement.across_cells.Goals as goal

pub int_to_float-result : goal.int_to_float-result
unfolding in_float
int_to_float-result c = le→leb c.args.g (2 ^ 53) (omega arith)

pub returns : goal.returns
unfolding across_cells
returns c = ap (λ (x : Float). mul binary64 x (whole c.args.g)) c.mul_add_halves.ensures
