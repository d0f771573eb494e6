use Rattle.std.proofs.Common.{T, sym, subst}
use Rattle.std.specs.Float.Ieee.{of_bits}
use Rattle.fused.proofs.HalfSum.{half_sum}
use Rattle.fused.proofs.mul_add_halves.Goals as goal

pub returns : goal.returns
unfolding of_bits
returns c = half_sum c.args.x (subst T (sym c.well_formed.0.1) tt)
