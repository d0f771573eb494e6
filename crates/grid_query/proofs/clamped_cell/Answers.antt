use Rattle.std.proofs.Common.{sym, arith}
use lib.Ieee.{of_bits, of_int}
use Rattle.grid_query.proofs.Clamp.{clamped_is_cut, beyond_last, none_before}
use Rattle.grid_query.proofs.clamped_cell.Goals as goal

pub whole_digits-requires-clause-with_fraction : goal.whole_digits-requires-clause-with_fraction
unfolding of_bits of_int
whole_digits-requires-clause-with_fraction c = c.if-x-2.true

pub returns-then-x-2 : goal.returns-then-x-2
returns-then-x-2 c = rw (c.min.ensures, c.whole_digits.ensures) (sym (clamped_is_cut c.args.extent.side c.args.x (omega arith)))

pub returns-else-x-2 : goal.returns-else-x-2
unfolding of_bits of_int
returns-else-x-2 c = beyond_last c.args.extent.side c.args.x (omega arith) c.if-x.true c.if-x-2.false

pub returns-else-x : goal.returns-else-x
unfolding of_bits
returns-else-x c = none_before c.args.extent.side c.args.x (omega arith) c.if-x.false
