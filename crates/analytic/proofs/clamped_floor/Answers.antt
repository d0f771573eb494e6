-- `analytic::clamped_floor` meets its contract. Assumes nothing.
use Rattle.std.proofs.Common.{arith}
use lib.Ieee.{fits, binary64, of_bits, of_int}
use denote.Floats.{passes}
use Rattle.analytic.proofs.ClampedFloor.{below_digits, whole_at_most, floor_below, floor_beyond, floor_none}
use Rattle.analytic.proofs.clamped_floor.Goals as goal

pub whole_digits-requires-clause-with_fraction : goal.whole_digits-requires-clause-with_fraction
unfolding of_bits of_int
whole_digits-requires-clause-with_fraction c = below_digits c.args.frequency.n c.args.u c.args.frequency.in_range.1 c.if-u-frequency.true

pub returns-then-u-frequency : goal.returns-then-u-frequency
unfolding of_bits of_int
returns-then-u-frequency c =
    rw c.whole_digits.ensures (floor_below c.args.frequency.n c.args.u c.args.frequency.in_range.1 (passes (fits binary64 c.args.u) c.well_formed.1.0.1) c.if-u.true c.if-u-frequency.true)

pub returns-else-u-frequency : goal.returns-else-u-frequency
unfolding of_bits of_int
returns-else-u-frequency c =
    floor_beyond c.args.frequency.n c.args.u c.args.frequency.in_range.1 (passes (fits binary64 c.args.u) c.well_formed.1.0.1) c.if-u.true c.if-u-frequency.false

pub returns-else-u : goal.returns-else-u
unfolding of_bits
returns-else-u c = floor_none c.args.frequency.n c.args.u c.args.frequency.in_range.1 (passes (fits binary64 c.args.u) c.well_formed.1.0.1) c.if-u.false

pub overflow_cast-result : goal.overflow_cast-result
unfolding of_bits of_int
overflow_cast-result c = omega (arith, c.whole_digits.ensures, whole_at_most c.args.frequency.n c.args.u c.args.frequency.in_range.1 c.if-u-frequency.true)
