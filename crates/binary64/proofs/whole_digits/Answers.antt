use lib.Ieee.{binary64, fits, of_bits}
use denote.Floats.{passes}
use Rattle.binary64.proofs.WholeDigits.{field_small, digits_shifted}
use Rattle.binary64.proofs.whole_digits.Goals as goal

pub overflow_sub-fraction : goal.overflow_sub-fraction
unfolding of_bits
overflow_sub-fraction c = field_small c.args.x (passes (fits binary64 c.args.x) c.well_formed.0.1) c.requires.positive c.requires.with_fraction

pub returns : goal.returns
unfolding of_bits
returns c =
    digits_shifted c.args.x (passes (fits binary64 c.args.x) c.well_formed.0.1) c.requires.positive c.requires.with_fraction c.min.result c.min.ensures
