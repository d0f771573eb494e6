use lib.Ieee.{of_bits, neg, div}
use Rattle.grid_query.proofs.least_kept.Goals as goal

pub returns-in-None : goal.returns-in-None
unfolding of_bits neg div
returns-in-None c = rw c.in-None.is
