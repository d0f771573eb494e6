-- `vector::Vector3::is_admissible` tests the squared length alone. Assumes nothing.
use lib.Ieee.{of_bits}
use Rattle.vector.proofs.Admissible.{admissible_by_length}
use Rattle.vector.proofs.Vector3.is_admissible.Goals as goal

pub returns : goal.returns
unfolding of_bits
returns c = rw c.norm_squared-squared.ensures (admissible_by_length c.args.self)
