-- By evaluation.
use Rattle.std.proofs.Common.{refl}
use lib.Ieee.{of_bits, to_bits, round}
use Rattle.binary32.specs.Convert.{convert_format}
use Rattle.binary32.proofs.laws.worked_conversions.Goals as goal

pub returns : goal.returns
unfolding convert_format of_bits to_bits round
returns c = record { plain = refl; ties = refl; subnormal = refl; overflow = refl; special = refl }
