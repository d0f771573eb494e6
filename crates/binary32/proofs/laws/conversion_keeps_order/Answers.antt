use Rattle.binary32.proofs.Convert.{convert_monotone}
use Rattle.binary32.proofs.laws.conversion_keeps_order.Goals as goal

pub returns : goal.returns
returns c = convert_monotone
