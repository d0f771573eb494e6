use Rattle.root.proofs.IntegerRoot.{integer_root_lem}
use Rattle.root.proofs.laws.integer_root_greatest.Goals as goal

pub returns : goal.returns
returns c = integer_root_lem
