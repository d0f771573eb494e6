-- `islands::laws::islands_number_all`: by the ids that were tried. Assumes nothing.
use Rattle.islands.proofs.Theorems.{every_vertex_numbered}
use Rattle.islands.proofs.laws.islands_number_all.Goals as goal

pub returns : goal.returns
returns c = every_vertex_numbered
