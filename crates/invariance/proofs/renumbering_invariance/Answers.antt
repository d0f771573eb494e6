use Rattle.invariance.proofs.Invariance.{renumbering_invariance_lem}
use Rattle.invariance.proofs.renumbering_invariance.Goals as goal

pub returns : goal.returns
returns c = renumbering_invariance_lem
