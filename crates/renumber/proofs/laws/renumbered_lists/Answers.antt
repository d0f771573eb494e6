use Rattle.renumber.proofs.RenumberedMesh.{renumbered_ascends}
use Rattle.renumber.proofs.RenumberedBelow.{renumbered_below}
use Rattle.renumber.proofs.laws.renumbered_lists.Goals as goal

pub returns-clause-below : goal.returns-clause-below
returns-clause-below c = renumbered_below

pub returns-clause-ascend : goal.returns-clause-ascend
returns-clause-ascend c = λ m q permutes. renumbered_ascends m permutes
