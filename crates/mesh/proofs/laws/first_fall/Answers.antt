use Rattle.mesh.proofs.Falls.{fall_first, fall_none}
use Rattle.mesh.proofs.laws.first_fall.Goals as goal

pub returns-clause-named : goal.returns-clause-named
returns-clause-named c = fall_first

pub returns-clause-none : goal.returns-clause-none
returns-clause-none c = fall_none
