use Rattle.mesh.proofs.Mark.{reading_exact, reading_truthful, reading_same, reading_index}
use Rattle.mesh.proofs.laws.mark_by_reading.Goals as goal

pub returns-clause-exact : goal.returns-clause-exact
returns-clause-exact c = reading_exact

pub returns-clause-truthful : goal.returns-clause-truthful
returns-clause-truthful c = reading_truthful

pub returns-clause-nothing_depends : goal.returns-clause-nothing_depends
returns-clause-nothing_depends c = reading_same

pub returns-clause-index : goal.returns-clause-index
returns-clause-index c = reading_index
