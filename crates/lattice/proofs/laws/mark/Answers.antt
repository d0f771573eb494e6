-- The mark of every call. Assumes nothing.
use Rattle.lattice.proofs.Mark.{lattice_truthful, lattice_same}
use Rattle.lattice.proofs.laws.mark.Goals as goal

pub returns-clause-truthful : goal.returns-clause-truthful
returns-clause-truthful c = lattice_truthful

pub returns-clause-nothing_depends : goal.returns-clause-nothing_depends
returns-clause-nothing_depends c = lattice_same
