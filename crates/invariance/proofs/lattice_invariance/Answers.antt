use Rattle.invariance.proofs.Lattices.{lattice_invariance_lem, lattice_builds}
use Rattle.invariance.proofs.lattice_invariance.Goals as goal

pub returns-clause-claim : goal.returns-clause-claim
returns-clause-claim c = lattice_invariance_lem

pub returns-clause-builds : goal.returns-clause-builds
returns-clause-builds c = lattice_builds
