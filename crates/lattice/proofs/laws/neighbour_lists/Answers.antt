-- The neighbour lists of every lattice. Assumes nothing.
use Rattle.lattice.proofs.Neighbours.{lattice_mutual, lattice_no_own_vertex, lattice_no_repeat}
use Rattle.lattice.proofs.Mark.{lattice_lists_ascend}
use Rattle.lattice.proofs.laws.neighbour_lists.Goals as goal

pub returns-clause-mutual : goal.returns-clause-mutual
returns-clause-mutual c = lattice_mutual

pub returns-clause-no_own_vertex : goal.returns-clause-no_own_vertex
returns-clause-no_own_vertex c = lattice_no_own_vertex

pub returns-clause-no_repeat : goal.returns-clause-no_repeat
returns-clause-no_repeat c = lattice_no_repeat

pub returns-clause-ascending : goal.returns-clause-ascending
returns-clause-ascending c = lattice_lists_ascend
