-- The rows of a mesh, of every lattice. Assumes nothing.
use lib.Ieee.Bits.{is_true}
use Rattle.lattice.proofs.Positions.{position_admissible}
use Rattle.lattice.proofs.Rows.{lattice_rows, lattice_mesh_rows}
use Rattle.lattice.proofs.laws.mesh_rows.Goals as goal

pub returns-clause-positions : goal.returns-clause-positions
returns-clause-positions c n p frequency on = is_true _ (position_admissible n p frequency.0 frequency.1 on)

pub returns-clause-adjacency : goal.returns-clause-adjacency
returns-clause-adjacency c n frequency = lattice_rows n frequency.0 frequency.1

pub returns-clause-mesh : goal.returns-clause-mesh
returns-clause-mesh c n frequency = lattice_mesh_rows n frequency.0 frequency.1
