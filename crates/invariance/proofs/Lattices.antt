-- The claim of every lattice that row 1 lets be built: a lattice passes the builder's mesh rows and its lists are mutual and without repeats, so nothing is left to assume of it. Assumes nothing.
use Rattle.lattice.specs.Lattice.{lattice_mesh}
use Rattle.lattice.proofs.Neighbours.{lattice_mutual, lattice_no_repeat}
use Rattle.lattice.proofs.Rows.{lattice_mesh_rows}
use Rattle.invariance.specs.Laws.{LatticeInvariance, LatticeBuilds}
use Rattle.invariance.proofs.Invariance.{renumbering_invariance_lem}

pub lattice_invariance_lem : LatticeInvariance
lattice_invariance_lem n frequency mark values calls =
    renumbering_invariance_lem (lattice_mesh n) mark values calls (lattice_mesh_rows n frequency.0 frequency.1) (lattice_mutual n)

pub lattice_builds : LatticeBuilds
lattice_builds n frequency mark values calls = (lattice_invariance_lem n frequency mark values calls).builds (lattice_no_repeat n)
