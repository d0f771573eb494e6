-- The counts of every lattice. Assumes nothing.
use Rattle.std.proofs.Common.{ap, length, ◌∙◌}
use Rattle.lattice.proofs.Vertices.{id_below}
use Rattle.lattice.proofs.Counts.{lattice_vertex_count_lem, lattice_corner_count}
use Rattle.lattice.proofs.Neighbours.{mesh_count, mesh_list}
use Rattle.lattice.proofs.ListLengths.{lattice_list_length, lattice_entry_count}
use Rattle.icosahedron.specs.Slots.{lattice_vertex_count}
use Rattle.lattice.proofs.laws.counts.Goals as goal

pub returns-clause-vertices : goal.returns-clause-vertices
unfolding lattice_vertex_count
returns-clause-vertices c n frequency = mesh_count n ∙ lattice_vertex_count_lem n frequency.0

pub returns-clause-entries : goal.returns-clause-entries
returns-clause-entries c n frequency = lattice_entry_count n frequency.0

pub returns-clause-corners : goal.returns-clause-corners
returns-clause-corners c n frequency = lattice_corner_count n frequency.0

pub returns-clause-neighbours : goal.returns-clause-neighbours
returns-clause-neighbours c n v frequency below = ap length (mesh_list n v below) ∙ lattice_list_length n v frequency.0 (rw (mesh_count n) at below)

pub returns-clause-ids : goal.returns-clause-ids
returns-clause-ids c n p on = rw (mesh_count n) (id_below n p on)
