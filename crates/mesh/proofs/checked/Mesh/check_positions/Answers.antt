-- `mesh::checked::Mesh::check_positions` meets its contract: row 5 behind the rows that hold of every such mesh. Assumes nothing.
use Rattle.std.proofs.Common.{refl}
use Rattle.mesh.specs.Rows.{mesh_rows}
use Rattle.mesh.proofs.checked.Mesh.check_positions.Goals as goal

pub returns-then-positions_admissible : goal.returns-then-positions_admissible
unfolding mesh_rows
returns-then-positions_admissible c = rw (c.positions.ensures.rows, ← c.positions.ensures.positions, ← c.if-positions_admissible.ensures) refl

pub returns-else-positions_admissible : goal.returns-else-positions_admissible
unfolding mesh_rows
returns-else-positions_admissible c = rw (c.positions.ensures.rows, ← c.positions.ensures.positions, ← c.if-positions_admissible.ensures) refl
