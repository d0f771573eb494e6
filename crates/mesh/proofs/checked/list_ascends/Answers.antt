-- `mesh::checked::list_ascends` meets its contract. Assumes nothing.
use Rattle.mesh.proofs.Mark.{list_sorted}
use Rattle.mesh.proofs.checked.list_ascends.Goals as goal

pub returns : goal.returns
returns c = list_sorted c.args.list.now _ c.is_sorted.ensures.cases
