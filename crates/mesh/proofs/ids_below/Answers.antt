-- `mesh::ids_below` meets its contract: the greatest id decides. Assumes nothing.
use Rattle.std.proofs.Common.{rules}
use Rattle.mesh.proofs.IdsBelow.{decides}
use Rattle.mesh.proofs.ids_below.Goals as goal

pub returns : goal.returns
returns c = decides c.args.count c.args.ids.now c.max.result (search rules) (search rules)
