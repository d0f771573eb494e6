-- `mesh::falling_start` meets its contract: the first two neighbours that fall. Assumes nothing.
use Rattle.std.proofs.Common.{rules}
use Rattle.mesh.proofs.Falls.{fall_found}
use Rattle.mesh.proofs.falling_start.Goals as goal

pub returns : goal.returns
returns c = fall_found c.args.starts.now c.map.result (search rules)
