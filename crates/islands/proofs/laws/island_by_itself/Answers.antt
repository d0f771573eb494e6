-- `islands::laws::island_by_itself`: by the parts of the queue, each a root's walk. Assumes nothing.
use Rattle.islands.proofs.ByItself.{island_is_walk, island_is_mesh}
use Rattle.islands.proofs.laws.island_by_itself.Goals as goal

pub returns-clause-walk : goal.returns-clause-walk
returns-clause-walk c = island_is_walk

pub returns-clause-mesh : goal.returns-clause-mesh
returns-clause-mesh c = island_is_mesh
