-- `islands::laws::island_is_joined`: by paths to and from the root of an island. Assumes nothing.
use Rattle.islands.proofs.ByItself.{paths_join}
use Rattle.islands.proofs.laws.island_is_joined.Goals as goal

pub returns : goal.returns
returns c = paths_join
