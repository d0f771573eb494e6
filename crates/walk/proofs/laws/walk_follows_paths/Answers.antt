-- `walk::laws::walk_follows_paths`: forth and back along the lists that were read. Assumes nothing.
use Rattle.walk.proofs.Theorems.{walk_follows_paths}
use Rattle.walk.proofs.laws.walk_follows_paths.Goals as goal

pub returns : goal.returns
returns c = walk_follows_paths
