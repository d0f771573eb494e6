use Rattle.walk.proofs.Cases.{twelve_walked}
use Rattle.walk.proofs.laws.worked_walk.Goals as goal

pub returns : goal.returns
returns c = twelve_walked
