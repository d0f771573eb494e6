use Rattle.walk.proofs.Theorems.{walk_accepted, unreached_numbered, walk_index}
use Rattle.walk.proofs.laws.walk_outcomes.Goals as goal

pub returns-clause-accepted : goal.returns-clause-accepted
returns-clause-accepted c = walk_accepted

pub returns-clause-unreached : goal.returns-clause-unreached
returns-clause-unreached c = unreached_numbered

pub returns-clause-index : goal.returns-clause-index
returns-clause-index c = walk_index
