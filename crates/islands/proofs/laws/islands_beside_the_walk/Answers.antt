-- `islands::laws::islands_beside_the_walk`: there is one island, or that walk leaves a vertex out. Assumes nothing.
use Rattle.islands.proofs.Theorems.{one_island_is_the_walk, several_are_unreached}
use Rattle.islands.proofs.laws.islands_beside_the_walk.Goals as goal

pub returns-clause-one : goal.returns-clause-one
returns-clause-one c = one_island_is_the_walk

pub returns-clause-several : goal.returns-clause-several
returns-clause-several c = several_are_unreached
