use Rattle.grid_query.specs.Nearest.{squared_distance}
use Rattle.grid_query.proofs.Query.squared_distance.Goals as goal

pub returns : goal.returns
unfolding squared_distance
returns c = cc
