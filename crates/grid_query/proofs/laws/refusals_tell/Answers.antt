-- `grid_query::laws::refusals_tell`: the rows one by one. Assumes nothing.
use Rattle.grid_query.proofs.Refusals.{nearest_index, locate_index, query_never_17}
use Rattle.grid_query.proofs.laws.refusals_tell.Goals as goal

pub returns-clause-nearest : goal.returns-clause-nearest
returns-clause-nearest c = nearest_index

pub returns-clause-location : goal.returns-clause-location
returns-clause-location c = locate_index

pub returns-clause-never_17 : goal.returns-clause-never_17
returns-clause-never_17 c = query_never_17
