-- The ids of both queries. Assumes nothing.
use Rattle.analytic.proofs.Answers.{located_below, nearest_below}
use Rattle.analytic.proofs.laws.ids_below_vertex_count.Goals as goal

pub returns-clause-located : goal.returns-clause-located
returns-clause-located c = located_below

pub returns-clause-nearest : goal.returns-clause-nearest
returns-clause-nearest c = nearest_below
