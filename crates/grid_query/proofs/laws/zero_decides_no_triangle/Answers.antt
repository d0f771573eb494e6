-- `grid_query::laws::zero_decides_no_triangle`: of a list of triangles, of a whole location, and of which rules it speaks. Assumes nothing.
use Rattle.grid_query.proofs.KeptTriangle.{kept_whichever_zero, located_whichever_zero, any_minimum_open, earlier_open}
use Rattle.grid_query.proofs.laws.zero_decides_no_triangle.Goals as goal

pub returns-clause-kept : goal.returns-clause-kept
returns-clause-kept c = kept_whichever_zero

pub returns-clause-located : goal.returns-clause-located
returns-clause-located c = located_whichever_zero

pub returns-clause-any_minimum : goal.returns-clause-any_minimum
returns-clause-any_minimum c = any_minimum_open

pub returns-clause-earlier : goal.returns-clause-earlier
returns-clause-earlier c = earlier_open
