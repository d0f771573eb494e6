use Rattle.barycentric.proofs.LeastWeight.{least_not_above}
use Rattle.grid_query.proofs.keep.Goals as goal

-- a weight is too low
pub returns-then-weights-bound : goal.returns-then-weights-bound
returns-then-weights-bound c = rw (← c.least_kept-bound.ensures, least_not_above c.args.weights _ c.if-weights-bound.true)
