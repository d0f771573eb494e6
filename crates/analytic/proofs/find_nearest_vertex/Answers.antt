-- `analytic::find_nearest_vertex` meets its contract. Assumes nothing.
use Rattle.std.proofs.lemmas.Result.{err_from_is_err_and}
use Rattle.analytic.specs.Location.{corner_of, analytic_nearest}
use Rattle.analytic.proofs.find_nearest_vertex.Goals as goal

pub returns-in_err-located : goal.returns-in_err-located
unfolding analytic_nearest corner_of
returns-in_err-located c =
    let p = err_from_is_err_and c.from_residual.result c.from_residual.ensures.1 in rw (p.1, p.2, ← c.in_err-located.ensures)

pub returns : goal.returns
unfolding analytic_nearest corner_of
returns c = rw (c.last_greatest.ensures, ← c.in_ok-located.ensures)
