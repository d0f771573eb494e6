use Rattle.std.proofs.Common.{sym}
use Rattle.std.proofs.lemmas.Result.{err_from_is_err_and}
use Rattle.grid_query.proofs.GridRows.{query_direction_refused, query_direction_passed}
use Rattle.grid_query.proofs.Query.check_rows.Goals as goal

pub returns-in_err-new : goal.returns-in_err-new
returns-in_err-new c =
    let p = err_from_is_err_and c.from_residual-in_err-new.result c.from_residual-in_err-new.ensures.1 in
    rw (p.1, p.2) (sym (query_direction_refused _ _ _ (sym c.in_ok-check.ensures.rows) _ (sym c.in_err-new.ensures)))

pub returns : goal.returns
returns c = sym (query_direction_passed _ _ _ (sym c.in_ok-check.ensures.rows) _ (sym c.in_ok-new.ensures))
