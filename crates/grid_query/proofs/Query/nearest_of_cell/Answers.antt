use Rattle.std.proofs.Common.{sym, rules}
use Rattle.std.proofs.lemmas.Result.{err_from_is_err_and}
use Rattle.grid_query.proofs.AtParts.{cell_part_refused, cell_empty, cell_scanned}
use Rattle.grid_query.proofs.Query.nearest_of_cell.Goals as goal

pub returns-in_err-candidates : goal.returns-in_err-candidates
returns-in_err-candidates c =
    let p = err_from_is_err_and c.from_residual.result c.from_residual.ensures.1 in
    rw (p.1, p.2, ← c.grid.view_is) (sym (cell_part_refused _ _ _ _ _ c.in_err-candidates.ensures.refused))

pub returns-then-is_empty : goal.returns-then-is_empty
returns-then-is_empty c = rw (← c.grid.view_is) (sym (cell_empty _ _ _ _ c.in_ok-candidates.ensures.passed _ c.in_ok-candidates.ensures.read (search rules)))

pub returns : goal.returns
returns c = rw (← c.grid.view_is, c.nearest_in_cell.ensures) (sym (cell_scanned _ _ _ _ c.in_ok-candidates.ensures.passed _ c.in_ok-candidates.ensures.read (search rules)))
