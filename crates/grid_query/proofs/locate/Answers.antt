use Rattle.std.proofs.Common.{sym, arith}
use Rattle.std.proofs.lemmas.Result.{err_from_is_err_and}
use Rattle.grid_query.proofs.GridRows.{grid_facts, query_cell_inside}
use Rattle.grid_query.proofs.VertexFound.{cell_found}
use Rattle.grid_query.proofs.BehindRows.{location_refused, extent_passed, location_unmet, location_at_vertex}
use Rattle.grid_query.proofs.locate.Goals as goal

pub returns-in_err-check : goal.returns-in_err-check
returns-in_err-check c =
    let p = err_from_is_err_and c.from_residual.result c.from_residual.ensures.1 in
    rw (p.1, p.2) (sym (location_refused _ _ _ _ (sym c.in_err-check.ensures)))

pub extent-requires : goal.extent-requires
extent-requires c = extent_passed _ _ _ (sym c.in_ok-check.ensures)

pub nearest_of_cell-requires : goal.nearest_of_cell-requires
nearest_of_cell-requires c = rw (c.cell_index.ensures, c.extent.ensures.side, c.normalize-unit.ensures) (query_cell_inside _ _ _ (grid_facts _ _ _ (sym c.in_ok-check.ensures)))

pub returns-in_err-nearest : goal.returns-in_err-nearest
returns-in_err-nearest c =
    let p = err_from_is_err_and c.from_residual-in_err-nearest.result c.from_residual-in_err-nearest.ensures.1 in
    let unmet = rw (c.cell_index.ensures, c.extent.ensures.side, c.normalize-unit.ensures) at (sym c.in_err-nearest.ensures) in
    rw (p.1, p.2) (sym (location_unmet _ _ _ (sym c.in_ok-check.ensures) _ unmet))

pub locate_at-requires : goal.locate_at-requires
locate_at-requires c =
    let facts = grid_facts _ _ _ (sym c.in_ok-check.ensures) in
    let met = rw (c.cell_index.ensures, c.extent.ensures.side, c.normalize-unit.ensures) at (sym c.in_ok-nearest.ensures) in
    omega (arith, (cell_found _ _ _ _ _ met).below, facts.stored.vertices_counted)

pub returns : goal.returns
returns c =
    let met = rw (c.cell_index.ensures, c.extent.ensures.side, c.normalize-unit.ensures) at (sym c.in_ok-nearest.ensures) in
    rw (c.locate_at.ensures, c.normalize-unit.ensures) (sym (location_at_vertex _ _ _ (sym c.in_ok-check.ensures) _ met))
