use Rattle.std.proofs.Common.{[], sym, ◌∙◌}
use Rattle.std.proofs.lemmas.Result.{err_from_is_err_and}
use Rattle.grid_query.proofs.GridRows.{grid_facts, query_cell_inside}
use Rattle.grid_query.proofs.BehindRows.{nearest_whatever_triples, nearest_query_refused, extent_passed, nearest_in_its_cell}
use Rattle.grid_query.proofs.find_nearest_vertex.Goals as goal

pub returns-in_err-check : goal.returns-in_err-check
returns-in_err-check c = λ triples.
    let p = err_from_is_err_and c.from_residual.result c.from_residual.ensures.1 in
    rw (p.1, p.2) (sym (nearest_query_refused _ _ _ _ (sym c.in_err-check.ensures)) ∙ nearest_whatever_triples _ _ _ _ _ [] triples _ _)

pub extent-requires : goal.extent-requires
extent-requires c = extent_passed _ _ _ (sym c.in_ok-check.ensures)

pub nearest_of_cell-requires : goal.nearest_of_cell-requires
nearest_of_cell-requires c = rw (c.cell_index.ensures, c.extent.ensures.side, c.normalize-unit.ensures) (query_cell_inside _ _ _ (grid_facts _ _ _ (sym c.in_ok-check.ensures)))

pub returns : goal.returns
returns c = λ triples.
    rw (c.nearest_of_cell.ensures, c.cell_index.ensures, c.extent.ensures.side, c.normalize-unit.ensures)
    (sym (nearest_in_its_cell _ _ _ (sym c.in_ok-check.ensures)) ∙ nearest_whatever_triples _ _ _ _ _ [] triples _ _)
