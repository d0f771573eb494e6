use Rattle.std.proofs.Common.{sym}
use Rattle.std.proofs.lemmas.Result.{err_from_is_err_and}
use Rattle.grid_query.proofs.AtParts.{vertex_part_refused, vertex_foreign, vertex_kept}
use Rattle.grid_query.proofs.Query.locate_at.Goals as goal

pub returns-in_err-triples : goal.returns-in_err-triples
returns-in_err-triples c =
    let p = err_from_is_err_and c.from_residual.result c.from_residual.ensures.1 in
    rw (p.1, p.2, ← c.grid.view_is) (sym (vertex_part_refused _ _ _ _ _ c.in_err-triples.ensures.refused))

pub returns-then-not-ids_below : goal.returns-then-not-ids_below
returns-then-not-ids_below c =
    rw (← c.grid.view_is) (sym (vertex_foreign _ _ _ _ c.in_ok-triples.ensures.passed _ c.in_ok-triples.ensures.read (rw c.vertex_count.ensures at (sym c.if-not-ids_below.ensures))))

pub returns : goal.returns
returns c =
    rw (c.ok_or.ensures.value, c.kept_triangle.ensures, ← c.grid.view_is)
    (sym (vertex_kept _ _ _ _ c.in_ok-triples.ensures.passed _ c.in_ok-triples.ensures.read (rw c.vertex_count.ensures at (sym c.if-not-ids_below.ensures))))
