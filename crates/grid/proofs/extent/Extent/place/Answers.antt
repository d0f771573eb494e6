-- `grid::extent::Extent::place`: on a face that the vertex is in front of, and on one that it is not. Assumes nothing.
use Rattle.std.proofs.Common.{ℤ, ap, ◌∙◌, subst}
use lib.Ieee.{of_bits}
use Rattle.binary64.specs.Convert.{converted_of}
use Rattle.binary64.proofs.ConvertedSteps.{whole_of}
use Rattle.grid.specs.Placing.{Near}
use Rattle.grid.proofs.Held.{held_front}
use Rattle.grid.proofs.Placing.{placed_near, placed_nowhere}
use Rattle.grid.proofs.extent.Extent.place.Goals as goal

pub returns-then-seen : goal.returns-then-seen
unfolding of_bits
returns-then-seen c =
    let g = c.args.self.side in
    let p = c.cube_face_project-seen.result in
    let row = c.to_i64-row.result in
    let column = c.to_i64-column.result in
    let row_is = c.to_i64-row.ensures ∙ ap converted_of c.across_cells.ensures in
    let column_is = c.to_i64-column.ensures ∙ ap converted_of c.across_cells-then-seen.ensures in
    placed_near c.args.self.margin g c.args.face c.args.v p c.cells_near.result c.cells_near-then-seen.result _ c.cube_face_project-seen.ensures c.if-seen.true
    (subst (λ (z : ℤ). Near c.args.self.margin g z c.cells_near.result) (whole_of _ row row_is) c.cells_near.ensures)
    (subst (λ (z : ℤ). Near c.args.self.margin g z c.cells_near-then-seen.result) (whole_of _ column column_is) c.cells_near-then-seen.ensures)
    (held_front g c.args.face c.args.v p row column c.held_one.result c.held_one-then-seen.result c.cube_face_project-seen.ensures c.if-seen.true row_is column_is c.held_one.ensures c.held_one-then-seen.ensures)

pub returns-else-seen : goal.returns-else-seen
unfolding of_bits
returns-else-seen c =
    placed_nowhere c.args.self.margin c.args.self.side c.args.face c.args.v c.cube_face_project-seen.result c.cube_face_project-seen.ensures c.if-seen.false
