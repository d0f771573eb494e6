-- `grid_query::cell_index`: its face, row and column are there. Assumes nothing.
use Rattle.std.proofs.Common.{arith}
use Rattle.grid_query.specs.Cell.{cell_of}
use Rattle.grid_query.proofs.CellBound.{cell_fits}
use Rattle.grid_query.proofs.cell_index.Goals as goal

pub cell_number-requires : goal.cell_number-requires
cell_number-requires c =
    let inside = cell_fits _ _ _ _ _ _ _ (omega (arith, c.args.extent.buildable.0)) c.args.extent.buildable.1 c.dominant_face-face.ensures c.clamped_cell-ci.ensures c.clamped_cell-cj.ensures in
    record { face_number = inside.0; row_inside = inside.1; column_inside = inside.2 }

pub returns : goal.returns
unfolding cell_of
returns c = let number = c.cell_number.ensures.number in cc
