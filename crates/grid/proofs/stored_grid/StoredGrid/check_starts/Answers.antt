-- `grid::stored_grid::StoredGrid::check_starts`: both lists have their lengths, as the rows before tell. Assumes nothing.
use Rattle.std.proofs.Common.{arith}
use Rattle.grid.proofs.Stored.{stored_facts}
use Rattle.grid.proofs.stored_grid.StoredGrid.check_starts.Goals as goal

pub cell_starts_span-requires : goal.cell_starts_span-requires
cell_starts_span-requires c = omega (arith, (stored_facts c.args.self.now c.args.positions.now c.requires).cells_counted)

pub triangle_starts_span-requires : goal.triangle_starts_span-requires
triangle_starts_span-requires c = omega (arith, (stored_facts c.args.self.now c.args.positions.now c.requires).vertices_counted)
