-- `grid::stored_grid::StoredGrid::cell_starts_span` meets its contract: the last start is that behind the last cell. Assumes nothing.
use Rattle.std.proofs.Common.{◌≡◌, ℕ, ◌-◌, length, ap, ◌∙◌, arith}
use Rattle.mesh.specs.Rows.{starts_span}
use Rattle.grid.specs.Cells.{cell_count}
use Rattle.grid.specs.Grid.{Grid}
use Rattle.grid.specs.Stored.{cell_starts_span}
use Rattle.grid.proofs.stored_grid.StoredGrid.cell_starts_span.Goals as goal

pub returns : goal.returns
unfolding cell_starts_span
returns c =
    let grid = c.args.self.now in
    let last : length grid.cell_starts - 1 ≡ cell_count grid.side = omega arith in
    c.starts_span.ensures ∙ ap (λ (g : Grid). starts_span (length g.cell_starts - 1) g.cell_starts g.cell_ids) c.self.view_is ∙ ap (λ (n : ℕ). starts_span n grid.cell_starts grid.cell_ids) last
