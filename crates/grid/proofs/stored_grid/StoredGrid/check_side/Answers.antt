-- `grid::stored_grid::StoredGrid::check_side`: the side, then the lengths of the starts. Assumes nothing.
use Rattle.std.proofs.Common.{◌≡◌, ℕ, ◌+◌, ◌&&◌, eqb, length, sym, ap, ◌∙◌, arith}
use Rattle.mesh.specs.Mesh.{vertex_count}
use Rattle.grid.specs.Cells.{side_of, cell_count}
use Rattle.grid.specs.Grid.{Grid}
use Rattle.grid.specs.Stored.{side_fits, both_starts_counted}
use Rattle.grid.proofs.SettingsRows.{settings_passed}
use Rattle.grid.proofs.Stored.{positions_count, extent_buildable, starts_tested}
use Rattle.grid.proofs.stored_grid.StoredGrid.check_side.Goals as goal
use Rattle.grid.proofs.stored_grid.StoredGrid.check_side.Goals.{After-side_is, After-lengths_fit}

pub invariant_of-vertices : goal.invariant_of-vertices
invariant_of-vertices c =
    let b = positions_count c.args.positions.now c.requires.positions_fit in
    record { some = omega (arith, b, c.vertex_count.ensures); few = omega (arith, b, c.vertex_count.ensures) }

-- what the test of the side found
side_found : (c : After-side_is) → c.side_is.result ≡ side_fits c.args.self.now c.args.positions.now
unfolding side_fits
side_found c =
    let inside = c.self.inside in
    c.side_is.ensures ∙ ap (λ (n : ℕ). eqb inside.side (side_of inside.settings.factor n)) c.vertex_count.ensures
    ∙ ap (λ (g : Grid). eqb g.side (side_of g.settings.factor (vertex_count c.args.positions.now))) c.self.view_is

pub returns-then-not-side_is : goal.returns-then-not-side_is
returns-then-not-side_is c = rw (← side_found (goal.at.returns-then-not-side_is c).After-side_is, c.if-not-side_is.true)

pub extent-requires : goal.extent-requires
extent-requires c =
    let grid = c.args.self.now in
    let pair = settings_passed grid.settings c.requires.pair_fits in
    extent_buildable grid c.args.positions.now c.requires.positions_fit pair.0 pair.1 (sym (side_found (goal.at.extent-requires c).After-side_is) ∙ c.if-not-side_is.false)

-- what the test of the lengths found
starts_found : (c : After-lengths_fit) → c.lengths_fit.result ≡ both_starts_counted c.args.self.now c.args.positions.now
starts_found c =
    let grid = c.args.self.now in
    c.lengths_fit.ensures
    ∙ (λ i. eqb (length grid.cell_starts) (cell_count (c.extent.ensures.side i) + 1) && eqb (length grid.triangle_starts) (c.vertex_count.ensures i + 1))
    ∙ starts_tested grid c.args.positions.now

pub returns-then-not-lengths_fit : goal.returns-then-not-lengths_fit
returns-then-not-lengths_fit c =
    let here = goal.at.returns-then-not-lengths_fit c in
    rw (← side_found here.After-side_is, c.if-not-side_is.false, ← starts_found here.After-lengths_fit, c.if-not-lengths_fit.true)

pub returns : goal.returns
returns c =
    let here = goal.at.returns c in
    rw (← side_found here.After-side_is, c.if-not-side_is.false, ← starts_found here.After-lengths_fit, c.if-not-lengths_fit.false)
