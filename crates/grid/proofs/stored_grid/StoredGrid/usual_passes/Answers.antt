-- `grid::stored_grid::StoredGrid::usual_passes`: what it lets pass, the rows of a stored grid let pass. Assumes nothing.
use Rattle.std.proofs.Common.{◌≡◌, ◌+◌, true, ◌&&◌, eqb, length, sym, refl, ap, ◌∙◌, subst, arith, eq-eqb, eqb-true}
use Rattle.grid.specs.Grid.{Grid}
use Rattle.grid.specs.Settings.{factor_fits, margin_fits}
use Rattle.grid.specs.Cells.{side_of, cell_count}
use Rattle.grid.specs.Stored.{side_fits, both_starts_counted}
use Rattle.grid.proofs.SettingsRows.{usual_fits}
use Rattle.grid.proofs.Stored.{positions_count, extent_buildable, starts_tested, stored_whatever_lists}
use Rattle.grid.proofs.stored_grid.StoredGrid.usual_passes.Goals as goal
use Rattle.grid.proofs.stored_grid.StoredGrid.usual_passes.Goals.{Else-not-usual_side_is, After-lengths_fit}

pub invariant_of-vertices : goal.invariant_of-vertices
invariant_of-vertices c =
    let b = positions_count c.args.positions.now (sym c.positions_fit.ensures ∙ c.if-not-positions_fit.false) in
    record { some = omega (arith, b, c.vertex_count.ensures); few = omega (arith, b, c.vertex_count.ensures) }

-- what the tests up to the side let pass
passed : (c : Else-not-usual_side_is) →
    let grid = c.args.self.now in
    (factor_fits grid.settings.factor ≡ true) × (margin_fits grid.settings.margin ≡ true) × (side_fits grid c.args.positions.now ≡ true)
unfolding side_fits
passed c =
    let i = c.self.inside in
    let pair = c.is_usual.ensures c.if-not-is_usual.false in
    let factor : factor_fits i.settings.factor ≡ true = ap factor_fits pair.0 ∙ usual_fits in
    let side = eqb-true _ _ (sym c.usual_side_is.ensures ∙ c.if-not-usual_side_is.false) ∙ (λ t. side_of (sym pair.0 t) (c.vertex_count.ensures t)) in
    subst (λ (g : Grid). (factor_fits g.settings.factor ≡ true) × (margin_fits g.settings.margin ≡ true) × (side_fits g c.args.positions.now ≡ true)) c.self.view_is (factor, pair.1, eq-eqb _ _ side)

pub extent-requires : goal.extent-requires
extent-requires c =
    let p = passed (goal.at.extent-requires c).Else-not-usual_side_is in
    extent_buildable _ _ (sym c.positions_fit.ensures ∙ c.if-not-positions_fit.false) p.0 p.1 p.2

-- what the test of the lengths lets pass
lengths : (c : After-lengths_fit) → c.lengths_fit.result ≡ true → both_starts_counted c.args.self.now c.args.positions.now ≡ true
lengths c h =
    let grid = c.args.self.now in
    let P = c.args.positions.now in
    sym (starts_tested grid P) ∙ sym (λ i. eqb (length grid.cell_starts) (cell_count (c.extent.ensures.side i) + 1) && eqb (length grid.triangle_starts) (c.vertex_count.ensures i + 1)) ∙ sym c.lengths_fit.ensures ∙ h

pub returns-clause-rows : goal.returns-clause-rows
returns-clause-rows c = λ h.
    let here = goal.at.returns-clause-rows c in
    let p = passed here.Else-not-usual_side_is in
    rw (sym c.positions_fit.ensures ∙ c.if-not-positions_fit.false, p.0, p.1, p.2, lengths here.After-lengths_fit h) refl

pub returns-clause-whatever_lists : goal.returns-clause-whatever_lists
returns-clause-whatever_lists c = λ h cell_ids triples.
    let here = goal.at.returns-clause-whatever_lists c in
    let p = passed here.Else-not-usual_side_is in
    sym (stored_whatever_lists c.args.self.now c.args.positions.now cell_ids triples)
    ∙ rw (sym c.positions_fit.ensures ∙ c.if-not-positions_fit.false, p.0, p.1, p.2, lengths here.After-lengths_fit h) refl
