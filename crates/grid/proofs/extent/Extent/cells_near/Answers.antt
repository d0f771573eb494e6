-- `grid::extent::Extent::cells_near`, by where the coordinate lies. Assumes nothing.
use Rattle.std.proofs.Common.{◌≡◌, ℕ, ℤ, pos, nat_abs, false, sym, ap, ◌∙◌, subst, arith, to_z-of_z, w64, SFits, to_z, of_z}
use lib.Signed.{lt_z}
use Rattle.grid.specs.declared.placement.CellRange.{CellRange}
use Rattle.grid.specs.Placing.{CellsBelow, Near}
use Rattle.grid.proofs.Placing.{near_none_above, near_inside, near_none_below_tested, near_below_tested, not_negative, least_end}
use Rattle.grid.proofs.extent.Extent.cells_near.Goals as goal

-- a coordinate from 0 up is what it casts to
moved : {margin g : ℕ} {z : ℤ} {range : CellRange} → SFits w64 z → lt_z (to_z w64 (of_z w64 z)) (pos 0) ≡ false
    → Near margin g (pos (nat_abs (to_z w64 (of_z w64 z)))) range → Near margin g z range
moved {margin} {g} {z} {range} fits h near =
    let read = to_z-of_z fits in
    subst (λ (x : ℤ). Near margin g x range) (ap (λ (x : ℤ). pos (nat_abs x)) read ∙ sym (not_negative z (rw read at h))) near

pub returns-then-below-self : goal.returns-then-below-self
returns-then-below-self c =
    let read = to_z-of_z c.ranges.coordinate in
    near_none_below_tested c.args.self.margin c.args.self.side _ c.args.coordinate c.args.self.buildable.2 (rw read at c.if-coordinate-lt0.true)
    (subst (λ (z : ℤ). CellsBelow z c.cells_below-below.result) read c.cells_below-below.ensures) c.if-below-self.true

pub returns-then-cell-self : goal.returns-then-cell-self
returns-then-cell-self c =
    moved c.ranges.coordinate c.if-coordinate-lt0.false (near_none_above c.args.self.margin c.args.self.side _ c.if-cell-self.true)

pub returns-then-coordinate-lt0 : goal.returns-then-coordinate-lt0
returns-then-coordinate-lt0 c =
    let read = to_z-of_z c.ranges.coordinate in
    near_below_tested c.args.self.margin c.args.self.side c.cells_below-below.result _ c.args.coordinate c.args.self.buildable.2 (rw read at c.if-coordinate-lt0.true)
    (subst (λ (z : ℤ). CellsBelow z c.cells_below-below.result) read c.cells_below-below.ensures) c.if-below-self.false (omega (arith, c.min.ensures)) (omega (arith, c.min.ensures)) (least_end _ _ _ c.min.ensures)

pub returns : goal.returns
returns c =
    moved c.ranges.coordinate c.if-coordinate-lt0.false
    (near_inside c.args.self.margin c.args.self.side _ _ _ c.saturating_sub.ensures (omega (arith, c.saturating_sub.ensures, c.min-2.ensures)) (omega (arith, c.min-2.ensures)) (omega (arith, c.min-2.ensures)) (least_end _ _ _ c.min-2.ensures))
