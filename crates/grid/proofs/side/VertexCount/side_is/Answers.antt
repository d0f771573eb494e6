-- `grid::side::VertexCount::side_is` meets its contract: at 1.2 by the test in whole numbers, else by two comparisons. Assumes nothing.
use Rattle.std.proofs.Common.{◌-◌, ◌≤◌, ◌&&◌, ◌||◌, eqb, ◌∙◌}
use lib.Ieee.{le, lt}
use Rattle.binary64.specs.Convert.{whole}
use Rattle.grid.specs.Cells.{side_of}
use Rattle.grid.proofs.SettingsRows.{factor_at_most}
use Rattle.grid.proofs.SideBound.{side_bound}
use Rattle.grid.proofs.SideTested.{out_of_range, side_in_range, side_between}
use Rattle.grid.proofs.side.VertexCount.side_is.Goals.{Else-g}
use Rattle.grid.proofs.side.VertexCount.side_is.Goals as goal

pub is_usual_factor-requires : goal.is_usual_factor-requires
is_usual_factor-requires c = factor_at_most c.args.factor c.requires

pub returns-then-g : goal.returns-then-g
returns-then-g c =
    let bounds = side_bound c.args.factor c.args.self.count c.requires c.args.self.some c.args.self.few in
    out_of_range c.args.g (side_of c.args.factor c.args.self.count) 420 bounds.0 bounds.1 c.if-g.true

range : (c : Else-g) → (2 ≤ c.args.g) × (c.args.g ≤ 420)
range c = side_in_range c.args.g 420 c.if-g.false

pub returns : goal.returns
returns c =
    let r = range (goal.at.returns c).Else-g in
    (λ i. le (c.side_across-across.ensures i) (whole c.args.g) && (eqb c.args.g 2 || lt (whole (c.args.g - 1)) (c.side_across-across.ensures i)))
    ∙ side_between c.args.factor c.requires c.args.self.count c.args.self.some c.args.self.few c.args.g r.0 r.1
