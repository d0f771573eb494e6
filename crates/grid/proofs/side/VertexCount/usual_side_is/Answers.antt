-- `grid::side::VertexCount::usual_side_is` meets its contract: the side in whole numbers. Assumes nothing.
use Rattle.std.proofs.Common.{◌≤◌}
use Rattle.grid.specs.Settings.{usual_factor}
use Rattle.grid.specs.Cells.{side_of}
use Rattle.grid.proofs.SideBound.{usual_side_bound}
use Rattle.grid.proofs.SideLeast.{side_least}
use Rattle.grid.proofs.SideTested.{out_of_range, side_in_range}
use Rattle.grid.proofs.side.VertexCount.usual_side_is.Goals.{Else-g}
use Rattle.grid.proofs.side.VertexCount.usual_side_is.Goals as goal

range : (c : Else-g) → (2 ≤ c.args.g) × (c.args.g ≤ 126)
range c = side_in_range c.args.g 126 c.if-g.false

pub returns-then-g : goal.returns-then-g
returns-then-g c =
    let bounds = usual_side_bound c.args.self.count c.args.self.some c.args.self.few in
    out_of_range c.args.g (side_of usual_factor c.args.self.count) 126 bounds.0 bounds.1 c.if-g.true

pub returns : goal.returns
returns c = side_least c.args.self.count c.args.g c.args.self.some c.args.self.few (range (goal.at.returns c).Else-g).0 (range (goal.at.returns c).Else-g).1
