-- `grid::side::VertexCount::side`: the ceiling lies in the range of the conversion. Assumes nothing.
use Rattle.std.proofs.Common.{◌≡◌, max, true, false, T, pos, sym, ap, ◌∙◌, subst, arith}
use lib.Ieee.{Float, fin, lt, to_unsigned}
use Rattle.binary64.specs.Integral.{ceil_of}
use Rattle.grid.specs.Cells.{side_of}
use Rattle.grid.proofs.SideBound.{allowed_reach, side_float, side_converts}
use Rattle.grid.proofs.side.VertexCount.side.Goals as goal
use Rattle.grid.proofs.side.VertexCount.side.Goals.{After-ceil}

-- what the ceiling gives
ceiling_is : (c : After-ceil) → c.ceil.result ≡ side_float (allowed_reach c.args.factor c.requires) c.args.self.count c.args.self.some c.args.self.few
ceiling_is c = c.ceil.ensures ∙ ap ceil_of c.side_across.ensures

pub truncating_f64_to_u64-cells-requires-clause-lower_bound : goal.truncating_f64_to_u64-cells-requires-clause-lower_bound
truncating_f64_to_u64-cells-requires-clause-lower_bound c =
    subst (λ (x : Float). T (lt (fin true 1 (pos 0)) x)) (sym (ceiling_is (goal.at.truncating_f64_to_u64-cells-requires-clause-lower_bound c).After-ceil))
    (side_converts (allowed_reach c.args.factor c.requires) c.args.self.count c.args.self.some c.args.self.few).0

pub truncating_f64_to_u64-cells-requires-clause-upper_bound : goal.truncating_f64_to_u64-cells-requires-clause-upper_bound
truncating_f64_to_u64-cells-requires-clause-upper_bound c =
    subst (λ (x : Float). T (lt x (fin false 1 (pos 64)))) (sym (ceiling_is (goal.at.truncating_f64_to_u64-cells-requires-clause-upper_bound c).After-ceil))
    (side_converts (allowed_reach c.args.factor c.requires) c.args.self.count c.args.self.some c.args.self.few).1

pub returns : goal.returns
unfolding side_of
returns c =
    let converted = c.truncating_f64_to_u64-cells.ensures ∙ ap (to_unsigned 64) (ceiling_is (goal.at.returns c).After-ceil) in
    c.max.ensures ∙ (let e : max c.truncating_f64_to_u64-cells.result 2 ≡ max 2 c.truncating_f64_to_u64-cells.result = omega arith in e) ∙ ap (max 2) converted
