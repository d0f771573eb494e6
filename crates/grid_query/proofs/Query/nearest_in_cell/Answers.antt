use Rattle.std.proofs.Common.{Bool, T, not, sym, subst, ap, ◌∙◌}
use lib.Ieee.{binary64, to_bits}
use Rattle.grid_query.proofs.Scan.{behind_first, all_behind, read_foreign, read_first, read_nearer, read_farther, read_number, read_end}
use Rattle.grid_query.proofs.Query.nearest_in_cell.Goals as goal
use Rattle.grid_query.proofs.Query.nearest_in_cell.Goals.{then-next_bits-least, else-next_bits-least}

pub returns-then-id-count : goal.returns-then-id-count
returns-then-id-count c = read_foreign _ _ _ 0 c.requires.some (rw c.vertex_count-count.ensures at c.if-id-count.true)

pub loop-next-init : goal.loop-next-init
loop-next-init c =
    let distance = c.squared_distance-distance.ensures in
    read_first _ _ _ _ c.requires.some (rw c.vertex_count-count.ensures at c.if-id-count.false) (rw distance at (sym c.is_nan.ensures.value ∙ c.if-is_nan.false)) (ap (to_bits binary64) distance)

pub returns-then-next-count : goal.returns-then-next-count
returns-then-next-count c =
    let next = behind_first c.args.candidates.now c.loop-next.next-index c.loop-next-test.true in
    read_foreign _ _ _ _ next.1 (rw (c.vertex_count-count.ensures, next.0) at c.if-next-count.true)

pub loop-next-preserved : goal.loop-next-preserved
loop-next-preserved c =
    let next = behind_first c.args.candidates.now c.loop-next.next-index c.loop-next-test.true in
    let vertex = rw (c.vertex_count-count.ensures, next.0) at c.if-next-count.false in
    let distance = rw next.0 at c.squared_distance-next_distance.ensures in
    let number = rw distance at (sym c.is_nan-in-loop-next.ensures.value ∙ c.if-is_nan-2.false) in
    let bits = ap (to_bits binary64) distance in
    elim c.if-next_bits-least.branch [
      | then-next_bits-least w ↦ rw (w.id-is, w.least-is, next.0) (read_nearer _ _ _ _ _ _ _ c.loop-next.invariant next.1 vertex number bits w.if-next_bits-least.true)
      | else-next_bits-least w ↦ rw (w.id-is, w.least-is) (read_farther _ _ _ _ _ _ _ c.loop-next.invariant next.1 vertex number bits w.if-next_bits-least.false)
    ]

pub float_from_bits-result : goal.float_from_bits-result
float_from_bits-result c = subst (λ (b : Bool). T (not b)) (sym (read_number _ _ _ _ _ _ c.loop-next.invariant)) tt

pub returns : goal.returns
returns c = read_end _ _ _ _ _ _ c.loop-next.invariant (all_behind c.args.candidates.now c.loop-next.next-index c.loop-next-test.false)
