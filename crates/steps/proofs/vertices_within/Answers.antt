-- `steps::vertices_within` meets its contract: the given vertex, room, and the levels. Assumes nothing.
use Rattle.std.proofs.Common.{◌∙◌, arith, sym, inl, inr}
use Rattle.mesh.specs.Mesh.{neighbours}
use Rattle.mesh.proofs.Facts.{adjacency_facts}
use Rattle.walk.proofs.Outcome.{mesh_walkable}
use Rattle.walk.proofs.Queue.{holding_at_most}
use Rattle.steps.proofs.Outcome.{longest_places, cut_places, within_vertex, within_short, within_made}
use Rattle.steps.proofs.vertices_within.Goals.{then-order-longest-via-then-order-longest, then-order-longest-via-else-order-longest+then-list-count}
use Rattle.steps.proofs.vertices_within.Goals as goal

pub returns-then-vertex-count-clause-answered : goal.returns-then-vertex-count-clause-answered
returns-then-vertex-count-clause-answered c = within_vertex c.args.mesh.now _ _ _ _ c.count-count.ensures.rows (omega (arith, c.count-count.ensures.counted))

pub returns-then-order-longest-clause-answered : goal.returns-then-order-longest-clause-answered
returns-then-order-longest-clause-answered c =
    within_short c.args.mesh.now _ _ _ _ c.count-count.ensures.rows (omega (arith, c.count-count.ensures.counted)) (elim c.then-order-longest.branch [
      | then-order-longest-via-then-order-longest w ↦ inl (omega (arith, c.longest.ensures, w.if-order-longest.true))
      | then-order-longest-via-else-order-longest+then-list-count w ↦ inr (omega (arith, c.count-count.ensures.counted, w.if-list-count.true))
    ])

pub slice_bounds-enter_levels-end : goal.slice_bounds-enter_levels-end
slice_bounds-enter_levels-end c = omega (arith, c.count-count.ensures.counted, c.longest.ensures, longest_places c.args.mesh.now)

pub slice_bounds-enter_levels-end-2 : goal.slice_bounds-enter_levels-end-2
slice_bounds-enter_levels-end-2 c = c.count-count.ensures.counted ∙ sym (cut_places c.args.mesh.now c.args.order.now c.count-count.ensures.counted (omega (arith, c.longest.ensures)))

pub enter_levels-within-requires-clause-walkable : goal.enter_levels-within-requires-clause-walkable
enter_levels-within-requires-clause-walkable c =
    mesh_walkable c.args.mesh.now c.count-count.ensures.rows
    (cut_places c.args.mesh.now c.args.order.now c.count-count.ensures.counted (omega (arith, c.longest.ensures)))
    (omega (arith, c.count-count.ensures.counted))

pub enter_levels-within-requires-clause-there : goal.enter_levels-within-requires-clause-there
enter_levels-within-requires-clause-there c =
    let places = cut_places c.args.mesh.now c.args.order.now c.count-count.ensures.counted (omega (arith, c.longest.ensures)) in
    omega (arith, c.count-count.ensures.counted)

pub overflow_cast-result : goal.overflow_cast-result
overflow_cast-result c =
    let places = cut_places c.args.mesh.now c.args.order.now c.count-count.ensures.counted (omega (arith, c.longest.ensures)) in
    omega (arith, (adjacency_facts c.args.mesh.now c.count-count.ensures.rows).few, holding_at_most c.enter_levels-within.ensures)

pub returns-clause-answered : goal.returns-clause-answered
unfolding neighbours
returns-clause-answered c =
    let places = cut_places c.args.mesh.now c.args.order.now c.count-count.ensures.counted (omega (arith, c.longest.ensures)) in
    within_made c.args.mesh.now _ _ _ _ c.count-count.ensures.rows (omega (arith, c.count-count.ensures.counted)) (omega (arith, c.longest.ensures)) (omega (arith, c.count-count.ensures.counted))
    (rw places at c.enter_levels-within.ensures)
