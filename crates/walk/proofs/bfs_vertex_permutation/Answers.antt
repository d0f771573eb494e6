-- `walk::bfs_vertex_permutation` meets its contract: rows 2 to 4, room, the walk, and whether it reached all. Assumes nothing.
use Rattle.std.proofs.Common.{◌≡◌, ◌∙◌, Ok, length, arith, sym, ap}
use lib.Seq.{length-take-le}
use Rattle.std.proofs.lemmas.Result.{err_from_is_err_and}
use Rattle.sequences.specs.Starts.{part}
use Rattle.mesh.specs.Mesh.{mesh_of, count, neighbours}
use Rattle.mesh.specs.Rows.{adjacency_rows}
use Rattle.mesh.proofs.Facts.{adjacency_facts}
use Rattle.mesh.proofs.Made.{checked_made, checked_refused}
use Rattle.walk.specs.Buffers.{Traversed}
use Rattle.walk.specs.Laws.{visit_of}
use Rattle.walk.proofs.Theorems.{all_read}
use Rattle.walk.proofs.Outcome.{mesh_walkable, outcome_refused, outcome_order_short, outcome_queue_short, outcome_walked, outcome_unreached}
use Rattle.walk.proofs.bfs_vertex_permutation.Goals.{After-count-count, After-breadth_first-reach, then-order-count-via-then-order-count, then-order-count-via-else-order-count+then-queue-count}
use Rattle.walk.proofs.bfs_vertex_permutation.Goals as goal

-- rows 2 to 4 have passed, and the count is that of the mesh that was lent
passed : (c : After-count-count) → let m = mesh_of c.args.positions.now c.args.starts.now c.args.entries.now in (c.count-count.result ≡ count m) × (adjacency_rows m ≡ Ok tt)
passed c =
    let made = checked_made (mesh_of c.args.positions.now c.args.starts.now c.args.entries.now) _ (sym c.new.ensures ∙ c.in_ok-new.was) in
    (c.count-count.ensures.counted ∙ ap count made.0, made.1)

-- the walk was made
made : (c : After-breadth_first-reach) → let m = mesh_of c.args.positions.now c.args.starts.now c.args.entries.now in c.count-count.result ≡ count m
    → Traversed (count m) (part c.args.starts.now c.args.entries.now) c.args.queue.now c.breadth_first-reach.result c.breadth_first-reach.new.order c.breadth_first-reach.new.queue
made c same = rw (length-take-le c.count-count.result c.args.order.now c.if-order-count.false ∙ same) at c.breadth_first-reach.ensures

pub returns-in_err-new : goal.returns-in_err-new
returns-in_err-new c =
    let p = err_from_is_err_and c.from_residual.result c.from_residual.ensures.1 in
    rw (p.1, p.2) (outcome_refused (mesh_of c.args.positions.now c.args.starts.now c.args.entries.now) _ _ _ (checked_refused _ _ (sym c.new.ensures ∙ c.in_err-new.was)))

pub returns-then-order-count : goal.returns-then-order-count
returns-then-order-count c =
    let m = mesh_of c.args.positions.now c.args.starts.now c.args.entries.now in
    let p = passed (goal.at.returns-then-order-count c).After-count-count in
    elim c.then-order-count.branch [
      | then-order-count-via-then-order-count w ↦ outcome_order_short m _ _ p.1 (omega (arith, p.0, w.if-order-count.true))
      | then-order-count-via-else-order-count+then-queue-count w ↦ outcome_queue_short m _ _ p.1 (omega (arith, p.0, w.if-queue-count.true))
    ]

pub breadth_first-reach-requires : goal.breadth_first-reach-requires
breadth_first-reach-requires c =
    let p = passed (goal.at.breadth_first-reach-requires c).After-count-count in
    mesh_walkable (mesh_of c.args.positions.now c.args.starts.now c.args.entries.now) p.1 (length-take-le c.count-count.result c.args.order.now c.if-order-count.false ∙ p.0) (omega (arith, p.0, c.if-queue-count.false))

pub overflow_cast-result : goal.overflow_cast-result
unfolding neighbours
overflow_cast-result c =
    let m = mesh_of c.args.positions.now c.args.starts.now c.args.entries.now in
    let p = passed (goal.at.overflow_cast-result c).After-count-count in
    let walk = made (goal.at.overflow_cast-result c).After-breadth_first-reach p.0 in
    let all : length (visit_of m).queue ≡ count m = walk.holds.size ∙ c.if-reach-count.true ∙ p.0 in
    omega (arith, walk.entries_agree, all_read m p.1 all, (adjacency_facts m p.1).rows.last, c.type_inv.starts (count m))

pub returns-then-reach-count : goal.returns-then-reach-count
returns-then-reach-count c =
    let m = mesh_of c.args.positions.now c.args.starts.now c.args.entries.now in
    let p = passed (goal.at.returns-then-reach-count c).After-count-count in
    rw p.0 (outcome_walked m _ _ p.1 (omega (arith, p.0, c.if-order-count.false)) (omega (arith, p.0, c.if-queue-count.false)) (made (goal.at.returns-then-reach-count c).After-breadth_first-reach p.0) (c.if-reach-count.true ∙ p.0))

pub returns-else-reach-count : goal.returns-else-reach-count
returns-else-reach-count c =
    let m = mesh_of c.args.positions.now c.args.starts.now c.args.entries.now in
    let p = passed (goal.at.returns-else-reach-count c).After-count-count in
    rw p.0 (outcome_unreached m _ _ p.1 (omega (arith, p.0, c.if-order-count.false)) (omega (arith, p.0, c.if-queue-count.false)) (made (goal.at.returns-else-reach-count c).After-breadth_first-reach p.0) (λ e. c.if-reach-count.false (e ∙ sym p.0)))
