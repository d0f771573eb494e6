-- `walk::enter_list` meets its contract: an id without a number finds room and enters, any other has entered before. Assumes nothing.
use Rattle.std.proofs.Common.{◌<◌, length, arith}
use lib.ListN.{get_or, take}
use Rattle.sequences.proofs.Tabulate.{get_d_member}
use Rattle.walk.specs.Walk.{entered}
use Rattle.walk.proofs.Queue.{entered_next, holding_old, holding_room, holding_new}
use Rattle.walk.proofs.enter_list.Goals.{In-loop-id, Then-order-v, then-order-v, else-order-v}
use Rattle.walk.proofs.enter_list.Goals as goal

id_below : (c : In-loop-id) → get_or c.args.list.now c.loop-id.id-index 0 < length c.args.order.now
id_below c = c.requires.ids _ (get_d_member c.args.list.now c.loop-id.id-index 0 c.loop-id-test.true)

room : (c : Then-order-v) → c.loop-id.count < length c.args.order.now
room c = holding_room c.loop-id.invariant c.requires.few _ (c.requires.ids _ (get_d_member c.args.list.now c.loop-id.id-index 0 c.loop-id-test.true)) c.if-order-v.true

pub loop-id-init : goal.loop-id-init
unfolding entered
loop-id-init c = c.requires.held

pub bounds-order-v : goal.bounds-order-v
bounds-order-v c = omega (arith, id_below (goal.at.bounds-order-v c).In-loop-id)

pub overflow_cast-order : goal.overflow_cast-order
overflow_cast-order c = omega (arith, room (goal.at.overflow_cast-order c).Then-order-v, c.requires.few)

pub offset_bounds-queue-count : goal.offset_bounds-queue-count
offset_bounds-queue-count c = omega (arith, room (goal.at.offset_bounds-queue-count c).Then-order-v, c.requires.few)

pub bounds-queue-count : goal.bounds-queue-count
bounds-queue-count c = omega (arith, room (goal.at.bounds-queue-count c).Then-order-v, c.requires.room)

pub overflow_add-count : goal.overflow_add-count
overflow_add-count c = omega (arith, room (goal.at.overflow_add-count c).Then-order-v, c.requires.few)

pub loop-id-preserved : goal.loop-id-preserved
loop-id-preserved c =
    let below = id_below (goal.at.loop-id-preserved c).In-loop-id in
    let next = entered_next (take c.args.reached c.args.queue.now) c.args.list.now c.loop-id.id-index c.loop-id-test.true in
    elim c.if-order-v.branch [
      | then-order-v w ↦ rw (next, w.order-is, w.queue-is, w.count-is, w.from.ensures) (holding_new c.loop-id.invariant c.requires.few _ below c.requires.room w.if-order-v.true)
      | else-order-v w ↦ rw (next, w.order-is, w.queue-is, w.count-is) (holding_old c.loop-id.invariant c.requires.few _ below w.if-order-v.false)
    ]
