-- The invariant of `walk::enter_list`'s loop: after some places of the list, the buffers hold the queue that those places give.
use Rattle.std.proofs.Common.{length, take}
use Rattle.walk.specs.Walk.{entered}
use Rattle.walk.specs.Buffers.{Holding}
use Rattle.walk.proofs.enter_list.Given as goal

abbrev pub invariant-loop-id : goal.invariant-loop-id
invariant-loop-id l = Holding (length l.fn.order) (entered (take l.reached l.fn.queue) (take l.id-index l.list)) l.fn.queue l.count l.order l.queue
