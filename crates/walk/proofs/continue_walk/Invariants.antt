-- The invariant of `walk::continue_walk`'s loop: at the place `head`, the buffers hold the queue that the places from `from` up to it give.
use Rattle.std.proofs.Common.{◌-◌, ◌≤◌, ◌≡◌, length, take}
use Rattle.sequences.specs.Starts.{part}
use Rattle.walk.specs.Walk.{begun, continued}
use Rattle.walk.specs.Buffers.{Holding}
use Rattle.walk.proofs.continue_walk.Given as goal

abbrev pub invariant-loop-head : goal.invariant-loop-head
invariant-loop-head l =
    let visit = continued (part l.starts l.entries) (begun (take l.reached l.fn.queue)) l.from (l.head - l.from) in
    record {
      started : l.from ≤ l.head;
      passed : l.head ≤ l.count;
      allowed : l.head ≤ l.limit;
      within : l.count ≤ length l.fn.order;
      holds : Holding (length l.fn.order) visit.queue l.fn.queue l.count l.order l.queue;
      entries_agree : l.read ≡ visit.entries_read;
    }

abbrev pub decreases-loop-head : goal.decreases-loop-head
decreases-loop-head l = length l.fn.order - l.head
