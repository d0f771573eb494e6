-- The invariant of `steps::search`'s loop: what the walk has found at the place `head`, that no list left so far holds the target, and which level it is at.
use Rattle.std.proofs.Common.{ℕ, ◌≤◌, ◌<◌, ◌≡◌, ◌-◌, [], ◌∷◌, length}
use lib.ListN.{get_or}
use mathlib.Core.List.{Memᴰ}
use Rattle.mesh.specs.Mesh.{neighbours}
use Rattle.walk.specs.Walk.{begun, continued}
use Rattle.walk.specs.Buffers.{Holding}
use Rattle.steps.specs.Steps.{within_steps}
use Rattle.steps.proofs.Levels.{nearer}
use Rattle.steps.proofs.search.Given as goal

abbrev pub invariant-loop-head : goal.invariant-loop-head
invariant-loop-head l =
    let lists = neighbours l.mesh in
    let visit = continued lists (begun (l.from ∷ [])) 0 l.head in
    record {
      passed : l.head ≤ l.reached;
      within : l.reached ≤ length l.fn.order;
      holds : Holding (length l.fn.order) visit.queue l.fn.queue l.reached l.order l.queue;
      entries_agree : l.read ≡ visit.entries_read;
      absent : (i : ℕ) → i < l.head → Memᴰ l.target (lists (get_or visit.queue i 0)) → ⊥;
      few : l.level ≤ l.head;
      nearer_left : nearer lists l.from l.level ≤ l.head;
      ends : l.level_end ≡ length (within_steps lists l.from l.level);
      at_level : l.head < l.reached → l.head < l.level_end;
    }

abbrev pub decreases-loop-head : goal.decreases-loop-head
decreases-loop-head l = length l.fn.order - l.head
