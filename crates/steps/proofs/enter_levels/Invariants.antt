-- The invariant of `steps::enter_levels`'s loop: the list holds all vertices within `level` steps, and those that are so many steps away stand from `begin` on.
use Rattle.std.proofs.Common.{◌-◌, ◌≤◌, ◌≡◌, length}
use Rattle.mesh.specs.Mesh.{neighbours}
use Rattle.walk.specs.Buffers.{Holding}
use Rattle.steps.specs.Steps.{within_steps}
use Rattle.steps.proofs.Levels.{nearer}
use Rattle.steps.proofs.enter_levels.Given as goal

abbrev pub invariant-loop-level : goal.invariant-loop-level
invariant-loop-level l =
    let lists = neighbours l.mesh in
    record {
      allowed : l.level ≤ l.steps;
      begins : l.begin ≡ nearer lists l.vertex l.level;
      holds : Holding (length l.fn.order) (within_steps lists l.vertex l.level) l.fn.list l.reached l.order l.list;
    }

abbrev pub decreases-loop-level : goal.decreases-loop-level
decreases-loop-level l = l.steps - l.level
