-- The invariant of `islands::number_islands`'s loop: what the islands of the ids below `root` leave.
use Rattle.std.proofs.Common.{◌≤◌, ◌≡◌, length}
use Rattle.mesh.specs.Mesh.{neighbours}
use Rattle.sequences.specs.Tabulate.{overwrite}
use Rattle.walk.specs.Buffers.{Holding}
use Rattle.islands.specs.Islands.{islands_below}
use Rattle.islands.proofs.number_islands.Given as goal

abbrev pub invariant-loop-root : goal.invariant-loop-root
invariant-loop-root l =
    let found = islands_below (neighbours l.mesh) (length l.fn.order) l.root in
    record {
      holds : Holding (length l.fn.order) found.visit.queue l.fn.queue l.reached l.order l.queue;
      entries_agree : l.read ≡ found.visit.entries_read;
      counted : l.islands ≡ length found.starts;
      few : l.islands ≤ l.root;
      starts_written : l.island_starts ≡ overwrite found.starts l.fn.island_starts;
    }
