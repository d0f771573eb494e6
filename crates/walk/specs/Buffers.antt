-- What the walk asks of the slices that it is lent, and what they hold on the way and at its end. Definitions only.
use Rattle.std.specs.Prelude.{ℕ, ◌≤◌, ◌<◌, ◌≡◌, length, get_or}
use mathlib.Core.List.{List, Memᴰ}
use Rattle.sequences.specs.Tabulate.{overwrite}
use Rattle.sequences.specs.Starts.{CompressedRows}
use Rattle.sequences.specs.Ascending.{Distinct}
use Rattle.walk.specs.declared.Reach.{Reach}
use Rattle.walk.specs.Walk.{begun, continued, breadth_first, unreached, order_of}

-- Ids of n vertices, none twice.
pub record DistinctIds (n : ℕ) (ids : List ℕ) : Type 0 where
  pub below : (v : ℕ) → Memᴰ v ids → v < n
  pub distinct : Distinct ids

-- What the buffers of a walk over n vertices hold: the ids that have entered at the front of the queue, whose further places are as they were, and the order that numbers them.
pub record Holding (n : ℕ) (ids old : List ℕ) (reached : ℕ) (order queue : List ℕ) : Type 0 where
  pub size : length ids ≡ reached
  pub once : DistinctIds n ids
  pub numbered : order ≡ order_of n ids
  pub queued : queue ≡ overwrite ids old

-- What the walk asks of the slices that it is lent: neighbour lists of as many vertices as the order has places, ids of these vertices in them, and a queue with no fewer places.
pub record Walkable (starts entries order queue : List ℕ) : Type 0 where
  pub rows : CompressedRows (length order) starts entries
  pub ids_below : (i : ℕ) → i < length entries → get_or entries i 0 < length order
  pub some : 1 ≤ length order
  pub few : length order ≤ unreached
  pub room : length order ≤ length queue

-- What a walk that had found `ids` leaves once it has left k places from the place `from` on: how far it reached, the entries read on the way, and its buffers, `old` the queue before.
pub record Continued (n : ℕ) (lists : ℕ → List ℕ) (ids : List ℕ) (from k : ℕ) (old : List ℕ) (reach : Reach) (order queue : List ℕ) : Type 0 where
  pub holds : Holding n (continued lists (begun ids) from k).queue old reach.vertices order queue
  pub entries_agree : reach.entries ≡ (continued lists (begun ids) from k).entries_read

-- What the walk over the lists of n vertices leaves: how far it reached, and its buffers, `old` the queue before.
pub record Traversed (n : ℕ) (lists : ℕ → List ℕ) (old : List ℕ) (reach : Reach) (order queue : List ℕ) : Type 0 where
  pub holds : Holding n (breadth_first n lists).queue old reach.vertices order queue
  pub entries_agree : reach.entries ≡ (breadth_first n lists).entries_read
