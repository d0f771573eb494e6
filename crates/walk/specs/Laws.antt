-- This crate's theorems: what a walk from any vertex reaches, what an accepted walk has, what one that row 13 refuses leaves, what the index of a refusal tells, and a worked case. Definitions only.
use Rattle.std.specs.Prelude.{ℕ, ◌*◌, ◌<◌, ◌≡◌, ◌↔◌, true, [], ◌∷◌, length, take, replicate, slice_index_or, Ok, Err}
use Rattle.std.specs.Float.{nan}
use mathlib.Core.List.{List, Memᴰ}
use Rattle.sequences.specs.Tabulate.{overwrite}
use Rattle.sequences.specs.Starts.{concatenate, starts_of}
use Rattle.sequences.specs.Ascending.{Distinct}
use Rattle.sequences.specs.Permutation.{at, is_permutation}
use Rattle.refusal.specs.declared.Refusal.{Refusal}
use Rattle.refusal.specs.declared.Refusal.TheVariants.{Unreached}
use Rattle.mesh.specs.Mesh.{Mesh, count, neighbours, mesh_of}
use Rattle.mesh.specs.Rows.{adjacency_rows}
use Rattle.mesh.specs.Laws.{IndexTold}
use Rattle.walk.specs.Walk.{Visit, walk_from, breadth_first, unreached, bfs_vertex_permutation}
use Rattle.walk.specs.Buffers.{DistinctIds}
use Rattle.walk.specs.Paths.{PathTo}

-- ---- the complete walk from a vertex
-- What it has in its queue: the vertices that a path leads to and no others, ids below n and none twice.
pub record PathsFollowed (n : ℕ) (lists : ℕ → List ℕ) (v : ℕ) : Type 0 where
  pub ids : DistinctIds n (walk_from n lists v).queue
  pub reached : (w : ℕ) → Memᴰ w (walk_from n lists v).queue ↔ ((k : ℕ) × PathTo lists v w k)

abbrev pub WalkFollowsPaths : Type 0
WalkFollowsPaths = (m : Mesh) (v : ℕ) → adjacency_rows m ≡ Ok tt → v < count m → PathsFollowed (count m) (neighbours m) v

-- ---- an accepted walk
-- What it leaves for n vertices and so many entries: all entries were read, order and queue are permutations, and each is the other's inverse.
pub record AcceptedWalk (n entries read : ℕ) (order queue : List ℕ) : Type 0 where
  pub all_entries : read ≡ entries
  pub permutation : is_permutation n order ≡ true
  pub number_of_id : (k : ℕ) → k < n → at order (at queue k) ≡ k
  pub id_of_number : (v : ℕ) → v < n → at queue (at order v) ≡ v
  pub queue_below : (k : ℕ) → k < n → at queue k < n
  pub queue_distinct : Distinct queue

abbrev pub WalkAccepted : Type 0
WalkAccepted = (m : Mesh) (order queue : List ℕ) (read : ℕ) → let outcome = bfs_vertex_permutation m order queue in
    outcome.answered ≡ Ok read → AcceptedWalk (count m) (length m.entries) read (take (count m) outcome.order) (take (count m) outcome.queue)

-- ---- a walk that row 13 refuses
-- What it leaves for n vertices of which those in `ids` were reached, `old` the queue before: exactly these are numbered.
pub record PartialWalk (n : ℕ) (ids old order queue : List ℕ) : Type 0 where
  pub some_unreached : length ids < n
  pub reached_ids : DistinctIds n ids
  pub reached_numbered : (v : ℕ) → Memᴰ v ids → (at order v < length ids) × (at ids (at order v) ≡ v)
  pub others_not : (v : ℕ) → v < n → (Memᴰ v ids → ⊥) → at order v ≡ unreached
  pub queued : queue ≡ overwrite ids old

-- The walk over a mesh.
abbrev pub visit_of : Mesh → Visit
visit_of m = breadth_first (count m) (neighbours m)

abbrev pub UnreachedNumbered : Type 0
UnreachedNumbered = (m : Mesh) (order queue : List ℕ) → let outcome = bfs_vertex_permutation m order queue in
    outcome.answered ≡ Err Unreached → PartialWalk (count m) (visit_of m).queue queue outcome.order outcome.queue

-- ---- the index of a refusal
abbrev pub WalkIndex : Type 0
WalkIndex = (m : Mesh) (order queue : List ℕ) (reason : Refusal) → (bfs_vertex_permutation m order queue).answered ≡ Err reason → IndexTold m.starts reason

-- ---- worked cases
-- A mesh with these lists. A walk asks nothing of its positions but how many they are.
abbrev pub mesh_with : List (List ℕ) → Mesh
mesh_with lists =
    let list : ℕ → List ℕ = λ v. slice_index_or lists v [] in
    mesh_of (replicate (length lists * 3) nan) (starts_of (length lists) list) (concatenate (length lists) list)

-- The walk of the lattice of frequency 1 from its lists, as `lattice-list` prints them; all 60 entries are read.
abbrev pub twelve_lists : List (List ℕ)
twelve_lists =
    (1 ∷ 2 ∷ 3 ∷ 6 ∷ 7 ∷ []) ∷ (0 ∷ 2 ∷ 5 ∷ 6 ∷ 10 ∷ []) ∷ (0 ∷ 1 ∷ 3 ∷ 4 ∷ 5 ∷ []) ∷ (0 ∷ 2 ∷ 4 ∷ 7 ∷ 8 ∷ [])
    ∷ (2 ∷ 3 ∷ 5 ∷ 8 ∷ 9 ∷ []) ∷ (1 ∷ 2 ∷ 4 ∷ 9 ∷ 10 ∷ []) ∷ (0 ∷ 1 ∷ 7 ∷ 10 ∷ 11 ∷ []) ∷ (0 ∷ 3 ∷ 6 ∷ 8 ∷ 11 ∷ [])
    ∷ (3 ∷ 4 ∷ 7 ∷ 9 ∷ 11 ∷ []) ∷ (4 ∷ 5 ∷ 8 ∷ 10 ∷ 11 ∷ []) ∷ (1 ∷ 5 ∷ 6 ∷ 9 ∷ 11 ∷ []) ∷ (6 ∷ 7 ∷ 8 ∷ 9 ∷ 10 ∷ []) ∷ []

abbrev pub TwelveWalked : Type 0
TwelveWalked = breadth_first 12 (λ v. slice_index_or twelve_lists v []) ≡ record { queue = 0 ∷ 1 ∷ 2 ∷ 3 ∷ 6 ∷ 7 ∷ 5 ∷ 10 ∷ 4 ∷ 8 ∷ 11 ∷ 9 ∷ []; entries_read = 60 }
