-- This crate's theorems, on the outcome of the call: what is accepted, all vertices numbered, where islands start, each island by itself, which vertices share one, the ordinary walk beside it, the index of a refusal, and worked cases. Definitions only.
use Rattle.std.specs.Prelude.{ℕ, ◌≤◌, ◌<◌, ◌≡◌, ◌≢◌, ◌↔◌, List, [], ◌∷◌, ◌++◌, length, take, drop, replicate, map, slice_index, Ok, Err}
use Rattle.std.specs.Float.{nan}
use mathlib.Core.List.{Memᴰ}
use Rattle.sequences.specs.Tabulate.{block, overwrite}
use Rattle.sequences.specs.Starts.{concatenate, starts_of, part}
use Rattle.sequences.specs.Ascending.{Ascending, sort}
use Rattle.refusal.specs.declared.Refusal.{Refusal}
use Rattle.refusal.specs.declared.Refusal.TheVariants.{Room, Unreached, StartsFall}
use Rattle.mesh.specs.Mesh.{Mesh, count, neighbours, mesh_of}
use Rattle.mesh.specs.Rows.{adjacency_rows}
use Rattle.mesh.specs.Adjacency.{Mutual}
use Rattle.mesh.specs.Laws.{IndexTold}
use Rattle.walk.specs.Walk.{walk_from, place_from, bfs_vertex_permutation}
use Rattle.walk.specs.Paths.{PathTo}
use Rattle.walk.specs.Laws.{AcceptedWalk, mesh_with, twelve_lists}
use Rattle.islands.specs.declared.IslandCount.{IslandCount}
use Rattle.islands.specs.Outcomes.{IslandsOutcome, islands_outcome, walk_islands}

-- ---- what is accepted
-- All rows pass: rows 2 to 4, and each slice has one place a vertex.
pub record IslandsChecked (m : Mesh) (order queue island_starts : List ℕ) : Type 0 where
  pub rows : adjacency_rows m ≡ Ok tt
  pub order_room : count m ≤ length order
  pub queue_room : count m ≤ length queue
  pub starts_room : count m ≤ length island_starts

-- Nothing else is asked: every vertex is numbered, so that none is left for row 13 to refuse.
abbrev pub CheckedIsAccepted : Type 0
CheckedIsAccepted = (m : Mesh) (order queue island_starts : List ℕ)
    → ((found : IslandCount) × ((walk_islands m order queue island_starts).answered ≡ Ok found)) ↔ IslandsChecked m order queue island_starts

abbrev pub NeverUnreached : Type 0
NeverUnreached = (m : Mesh) (order queue island_starts : List ℕ) → (walk_islands m order queue island_starts).answered ≢ Err Unreached

abbrev pub RefusedLeavesSlices : Type 0
RefusedLeavesSlices = (m : Mesh) (order queue island_starts : List ℕ) (reason : Refusal) → let outcome = walk_islands m order queue island_starts in
    outcome.answered ≡ Err reason → outcome ≡ islands_outcome (Err reason) order queue island_starts

-- ---- all vertices are numbered
-- Order and queue are permutations of all ids, each the other's inverse, and all entries were read; surplus places stay.
pub record AllNumbered (m : Mesh) (order queue : List ℕ) (found : IslandCount) (outcome : IslandsOutcome) : Type 0 where
  pub numbered : AcceptedWalk (count m) (length m.entries) found.entries_read (take (count m) outcome.order) (take (count m) outcome.queue)
  pub order_surplus : drop (count m) outcome.order ≡ drop (count m) order
  pub queue_surplus : drop (count m) outcome.queue ≡ drop (count m) queue

abbrev pub EveryVertexNumbered : Type 0
EveryVertexNumbered = (m : Mesh) (order queue island_starts : List ℕ) (found : IslandCount) → let outcome = walk_islands m order queue island_starts in
    outcome.answered ≡ Ok found → AllNumbered m order queue found outcome

-- ---- where islands start
-- Their starts ascend strictly from 0 below the vertex count; there is one island at least; places behind the starts stay.
pub record IslandStarts (n islands : ℕ) (old starts : List ℕ) : Type 0 where
  pub some : 1 ≤ islands
  pub few : islands ≤ n
  pub from_zero : slice_index starts 0 ≡ 0
  pub ascend : Ascending (take islands starts)
  pub inside : (s : ℕ) → Memᴰ s (take islands starts) → s < n
  pub behind : drop islands starts ≡ drop islands old

abbrev pub StartsAscend : Type 0
StartsAscend = (m : Mesh) (order queue island_starts : List ℕ) (found : IslandCount) → let outcome = walk_islands m order queue island_starts in
    outcome.answered ≡ Ok found → IslandStarts (count m) found.islands island_starts outcome.island_starts

-- The root of an island: the id that has its first number.
abbrev pub island_root : IslandsOutcome → ℕ → ℕ
island_root outcome i = slice_index outcome.queue (slice_index outcome.island_starts i)

-- It is the lowest id that has no number of an earlier island: all lower ids have one.
abbrev pub RootsAreLowest : Type 0
RootsAreLowest = (m : Mesh) (order queue island_starts : List ℕ) (found : IslandCount) → let outcome = walk_islands m order queue island_starts in
    outcome.answered ≡ Ok found → (i : ℕ) → i < found.islands → (v : ℕ) → v < island_root outcome i → slice_index outcome.order v < slice_index outcome.island_starts i

-- ---- each island by itself
-- The ids of island i, over n vertices, in the order of their numbers: those of the queue from its start to the next, or to the last number.
abbrev pub island : ℕ → ℕ → IslandsOutcome → ℕ → List ℕ
island n islands outcome i = part (take islands outcome.island_starts ++ (n ∷ [])) (take n outcome.queue) i

-- Where neighbours are mutual: the complete walk from the island's root, over the same lists.
abbrev pub IslandIsWalk : Type 0
IslandIsWalk = (m : Mesh) (order queue island_starts : List ℕ) (found : IslandCount) → let outcome = walk_islands m order queue island_starts in
    Mutual m → outcome.answered ≡ Ok found → (i : ℕ) → i < found.islands
    → island (count m) found.islands outcome i ≡ (walk_from (count m) (neighbours m) (island_root outcome i)).queue

-- The mesh that has these vertices of m alone: their positions, and their lists with each neighbour by its place among them.
abbrev pub mesh_alone : Mesh → List ℕ → Mesh
mesh_alone m ids =
    let list : ℕ → List ℕ = λ v. map (place_from 0 ids) (neighbours m (slice_index ids v)) in
    mesh_of (concatenate (length ids) (λ v. block 3 m.positions nan (slice_index ids v))) (starts_of (length ids) list) (concatenate (length ids) list)

-- And the ordinary walk of the mesh that has the island's vertices alone, their ids ascending: it passes that mesh's rows, reads all of its entries, and its queue names the island's ids in their order.
pub record OrdinaryWalk (own : Mesh) (ids order queue numbered : List ℕ) : Type 0 where
  pub rows : adjacency_rows own ≡ Ok tt
  pub same_count : count own ≡ length ids
  pub accepted : length ids ≤ length order → length ids ≤ length queue → (bfs_vertex_permutation own order queue).answered ≡ Ok (length own.entries)
  pub same_order : length ids ≤ length order → length ids ≤ length queue → map (slice_index ids) (take (length ids) (bfs_vertex_permutation own order queue).queue) ≡ numbered

abbrev pub IslandIsMesh : Type 0
IslandIsMesh = (m : Mesh) (order queue island_starts : List ℕ) (found : IslandCount) (own_order own_queue : List ℕ) → let outcome = walk_islands m order queue island_starts in
    Mutual m → outcome.answered ≡ Ok found → (i : ℕ) → i < found.islands
    → let numbered = island (count m) found.islands outcome i in OrdinaryWalk (mesh_alone m (sort numbered)) (sort numbered) own_order own_queue numbered

-- ---- which vertices share an island
abbrev pub SharesIsland : ℕ → ℕ → IslandsOutcome → ℕ → ℕ → Type 0
SharesIsland n islands outcome v w = (i : ℕ) × (i < islands) × Memᴰ v (island n islands outcome i) × Memᴰ w (island n islands outcome i)

-- Where neighbours are mutual, exactly those that a path joins.
abbrev pub PathsJoin : Type 0
PathsJoin = (m : Mesh) (order queue island_starts : List ℕ) (found : IslandCount) (v w : ℕ) → let outcome = walk_islands m order queue island_starts in
    Mutual m → outcome.answered ≡ Ok found → v < count m → w < count m
    → SharesIsland (count m) found.islands outcome v w ↔ ((k : ℕ) × PathTo (neighbours m) v w k)

-- ---- the ordinary walk beside it
-- Where a path leads from vertex 0 to every vertex, both calls leave the same order and queue and read as much, and there is one island.
abbrev pub OneIslandIsTheWalk : Type 0
OneIslandIsTheWalk = (m : Mesh) (order queue island_starts : List ℕ) → let walked = bfs_vertex_permutation m order queue in
    IslandsChecked m order queue island_starts → ((v : ℕ) → v < count m → (k : ℕ) × PathTo (neighbours m) 0 v k)
    → (walked.answered ≡ Ok (length m.entries))
    × (walk_islands m order queue island_starts ≡ islands_outcome (Ok (record { islands = 1; entries_read = length m.entries })) walked.order walked.queue (overwrite (0 ∷ []) island_starts))

-- Row 13 refuses the ordinary walk exactly where there are several.
abbrev pub SeveralAreUnreached : Type 0
SeveralAreUnreached = (m : Mesh) (order queue island_starts : List ℕ) (found : IslandCount)
    → (walk_islands m order queue island_starts).answered ≡ Ok found → (1 < found.islands) ↔ ((bfs_vertex_permutation m order queue).answered ≡ Err Unreached)

-- ---- the index of a refusal
abbrev pub IslandsIndex : Type 0
IslandsIndex = (m : Mesh) (order queue island_starts : List ℕ) (reason : Refusal) → (walk_islands m order queue island_starts).answered ≡ Err reason → IndexTold m.starts reason

-- ---- worked cases
-- The walk over a mesh with these lists, in slices that have one place a vertex, all of them 77.
abbrev pub walked_over : List (List ℕ) → IslandsOutcome
walked_over lists = let lent = replicate (length lists) 77 in walk_islands (mesh_with lists) lent lent lent

-- So many islands, and so many entries read.
abbrev pub numbered_as : ℕ → ℕ → List ℕ → List ℕ → List ℕ → IslandsOutcome
numbered_as islands entries_read order queue island_starts = islands_outcome (Ok (record { islands = islands; entries_read = entries_read })) order queue island_starts

abbrev pub three_islands : List (List ℕ)
three_islands = (4 ∷ []) ∷ (3 ∷ 2 ∷ []) ∷ (1 ∷ []) ∷ (1 ∷ []) ∷ (0 ∷ []) ∷ [] ∷ []

-- Lists that are mutual. The starts' places behind those of the islands stay.
pub record MutualCases : Type 0 where
  pub three : walked_over three_islands ≡ numbered_as 3 6 (0 ∷ 2 ∷ 4 ∷ 3 ∷ 1 ∷ 5 ∷ []) (0 ∷ 4 ∷ 1 ∷ 3 ∷ 2 ∷ 5 ∷ []) (0 ∷ 2 ∷ 5 ∷ 77 ∷ 77 ∷ 77 ∷ [])
  pub two : walked_over ((3 ∷ []) ∷ (2 ∷ []) ∷ (1 ∷ []) ∷ (0 ∷ []) ∷ []) ≡ numbered_as 2 4 (0 ∷ 2 ∷ 3 ∷ 1 ∷ []) (0 ∷ 3 ∷ 1 ∷ 2 ∷ []) (0 ∷ 2 ∷ 77 ∷ 77 ∷ [])
  pub no_lists : walked_over ([] ∷ [] ∷ [] ∷ []) ≡ numbered_as 3 0 (0 ∷ 1 ∷ 2 ∷ []) (0 ∷ 1 ∷ 2 ∷ []) (0 ∷ 1 ∷ 2 ∷ [])
  pub lattice : walked_over twelve_lists ≡ numbered_as 1 60 (0 ∷ 1 ∷ 2 ∷ 3 ∷ 8 ∷ 6 ∷ 4 ∷ 5 ∷ 9 ∷ 11 ∷ 7 ∷ 10 ∷ []) (0 ∷ 1 ∷ 2 ∷ 3 ∷ 6 ∷ 7 ∷ 5 ∷ 10 ∷ 4 ∷ 8 ∷ 11 ∷ 9 ∷ []) (0 ∷ replicate 11 77)

-- Lists that are not: an entry may name an id of an earlier island. It is read, and nothing enters.
pub record OneWayCases : Type 0 where
  pub into_earlier : walked_over ((1 ∷ []) ∷ (0 ∷ []) ∷ [] ∷ (2 ∷ []) ∷ []) ≡ numbered_as 3 3 (0 ∷ 1 ∷ 2 ∷ 3 ∷ []) (0 ∷ 1 ∷ 2 ∷ 3 ∷ []) (0 ∷ 2 ∷ 3 ∷ 77 ∷ [])
  pub back_alone : walked_over ([] ∷ (0 ∷ []) ∷ []) ≡ numbered_as 2 1 (0 ∷ 1 ∷ []) (0 ∷ 1 ∷ []) (0 ∷ 1 ∷ [])
  pub one_way_round : walked_over ((2 ∷ []) ∷ [] ∷ (1 ∷ []) ∷ []) ≡ numbered_as 1 2 (0 ∷ 2 ∷ 1 ∷ []) (0 ∷ 2 ∷ 1 ∷ []) (0 ∷ 77 ∷ 77 ∷ [])
  pub back_to_both : walked_over ((1 ∷ []) ∷ (0 ∷ []) ∷ (0 ∷ []) ∷ []) ≡ numbered_as 2 3 (0 ∷ 1 ∷ 2 ∷ []) (0 ∷ 1 ∷ 2 ∷ []) (0 ∷ 2 ∷ 77 ∷ [])

-- A place a vertex is asked of the starts, though fewer are filled. Starts that fall are told before that.
pub record RefusedCases : Type 0 where
  pub short : (walk_islands (mesh_with three_islands) (replicate 6 77) (replicate 6 77) (replicate 5 77)).answered ≡ Err Room
  pub falling : (walk_islands (mesh_of (replicate 18 nan) (0 ∷ 3 ∷ 1 ∷ 4 ∷ 5 ∷ 6 ∷ 6 ∷ []) (4 ∷ 3 ∷ 2 ∷ 1 ∷ 1 ∷ 0 ∷ [])) (replicate 6 77) (replicate 6 77) (replicate 5 77)).answered ≡ Err (StartsFall 2)
