-- This crate's theorems, on the outcomes of both calls: the number of steps, the complete walk beside it, row 15, the list, how both calls agree, the index of a refusal, and worked cases. Definitions only.
use Rattle.std.specs.Prelude.{ℕ, suc, ◌+◌, ◌≤◌, ◌<◌, ◌≡◌, ◌≢◌, ◌↔◌, List, [], ◌∷◌, length, take, drop, replicate, slice_index, Result, Ok, Err}
use Rattle.std.specs.Float.{nan}
use mathlib.Core.List.{Memᴰ}
use Rattle.refusal.specs.declared.Refusal.{Refusal}
use Rattle.refusal.specs.declared.Refusal.TheVariants.{Room, Vertex, NoPath, StartsFall}
use Rattle.mesh.specs.Mesh.{Mesh, count, neighbours, mesh_of}
use Rattle.mesh.specs.Rows.{adjacency_rows}
use Rattle.mesh.specs.Adjacency.{Mutual}
use Rattle.mesh.specs.Laws.{IndexTold}
use Rattle.walk.specs.Walk.{Visit, begun, continued, walk_from}
use Rattle.walk.specs.Buffers.{DistinctIds}
use Rattle.walk.specs.Paths.{PathTo}
use Rattle.walk.specs.Laws.{mesh_with, twelve_lists}
use Rattle.steps.specs.declared.Steps.{Steps}
use Rattle.steps.specs.Steps.{entries_of, first_place, steps_with}
use Rattle.steps.specs.Outcomes.{longest_taken, steps_between, within_outcome, vertices_within}

-- ---- the number of steps
-- A path of k steps leads from v to w, and none is shorter.
pub record Shortest (lists : ℕ → List ℕ) (v w k : ℕ) : Type 0 where
  pub path : PathTo lists v w k
  pub least : (j : ℕ) → PathTo lists v w j → k ≤ j

-- It is below the vertex count.
abbrev pub StepsAreShortest : Type 0
StepsAreShortest = (m : Mesh) (from to order_length queue_length : ℕ) (s : Steps)
    → steps_between m from to order_length queue_length ≡ Ok s → Shortest (neighbours m) from to s.steps × (s.steps < count m)

-- ---- beside the complete walk
abbrev pub walk_of : Mesh → ℕ → Visit
walk_of m v = walk_from (count m) (neighbours m) v

-- The list of the vertex at a place of its queue.
abbrev pub list_at : Mesh → ℕ → ℕ → List ℕ
list_at m v place = neighbours m (slice_index (walk_of m v).queue place)

-- The first place whose list has the target: the vertex there is one step nearer, and what was read is the lists of the places before and this one as far as the target.
pub record MetInWalk (m : Mesh) (from to order_length queue_length : ℕ) (s : Steps) : Type 0 where
  pub place : ℕ
  pub reached : place < length (walk_of m from).queue
  pub has_target : Memᴰ to (list_at m from place)
  pub none_before : (i : ℕ) → i < place → Memᴰ to (list_at m from i) → ⊥
  pub nearer : Steps
  pub answered : steps_between m from (slice_index (walk_of m from).queue place) order_length queue_length ≡ Ok nearer
  pub one_more : s.steps ≡ suc nearer.steps
  pub counted : s.entries_read ≡ (continued (neighbours m) (begun (from ∷ [])) 0 place).entries_read + suc (first_place to (list_at m from place))

abbrev pub StepsAreTheWalks : Type 0
StepsAreTheWalks = (m : Mesh) (from to order_length queue_length : ℕ) (s : Steps) → from ≢ to
    → steps_between m from to order_length queue_length ≡ Ok s → MetInWalk m from to order_length queue_length s

-- The entries that the complete walk reads, in its order. The count tells where the target stands among them for the first time, and is no more than they are.
abbrev pub walk_entries : Mesh → ℕ → List ℕ
walk_entries m v = entries_of (neighbours m) (walk_of m v).queue

pub record EntriesOfWalk (m : Mesh) (from to : ℕ) (s : Steps) : Type 0 where
  pub first_reading : from ≢ to → s.entries_read ≡ suc (first_place to (walk_entries m from))
  pub walk_reads : (walk_of m from).entries_read ≡ length (walk_entries m from)
  pub at_most : s.entries_read ≤ (walk_of m from).entries_read
  pub few : (walk_of m from).entries_read ≤ length m.entries

abbrev pub EntriesAreTheWalks : Type 0
EntriesAreTheWalks = (m : Mesh) (from to order_length queue_length : ℕ) (s : Steps)
    → steps_between m from to order_length queue_length ≡ Ok s → EntriesOfWalk m from to s

-- ---- row 15
-- All rows before it pass: rows 2 to 4, both vertices are below the count, and scratch is long enough.
pub record StepsChecked (m : Mesh) (from to order_length queue_length : ℕ) : Type 0 where
  pub rows : adjacency_rows m ≡ Ok tt
  pub from_below : from < count m
  pub to_below : to < count m
  pub order_room : longest_taken m ≤ order_length
  pub queue_room : longest_taken m ≤ queue_length

abbrev pub RefusedWithoutPath : Type 0
RefusedWithoutPath = (m : Mesh) (from to order_length queue_length : ℕ)
    → (steps_between m from to order_length queue_length ≡ Err NoPath) ↔ (StepsChecked m from to order_length queue_length × ((k : ℕ) → PathTo (neighbours m) from to k → ⊥))

abbrev pub AnsweredByPath : Type 0
AnsweredByPath = (m : Mesh) (from to order_length queue_length : ℕ)
    → ((s : Steps) × (steps_between m from to order_length queue_length ≡ Ok s)) ↔ (StepsChecked m from to order_length queue_length × ((k : ℕ) × PathTo (neighbours m) from to k))

-- From a vertex to itself there are no steps, and nothing is read.
abbrev pub EqualEndsAtOnce : Type 0
EqualEndsAtOnce = (m : Mesh) (v order_length queue_length : ℕ) → StepsChecked m v v order_length queue_length → steps_between m v v order_length queue_length ≡ Ok (steps_with 0 0)

-- ---- the list
-- It is the front of the complete walk's queue and has the vertices that a path of so many steps at most leads to, each once; places behind it stay.
pub record WithinList (m : Mesh) (vertex steps reached : ℕ) (old list : List ℕ) : Type 0 where
  pub few : reached ≤ length (walk_of m vertex).queue
  pub front : take reached list ≡ take reached (walk_of m vertex).queue
  pub within : (w : ℕ) → Memᴰ w (take reached list) ↔ ((k : ℕ) × (k ≤ steps) × PathTo (neighbours m) vertex w k)
  pub ids : DistinctIds (count m) (take reached list)
  pub alone : steps ≡ 0 → take reached list ≡ vertex ∷ []
  pub whole : count m ≤ suc steps → reached ≡ length (walk_of m vertex).queue
  pub behind : drop reached list ≡ drop reached old
  pub same_length : length list ≡ length old

abbrev pub ListIsFront : Type 0
ListIsFront = (m : Mesh) (vertex steps order_length : ℕ) (list : List ℕ) (reached : ℕ) → let outcome = vertices_within m vertex steps order_length list in
    outcome.answered ≡ Ok reached → WithinList m vertex steps reached list outcome.list

-- No number of steps is refused: the call is accepted where rows 2 to 4 pass, the vertex is below the count, and there is room.
pub record WithinChecked (m : Mesh) (vertex order_length : ℕ) (list : List ℕ) : Type 0 where
  pub rows : adjacency_rows m ≡ Ok tt
  pub below : vertex < count m
  pub order_room : longest_taken m ≤ order_length
  pub list_room : count m ≤ length list

abbrev pub EveryNumberPasses : Type 0
EveryNumberPasses = (m : Mesh) (vertex steps order_length : ℕ) (list : List ℕ)
    → ((reached : ℕ) × ((vertices_within m vertex steps order_length list).answered ≡ Ok reached)) ↔ WithinChecked m vertex order_length list

abbrev pub RefusedLeavesList : Type 0
RefusedLeavesList = (m : Mesh) (vertex steps order_length : ℕ) (list : List ℕ) (reason : Refusal) → let outcome = vertices_within m vertex steps order_length list in
    outcome.answered ≡ Err reason → outcome.list ≡ list

-- ---- both calls
-- A vertex stands in the list exactly where the number of steps to it is at most the one given.
abbrev pub BothCallsAgree : Type 0
BothCallsAgree = (m : Mesh) (vertex steps within_length : ℕ) (list : List ℕ) (reached w order_length queue_length : ℕ) → let outcome = vertices_within m vertex steps within_length list in
    outcome.answered ≡ Ok reached → longest_taken m ≤ order_length → longest_taken m ≤ queue_length
    → Memᴰ w (take reached outcome.list) ↔ ((s : Steps) × (steps_between m vertex w order_length queue_length ≡ Ok s) × (s.steps ≤ steps))

-- An answer without its count of entries read.
abbrev pub steps_alone : Result Steps Refusal → Result ℕ Refusal
steps_alone (Ok s) = Ok s.steps
steps_alone (Err reason) = Err reason

-- Where neighbours are mutual, as many steps lead back as forth, and both directions are refused alike.
abbrev pub BackAsForth : Type 0
BackAsForth = (m : Mesh) (v w order_length queue_length : ℕ) → Mutual m → steps_alone (steps_between m v w order_length queue_length) ≡ steps_alone (steps_between m w v order_length queue_length)

-- ---- the index of a refusal
abbrev pub StepsIndex : Type 0
StepsIndex = (m : Mesh) (from to order_length queue_length : ℕ) (reason : Refusal) → steps_between m from to order_length queue_length ≡ Err reason → IndexTold m.starts reason

abbrev pub WithinIndex : Type 0
WithinIndex = (m : Mesh) (vertex steps order_length : ℕ) (list : List ℕ) (reason : Refusal) → (vertices_within m vertex steps order_length list).answered ≡ Err reason → IndexTold m.starts reason

-- ---- worked cases
-- The lattice of frequency 1: its 60 entries are its longest slice, and the complete walk reads them all.
abbrev pub lattice_steps : ℕ → ℕ → Result Steps Refusal
lattice_steps from to = steps_between (mesh_with twelve_lists) from to 60 60

pub record LatticeCases : Type 0 where
  pub next_but_one : lattice_steps 0 4 ≡ Ok (steps_with 2 14)
  pub across : lattice_steps 0 9 ≡ Ok (steps_with 3 34)
  pub across_back : lattice_steps 9 0 ≡ Ok (steps_with 3 31)
  pub next : lattice_steps 4 9 ≡ Ok (steps_with 1 5)
  pub itself : lattice_steps 3 3 ≡ Ok (steps_with 0 0)
  pub within_1 : vertices_within (mesh_with twelve_lists) 4 1 60 (replicate 12 77) ≡ within_outcome (Ok 6) (4 ∷ 2 ∷ 3 ∷ 5 ∷ 8 ∷ 9 ∷ replicate 6 77)
  pub within_2 : vertices_within (mesh_with twelve_lists) 4 2 60 (replicate 12 77) ≡ within_outcome (Ok 11) (4 ∷ 2 ∷ 3 ∷ 5 ∷ 8 ∷ 9 ∷ 0 ∷ 1 ∷ 7 ∷ 10 ∷ 11 ∷ 77 ∷ [])
  pub within_3 : vertices_within (mesh_with twelve_lists) 4 3 60 (replicate 12 77) ≡ within_outcome (Ok 12) (4 ∷ 2 ∷ 3 ∷ 5 ∷ 8 ∷ 9 ∷ 0 ∷ 1 ∷ 7 ∷ 10 ∷ 11 ∷ 6 ∷ [])

-- Five vertices, of which the last is only its own neighbour. The 15 coordinates are the longest slice.
abbrev pub in_a_row : Mesh
in_a_row = mesh_with ((1 ∷ []) ∷ (2 ∷ 0 ∷ []) ∷ (3 ∷ 1 ∷ []) ∷ (2 ∷ []) ∷ (4 ∷ []) ∷ [])

pub record RowCases : Type 0 where
  pub one : steps_between in_a_row 0 1 15 15 ≡ Ok (steps_with 1 1)
  pub two : steps_between in_a_row 0 2 15 15 ≡ Ok (steps_with 2 2)
  pub three : steps_between in_a_row 0 3 15 15 ≡ Ok (steps_with 3 4)
  pub back : steps_between in_a_row 3 0 15 15 ≡ Ok (steps_with 3 5)
  pub apart : steps_between in_a_row 0 4 15 15 ≡ Err NoPath
  pub apart_back : steps_between in_a_row 4 0 15 15 ≡ Err NoPath
  pub own_list : steps_between in_a_row 4 4 15 15 ≡ Ok (steps_with 0 0)
  pub within_1 : vertices_within in_a_row 1 1 15 (replicate 5 77) ≡ within_outcome (Ok 3) (1 ∷ 2 ∷ 0 ∷ 77 ∷ 77 ∷ [])
  pub within_9 : vertices_within in_a_row 1 9 15 (replicate 5 77) ≡ within_outcome (Ok 4) (1 ∷ 2 ∷ 0 ∷ 3 ∷ 77 ∷ [])
  pub vertex_before_room : steps_between in_a_row 5 0 1 1 ≡ Err Vertex
  pub room_before_path : steps_between in_a_row 4 0 14 14 ≡ Err Room
  pub room_before_itself : steps_between in_a_row 4 4 14 14 ≡ Err Room

-- Starts that fall at place 2 are told before a vertex that is none.
abbrev pub falling : Mesh
falling = mesh_of (replicate 15 nan) (0 ∷ 3 ∷ 1 ∷ 5 ∷ 6 ∷ 7 ∷ []) (1 ∷ 2 ∷ 0 ∷ 3 ∷ 1 ∷ 2 ∷ 4 ∷ [])

abbrev pub FallingCase : Type 0
FallingCase = (steps_between falling 9 0 15 15 ≡ Err (StartsFall 2)) × ((vertices_within falling 9 1 15 (replicate 5 77)).answered ≡ Err (StartsFall 2))

-- Lists with repeats and with their own vertex, and lists that are not mutual.
abbrev pub repeated : Mesh
repeated = mesh_with ((2 ∷ 2 ∷ 1 ∷ []) ∷ (0 ∷ []) ∷ (1 ∷ 1 ∷ 2 ∷ []) ∷ [])

abbrev pub one_way : Mesh
one_way = mesh_with ((1 ∷ 2 ∷ []) ∷ (0 ∷ []) ∷ (3 ∷ []) ∷ [] ∷ [])

pub record ListCases : Type 0 where
  pub behind_repeats : steps_between repeated 0 1 9 9 ≡ Ok (steps_with 1 3)
  pub first_of_repeats : steps_between repeated 0 2 9 9 ≡ Ok (steps_with 1 1)
  pub over_own : steps_between repeated 2 0 9 9 ≡ Ok (steps_with 2 4)
  pub own_unread : steps_between repeated 2 2 9 9 ≡ Ok (steps_with 0 0)
  pub forth : steps_between one_way 0 3 12 12 ≡ Ok (steps_with 2 4)
  pub further : steps_between one_way 1 3 12 12 ≡ Ok (steps_with 3 4)
  pub no_way_back : steps_between one_way 3 0 12 12 ≡ Err NoPath
