-- A walk: breadth first from a vertex, each list in its stored order, with the count of entries that it reads. The call walks from vertex 0: it gives each old id its new one, and leaves the old ids in that order in its queue. Definitions only.
use Rattle.std.specs.Prelude.{ℕ, zero, suc, ◌+◌, Bool, true, false, ◌&&◌, cond, List, [], ◌∷◌, ◌++◌, nat_lt, leb, eqb, length, get_or, Result, Ok, Err}
use Rattle.sequences.specs.Tabulate.{tabulate, overwrite}
use Rattle.sequences.specs.Ascending.{is_member}
use Rattle.refusal.specs.declared.Refusal.{Refusal}
use Rattle.refusal.specs.declared.Refusal.TheVariants.{Room, Unreached}
use Rattle.refusal.specs.Refusal.{row, then, answer}
use Rattle.mesh.specs.Mesh.{Mesh, count, neighbours}
use Rattle.mesh.specs.Rows.{adjacency_rows}

-- The queue after v was met: it enters behind the last, unless it has entered before. An id stays in the queue once it has entered.
unfoldable pub enter : List ℕ → ℕ → List ℕ
enter queue v = cond (is_member v queue) queue (queue ++ (v ∷ []))

-- The queue after a list was read, in the list's order.
unfoldable pub entered : List ℕ → List ℕ → List ℕ
entered queue [] = queue
entered queue (v ∷ vs) = entered (enter queue v) vs

-- What a walk has found: the ids in the order in which they entered, and how many entries were read.
pub record Visit : Type 0 where
  pub queue : List ℕ
  pub entries_read : ℕ

-- The list of the vertex at place k of the queue is read. Behind the end of the queue nothing is.
unfoldable pub leave : (ℕ → List ℕ) → Visit → Bool → ℕ → Visit
leave lists visit true k =
    let list = lists (get_or visit.queue k 0) in
    record { queue = entered visit.queue list; entries_read = visit.entries_read + length list }
leave lists visit false k = visit

-- These ids have entered, and no entry has been read.
abbrev pub begun : List ℕ → Visit
begun ids = record { queue = ids; entries_read = 0 }

-- A walk that has found `visit` and goes on at the place `from` of its queue, after k further places were left.
unfoldable pub continued : (ℕ → List ℕ) → Visit → ℕ → ℕ → Visit
continued lists visit from zero = visit
continued lists visit from (suc k) =
    let found = continued lists visit from k in
    leave lists found (nat_lt (from + k) (length found.queue)) (from + k)

-- The complete walk from v over the lists of n vertices. An id enters once, so that after n places no place is left over.
unfoldable pub walk_from : ℕ → (ℕ → List ℕ) → ℕ → Visit
walk_from n lists v = continued lists (begun (v ∷ [])) 0 n

-- The walk: that from vertex 0.
abbrev pub breadth_first : ℕ → (ℕ → List ℕ) → Visit
breadth_first n lists = walk_from n lists 0

-- What the order holds for an id that was not reached.
abbrev pub unreached : ℕ
unreached = 4294967295

-- The place of v in the queue, counted from k: its new id.
unfoldable pub place_from : ℕ → List ℕ → ℕ → ℕ
place_from k [] v = unreached
place_from k (x ∷ xs) v = cond (eqb v x) k (place_from (suc k) xs v)

-- The new id at each old one.
unfoldable pub order_of : ℕ → List ℕ → List ℕ
order_of n queue = tabulate n (place_from 0 queue)

-- The whole outcome of a call: its answer, the count of entries read or why it is refused, and the lent slices at exit.
pub record WalkOutcome : Type 0 where
  pub answered : Result ℕ Refusal
  pub order : List ℕ
  pub queue : List ℕ

-- The same from its parts.
abbrev pub walk_outcome : Result ℕ Refusal → List ℕ → List ℕ → WalkOutcome
walk_outcome answered order queue = record { answered = answered; order = order; queue = queue }

-- Row 8: one place a vertex in each.
unfoldable pub walk_fits : ℕ → List ℕ → List ℕ → Bool
walk_fits n order queue = leb n (length order) && leb n (length queue)

-- Row 13 refuses a mesh with a vertex that was not reached. It leaves the reached ids numbered and the others not, and in the queue the reached ids in their order, its further places as they were.
unfoldable pub walked : Mesh → List ℕ → List ℕ → WalkOutcome
walked m order queue =
    let visit = breadth_first (count m) (neighbours m) in
    walk_outcome (answer (row (eqb (length visit.queue) (count m)) Unreached (Ok tt)) Err (Ok visit.entries_read))
    (overwrite (order_of (count m) visit.queue) order) (overwrite visit.queue queue)

-- The mesh rows 2 to 4, then 8 and 13. All but the last change nothing.
unfoldable pub bfs_vertex_permutation : Mesh → List ℕ → List ℕ → WalkOutcome
bfs_vertex_permutation m order queue =
    answer (then (adjacency_rows m) (row (walk_fits (count m) order queue) Room (Ok tt)))
    (λ reason. walk_outcome (Err reason) order queue) (walked m order queue)
