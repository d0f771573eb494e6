-- What the complete walk from any vertex reaches (`walk_follows_paths`), and what a walk's outcome has. Accepted where every vertex is reached (`all_reached`). Accepted: a permutation, its inverse in the queue, and all entries read (`walk_accepted`). Err by row 13: the reached ids are numbered, no others (`unreached_numbered`). Err by any row: what the index tells (`walk_index`). Assumes nothing.
use Prim.Native.Nat.{ℕ, ◌≤◌, ◌<◌}
use native.Mathlib.Omega.{arith}
use mathlib.Core.Path.{◌≡◌, refl, sym, ap, subst, ◌∙◌}
use mathlib.Core.Logic.{◌≢◌}
use mathlib.Core.Bool.{Bool, true, false}
use mathlib.Core.List.{List}
use lib.Dec.{eqb}
use lib.ListN.{length, take}
use borrow.Author.Tests.{eq-eqb, eqb-true, eqb-false}
use Rattle.sequences.specs.Tabulate.{overwrite}
use Rattle.sequences.specs.Permutation.{at}
use Rattle.sequences.proofs.Tabulate.{take_overwrite, overwrite_at}
use Rattle.sequences.proofs.Starts.{length_concatenate}
use Rattle.sequences.proofs.Permutation.{is_permutation_complete, permutation_bijection}
use Rattle.refusal.specs.declared.Refusal.{Refusal}
use Rattle.refusal.specs.declared.Refusal.TheVariants.{Room, Unreached}
use Rattle.refusal.specs.Refusal.{number_of, row, answer}
use Rattle.std.specs.Prelude.{Result, Ok, Err}
use Rattle.refusal.proofs.Rows.{EachReason}
use Rattle.mesh.specs.Mesh.{Mesh, count, neighbours}
use Rattle.mesh.specs.Rows.{adjacency_rows}
use Rattle.mesh.proofs.Facts.{adjacency_facts}
use Rattle.mesh.proofs.Neighbours.{neighbour_below, entries_of_neighbours}
use Rattle.mesh.specs.Laws.{IndexTold}
use Rattle.mesh.proofs.Refusals.{told_none, adjacency_index, adjacency_reasons}
use Rattle.walk.specs.Walk.{order_of, WalkOutcome, walk_outcome, walked, bfs_vertex_permutation}
use Rattle.walk.specs.Buffers.{DistinctIds}
use Rattle.walk.specs.Laws.{WalkFollowsPaths, visit_of, AcceptedWalk, PartialWalk}
use Rattle.walk.proofs.Queue.{ids_at_most, ids_permutation}
use Rattle.walk.proofs.Outcome.{walk_made, Found, rows_refuse, short, made_of, found}
use Rattle.walk.proofs.Continued.{walk_ids, all_entries_read}
use Rattle.walk.proofs.Reached.{path_reached, reached_path}
use Rattle.walk.proofs.Order.{length_order, number_of_place, number_of_member, number_of_absent, order_inverse, order_permutation}

-- the complete walk from any vertex
pub walk_follows_paths : WalkFollowsPaths
walk_follows_paths m v passed lt =
    let facts = adjacency_facts m passed in
    let ids = walk_ids (neighbours m) v lt (λ v lt x k. neighbour_below m facts v x k) in
    let most = ids_at_most ids in
    record {
      ids = ids;
      reached = λ w. (reached_path (neighbours m) v (count m) most w, λ p. path_reached (neighbours m) v (count m) most p.1);
    }

module _ (m : Mesh) (passed : adjacency_rows m ≡ Ok tt) where
  -- the queue's ids are below the vertex count, and none is there twice
  pub queue_ids : DistinctIds (count m) (visit_of m).queue
  queue_ids =
      let facts = adjacency_facts m passed in
      walk_ids (neighbours m) 0 facts.some (λ v lt x k. neighbour_below m facts v x k)

  -- a walk that reached every vertex has read every entry
  pub all_read : length (visit_of m).queue ≡ count m → (visit_of m).entries_read ≡ length m.entries
  all_read all =
      let facts = adjacency_facts m passed in
      all_entries_read (neighbours m) 0 facts.some (λ v lt x k. neighbour_below m facts v x k) all
      ∙ sym (length_concatenate (count m) (neighbours m)) ∙ ap length (entries_of_neighbours m facts)

-- a walk that reaches every vertex is accepted
pub all_reached : (m : Mesh) (order queue : List ℕ) → adjacency_rows m ≡ Ok tt → count m ≤ length order → count m ≤ length queue → length (visit_of m).queue ≡ count m
    → bfs_vertex_permutation m order queue ≡ walk_outcome (Ok (length m.entries)) (overwrite (order_of (count m) (visit_of m).queue) order) (overwrite (visit_of m).queue queue)
unfolding walked
all_reached m order queue passed order_room queue_room all = sym (walk_made m order queue passed order_room queue_room) ∙ (rw (eq-eqb (length (visit_of m).queue) (count m) all, all_read m passed all) refl)

-- ids of all vertices, and the order that numbers them
pub all_numbered_accepted : {n entries read : ℕ} {q : List ℕ} → DistinctIds n q → length q ≡ n → read ≡ entries → AcceptedWalk n entries read (order_of n q) q
all_numbered_accepted {n} {q = q} ids all read_all =
    let bijection = permutation_bijection (ids_permutation ids all) in
    record {
      all_entries = read_all;
      permutation = is_permutation_complete n (order_of n q) (order_permutation ids all);
      number_of_id = λ k lt. number_of_place ids k (omega arith);
      id_of_number = λ v lt. (rw (order_inverse ids all)) ∙ bijection.right_inverse v lt;
      queue_below = λ k lt. bijection.maps k lt;
      queue_distinct = ids.distinct;
    }

-- ---- accepted, or refused by row 13 or another
module _ (m : Mesh) (order queue : List ℕ) where
  different : {A : Type 0} {reason : Refusal} {read : ℕ} → Err reason ≡ Ok read → A
  different e = let z : ◌≡◌ {A = ℕ} 0 1 = cc in absurd (let y : ⊥ = omega arith in y)

  answered_all : (read : ℕ) → (walked m order queue).answered ≡ Ok read → (length (visit_of m).queue ≡ count m) × ((visit_of m).entries_read ≡ read)
  unfolding walked
  answered_all read e = go (eqb (length (visit_of m).queue) (count m)) refl e
    where
      go : (b : Bool) → eqb (length (visit_of m).queue) (count m) ≡ b → answer (row b Unreached (Ok tt)) Err (Ok (visit_of m).entries_read) ≡ Ok read
          → (length (visit_of m).queue ≡ count m) × ((visit_of m).entries_read ≡ read)
      go true q a = (eqb-true (length (visit_of m).queue) (count m) q, cc)
      go false q a = different a

  pub walk_accepted : (read : ℕ) → (bfs_vertex_permutation m order queue).answered ≡ Ok read
      → AcceptedWalk (count m) (length m.entries) read (take (count m) (bfs_vertex_permutation m order queue).order) (take (count m) (bfs_vertex_permutation m order queue).queue)
  unfolding walked
  walk_accepted read e = go (found m order queue)
    where
      go : Found m order queue → AcceptedWalk (count m) (length m.entries) read (take (count m) (bfs_vertex_permutation m order queue).order) (take (count m) (bfs_vertex_permutation m order queue).queue)
      go (rows_refuse reason p o) = different (ap (λ (w : WalkOutcome). w.answered) o ∙ e)
      go (short p o) = different (ap (λ (w : WalkOutcome). w.answered) o ∙ e)
      go (made_of p o) =
          let all = answered_all read (ap (λ (w : WalkOutcome). w.answered) o ∙ e) in
          rw (← o, take_overwrite (order_of (count m) (visit_of m).queue) order (count m) (length_order (count m) (visit_of m).queue), take_overwrite (visit_of m).queue queue (count m) all.0)
          (all_numbered_accepted (queue_ids m p) all.0 (sym all.1 ∙ all_read m p all.0))

  answered_some : (walked m order queue).answered ≡ Err Unreached → length (visit_of m).queue ≢ count m
  unfolding walked
  answered_some e = go (eqb (length (visit_of m).queue) (count m)) refl e
    where
      go : (b : Bool) → eqb (length (visit_of m).queue) (count m) ≡ b → answer (row b Unreached (Ok tt)) Err (Ok (visit_of m).entries_read) ≡ Err Unreached
          → length (visit_of m).queue ≢ count m
      go true q a = different (sym a)
      go false q a = eqb-false (length (visit_of m).queue) (count m) q

  pub unreached_numbered : (bfs_vertex_permutation m order queue).answered ≡ Err Unreached → PartialWalk (count m) (visit_of m).queue queue (bfs_vertex_permutation m order queue).order (bfs_vertex_permutation m order queue).queue
  unfolding walked
  unreached_numbered e = go (found m order queue)
    where
      rows_not_13 : EachReason (λ reason. number_of reason ≢ 13) (adjacency_rows m)
      rows_not_13 = adjacency_reasons (λ reason. number_of reason ≢ 13) m (λ z. omega arith) (λ z. omega arith) (λ z. omega arith) (λ index falls z. omega arith) (λ z. omega arith)

      other : {A : Type 0} (reason : Refusal) → ◌≡◌ {A = Result ℕ Refusal} (Err reason) (Err Unreached) → number_of reason ≢ 13 → A
      other reason a differs = absurd (differs cc)

      go : Found m order queue → PartialWalk (count m) (visit_of m).queue queue (bfs_vertex_permutation m order queue).order (bfs_vertex_permutation m order queue).queue
      go (rows_refuse reason p o) = other reason (ap (λ (w : WalkOutcome). w.answered) o ∙ e) (rows_not_13 reason p)
      go (short p o) = other Room (ap (λ (w : WalkOutcome). w.answered) o ∙ e) (λ z. omega arith)
      go (made_of p o) =
          let ids = queue_ids m p in
          let most = ids_at_most ids in
          let some = answered_some (ap (λ (w : WalkOutcome). w.answered) o ∙ e) in
          let number : (v : ℕ) → v < count m → at (overwrite (order_of (count m) (visit_of m).queue) order) v ≡ at (order_of (count m) (visit_of m).queue) v =
          λ v lt. overwrite_at (order_of (count m) (visit_of m).queue) order v 0 (omega (arith, length_order (count m) (visit_of m).queue)) in
          rw (← o) (record {
            some_unreached = omega (arith, some);
            reached_ids = ids;
            reached_numbered = λ v k. rw (number v (ids.below v k)) (number_of_member ids v k);
            others_not = λ v lt absent. number v lt ∙ number_of_absent (count m) (visit_of m).queue v lt absent;
            queued = refl;
          })

  pub walk_index : (reason : Refusal) → (bfs_vertex_permutation m order queue).answered ≡ Err reason → IndexTold m.starts reason
  unfolding walked
  walk_index reason e = go (found m order queue)
    where
      told : (own : Refusal) → IndexTold m.starts own → ◌≡◌ {A = Result ℕ Refusal} (Err own) (Err reason) → IndexTold m.starts reason
      told own t a = subst (IndexTold m.starts) (let same : own ≡ reason = cc in same) t

      ended : (b : Bool) → answer (row b Unreached (Ok tt)) Err (Ok (visit_of m).entries_read) ≡ Err reason → IndexTold m.starts reason
      ended true a = different (sym a)
      ended false a = told Unreached (told_none m.starts Unreached (λ z. omega arith)) a

      go : Found m order queue → IndexTold m.starts reason
      go (rows_refuse own p o) = told own (adjacency_index m own p) (ap (λ (w : WalkOutcome). w.answered) o ∙ e)
      go (short p o) = told Room (told_none m.starts Room (λ z. omega arith)) (ap (λ (w : WalkOutcome). w.answered) o ∙ e)
      go (made_of p o) = ended (eqb (length (visit_of m).queue) (count m)) (ap (λ (w : WalkOutcome). w.answered) o ∙ e)
