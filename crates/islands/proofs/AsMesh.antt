-- Where neighbours are mutual, an island's order is that of the ordinary walk of the mesh that has its vertices alone, their ids ascending: `ordinary_walk`. Assumes nothing.
use Prim.Native.Nat.{ℕ, suc, ◌*◌, ◌≤◌, ◌<◌}
use native.Mathlib.Omega.{arith}
use native.Mathlib.Decide.{ℕ_discrete}
use mathlib.Core.Path.{◌≡◌, refl, sym, ap, ◌∙◌}
use mathlib.Core.List.Memᴰ
use mathlib.Core.List.{List, [], ◌∷◌, map, map-id, map-map, Memᴰ}
use lib.ListN.{length, get_or, take, length-map}
use Rattle.std.specs.Prelude.{Ok}
use Rattle.std.specs.Float.{nan}
use Rattle.sequences.specs.Tabulate.{block, overwrite}
use Rattle.sequences.specs.Starts.{concatenate}
use Rattle.sequences.specs.Ascending.{sort}
use Rattle.sequences.specs.Permutation.{at}
use Rattle.sequences.proofs.Tabulate.{get_d_member, length_block, take_overwrite}
use Rattle.sequences.proofs.Starts.{start_suc, starts_at, concatenate_member, concatenate_even_length, concatenate_part, compressed_rows}
use Rattle.sequences.proofs.Ascending.{member_is_member, sort_members, length_sort, sort_distinct, sort_ascending, distinct_at, pairwise_at}
use Rattle.sequences.proofs.Permutation.{map_extensional}
use Rattle.mesh.specs.Mesh.{Mesh, count, neighbours}
use Rattle.mesh.specs.Rows.{adjacency_rows}
use Rattle.mesh.proofs.Facts.{AdjacencyFacts, adjacency_passed}
use Rattle.mesh.proofs.Neighbours.{neighbour_below, neighbours_limited}
use Rattle.walk.specs.Walk.{begun, walk_from, place_from, order_of, WalkOutcome, walk_outcome, bfs_vertex_permutation}
use Rattle.walk.specs.Laws.{visit_of}
use Rattle.walk.proofs.Queue.{ids_at_most, place_of_member}
use Rattle.walk.proofs.Continued.{walk_ids}
use Rattle.walk.proofs.Reached.{continued_keeps, reached_closed}
use Rattle.walk.proofs.Theorems.{all_reached}
use Rattle.islands.specs.Laws.{mesh_alone, OrdinaryWalk}
use Rattle.islands.proofs.Mutual.{island_as_mesh}

-- the places among these ids of the neighbours of the one at v
abbrev places_among : List ℕ → (ℕ → List ℕ) → ℕ → List ℕ
places_among ids lists v = map (place_from 0 ids) (lists (at ids v))

-- ---- a walk by itself
module _ (lists : ℕ → List ℕ) {n : ℕ} (below : (v : ℕ) → v < n → (x : ℕ) → Memᴰ x (lists v) → x < n) (root : ℕ) (lt : root < n) where
  abbrev queue : List ℕ
  queue = (walk_from n lists root).queue

  abbrev ids : List ℕ
  ids = sort (walk_from n lists root).queue

  walk_few : length ids ≤ n
  walk_few = omega (arith, length_sort queue, ids_at_most (walk_ids lists root lt below))

  -- the root is there
  root_there : Memᴰ root queue
  unfolding walk_from
  root_there = continued_keeps lists (begun (root ∷ [])) 0 n root (Memᴰ.head refl)

  id_there : (v : ℕ) → v < length ids → Memᴰ (at ids v) queue
  id_there v l = (sort_members queue).forth (at ids v) (get_d_member ids v 0 l)

  -- the place of an id among them
  placed : (x : ℕ) → Memᴰ x queue → (place_from 0 ids x < length ids) × (at ids (place_from 0 ids x) ≡ x)
  placed x m =
      let r = place_of_member 0 ids x (member_is_member x ids ((sort_members queue).back x m)) in
      let e : place_from 0 ids x ≡ r.0 = omega arith in
      (omega (arith, r.1), ap (at ids) e ∙ r.3)

  some_ids : 0 < length ids
  some_ids = let p = placed root root_there in omega (arith, p.0)

  -- the list of one of them has only these
  listed : (v : ℕ) → v < length ids → (x : ℕ) → Memᴰ x (lists (at ids v)) → Memᴰ x queue
  listed v l x m = reached_closed lists root n (omega (arith, walk_few, length_sort queue)) (at ids v) x (id_there v l) m

  places_below : (v : ℕ) → v < length ids → (x : ℕ) → Memᴰ x (places_among ids lists v) → x < length ids
  places_below v l x m =
      let r = Memᴰ.of_map (place_from 0 ids) (lists (at ids v)) m in
      let p = placed r.0 (listed v l r.0 r.1) in
      omega (arith, p.0)

  places_agree : (v : ℕ) → v < length ids → lists (at ids v) ≡ map (at ids) (places_among ids lists v)
  places_agree v l =
      let list = lists (at ids v) in
      sym (map-map (at ids) (place_from 0 ids) list ∙ map_extensional (λ x. at ids (place_from 0 ids x)) (λ x. x) list (λ x m. (placed x (listed v l x m)).1) ∙ map-id list)

  -- where the root is the lowest of them
  module _ (lowest : (x : ℕ) → Memᴰ x queue → root ≤ x) where
    root_first : at ids 0 ≡ root
    root_first =
        let p = placed root root_there in
        let up = sort_ascending queue (walk_ids lists root lt below).distinct in
        let least = lowest (at ids 0) (id_there 0 some_ids) in
        elim (ℕ_discrete (place_from 0 ids root) 0) [
          | yes e ↦ ap (at ids) (sym e) ∙ p.1
          | no ne ↦ let r = pairwise_at (λ x y. x < y) ids 0 (place_from 0 ids root) 0 up (omega arith) p.0 in omega (arith, p.1)
        ]

    -- it is the walk over lists that name places among them
    walk_by_itself : (own : ℕ → List ℕ) → ((v : ℕ) → v < length ids → own v ≡ places_among ids lists v) → queue ≡ map (at ids) (walk_from (length ids) own 0).queue
    walk_by_itself own same =
        let distinct = sort_distinct queue (walk_ids lists root lt below).distinct in
        ap (λ (r : ℕ). (walk_from n lists r).queue) (sym root_first)
        ∙ island_as_mesh lists own n ids some_ids walk_few (λ v l x m. places_below v l x (rw (same v l) at m))
        (λ i j li lj e. distinct_at ids i j 0 distinct li lj e) (λ v l. places_agree v l ∙ ap (map (at ids)) (sym (same v l)))

-- ---- the mesh that has these vertices alone
module _ (m : Mesh) (facts : AdjacencyFacts m) (ids : List ℕ) (some : 0 < length ids) (few : length ids ≤ count m) (ids_inside : (v : ℕ) → v < length ids → at ids v < count m)
    (closed : (v : ℕ) → v < length ids → (x : ℕ) → Memᴰ x (places_among ids (neighbours m) v) → x < length ids) where
  abbrev own_list : ℕ → List ℕ
  own_list = places_among ids (neighbours m)

  alone_positions : length (mesh_alone m ids).positions ≡ length ids * 3
  alone_positions = concatenate_even_length (length ids) 3 (λ v. block 3 m.positions nan (at ids v)) (λ v lt. length_block 3 m.positions nan (at ids v))

  alone_count : count (mesh_alone m ids) ≡ length ids
  alone_count = omega (arith, alone_positions)

  alone_rows : adjacency_rows (mesh_alone m ids) ≡ Ok tt
  alone_rows = adjacency_passed (mesh_alone m ids) (record {
    three_each = omega (arith, alone_positions, alone_count);
    some = omega (arith, alone_count);
    few = omega (arith, alone_count, facts.few);
    rows = rw alone_count (compressed_rows (length ids) own_list);
    limited = λ v lt.
        let l : v < length ids = omega (arith, alone_count) in
        let size = length-map (neighbours m (at ids v)) (place_from 0 ids) in
        omega (arith, starts_at (length ids) own_list v (omega arith), starts_at (length ids) own_list (suc v) l, start_suc own_list v, neighbours_limited m facts (at ids v) (ids_inside v l));
    ids_below_lem = λ i lt.
        let entries = concatenate (length ids) own_list in
        let r = concatenate_member (length ids) own_list (get_or entries i 0) (get_d_member entries i 0 lt) in
        omega (arith, closed r.0 r.1 (get_or entries i 0) r.2, alone_count);
  })

  alone_lists : (v : ℕ) → v < length ids → neighbours (mesh_alone m ids) v ≡ own_list v
  unfolding neighbours
  alone_lists v lt = concatenate_part (length ids) own_list v lt

-- ---- the ordinary walk of that mesh
pub ordinary_walk : (m : Mesh) (facts : AdjacencyFacts m) (root : ℕ) → root < count m → ((x : ℕ) → Memᴰ x (walk_from (count m) (neighbours m) root).queue → root ≤ x) → (own_order own_queue : List ℕ)
    → let numbered = (walk_from (count m) (neighbours m) root).queue in OrdinaryWalk (mesh_alone m (sort numbered)) (sort numbered) own_order own_queue numbered
ordinary_walk m facts root lt lowest own_order own_queue =
    let n = count m in
    let lists = neighbours m in
    let below : (v : ℕ) → v < n → (x : ℕ) → Memᴰ x (lists v) → x < n = λ v l x k. neighbour_below m facts v x k in
    let numbered = (walk_from n lists root).queue in
    let ids = sort numbered in
    let own = mesh_alone m ids in
    let some = some_ids lists below root lt in
    let few = walk_few lists below root lt in
    let inside : (v : ℕ) → v < length ids → at ids v < n = λ v l. (walk_ids lists root lt below).below (at ids v) (id_there lists below root lt v l) in
    let closed = places_below lists below root lt in
    let counted = alone_count m facts ids some few inside closed in
    let rows = alone_rows m facts ids some few inside closed in
    let same = walk_by_itself lists below root lt lowest (neighbours own) (alone_lists m facts ids some few inside closed) in
    let visit : (visit_of own).queue ≡ (walk_from (length ids) (neighbours own) 0).queue = ap (λ (k : ℕ). (walk_from k (neighbours own) 0).queue) counted in
    let size : length (visit_of own).queue ≡ length ids =
    ap length visit ∙ sym (length-map (walk_from (length ids) (neighbours own) 0).queue (at ids)) ∙ ap length (sym same) ∙ sym (length_sort numbered) in
    let outcome : length ids ≤ length own_order → length ids ≤ length own_queue → bfs_vertex_permutation own own_order own_queue
    ≡ walk_outcome (Ok (length own.entries)) (overwrite (order_of (count own) (visit_of own).queue) own_order) (overwrite (visit_of own).queue own_queue) =
    λ order_room queue_room. all_reached own own_order own_queue rows (omega arith) (omega arith) (size ∙ sym counted) in
    record {
      rows = rows;
      same_count = counted;
      accepted = λ order_room queue_room. ap (λ (w : WalkOutcome). w.answered) (outcome order_room queue_room);
      same_order = λ order_room queue_room.
          ap (λ (w : WalkOutcome). map (at ids) (take (length ids) w.queue)) (outcome order_room queue_room)
          ∙ ap (map (at ids)) (take_overwrite (visit_of own).queue own_queue (length ids) size ∙ visit) ∙ sym same;
    }
