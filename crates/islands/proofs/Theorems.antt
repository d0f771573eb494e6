-- What a call does: accepted exactly where every row passes, never refused by 13, all vertices numbered, where the islands start, the ordinary walk beside it, and what an index tells. Assumes nothing.
use Prim.Native.Nat.{ℕ, ◌≤◌, ◌<◌}
use native.Mathlib.Omega.{arith}
use mathlib.Core.Path.{◌≡◌, refl, sym, ap, subst, ◌∙◌}
use mathlib.Core.Logic.{inl, inr, ◌≢◌}
use mathlib.Core.List.{List, Memᴰ}
use lib.ListN.{length}
use borrow.Author.Tests.{ne_eqb}
use Rattle.std.specs.Prelude.{Ok, Err}
use Rattle.sequences.specs.Permutation.{at}
use Rattle.sequences.proofs.Tabulate.{get_d_member, take_overwrite, drop_overwrite, overwrite_at}
use Rattle.sequences.proofs.Starts.{length_concatenate}
use Rattle.refusal.specs.declared.Refusal.{Refusal}
use Rattle.refusal.specs.declared.Refusal.TheVariants.{Unreached}
use Rattle.refusal.specs.Refusal.{number_of}
use Rattle.mesh.specs.Mesh.{Mesh, count, neighbours}
use Rattle.mesh.specs.Rows.{adjacency_rows}
use Rattle.mesh.specs.Laws.{IndexTold}
use Rattle.mesh.proofs.Facts.{adjacency_facts}
use Rattle.mesh.proofs.Neighbours.{neighbour_below, entries_of_neighbours}
use Rattle.walk.specs.Walk.{order_of, WalkOutcome, walked, bfs_vertex_permutation}
use Rattle.walk.specs.Laws.{visit_of}
use Rattle.walk.proofs.Queue.{ids_at_most}
use Rattle.walk.proofs.Outcome.{walk_made}
use Rattle.walk.proofs.Order.{length_order, number_of_place}
use Rattle.walk.proofs.Reached.{path_reached}
use Rattle.walk.proofs.Theorems.{queue_ids, all_read, all_reached, all_numbered_accepted, unreached_numbered}
use Rattle.islands.specs.Islands.{Islands, islands_of}
use Rattle.islands.specs.Outcomes.{IslandsOutcome, islands_outcome, islands_walked, walk_islands}
use Rattle.islands.specs.Laws.{CheckedIsAccepted, NeverUnreached, RefusedLeavesSlices, EveryVertexNumbered, StartsAscend, RootsAreLowest, OneIslandIsTheWalk, SeveralAreUnreached, IslandsIndex}
use Rattle.islands.proofs.Numbered.{ids_counted, numbered_ids, all_numbered, each_list_read}
use Rattle.islands.proofs.Starts.{island_starts, starts_from_zero}
use Rattle.islands.proofs.OneOrSeveral.{one_or_several}
use Rattle.islands.proofs.Outcome.{islands_passed, IslandsFound, islands_refuse, islands_met, islands_found, islands_accepted}

-- ---- what is accepted, and what a refusal is
pub checked_is_accepted : CheckedIsAccepted
unfolding islands_walked
checked_is_accepted m order queue starts = (λ a. (islands_accepted m order queue starts a.0 a.1).checked, λ c. (_, ap (λ (w : IslandsOutcome). w.answered) (islands_passed m c)))

-- an outcome that tells a reason
module _ (m : Mesh) (order queue starts : List ℕ) (reason : Refusal) (told : (walk_islands m order queue starts).answered ≡ Err reason) where
  islands_told : IndexTold m.starts reason × (number_of reason ≢ 13) × (walk_islands m order queue starts ≡ islands_outcome (Err reason) order queue starts)
  unfolding islands_walked
  islands_told = go (islands_found m order queue starts)
    where
      go : IslandsFound m order queue starts → IndexTold m.starts reason × (number_of reason ≢ 13) × (walk_islands m order queue starts ≡ islands_outcome (Err reason) order queue starts)
      go (islands_refuse own index not_13 o) =
          let same : own ≡ reason = let a = ap (λ (w : IslandsOutcome). w.answered) o in cc in
          rw (← same) (index, not_13, o)
      go (islands_met checked o) = absurd (let a = ap (λ (w : IslandsOutcome). w.answered) o in let y : ⊥ = cc in y)

pub never_unreached : NeverUnreached
never_unreached m order queue starts e = (islands_told m order queue starts Unreached e).1 refl

pub refused_leaves_slices : RefusedLeavesSlices
refused_leaves_slices m order queue starts reason e = (islands_told m order queue starts reason e).2

pub islands_index : IslandsIndex
islands_index m order queue starts reason e = (islands_told m order queue starts reason e).0

-- ---- an accepted call
module _ (m : Mesh) (passed : adjacency_rows m ≡ Ok tt) where
  abbrev n : ℕ
  n = count m

  abbrev all : Islands
  all = islands_of (count m) (neighbours m)

  listed : (v : ℕ) → v < count m → (x : ℕ) → Memᴰ x (neighbours m v) → x < count m
  listed v lt x k = neighbour_below m (adjacency_facts m passed) v x k

  some : 0 < count m
  some = let r = (adjacency_facts m passed).some in omega arith

  -- all entries are read
  read_all : all.visit.entries_read ≡ length m.entries
  read_all = each_list_read (neighbours m) listed ∙ sym (length_concatenate n (neighbours m)) ∙ ap length (entries_of_neighbours m (adjacency_facts m passed))

pub every_vertex_numbered : EveryVertexNumbered
unfolding islands_walked
every_vertex_numbered m order queue starts found e =
    let a = islands_accepted m order queue starts found e in
    let passed = a.checked.rows in
    let q = (islands_of (count m) (neighbours m)).visit.queue in
    let size = all_numbered (neighbours m) (listed m passed) in
    let order_size = length_order (count m) q in
    rw (a.all_walked) (record {
      numbered = rw (take_overwrite (order_of (count m) q) order (count m) order_size, take_overwrite q queue (count m) size)
          (all_numbered_accepted (numbered_ids (neighbours m) (listed m passed)) size (a.read_agree ∙ read_all m passed));
      order_surplus = drop_overwrite (order_of (count m) q) order (count m) order_size;
      queue_surplus = drop_overwrite q queue (count m) size;
    })

-- ---- where islands start
pub starts_ascend_below : StartsAscend
unfolding islands_walked
starts_ascend_below m order queue starts found e =
    let a = islands_accepted m order queue starts found e in
    let passed = a.checked.rows in
    let lists = neighbours m in
    let s = (islands_of (count m) lists).starts in
    let all = island_starts lists (listed m passed) in
    let first = starts_from_zero lists (listed m passed) (some m passed) in
    let size = all_numbered lists (listed m passed) in
    let taken = take_overwrite s starts found.islands (sym a.islands_agree) in
    rw (a.all_walked) (record {
      some = omega (arith, a.islands_agree, first.0);
      few = omega (arith, a.islands_agree, all.few);
      from_zero = overwrite_at s starts 0 0 first.0 ∙ first.1;
      ascend = rw taken all.ascend;
      inside = rw taken (rw size at all.inside);
      behind = drop_overwrite s starts found.islands (sym a.islands_agree);
    })

pub roots_are_lowest : RootsAreLowest
unfolding islands_walked
roots_are_lowest m order queue starts found e i lt =
    let a = islands_accepted m order queue starts found e in
    let passed = a.checked.rows in
    let lists = neighbours m in
    let found_all = islands_of (count m) lists in
    let q = found_all.visit.queue in
    let s = found_all.starts in
    let all = island_starts lists (listed m passed) in
    let ids = numbered_ids lists (listed m passed) in
    let there : i < length s = omega (arith, a.islands_agree) in
    let start = overwrite_at s starts i 0 there in
    let root = overwrite_at q queue (at s i) 0 (all.inside (at s i) (get_d_member s i 0 there)) in
    rw (a.all_walked, start, root) (λ v below.
    let r = all.lowest i there v below in
    let inside = all.inside (at s i) (get_d_member s i 0 there) in
    let j : r.0 < length q = omega (arith, r.1) in
    let number : at (order_of (count m) q) v ≡ r.0 = ap (at (order_of (count m) q)) (sym r.2) ∙ number_of_place ids r.0 j in
    let v_below : v < count m = subst (λ (x : ℕ). x < count m) r.2 (ids.below (at q r.0) (get_d_member q r.0 0 j)) in
    omega (arith, overwrite_at (order_of (count m) q) order v 0 (omega (arith, length_order (count m) q)), r.1))

-- ---- the ordinary walk beside it
-- a walk that leaves a vertex out is refused by row 13
walk_unreached : (m : Mesh) (order queue : List ℕ) → adjacency_rows m ≡ Ok tt → count m ≤ length order → count m ≤ length queue → length (visit_of m).queue ≢ count m
    → (bfs_vertex_permutation m order queue).answered ≡ Err Unreached
unfolding walked
walk_unreached m order queue passed order_room queue_room left = rw (← walk_made m order queue passed order_room queue_room, ne_eqb (length (visit_of m).queue) (count m) left) refl

pub one_island_is_the_walk : OneIslandIsTheWalk
unfolding islands_walked
one_island_is_the_walk m order queue starts checked paths =
    let passed = checked.rows in
    let lists = neighbours m in
    let ids = queue_ids m passed in
    let reached : length (visit_of m).queue ≡ count m = ids_counted ids (λ v lt. path_reached lists 0 (count m) (ids_at_most ids) (paths v lt).1) in
    let walk = all_reached m order queue passed checked.order_room checked.queue_room reached in
    elim (one_or_several lists (listed m passed) (some m passed)) [
      | inl one ↦ (ap (λ (w : WalkOutcome). w.answered) walk, rw (walk, islands_passed m checked, one, all_read m passed reached) refl)
      | inr r ↦ absurd (omega (arith, reached, r.1))
    ]

pub several_are_unreached : SeveralAreUnreached
several_are_unreached m order queue starts found e =
    let a = islands_accepted m order queue starts found e in
    let passed = a.checked.rows in
    let lists = neighbours m in
    elim (one_or_several lists (listed m passed) (some m passed)) [
      | inl one ↦
          let islands : found.islands ≡ 1 = a.islands_agree ∙ ap (λ (i : Islands). length i.starts) one in
          let reached : length (visit_of m).queue ≡ count m = ap (λ (i : Islands). length i.visit.queue) (sym one) ∙ all_numbered lists (listed m passed) in
          (λ l. absurd (omega arith), λ u. absurd (omega (arith, reached, (unreached_numbered m order queue u).some_unreached)))
      | inr r ↦ (λ l. walk_unreached m order queue passed a.checked.order_room a.checked.queue_room (λ all. omega (arith, r.1)), λ u. omega (arith, a.islands_agree, r.0))
    ]
