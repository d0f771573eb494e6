-- The laws of a call on mutual lists. Assumes nothing.
-- An island is the complete walk from its root: `island_is_walk`. It is the ordinary walk of its own mesh: `island_is_mesh`. Paths join exactly those who share one: `paths_join`.
use Prim.Native.Nat.{ℕ, ◌+◌, ◌<◌}
use native.Mathlib.Omega.{arith}
use mathlib.Core.Path.{◌≡◌, refl, sym, ap, subst, ◌∙◌}
use mathlib.Core.List.{List, [], ◌∷◌, ◌++◌, Memᴰ}
use Rattle.std.specs.Prelude.{Ok}
use Rattle.sequences.specs.Tabulate.{overwrite}
use Rattle.sequences.specs.Starts.{part}
use Rattle.sequences.specs.Ascending.{sort}
use Rattle.sequences.specs.Permutation.{at}
use Rattle.sequences.proofs.Tabulate.{take_overwrite, overwrite_at}
use Rattle.mesh.specs.Mesh.{Mesh, count, neighbours}
use Rattle.mesh.specs.Adjacency.{Mutual}
use Rattle.mesh.proofs.Facts.{AdjacencyFacts, adjacency_facts}
use Rattle.mesh.proofs.Neighbours.{neighbour_below}
use Rattle.walk.specs.Walk.{walk_from}
use Rattle.walk.specs.Paths.{PathTo}
use Rattle.walk.proofs.Paths.{paths_joined, path_back}
use Rattle.walk.proofs.Theorems.{walk_follows_paths}
use Rattle.islands.specs.declared.IslandCount.{IslandCount}
use Rattle.islands.specs.Islands.{Islands, islands_of}
use Rattle.islands.specs.Outcomes.{IslandsOutcome, islands_walked, walk_islands}
use Rattle.islands.specs.Laws.{island, island_root, IslandIsWalk, OrdinaryWalk, IslandIsMesh, mesh_alone, SharesIsland, PathsJoin}
use Rattle.islands.proofs.Outcome.{IslandsAccepted, islands_accepted}
use Rattle.islands.proofs.Numbered.{all_numbered}
use Rattle.islands.proofs.Mutual.{root_lowest}
use Rattle.islands.proofs.Parts.{IslandPart, island_part, part_of_vertex}
use Rattle.islands.proofs.AsMesh.{ordinary_walk}

module _ (m : Mesh) (order queue starts : List ℕ) (found : IslandCount) (both : Mutual m) (e : (walk_islands m order queue starts).answered ≡ Ok found) where
  abbrev n : ℕ
  n = count m

  abbrev lists : ℕ → List ℕ
  lists = neighbours m

  abbrev all : Islands
  all = islands_of (count m) (neighbours m)

  abbrev outcome : IslandsOutcome
  outcome = walk_islands m order queue starts

  accepted : IslandsAccepted m order queue starts found
  accepted = islands_accepted m order queue starts found e

  facts : AdjacencyFacts m
  facts = adjacency_facts m accepted.checked.rows

  below : (v : ℕ) → v < n → (x : ℕ) → Memᴰ x (lists v) → x < n
  below v lt x k = neighbour_below m facts v x k

  mutual_lists : (v w : ℕ) → v < n → w < n → Memᴰ w (lists v) → Memᴰ v (lists w)
  mutual_lists v w lv lw = (both v w lv lw).0

  -- what the slices hold is what was found
  island_of_found : (i : ℕ) → island n found.islands outcome i ≡ part (all.starts ++ (n ∷ [])) all.visit.queue i
  unfolding islands_walked
  island_of_found i =
      rw (accepted.all_walked, take_overwrite all.starts starts found.islands (sym accepted.islands_agree), take_overwrite all.visit.queue queue n (all_numbered lists below)) refl

  the_part : (i : ℕ) → i < found.islands → IslandPart n lists all i
  the_part i lt = island_part lists below mutual_lists i (omega (arith, accepted.islands_agree))

  root_of_found : (i : ℕ) (lt : i < found.islands) → island_root outcome i ≡ (the_part i lt).root
  unfolding islands_walked
  root_of_found i lt =
      let p = the_part i lt in
      ap (λ (o : IslandsOutcome). island_root o i) accepted.all_walked
      ∙ ap (at (overwrite all.visit.queue queue)) (overwrite_at all.starts starts i 0 (omega (arith, accepted.islands_agree)))
      ∙ overwrite_at all.visit.queue queue (at all.starts i) 0 p.inside ∙ p.first

  island_walk : (i : ℕ) (lt : i < found.islands) → island n found.islands outcome i ≡ (walk_from n lists (the_part i lt).root).queue
  island_walk i lt = island_of_found i ∙ (the_part i lt).part_is_walk

  its_walk : (i : ℕ) → i < found.islands → island n found.islands outcome i ≡ (walk_from n lists (island_root outcome i)).queue
  its_walk i lt = island_walk i lt ∙ ap (λ (r : ℕ). (walk_from n lists r).queue) (sym (root_of_found i lt))

  its_mesh : (own_order own_queue : List ℕ) (i : ℕ) → i < found.islands
      → let numbered = island n found.islands outcome i in OrdinaryWalk (mesh_alone m (sort numbered)) (sort numbered) own_order own_queue numbered
  its_mesh own_order own_queue i lt =
      let p = the_part i lt in
      subst (λ (numbered : List ℕ). OrdinaryWalk (mesh_alone m (sort numbered)) (sort numbered) own_order own_queue numbered) (sym (island_walk i lt))
      (ordinary_walk m facts p.root p.is_root.there (root_lowest lists below mutual_lists p.root p.is_root.there p.is_root.outside) own_order own_queue)

  -- from one to the root, and from there to the other
  joined_by_root : (v w : ℕ) → SharesIsland n found.islands outcome v w → (k : ℕ) × PathTo lists v w k
  joined_by_root v w s =
      let p = the_part s.0 s.1 in
      let reached = (walk_follows_paths m p.root accepted.checked.rows p.is_root.there).reached in
      let forth = (reached v).0 (subst (Memᴰ v) (island_walk s.0 s.1) s.2) in
      let on = (reached w).0 (subst (Memᴰ w) (island_walk s.0 s.1) s.3) in
      (on.0 + forth.0, paths_joined lists (path_back lists below mutual_lists p.is_root.there forth.1) on.1)

  -- each has an island, and the path keeps within it
  path_within_island : (v w : ℕ) → v < n → (k : ℕ) × PathTo lists v w k → SharesIsland n found.islands outcome v w
  path_within_island v w lt path =
      let r = part_of_vertex lists below mutual_lists v lt in
      let li : r.0 < found.islands = omega (arith, r.1, accepted.islands_agree) in
      let p = the_part r.0 li in
      let reached = (walk_follows_paths m p.root accepted.checked.rows p.is_root.there).reached in
      let here : Memᴰ v (island n found.islands outcome r.0) = subst (Memᴰ v) (sym (island_of_found r.0)) r.2 in
      let forth = (reached v).0 (subst (Memᴰ v) (island_walk r.0 li) here) in
      (r.0, li, here, subst (Memᴰ w) (sym (island_walk r.0 li)) ((reached w).1 (path.0 + forth.0, paths_joined lists {j = forth.0} forth.1 path.1)))

pub island_is_walk : IslandIsWalk
island_is_walk m order queue starts found both e i lt = its_walk m order queue starts found both e i lt

pub island_is_mesh : IslandIsMesh
island_is_mesh m order queue starts found own_order own_queue both e i lt = its_mesh m order queue starts found both e own_order own_queue i lt

pub paths_join : PathsJoin
paths_join m order queue starts found v w both e lv lw = (joined_by_root m order queue starts found both e v w, path_within_island m order queue starts found both e v w lv)
