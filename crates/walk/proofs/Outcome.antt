-- The outcome of a call by what its checks and the walk found: one law for each return. Assumes nothing.
use Prim.Native.Nat.{ℕ, ◌≤◌, ◌<◌}
use native.Mathlib.Omega.{arith}
use mathlib.Core.Path.{◌≡◌, refl, sym, ap, ◌∙◌}
use mathlib.Core.Logic.{◌≢◌}
use mathlib.Core.Bool.{Bool, true, false}
use mathlib.Core.List.{List, ◌++◌}
use lib.Dec.{leb}
use lib.ListN.{length, drop}
use borrow.Author.Tests.{le-leb, lt-leb, eq-eqb, ne_eqb}
use Rattle.std.proofs.lemmas.Bool.{and_from, and_right}
use Rattle.sequences.specs.Tabulate.{overwrite}
use Rattle.sequences.specs.Starts.{part}
use Rattle.refusal.specs.declared.Refusal.{Refusal}
use Rattle.refusal.specs.declared.Refusal.TheVariants.{Room, Unreached}
use Rattle.refusal.specs.Refusal.{Verdict}
use Rattle.std.specs.Prelude.{Ok, Err}
use Rattle.mesh.specs.Mesh.{Mesh, count, neighbours}
use Rattle.mesh.specs.Rows.{adjacency_rows}
use Rattle.mesh.proofs.Facts.{adjacency_facts}
use Rattle.walk.specs.declared.Reach.{Reach}
use Rattle.walk.specs.Walk.{breadth_first, order_of, walk_outcome, walk_fits, walked, bfs_vertex_permutation}
use Rattle.walk.specs.Buffers.{Traversed, Walkable}
use Rattle.walk.proofs.Queue.{holding_order_length}

-- a mesh that rows 2 to 4 let pass can be walked
pub mesh_walkable : (m : Mesh) {order queue : List ℕ} → adjacency_rows m ≡ Ok tt → length order ≡ count m → count m ≤ length queue → Walkable m.starts m.entries order queue
mesh_walkable m passed size room =
    let facts = adjacency_facts m passed in
    record {
      rows = rw size facts.rows;
      ids_below = λ i lt. let r = facts.ids_below_lem i lt in omega arith;
      some = let r = facts.some in omega arith;
      few = let r = facts.few in omega arith;
      room = omega arith;
    }

module _ (m : Mesh) (order queue : List ℕ) where
  pub outcome_refused : (reason : Refusal) → adjacency_rows m ≡ Err reason → walk_outcome (Err reason) order queue ≡ bfs_vertex_permutation m order queue
  unfolding bfs_vertex_permutation
  outcome_refused reason e = rw e refl

  module _ (passed : adjacency_rows m ≡ Ok tt) where
    pub outcome_short : walk_fits (count m) order queue ≡ false → walk_outcome (Err Room) order queue ≡ bfs_vertex_permutation m order queue
    unfolding bfs_vertex_permutation
    outcome_short short = rw (passed, short) refl

    pub outcome_made : walk_fits (count m) order queue ≡ true → walked m order queue ≡ bfs_vertex_permutation m order queue
    unfolding bfs_vertex_permutation
    outcome_made fits = rw (passed, fits) refl

    pub outcome_order_short : length order < count m → walk_outcome (Err Room) order queue ≡ bfs_vertex_permutation m order queue
    unfolding walk_fits
    outcome_order_short short = outcome_short (rw (lt-leb (count m) (length order) short) refl)

    pub outcome_queue_short : length queue < count m → walk_outcome (Err Room) order queue ≡ bfs_vertex_permutation m order queue
    unfolding walk_fits
    outcome_queue_short short = outcome_short (and_right (leb (count m) (length order)) (leb (count m) (length queue)) (lt-leb (count m) (length queue) short))

    -- there is room, and the walk was made
    module _ (order_room : count m ≤ length order) (queue_room : count m ≤ length queue) where
      pub walk_made : walked m order queue ≡ bfs_vertex_permutation m order queue
      unfolding walk_fits
      walk_made = outcome_made (and_from (leb (count m) (length order)) (leb (count m) (length queue)) (le-leb (count m) (length order) order_room) (le-leb (count m) (length queue) queue_room))

      module _ {reach : Reach} {left filled : List ℕ} (done : Traversed (count m) (part m.starts m.entries) queue reach left filled) where
        order_left : left ++ drop (count m) order ≡ overwrite (order_of (count m) (breadth_first (count m) (neighbours m)).queue) order
        unfolding overwrite neighbours
        order_left = (rw (← holding_order_length done.holds)) ∙ ap (λ (l : List ℕ). overwrite l order) done.holds.numbered

        pub outcome_walked : reach.vertices ≡ count m → walk_outcome (Ok reach.entries) (left ++ drop (count m) order) filled ≡ bfs_vertex_permutation m order queue
        unfolding walked neighbours
        outcome_walked all =
            rw (← walk_made, eq-eqb (length (breadth_first (count m) (neighbours m)).queue) (count m) (done.holds.size ∙ all), order_left, done.holds.queued, done.entries_agree) refl

        pub outcome_unreached : reach.vertices ≢ count m → walk_outcome (Err Unreached) (left ++ drop (count m) order) filled ≡ bfs_vertex_permutation m order queue
        unfolding walked neighbours
        outcome_unreached some =
            rw (← walk_made, ne_eqb (length (breadth_first (count m) (neighbours m)).queue) (count m) (λ e. some (sym done.holds.size ∙ e)), order_left, done.holds.queued) refl

-- ---- what a call found
-- rows 2 to 4 refuse, or row 8 does, or the walk was made
pub data Found (m : Mesh) (order queue : List ℕ) : Type 0 where
  rows_refuse : (reason : Refusal) → adjacency_rows m ≡ Err reason → walk_outcome (Err reason) order queue ≡ bfs_vertex_permutation m order queue → Found m order queue
  short : adjacency_rows m ≡ Ok tt → walk_outcome (Err Room) order queue ≡ bfs_vertex_permutation m order queue → Found m order queue
  made_of : adjacency_rows m ≡ Ok tt → walked m order queue ≡ bfs_vertex_permutation m order queue → Found m order queue

pub found : (m : Mesh) (order queue : List ℕ) → Found m order queue
found m order queue = go (adjacency_rows m) refl (walk_fits (count m) order queue) refl
  where
    go : (v : Verdict) → adjacency_rows m ≡ v → (b : Bool) → walk_fits (count m) order queue ≡ b → Found m order queue
    go (Err reason) p b q = rows_refuse reason p (outcome_refused m order queue reason p)
    go (Ok _) p false q = short p (outcome_short m order queue p q)
    go (Ok _) p true q = made_of p (outcome_made m order queue p q)
