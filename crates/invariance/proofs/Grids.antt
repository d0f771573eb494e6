-- The grids of a mesh and of the mesh renumbered, and the two nearest queries. Assumes nothing.
use Prim.Native.Nat.{ℕ, ◌<◌}
use native.Mathlib.Omega.{arith}
use mathlib.Core.Path.{◌≡◌, refl, sym, ◌∙◌}
use mathlib.Core.List.{List}
use lib.ListN.{length}
use Rattle.std.specs.Prelude.{Ok, Err}
use Rattle.refusal.specs.Refusal.{Verdict}
use Rattle.vector.specs.declared.Vector3.{Vector3}
use Rattle.vector.specs.Vector.{normalized}
use Rattle.mesh.specs.Mesh.{Mesh}
use Rattle.mesh.specs.Adjacency.{Mutual}
use Rattle.mesh.proofs.Facts.{MeshFacts}
use Rattle.mesh.proofs.Renumbered.{Renumbered}
use Rattle.grid.specs.declared.settings.Settings.{Settings}
use Rattle.grid.specs.Grid.{grid_of}
use Rattle.grid.proofs.Cells.{same_side}
use Rattle.grid_query.specs.Cell.{cell_of_query, candidates, cell_rows}
use Rattle.grid_query.specs.Nearest.{squared_distance, nearest_of, nearest_in, grid_nearest}
use Rattle.grid_query.proofs.Distance.{squared_distance_not_nan}
use Rattle.grid_query.proofs.NearestCandidate.{nearest_member, nearest_lowest, nearest_answer_lem, nearest_refused, nearest_passed, nearest_same_distance, nearest_alone}
use Rattle.grid_query.proofs.Cell.{candidates_ascending, candidate_below, passed_direction, passed_some, candidates_renumbered, same_cell, same_candidates, same_cell_rows, triples_renumbered}
use Rattle.invariance.specs.Claim.{SameNearest, SameGrids}

module _ (m m₁ : Mesh) (settings : Settings) {p b : ℕ → ℕ} (facts : MeshFacts m) (facts₁ : MeshFacts m₁) (r : Renumbered m m₁ p b) where
  -- what the two queries find, once the rows have passed
  found : (direction : Vector3) (cell : ℕ) → cell_of_query (grid_of m settings) direction ≡ cell → cell_rows (grid_of m settings) m.positions direction ≡ Ok tt
      → SameNearest p
      (squared_distance m.positions (normalized direction)) (candidates (grid_of m settings) cell)
      (squared_distance m₁.positions (normalized direction)) (candidates (grid_of m₁ settings) cell)
      (Ok (nearest_in m.positions (normalized direction) (candidates (grid_of m settings) cell))) (Ok (nearest_in m₁.positions (normalized direction) (candidates (grid_of m₁ settings) cell)))
  found direction cell is-cell rows =
      let d : Vector3 = normalized direction in
      let ids : List ℕ = candidates (grid_of m settings) cell in
      let ids₁ : List ℕ = candidates (grid_of m₁ settings) cell in
      let some : 0 < length ids = rw is-cell at (passed_some m settings direction rows) in
      let same = same_candidates m m₁ settings r d cell in
      let some₁ : 0 < length ids₁ = omega (arith, same.same_number) in
      let member = nearest_member m.positions d ids some in
      let below = candidate_below m settings cell (nearest_of m.positions d ids) member in
      rw (nearest_answer_lem m.positions d ids, nearest_answer_lem m₁.positions d ids₁) (record {
        same_distance = nearest_same_distance m.positions m₁.positions d p ids ids₁ some same;
        no_nan = squared_distance_not_nan m.positions direction (nearest_of m.positions d ids) (passed_direction m settings direction rows) (facts.admissible_positions (nearest_of m.positions d ids) below);
        same_candidates = sym same.same_number;
        counted = refl;
        counted_after = refl;
        lowest = record { among = member; at_distance = refl; lowest = nearest_lowest m.positions d ids (candidates_ascending m settings cell) };
        lowest_after = record { among = nearest_member m₁.positions d ids₁ some₁; at_distance = refl; lowest = nearest_lowest m₁.positions d ids₁ (candidates_ascending m₁ settings cell) };
        followed = nearest_alone m.positions m₁.positions d p ids ids₁ some same;
      })

  same_nearest : (direction : Vector3)
      → SameNearest p
      (squared_distance m.positions (normalized direction)) (candidates (grid_of m settings) (cell_of_query (grid_of m settings) direction))
      (squared_distance m₁.positions (normalized direction)) (candidates (grid_of m₁ settings) (cell_of_query (grid_of m₁ settings) direction))
      (grid_nearest (grid_of m settings) m.positions direction) (grid_nearest (grid_of m₁ settings) m₁.positions direction)
  same_nearest direction = go (cell_rows (grid_of m settings) m.positions direction) refl
    where
      same : cell_rows (grid_of m₁ settings) m₁.positions direction ≡ cell_rows (grid_of m settings) m.positions direction
      same = same_cell_rows m m₁ settings r facts.adjacency facts₁.adjacency direction

      go : (v : Verdict) → cell_rows (grid_of m settings) m.positions direction ≡ v
          → SameNearest p
          (squared_distance m.positions (normalized direction)) (candidates (grid_of m settings) (cell_of_query (grid_of m settings) direction))
          (squared_distance m₁.positions (normalized direction)) (candidates (grid_of m₁ settings) (cell_of_query (grid_of m₁ settings) direction))
          (grid_nearest (grid_of m settings) m.positions direction) (grid_nearest (grid_of m₁ settings) m₁.positions direction)
      go (Err reason) e = rw (nearest_refused (grid_of m settings) m.positions direction reason e, nearest_refused (grid_of m₁ settings) m₁.positions direction reason (same ∙ e)) refl
      go (Ok tt) e =
          rw (nearest_passed (grid_of m settings) m.positions direction e, nearest_passed (grid_of m₁ settings) m₁.positions direction (same ∙ e), same_cell m m₁ settings r direction)
          (found direction (cell_of_query (grid_of m settings) direction) refl e)

  pub same_grids : Mutual m → SameGrids m m₁ p (grid_of m settings) (grid_of m₁ settings)
  same_grids mutual-lists = record {
    side = same_side m m₁ settings r;
    cells = λ c lt. candidates_renumbered m m₁ settings r c;
    triples = triples_renumbered m m₁ settings facts.adjacency facts₁.adjacency mutual-lists r;
    nearest = same_nearest;
  }
