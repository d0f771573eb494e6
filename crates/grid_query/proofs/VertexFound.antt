-- What a nearest query's answer tells: `vertex_found`. The vertex is one of the candidates of the direction's cell and below the vertex count, and the count is theirs. Assumes nothing.
use Rattle.std.proofs.Common.{◌≡◌, ℕ, suc, ◌<◌, true, ltb, List, length, refl, sym, ap, subst, ◌∙◌, ltb-true}
use mathlib.Core.List.{Memᴰ}
use lib.Ieee.{Float}
use Rattle.refusal.specs.declared.Refusal.{Refusal}
use Rattle.std.specs.Prelude.{Result, Ok, Err}
use Rattle.refusal.specs.declared.Refusal.TheVariants.{Starts, StartsFall, EmptyCell, Id}
use Rattle.refusal.specs.Refusal.{Verdict, answer}
use Rattle.refusal.proofs.Rows.{row_passed, then_passed, answer_accepted, answer_refused}
use Rattle.vector.specs.declared.Vector3.{Vector3}
use Rattle.vector.specs.Vector.{normalized}
use Rattle.mesh.specs.Mesh.{vertex_count}
use Rattle.mesh.specs.Rows.{not_falling, ids_below}
use Rattle.grid.specs.Grid.{Grid}
use Rattle.grid_query.specs.declared.Nearest.{Nearest}
use Rattle.grid_query.specs.Cell.{part_within, cell_of_query, candidates, grid_rows, candidate_rows, cell_rows}
use Rattle.grid_query.specs.Nearest.{squared_distance, nearest_in, nearest_of_cell, grid_nearest}
use Rattle.grid_query.specs.Told.{FoundFacts, VertexIsFound}
use Rattle.mesh.proofs.IdsBelow.{ids_below_member}
use Rattle.grid_query.proofs.GridRows.{cell_rows_then}
use Rattle.grid_query.proofs.NearestCandidate.{nearest_member}

module _ (grid : Grid) (positions : List Float) (direction : Vector3) (cell : ℕ) where
  candidate_facts : candidate_rows grid positions cell ≡ Ok tt → (0 < length (candidates grid cell)) × (ids_below (vertex_count positions) (candidates grid cell) ≡ true)
  candidate_facts h =
      let ascends = row_passed (not_falling grid.cell_starts cell) (StartsFall (suc cell)) _ h in
      let within = row_passed (part_within 1 grid.cell_starts (length grid.cell_ids) cell) Starts _ ascends.1 in
      let some = row_passed (ltb 0 (length (candidates grid cell))) EmptyCell _ within.1 in
      let ids = row_passed (ids_below (vertex_count positions) (candidates grid cell)) Id (Ok tt) some.1 in
      (ltb-true 0 _ some.0, ids.0)

  pub cell_found : (found : Nearest) → nearest_of_cell grid positions direction cell ≡ Ok found → FoundFacts grid positions direction cell found
  unfolding nearest_of_cell nearest_in
  cell_found found h =
      let both = answer_accepted (candidate_rows grid positions cell) Err _ _ (λ reason q. cc) h in
      let facts = candidate_facts both.0 in
      let same : nearest_in positions direction (candidates grid cell) ≡ found = (let q = both.1 in cc) in
      let member : Memᴰ found.id (candidates grid cell) = subst (λ (n : Nearest). Memᴰ n.id (candidates grid cell)) same (nearest_member positions direction (candidates grid cell) facts.0) in
      record {
        passed = both.0;
        is_nearest = sym (ap (λ (n : Nearest). n.id) same);
        at_distance = subst (λ (n : Nearest). n.distance ≡ squared_distance positions direction n.id) same refl;
        counted = sym (ap (λ (n : Nearest). n.candidates) same);
        candidate = member;
        below = ids_below_member (vertex_count positions) (candidates grid cell) found.id facts.1 member;
      }

  -- and where none was found
  pub cell_refused : (reason : Refusal) → nearest_of_cell grid positions direction cell ≡ Err reason → candidate_rows grid positions cell ≡ Err reason
  unfolding nearest_of_cell
  cell_refused reason h =
      answer_refused (λ (a : Result Nearest Refusal). a ≡ Err reason) (candidate_rows grid positions cell) Err _ reason (λ q. cc) (λ other q. cc) h

-- every vertex that a nearest query answers
pub vertex_found : VertexIsFound
unfolding grid_nearest nearest_of_cell
vertex_found grid positions direction found h =
    let cell = cell_of_query grid direction in
    let ids = candidates grid cell in
    let both = answer_accepted (cell_rows grid positions direction) Err _ _ (λ reason q. cc) h in
    let rows = then_passed (grid_rows grid positions direction (Ok tt)) (candidate_rows grid positions cell) (sym (cell_rows_then grid positions direction) ∙ both.0) in
    cell_found grid positions (normalized direction) cell found (ap (λ (v : Verdict). answer v Err (Ok (nearest_in positions (normalized direction) ids))) rows.1 ∙ both.1)
