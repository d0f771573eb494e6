-- What a query answers at the part that it reads: in a cell, and at a vertex. Assumes nothing.
use Rattle.std.proofs.Common.{◌≡◌, ℕ, ◌<◌, Bool, true, false, List, length, refl, le-ltb, lt-ltb, ◌≤◌}
use Rattle.std.specs.Prelude.{if◌then◌else◌, None, Ok, Err, ok_or}
use lib.Ieee.{Float}
use Rattle.sequences.specs.Starts.{block_part}
use Rattle.refusal.specs.declared.Refusal.{Refusal}
use Rattle.refusal.specs.declared.Refusal.TheVariants.{EmptyCell, Id, NoTriangle}
use Rattle.refusal.specs.Refusal.{row, answer}
use Rattle.vector.specs.declared.Vector3.{Vector3}
use Rattle.mesh.specs.Mesh.{vertex_count}
use Rattle.mesh.specs.Rows.{ids_below}
use Rattle.grid.specs.Grid.{Grid}
use Rattle.grid_query.specs.Cell.{part_rows, candidates, in_triples, triples_at}
use Rattle.grid_query.specs.Nearest.{nearest_in, nearest_of_cell}
use Rattle.grid_query.specs.Locate.{kept_of, triangle_rows, located_at}
use Rattle.grid_query.proofs.Parts.{part_passed, part_refused, one_by_one}
use Rattle.grid_query.proofs.Scan.{scan_answer}

module _ (grid : Grid) (positions : List Float) (direction : Vector3) (cell : ℕ) where
  pub cell_part_refused : (reason : Refusal) → part_rows 1 grid.cell_starts (length grid.cell_ids) cell (Ok tt) ≡ Err reason → nearest_of_cell grid positions direction cell ≡ Err reason
  unfolding nearest_of_cell
  cell_part_refused reason h = rw (part_refused 1 grid.cell_starts (length grid.cell_ids) cell _ reason h) refl

  module _ (passes : part_rows 1 grid.cell_starts (length grid.cell_ids) cell (Ok tt) ≡ Ok tt) (ids : List ℕ) (read : ids ≡ block_part 1 grid.cell_starts grid.cell_ids cell) where
    are_candidates : candidates grid cell ≡ ids
    unfolding candidates
    are_candidates = rw (read, one_by_one grid.cell_starts grid.cell_ids cell) refl

    -- row 11, or what a scan answers
    pub cell_empty : length ids ≤ 0 → nearest_of_cell grid positions direction cell ≡ Err EmptyCell
    unfolding nearest_of_cell
    cell_empty none = rw (part_passed 1 grid.cell_starts (length grid.cell_ids) cell _ passes, are_candidates, le-ltb 0 (length ids) none) refl

    pub cell_scanned : 0 < length ids → nearest_of_cell grid positions direction cell ≡ scan_answer positions direction ids
    unfolding nearest_of_cell
    cell_scanned some =
        rw (part_passed 1 grid.cell_starts (length grid.cell_ids) cell _ passes, are_candidates, lt-ltb 0 (length ids) some)
        (decide (ids_below (vertex_count positions) ids))
      where
        decide : (b : Bool) → answer (row b Id (Ok tt)) Err (Ok (nearest_in positions direction ids)) ≡ if b then Ok (nearest_in positions direction ids) else Err Id
        decide true = refl
        decide false = refl

module _ (grid : Grid) (positions : List Float) (direction : Vector3) (v : ℕ) where
  pub vertex_part_refused : (reason : Refusal) → part_rows 3 grid.triangle_starts (length grid.triples) v (Ok tt) ≡ Err reason → located_at grid positions direction v ≡ Err reason
  unfolding located_at triangle_rows
  vertex_part_refused reason h = rw (part_refused 3 grid.triangle_starts (length grid.triples) v _ reason h) refl

  module _ (passes : part_rows 3 grid.triangle_starts (length grid.triples) v (Ok tt) ≡ Ok tt) (ids : List ℕ) (read : ids ≡ block_part 3 grid.triangle_starts grid.triples v) where
    -- row 4, or the triangle kept, if any
    pub vertex_foreign : ids_below (vertex_count positions) ids ≡ false → located_at grid positions direction v ≡ Err Id
    unfolding located_at triangle_rows
    vertex_foreign foreign = rw (part_passed 3 grid.triangle_starts (length grid.triples) v _ passes, ← read, foreign) refl

    pub vertex_kept : ids_below (vertex_count positions) ids ≡ true → located_at grid positions direction v ≡ ok_or (kept_of positions direction None (in_triples ids)) NoTriangle
    unfolding located_at triangle_rows triples_at
    vertex_kept below = rw (part_passed 3 grid.triangle_starts (length grid.triples) v _ passes, ← read, below) refl
