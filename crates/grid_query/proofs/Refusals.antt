-- Why a query is refused. `nearest_index`, `locate_index`: 18 tells the start that was met below the one before it, every other number nothing. `query_never_17`: no query returns 17. Assumes nothing.
use Rattle.std.proofs.Common.{◌≡◌, ℕ, suc, false, ltb, ◌≢◌, List, length, get_or, refl, subst, inl, inr, arith, leb-false}
use lib.Ieee.{Float}
use Rattle.sequences.specs.Starts.{block_part}
use Rattle.refusal.specs.declared.Refusal.{Refusal}
use Rattle.std.specs.Prelude.{Option, Some, None, Result, Ok, Err, IfErr, ok_or}
use Rattle.refusal.specs.declared.Refusal.TheVariants.{Count, Starts, Id, Direction, EmptyCell, NoTriangle, StartsFall, Factor, Margin}
use Rattle.refusal.specs.Refusal.{number_of, index_of}
use Rattle.refusal.proofs.Rows.{EachReason, reasons_passed, reasons_row, reasons_answer}
use Rattle.vector.specs.declared.Vector3.{Vector3}
use Rattle.vector.specs.Vector.{normalized}
use Rattle.vector.specs.Direction.{admissible}
use Rattle.mesh.specs.Mesh.{vertex_count}
use Rattle.mesh.specs.Rows.{positions_fit, not_falling, ids_below}
use Rattle.grid.specs.Settings.{factor_fits, margin_fits}
use Rattle.grid.specs.Grid.{Grid}
use Rattle.grid.specs.Stored.{side_fits, both_starts_counted}
use Rattle.grid_query.specs.declared.Nearest.{Nearest}
use Rattle.grid_query.specs.declared.LocatedTriangle.{LocatedTriangle}
use Rattle.grid_query.specs.Cell.{cell_of_query, part_within, candidates, triples_at, cell_rows}
use Rattle.grid_query.specs.Nearest.{nearest_in, grid_nearest}
use Rattle.grid_query.specs.Locate.{kept_of, triangle_rows, located_at, grid_locate}
use Rattle.grid_query.specs.Told.{PartFalls, nearest_of_query, CellIndex, LocationIndex, NearestIndexIsTold, LocationIndexIsTold, NeverSeventeen}

-- ---- each reason is one of the rows': neither 17 nor, but where a part falls, 18
module _ (P : Refusal → Type 0) (plain : (reason : Refusal) → number_of reason ≢ 17 → number_of reason ≢ 18 → index_of reason ≡ 0 → P reason) (grid : Grid) (positions : List Float) where
  at_2 : P Count
  at_2 = plain Count (λ z. omega arith) (λ z. omega arith) refl

  at_3 : P Starts
  at_3 = plain Starts (λ z. omega arith) (λ z. omega arith) refl

  at_4 : P Id
  at_4 = plain Id (λ z. omega arith) (λ z. omega arith) refl

  at_9 : P Direction
  at_9 = plain Direction (λ z. omega arith) (λ z. omega arith) refl

  at_11 : P EmptyCell
  at_11 = plain EmptyCell (λ z. omega arith) (λ z. omega arith) refl

  at_12 : P NoTriangle
  at_12 = plain NoTriangle (λ z. omega arith) (λ z. omega arith) refl

  at_19 : P Factor
  at_19 = plain Factor (λ z. omega arith) (λ z. omega arith) refl

  at_20 : P Margin
  at_20 = plain Margin (λ z. omega arith) (λ z. omega arith) refl

  falls : (starts : List ℕ) (i : ℕ) → (PartFalls starts i → P (StartsFall (suc i))) → not_falling starts i ≡ false → P (StartsFall (suc i))
  falls starts i at-18 e = at-18 (leb-false (get_or starts i 0) (get_or starts (suc i) 0) e)

  module _ (direction : Vector3) (at-cell : PartFalls grid.cell_starts (cell_of_query grid direction) → P (StartsFall (suc (cell_of_query grid direction)))) where
    abbrev cell : ℕ
    cell = cell_of_query grid direction

    -- rows 2, 19, 20, 2, 3, 9 and, in the cell, 18, 3, 11, 4
    cell_reasons : EachReason P (cell_rows grid positions direction)
    unfolding cell_rows
    cell_reasons =
        reasons_row P (positions_fit positions) Count _ (λ e. at_2) (λ fit.
        reasons_row P (factor_fits grid.settings.factor) Factor _ (λ e. at_19) (λ factor.
        reasons_row P (margin_fits grid.settings.margin) Margin _ (λ e. at_20) (λ margin.
        reasons_row P (side_fits grid positions) Count _ (λ e. at_2) (λ side.
        reasons_row P (both_starts_counted grid positions) Starts _ (λ e. at_3) (λ counted.
        reasons_row P (admissible direction) Direction _ (λ e. at_9) (λ admitted.
        reasons_row P (not_falling grid.cell_starts cell) (StartsFall (suc cell)) _ (falls grid.cell_starts cell at-cell) (λ ascends.
        reasons_row P (part_within 1 grid.cell_starts (length grid.cell_ids) cell) Starts _ (λ e. at_3) (λ within.
        reasons_row P (ltb 0 (length (candidates grid cell))) EmptyCell _ (λ e. at_11) (λ some.
        reasons_row P (ids_below (vertex_count positions) (candidates grid cell)) Id (Ok tt) (λ e. at_4) (λ below. reasons_passed P))))))))))

    nearest_reason : IfErr (grid_nearest grid positions direction) P
    unfolding grid_nearest nearest_in
    nearest_reason = reasons_answer P (λ (a : Result Nearest Refusal). IfErr a P) (cell_rows grid positions direction) Err _ cell_reasons (λ own p. p) tt

  -- rows 18, 3, 4 at the vertex v
  triangle_reasons : (v : ℕ) → (PartFalls grid.triangle_starts v → P (StartsFall (suc v))) → EachReason P (triangle_rows grid positions v)
  unfolding triangle_rows
  triangle_reasons v at_vertex =
      reasons_row P (not_falling grid.triangle_starts v) (StartsFall (suc v)) _ (falls grid.triangle_starts v at_vertex) (λ ascends.
      reasons_row P (part_within 3 grid.triangle_starts (length grid.triples) v) Starts _ (λ e. at_3) (λ within.
      reasons_row P (ids_below (vertex_count positions) (block_part 3 grid.triangle_starts grid.triples v)) Id (Ok tt) (λ e. at_4) (λ below. reasons_passed P)))

  -- row 12
  kept_reason : (kept : Option LocatedTriangle) → IfErr (ok_or kept NoTriangle) P
  kept_reason None = at_12
  kept_reason (Some located) = tt

  module _ (direction : Vector3) where
    abbrev vertex : ℕ
    vertex = nearest_of_query grid positions direction

    locate_reason : (PartFalls grid.cell_starts (cell_of_query grid direction) → P (StartsFall (suc (cell_of_query grid direction)))) → (PartFalls grid.triangle_starts vertex → P (StartsFall (suc vertex)))
        → IfErr (grid_locate grid positions direction) P
    unfolding grid_locate located_at
    locate_reason at-cell at_vertex =
        reasons_answer P (λ (a : Result LocatedTriangle Refusal). IfErr a P) (cell_rows grid positions direction) Err _ (cell_reasons direction at-cell) (λ own p. p)
        (reasons_answer P (λ (a : Result LocatedTriangle Refusal). IfErr a P) (triangle_rows grid positions vertex) Err _ (triangle_reasons vertex at_vertex) (λ own p. p)
        (kept_reason (kept_of positions (normalized direction) None (triples_at grid vertex))))

-- ---- the index: with 18 it is that of the start behind the part that was met falling, and with every other number it is 0
pub nearest_index : NearestIndexIsTold
nearest_index grid positions direction reason h =
    let P = CellIndex grid (cell_of_query grid direction) in
    subst (λ (a : Result Nearest Refusal). IfErr a P) h (nearest_reason P (λ own not-17 not-18 no-index. inr (not-18, no-index)) grid positions direction (λ falls. inl (refl, refl, falls)))

pub locate_index : LocationIndexIsTold
locate_index grid positions direction reason h =
    let P = LocationIndex grid (cell_of_query grid direction) (nearest_of_query grid positions direction) in
    subst (λ (a : Result LocatedTriangle Refusal). IfErr a P) h
    (locate_reason P (λ own not-17 not-18 no-index. inl (inr (not-18, no-index))) grid positions direction (λ falls. inl (inl (refl, refl, falls))) (λ falls. inr (refl, refl, falls)))

-- ---- the number is never 17
pub query_never_17 : NeverSeventeen
query_never_17 grid positions direction reason =
    let P : Refusal → Type 0 = λ (r : Refusal). number_of r ≢ 17 in (
      λ h. subst (λ (a : Result Nearest Refusal). IfErr a P) h (nearest_reason P (λ own not-17 not-18 no-index. not-17) grid positions direction (λ falls z. omega arith)),
      λ h. subst (λ (a : Result LocatedTriangle Refusal). IfErr a P) h (locate_reason P (λ own not-17 not-18 no-index. not-17) grid positions direction (λ falls z. omega arith) (λ falls z. omega arith)),
    )
