-- Why a packing is refused: `packing_index`, 18 tells the first fall of the cell starts or else of the triangle starts, every other number nothing. Assumes nothing.
use Rattle.std.proofs.Common.{◌≡◌, ℕ, ◌≢◌, List, length, refl, inl, inr, arith}
use Rattle.std.specs.Float.{Float}
use Rattle.std.specs.Prelude.{Ok}
use Rattle.refusal.specs.declared.Refusal.{Refusal}
use Rattle.refusal.specs.declared.Refusal.TheVariants.{Count, Starts, Id, Position, Room, StartsSpan, Factor, Margin}
use Rattle.refusal.specs.Refusal.{number_of, index_of}
use Rattle.refusal.proofs.Rows.{EachReason, reasons_passed, reasons_row, reasons_then}
use Rattle.mesh.specs.Mesh.{vertex_count}
use Rattle.mesh.specs.Rows.{positions_fit, falling_start, ids_below, positions_admissible}
use Rattle.mesh.proofs.Falls.{fall_first}
use Rattle.mesh.proofs.Refusals.{reasons_fall}
use Rattle.grid.specs.Settings.{factor_fits, margin_fits}
use Rattle.grid.specs.Grid.{Grid}
use Rattle.grid.specs.Stored.{side_fits, both_starts_counted, stored_rows, cell_starts_span, triangle_starts_span, whole_starts_rows}
use Rattle.packing.specs.declared.Taken.{Taken}
use Rattle.packing.specs.Packing.{room_for, id_rows, packing_rows}
use Rattle.packing.specs.Laws.{PackingIndex, PackingIndexIsTold}
use Rattle.packing.proofs.Outcome.{refused}

module _ (grid : Grid) (positions : List Float) (taken : Taken) (words floats : ℕ) where
  abbrev P : Refusal → Type 0
  P = PackingIndex grid

  plain : (reason : Refusal) → number_of reason ≢ 18 → index_of reason ≡ 0 → P reason
  plain reason other none = inr (other, none)

  at_2 : P Count
  at_2 = plain Count (λ z. omega arith) refl

  at_4 : P Id
  at_4 = plain Id (λ z. omega arith) refl

  at_17 : P StartsSpan
  at_17 = plain StartsSpan (λ z. omega arith) refl

  stored_reasons : EachReason P (stored_rows grid positions (Ok tt))
  stored_reasons =
      reasons_row P (positions_fit positions) Count _ (λ e. at_2) (λ fit.
      reasons_row P (factor_fits grid.settings.factor) Factor _ (λ e. plain Factor (λ z. omega arith) refl) (λ factor.
      reasons_row P (margin_fits grid.settings.margin) Margin _ (λ e. plain Margin (λ z. omega arith) refl) (λ margin.
      reasons_row P (side_fits grid positions) Count _ (λ e. at_2) (λ side.
      reasons_row P (both_starts_counted grid positions) Starts (Ok tt) (λ e. plain Starts (λ z. omega arith) refl) (λ counted. reasons_passed P)))))

  starts_reasons : EachReason P (whole_starts_rows grid positions)
  unfolding whole_starts_rows
  starts_reasons =
      reasons_row P (cell_starts_span grid) StartsSpan _ (λ e. at_17) (λ cells.
      reasons_row P (triangle_starts_span grid positions) StartsSpan _ (λ e. at_17) (λ triangles.
      reasons_fall P (falling_start grid.cell_starts) _ (λ index falls. inl (refl, inl (fall_first grid.cell_starts index falls))) (λ none.
      reasons_fall P (falling_start grid.triangle_starts) (Ok tt) (λ index falls. inl (refl, inr (none, fall_first grid.triangle_starts index falls))) (λ no_fall. reasons_passed P))))

  id_reasons : EachReason P (id_rows grid positions)
  unfolding id_rows
  id_reasons =
      reasons_row P (ids_below (vertex_count positions) grid.cell_ids) Id _ (λ e. at_4) (λ cells.
      reasons_row P (ids_below (vertex_count positions) grid.triples) Id _ (λ e. at_4) (λ triples.
      reasons_row P (positions_admissible positions) Position (Ok tt) (λ e. plain Position (λ z. omega arith) refl) (λ admissible. reasons_passed P)))

  packing_reasons : EachReason P (packing_rows grid positions taken words floats)
  unfolding packing_rows
  packing_reasons =
      reasons_then P (stored_rows grid positions (Ok tt)) _ stored_reasons
      (reasons_then P (whole_starts_rows grid positions) _ starts_reasons
      (reasons_then P (id_rows grid positions) _ id_reasons
      (reasons_row P (room_for grid positions taken words floats) Room (Ok tt) (λ e. plain Room (λ z. omega arith) refl) (λ room. reasons_passed P))))

pub packing_index : PackingIndexIsTold
packing_index grid positions taken words floats reason h =
    packing_reasons grid positions taken (length words) (length floats) reason (refused grid positions taken words floats reason h).0
