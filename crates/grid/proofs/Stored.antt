-- What rows 2, 19, 20, 2 and 3 tell of a stored grid: `stored_facts`. Assumes nothing.
use Rattle.std.proofs.Common.{◌≡◌, ℕ, suc, ◌+◌, ◌*◌, ◌%◌, ◌≤◌, true, ◌&&◌, eqb, leb, List, length, sym, refl, ap, ◌∙◌, add-one, arith, eqb-true, leb-true}
use lib.Ieee.{Float}
use Rattle.std.proofs.lemmas.Bool.{and_parts}
use Rattle.std.specs.Prelude.{Ok}
use Rattle.refusal.specs.declared.Refusal.TheVariants.{Count, Factor, Margin, Starts}
use Rattle.refusal.specs.Refusal.{Verdict, row, then}
use Rattle.refusal.proofs.Rows.{row_passed, then_passed, row_then}
use Rattle.mesh.specs.Mesh.{vertex_count}
use Rattle.mesh.specs.Rows.{greatest_count, positions_fit}
use Rattle.grid.specs.Settings.{factor_fits, margin_fits, settings_rows}
use Rattle.grid.specs.Cells.{side_of, cell_count}
use Rattle.grid.specs.Grid.{Grid}
use Rattle.grid.specs.Passes.{GridExtent}
use Rattle.grid.specs.Stored.{with_lists, side_fits, both_starts_counted, stored_rows}
use Rattle.grid.specs.Told.{PassedIsStored}
use Rattle.grid.proofs.SettingsRows.{settings_then, margin_small}
use Rattle.grid.proofs.SideBound.{side_bound}

-- row 2's limits of the count
pub positions_count : (positions : List Float) → positions_fit positions ≡ true → (1 ≤ vertex_count positions) × (vertex_count positions ≤ greatest_count)
unfolding positions_fit
positions_count positions h =
    let range = and_parts (leb 1 (vertex_count positions)) (leb (vertex_count positions) greatest_count) (and_parts (eqb (length positions % 3) 0) _ h).1 in
    (leb-true _ _ range.0, leb-true _ _ range.1)

-- a side that its count and factor give can be built
pub extent_buildable : (grid : Grid) (positions : List Float) → positions_fit positions ≡ true → factor_fits grid.settings.factor ≡ true → margin_fits grid.settings.margin ≡ true → side_fits grid positions ≡ true
    → GridExtent grid.settings.margin grid.side
unfolding side_fits
extent_buildable grid positions counted factor margin side =
    let count = positions_count positions counted in
    let same = eqb-true grid.side (side_of grid.settings.factor (vertex_count positions)) side in
    let bound = side_bound grid.settings.factor (vertex_count positions) factor count.0 count.1 in
    (omega arith, omega arith, margin_small grid.settings margin)

-- the lengths of the starts as code tests them
pub starts_tested : (grid : Grid) (positions : List Float)
    → (eqb (length grid.cell_starts) (6 * (grid.side * grid.side) + 1) && eqb (length grid.triangle_starts) (vertex_count positions + 1)) ≡ both_starts_counted grid positions
unfolding both_starts_counted
starts_tested grid positions = rw (add-one (cell_count grid.side), add-one (vertex_count positions))

-- ---- the chain before further rows
module _ (grid : Grid) (positions : List Float) where
  pub stored_then : (v next : Verdict) → stored_rows grid positions (then v next) ≡ then (stored_rows grid positions v) next
  stored_then v next =
      let settings = settings_rows grid.settings in
      let counted = row (positions_fit positions) Count in
      let side = row (side_fits grid positions) Count in
      let starts = row (both_starts_counted grid positions) Starts in
      ap (λ (w : Verdict). counted (settings (side w))) (row_then (both_starts_counted grid positions) Starts v next)
      ∙ ap (λ (w : Verdict). counted (settings w)) (row_then (side_fits grid positions) Count (starts v) next)
      ∙ ap counted (settings_then grid.settings (side (starts v)) next)
      ∙ row_then (positions_fit positions) Count (settings (side (starts v))) next

  pub stored_passed : (next : Verdict) → stored_rows grid positions next ≡ Ok tt → (stored_rows grid positions (Ok tt) ≡ Ok tt) × (next ≡ Ok tt)
  stored_passed next h = then_passed (stored_rows grid positions (Ok tt)) next (sym (stored_then (Ok tt) next) ∙ h)

  pub stored_through : (next : Verdict) → stored_rows grid positions (Ok tt) ≡ Ok tt → stored_rows grid positions next ≡ next
  stored_through next h = stored_then (Ok tt) next ∙ ap (λ (v : Verdict). then v next) h

-- ---- whatever the ids and triples are
pub stored_whatever_lists : (grid : Grid) (positions : List Float) (cell_ids triples : List ℕ) → stored_rows grid positions (Ok tt) ≡ stored_rows (with_lists grid cell_ids triples) positions (Ok tt)
unfolding side_fits both_starts_counted
stored_whatever_lists grid positions cell_ids triples = refl

-- ---- what the rows let pass
pub stored_facts : PassedIsStored
unfolding side_fits both_starts_counted
stored_facts grid positions h =
    let fits = row_passed (positions_fit positions) Count _ h in
    let factor = row_passed (factor_fits grid.settings.factor) Factor _ fits.1 in
    let margin = row_passed (margin_fits grid.settings.margin) Margin _ factor.1 in
    let side = row_passed (side_fits grid positions) Count _ margin.1 in
    let counted = row_passed (both_starts_counted grid positions) Starts (Ok tt) side.1 in
    let lengths = and_parts (eqb (length grid.cell_starts) (suc (cell_count grid.side))) (eqb (length grid.triangle_starts) (suc (vertex_count positions))) counted.0 in
    let count = positions_count positions fits.0 in
    let same : grid.side ≡ side_of grid.settings.factor (vertex_count positions) = eqb-true _ _ side.0 in
    let bound = side_bound grid.settings.factor (vertex_count positions) factor.0 count.0 count.1 in
    record {
      allowed_factor = factor.0;
      allowed_margin = margin.0;
      is_side = same;
      side_low = omega arith;
      side_high = omega arith;
      cells_counted = eqb-true _ _ lengths.0;
      vertices_counted = eqb-true _ _ lengths.1;
    }
