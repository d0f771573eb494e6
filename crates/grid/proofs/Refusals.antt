-- What a refused build tells: `build_index`. Assumes nothing.
use Rattle.std.proofs.Common.{◌≡◌, ℕ, arith}
use Rattle.refusal.specs.declared.Refusal.{Refusal}
use Rattle.std.specs.Prelude.{Result, Ok, Err}
use Rattle.refusal.specs.declared.Refusal.TheVariants.{Factor, Margin, Room}
use Rattle.refusal.proofs.Rows.{answer_refused, reasons_passed, reasons_row, reasons_then}
use Rattle.mesh.specs.Rows.{mesh_rows}
use Rattle.mesh.specs.Laws.{IndexTold}
use Rattle.mesh.proofs.Refusals.{told_none, mesh_index}
use Rattle.grid.specs.declared.Built.{Built}
use Rattle.grid.specs.Settings.{factor_fits, margin_fits}
use Rattle.grid.specs.Grid.{built, grid_of, grid_slices_fit, build_rows, BuildOutcome, build_grid}
use Rattle.grid.specs.Told.{BuildIndexIsTold}

never_built : (reason : Refusal) (g held : ℕ) → ◌≡◌ {A = Result Built Refusal} (Ok (built g held)) (Err reason) → ⊥
never_built reason g held e = let z : ◌≡◌ {A = ℕ} 0 1 = cc in omega arith

-- 18 carries its index, every other refusal 0
pub build_index : BuildIndexIsTold
unfolding build_grid build_rows
build_index m settings lent reason h =
    let P = IndexTold m.starts in
    reasons_then P (mesh_rows m) _ (mesh_index m)
    (reasons_row P (factor_fits settings.factor) Factor _ (λ e. told_none m.starts Factor (λ z. omega arith))
    (λ fits. reasons_row P (margin_fits settings.margin) Margin _ (λ e. told_none m.starts Margin (λ z. omega arith))
    (λ small. reasons_row P (grid_slices_fit (grid_of m settings) lent) Room (Ok tt) (λ e. told_none m.starts Room (λ z. omega arith)) (λ room. reasons_passed P)))) reason
    (answer_refused (λ (o : BuildOutcome). o.answered ≡ Err reason) (build_rows m settings lent) _ _ reason (never_built reason _ _) (λ other e. cc) h)
