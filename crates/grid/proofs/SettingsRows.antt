-- Laws of rows 19 and 20, wherever they stand in a chain, and of the usual factor. Assumes nothing.
use Rattle.std.proofs.Common.{◌≡◌, ◌≤◌, true, T, sym, refl, ap, ◌∙◌, leb-true}
use lib.Ieee.{Float, binary64, of_bits, to_bits, fits, le}
use lib.Ieee.Bits.{of_bits-to_bits}
use Rattle.std.proofs.lemmas.Bool.{and_parts}
use Rattle.refusal.specs.declared.Refusal.{Refusal}
use Rattle.std.specs.Prelude.{Ok, Err}
use Rattle.refusal.specs.declared.Refusal.TheVariants.{Factor, Margin}
use Rattle.refusal.specs.Refusal.{Verdict, row, then}
use Rattle.refusal.proofs.Rows.{row_passed, row_then}
use Rattle.grid.specs.declared.settings.Settings.{Settings}
use Rattle.grid.specs.Settings.{usual_factor, least_factor, greatest_factor, greatest_margin, factor_fits, margin_fits, settings_rows}

module _ (settings : Settings) where
  pub settings_then : (v next : Verdict) → settings_rows settings (then v next) ≡ then (settings_rows settings v) next
  settings_then v next =
      ap (row (factor_fits settings.factor) Factor) (row_then (margin_fits settings.margin) Margin v next)
      ∙ row_then (factor_fits settings.factor) Factor (row (margin_fits settings.margin) Margin v) next

  -- what they refuse is refused whatever comes behind them
  pub settings_refused : (next : Verdict) (reason : Refusal) → settings_rows settings (Ok tt) ≡ Err reason → settings_rows settings next ≡ Err reason
  settings_refused next reason h = settings_then (Ok tt) next ∙ ap (λ (v : Verdict). then v next) h

  -- what they let pass
  pub settings_passed : settings_rows settings (Ok tt) ≡ Ok tt → (factor_fits settings.factor ≡ true) × (margin_fits settings.margin ≡ true)
  settings_passed h =
      let factor = row_passed (factor_fits settings.factor) Factor (row (margin_fits settings.margin) Margin (Ok tt)) h in
      (factor.0, (row_passed (margin_fits settings.margin) Margin (Ok tt) factor.1).0)

  pub margin_small : margin_fits settings.margin ≡ true → settings.margin ≤ greatest_margin
  unfolding margin_fits
  margin_small h = leb-true settings.margin greatest_margin h

pub factor_at_most : (x : Float) → factor_fits x ≡ true → le x greatest_factor ≡ true
unfolding factor_fits
factor_at_most x h = (and_parts (le least_factor x) (le x greatest_factor) h).1

-- the usual factor, as code knows it
pub usual_by_bits : (x : Float) → T (fits binary64 x) → to_bits binary64 x ≡ 0x3ff3333333333333 → x ≡ usual_factor
unfolding of_bits
usual_by_bits x held e = sym (of_bits-to_bits binary64 x held) ∙ ap (of_bits binary64) e

pub usual_fits : factor_fits usual_factor ≡ true
unfolding factor_fits le of_bits
usual_fits = refl
