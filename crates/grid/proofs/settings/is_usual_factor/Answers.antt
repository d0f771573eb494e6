-- `grid::settings::is_usual_factor`: no NaN comes in, so that the bits can be read. Assumes nothing.
use Rattle.std.proofs.Common.{T, sym, subst, eqb-true}
use Rattle.grid.proofs.SettingsRows.{usual_by_bits}
use Rattle.grid.proofs.settings.is_usual_factor.Goals as goal

pub returns : goal.returns
returns c = λ h. usual_by_bits c.args.factor (subst T (sym c.well_formed.0.1) tt) (eqb-true _ _ h)
