-- `grid::settings::Settings::is_usual`: both tests of the first line, then the factor's. Assumes nothing.
use Rattle.std.proofs.Common.{◌≡◌, true, leb}
use lib.Ieee.{of_bits, le}
use Rattle.std.proofs.lemmas.Bool.{and_parts}
use Rattle.grid.specs.Settings.{greatest_factor, margin_fits}
use Rattle.grid.proofs.settings.Settings.is_usual.Goals as goal
use Rattle.grid.proofs.settings.Settings.is_usual.Goals.{Else-not-self}

pair : (c : Else-not-self) → (le c.args.self.factor greatest_factor ≡ true) × (leb c.args.self.margin 3 ≡ true)
unfolding of_bits
pair c = and_parts (le c.args.self.factor greatest_factor) (leb c.args.self.margin 3) c.if-not-self.false

pub is_usual_factor-requires : goal.is_usual_factor-requires
is_usual_factor-requires c = (pair (goal.at.is_usual_factor-requires c).Else-not-self).0

pub returns : goal.returns
unfolding margin_fits
returns c = λ h. (c.is_usual_factor.ensures h, (pair (goal.at.returns c).Else-not-self).1)
