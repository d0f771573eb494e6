-- `grid::settings::Settings::check`: each return is one row's. Assumes nothing.
use Rattle.std.proofs.Common.{◌≡◌, true, le-leb}
use lib.Ieee.{of_bits}
use borrow.Author.Tests.{lt-leb}
use Rattle.grid.specs.Settings.{factor_fits, margin_fits}
use Rattle.grid.proofs.settings.Settings.check.Goals as goal
use Rattle.grid.proofs.settings.Settings.check.Goals.{Else-not-self}

passed : (c : Else-not-self) → factor_fits c.args.self.factor ≡ true
unfolding factor_fits of_bits
passed c = c.if-not-self.false

pub returns-then-not-self : goal.returns-then-not-self
unfolding factor_fits of_bits
returns-then-not-self c = rw c.if-not-self.true

pub returns-then-self-gt-GREATEST_MARGIN : goal.returns-then-self-gt-GREATEST_MARGIN
unfolding margin_fits
returns-then-self-gt-GREATEST_MARGIN c = rw (passed (goal.at.returns-then-self-gt-GREATEST_MARGIN c).Else-not-self, lt-leb _ _ c.if-self-gt-GREATEST_MARGIN.true)

pub returns : goal.returns
unfolding margin_fits
returns c = rw (passed (goal.at.returns c).Else-not-self, le-leb _ _ c.if-self-gt-GREATEST_MARGIN.false)
