-- The pair that a grid is built with, and its two rows (W-210). Definitions only.
use Rattle.std.specs.Prelude.{ℕ, Bool, false, ◌&&◌, pos, negsuc, nat_le, Float}
use Rattle.std.specs.Float.{fin}
use Rattle.std.specs.Float.Ieee.{le}
use Rattle.binary64.specs.Constants.{half}
use Rattle.refusal.specs.declared.Refusal.TheVariants.{Factor, Margin}
use Rattle.refusal.specs.Refusal.{Verdict, row}
use Rattle.grid.specs.declared.settings.Settings.{Settings}

abbrev pub settings_with : Float → ℕ → Settings
settings_with factor margin = record { factor = factor; margin = margin }

-- Document 01's own: "Side g = the ceiling of root(count/6)·1.2", by the double nearest to 1.2, 5404319552844595 · 2^−52, and "its 3 by 3 surroundings", 1 to each side.
abbrev pub usual_factor : Float
usual_factor = fin false 5404319552844595 (negsuc 51)

abbrev pub usual_margin : ℕ
usual_margin = 1

abbrev pub usual_settings : Settings
usual_settings = settings_with usual_factor usual_margin

-- "The factor is a double from 0.5 to 4.0, the margin a whole number from 0 to 3."
abbrev pub least_factor : Float
least_factor = half

abbrev pub greatest_factor : Float
greatest_factor = fin false 1 (pos 2)

abbrev pub greatest_margin : ℕ
greatest_margin = 3

-- A NaN is not at least 0.5, as no comparison with one holds (IEEE 754-2019, 5.11).
unfoldable pub factor_fits : Float → Bool
factor_fits factor = le least_factor factor && le factor greatest_factor

unfoldable pub margin_fits : ℕ → Bool
margin_fits margin = nat_le margin greatest_margin

-- "It refuses with 19 a factor out of range or not finite, then with 20 a margin above 3", and then come the next rows.
abbrev pub settings_rows : Settings → Verdict → Verdict
settings_rows settings next = row (factor_fits settings.factor) Factor (row (margin_fits settings.margin) Margin next)
