-- `grid::laws::wider_margin_keeps_ids`: what is near by the margin is near by a wider one. Assumes nothing.
use Rattle.grid.proofs.Margin.{margin_grows}
use Rattle.grid.proofs.laws.wider_margin_keeps_ids.Goals as goal

pub returns : goal.returns
returns c = margin_grows
