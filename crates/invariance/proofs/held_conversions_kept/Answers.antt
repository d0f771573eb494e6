use Rattle.invariance.proofs.Invariance.{held_alike}
use Rattle.invariance.proofs.held_conversions_kept.Goals as goal

pub returns : goal.returns
returns c = held_alike
