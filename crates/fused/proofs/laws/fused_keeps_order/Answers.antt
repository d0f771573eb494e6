use Rattle.fused.proofs.Monotone.{fused_monotone}
use Rattle.fused.proofs.laws.fused_keeps_order.Goals as goal

pub returns : goal.returns
returns c = fused_monotone
