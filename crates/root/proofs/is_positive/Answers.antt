use Rattle.std.proofs.Common.{◌&&◌, ap, ◌∙◌}
use lib.Ieee.{binary64, lt, of_bits}
use Rattle.root.proofs.Operands.{positive_test}
use Rattle.root.proofs.is_positive.Goals as goal

pub returns : goal.returns
returns c = ap (λ b. b && lt (of_bits binary64 0) c.args.x) c.is_finite.ensures ∙ positive_test c.args.x
