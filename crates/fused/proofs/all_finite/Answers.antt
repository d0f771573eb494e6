use Rattle.std.specs.Float.{binary64}
use Rattle.fused.proofs.Special.{all_finite_test}
use Rattle.fused.proofs.all_finite.Goals as goal

pub returns : goal.returns
returns c = all_finite_test binary64 c.args.a c.args.b c.args.c
