use Rattle.fused.proofs.Operands.{addend_value}
use Rattle.fused.proofs.exact_addend.Goals as goal

pub returns-clause-exact : goal.returns-clause-exact
returns-clause-exact c =
    let n = c.normalise_significand-n in
    addend_value _ n.result.significand n.result.exponent n.result.last_bits n.ensures
