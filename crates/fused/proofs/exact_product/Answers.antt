use Rattle.std.proofs.Common.{rules}
use Rattle.fused.proofs.Operands.{product_value, product_alignable}
use Rattle.fused.proofs.exact_product.Goals as goal

pub invariant_of-result-clause-alignable : goal.invariant_of-result-clause-alignable
invariant_of-result-clause-alignable c =
    let m = c.normalise_significand-m.result in
    let n = c.normalise_significand-n.result in
    product_alignable _ m.significand n.significand c.multiply.ensures m.top_bit (search rules) m.last_bits n.top_bit (search rules)

pub returns-clause-exact : goal.returns-clause-exact
returns-clause-exact c =
    let m = c.normalise_significand-m in
    let n = c.normalise_significand-n in
    product_value _ _ _ m.result.significand n.result.significand m.result.exponent n.result.exponent c.multiply.ensures m.result.last_bits n.result.last_bits m.ensures n.ensures
