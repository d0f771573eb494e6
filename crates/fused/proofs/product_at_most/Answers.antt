use Rattle.std.proofs.Common.{sym, ◌∙◌}
use Rattle.std.proofs.lemmas.Float.{T_from_true}
use Rattle.std.specs.Float.Ieee.{of_bits}
use Rattle.std.proofs.lemmas.Bool.{and_parts}
use Rattle.fused.proofs.Sign.{product_decides}
use Rattle.fused.proofs.product_at_most.Goals as goal

pub returns-then-product-c : goal.returns-then-product-c
unfolding of_bits
returns-then-product-c c =
    let tests = and_parts _ _ c.if-product-c.true in
    sym (product_decides c.args.a c.args.b c.args.c (T_from_true _ c.well_formed.0.1) (T_from_true _ c.well_formed.1.0.1) (T_from_true _ c.well_formed.1.1.0.1) tests.0 (sym c.is_not_tiny.ensures ∙ tests.1))
