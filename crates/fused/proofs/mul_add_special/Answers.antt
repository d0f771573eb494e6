use Rattle.std.proofs.Common.{Bool, ◌&&◌, sym, ap₂, ◌∙◌}
use Rattle.std.specs.Float.{binary64}
use Rattle.fused.proofs.Special.{special_factor_apart, special_addend}
use Rattle.fused.proofs.mul_add_special.Goals as goal

pub returns-then-is_finite : goal.returns-then-is_finite
returns-then-is_finite c =
    special_addend binary64 c.args.a c.args.b c.args.c
    (sym (ap₂ (λ (p q : Bool). p && q) c.is_finite.ensures c.is_finite-2.ensures) ∙ c.if-is_finite.true) c.requires

pub returns-else-is_finite : goal.returns-else-is_finite
returns-else-is_finite c =
    special_factor_apart binary64 c.args.a c.args.b c.args.c
    (sym (ap₂ (λ (p q : Bool). p && q) c.is_finite.ensures c.is_finite-2.ensures) ∙ c.if-is_finite.false)
