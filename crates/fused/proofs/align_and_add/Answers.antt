use Rattle.std.proofs.Common.{ltb, refl, ◌∙◌, pow_pos}
use Rattle.std.specs.Float.{binary64}
use Rattle.fused.proofs.Align.{align_second, lower_le, sum_ordered}
use Rattle.fused.proofs.align_and_add.Goals as goal

pub returns : goal.returns
returns c =
    let swap = ltb c.args.product.exponent c.args.addend.exponent in
    let upper = c.choose-upper in
    let lower = c.choose-lower in
    c.add_aligned.ensures
    ∙ align_second binary64 _ _ _ _ _ _ _ 1202 upper.result.alignable lower.result.alignable (lower_le swap c.args.product c.args.addend upper.result lower.result upper.ensures lower.ensures refl) c.shift_words_right_sticky.ensures
    ∙ sum_ordered swap c.args.product c.args.addend upper.result lower.result upper.ensures lower.ensures binary64 _ (pow_pos 2276)
