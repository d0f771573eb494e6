use Rattle.std.proofs.Common.{◌∙◌, arith, rules}
use Rattle.std.proofs.lemmas.Bool.Decides.{nat_tests}
use Rattle.root.proofs.StickyRoot.{word_below, word_top, root_rounds_at_top}
use Rattle.root.proofs.Radicand.root_by_digits.Goals as goal

pub overflow_add-root : goal.overflow_add-root
overflow_add-root c =
    let root = c.root_digits-root in
    let radicand = c.args.self in
    omega (arith, word_below root.result.significand root.result.remainder radicand.significand root.result.greatest root.ensures radicand.top_bits (search rules) c.sticky_bit.result (search rules))

pub round_and_pack_word-requires : goal.round_and_pack_word-requires
round_and_pack_word-requires c =
    let root = c.root_digits-root in
    let radicand = c.args.self in
    word_top root.result.significand root.result.remainder radicand.significand root.result.greatest root.ensures radicand.top_bits (search rules) c.sticky_bit.result

pub returns : goal.returns
returns c =
    let root = c.root_digits-root in
    let radicand = c.args.self in
    c.round_and_pack_word.ensures
    ∙ root_rounds_at_top root.result.significand root.result.remainder radicand.significand root.result.greatest root.ensures radicand.top_bits (search rules)
    radicand.half c.sticky_bit.result (search rules) (λ z. grind (arith, nat_tests)) (λ z. grind (arith, nat_tests))
