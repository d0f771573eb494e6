use Rattle.std.proofs.Common.{◌∙◌}
use Rattle.std.specs.Float.{binary64}
use Rattle.rounding.proofs.RoundWord.{collapsed_top, collapsed_rounds}
use Rattle.rounding.proofs.round_and_pack.Goals as goal
use Rattle.std.proofs.Common.{rules}

-- the two words stand at 2 ^ -(1074 + 1202)
pub returns : goal.returns
returns c =
    let n = c.normalise_words-normalised in
    let w = c.collapse_sticky-word in
    c.round_and_pack_word.ensures
    ∙ collapsed_rounds binary64 _ _ _ 1202 _ _ _ n.ensures.2 n.ensures.0 (collapsed_top n.result.words.hi n.result.words.lo _ (search rules) n.ensures.1 w.ensures.quotient) w.ensures
