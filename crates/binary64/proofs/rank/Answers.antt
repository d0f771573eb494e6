use Rattle.std.proofs.Common.{sym, ap, ◌∙◌}
use Rattle.binary64.specs.TotalOrder.{rank_of}
use Rattle.binary64.proofs.Nan.{only_nan}
use Rattle.binary64.proofs.TotalOrder.{rank_of_nan}
use Rattle.binary64.proofs.rank.Goals as goal

pub returns-then-is_nan : goal.returns-then-is_nan
returns-then-is_nan c = c.rank_of_bits.ensures ∙ sym rank_of_nan ∙ ap rank_of (sym (only_nan c.args.x (sym c.is_nan.ensures.value ∙ c.if-is_nan.true)))

pub returns : goal.returns
unfolding rank_of
returns c = c.rank_of_bits-2.ensures
