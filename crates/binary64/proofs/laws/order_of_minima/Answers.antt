use Rattle.binary64.proofs.Minimum.{minimum_of_zeros, minimum_skips_nan}
use Rattle.binary64.proofs.MinimumRank.{minimum_commutes, minimum_associates, minimum_rank}
use Rattle.binary64.proofs.laws.order_of_minima.Goals as goal

pub returns : goal.returns
returns c = record { zeros = minimum_of_zeros; skips_nan = minimum_skips_nan; commutes = minimum_commutes; associates = minimum_associates; rank = minimum_rank }
