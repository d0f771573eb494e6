use Rattle.binary64.proofs.TotalOrder.{total_order_reflexive, total_order_total, total_order_antisymmetric, total_order_transitive, total_order_rank, rank_below, rank_injective, rank_onto, negative_nan_below_infinity, negative_infinity_below_zero, negative_zero_below_positive_zero, positive_zero_below_infinity, positive_infinity_below_nan}
use Rattle.binary64.proofs.laws.order_of_patterns.Goals as goal

pub returns : goal.returns
returns c = record {
  reflexive = total_order_reflexive;
  total = total_order_total;
  antisymmetric = total_order_antisymmetric;
  transitive = total_order_transitive;
  by_rank = total_order_rank;
  rank_below = rank_below;
  rank_injective = rank_injective;
  rank_onto = rank_onto;
  special = record {
    negative_nan = negative_nan_below_infinity;
    negative_infinity = negative_infinity_below_zero;
    zeros = negative_zero_below_positive_zero;
    positive_infinity = positive_zero_below_infinity;
    positive_nan = positive_infinity_below_nan;
  };
}
