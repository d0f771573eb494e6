-- The laws of the least of three weights. Assumes nothing.
use Rattle.std.proofs.lemmas.Float.{T_from_true}
use Rattle.barycentric.proofs.LeastWeight.{none_below_least, least_weight_is_weight, least_weight_nan, least_weight_any_order}
use Rattle.barycentric.proofs.laws.least_of_three_weights.Goals as goal

pub returns-clause-none_below : goal.returns-clause-none_below
returns-clause-none_below c = none_below_least

pub returns-clause-is_weight : goal.returns-clause-is_weight
returns-clause-is_weight c = least_weight_is_weight

pub returns-clause-skips_nan : goal.returns-clause-skips_nan
returns-clause-skips_nan c = least_weight_nan

pub returns-clause-any_order : goal.returns-clause-any_order
returns-clause-any_order c u v w fits_u fits_v fits_w = least_weight_any_order u v w (T_from_true _ fits_u) (T_from_true _ fits_v) (T_from_true _ fits_w)
