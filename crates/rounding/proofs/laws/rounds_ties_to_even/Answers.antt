use lib.Ieee.Fits.{round-fits}
use Rattle.rounding.proofs.TiesToEven.{round_finite, round_nearest, round_tie_even, round_overflows, round_negates}
use Rattle.rounding.proofs.laws.rounds_ties_to_even.Goals as goal

pub returns-clause-nearest_or_even : goal.returns-clause-nearest_or_even
returns-clause-nearest_or_even c = λ f s num denom some below. record {
  is_finite = round_finite f s num denom some below;
  of_format = round-fits f s num denom;
  none_nearer = round_nearest f s num denom some below;
  tie_even = round_tie_even f s num denom some below;
}

pub returns-clause-overflow : goal.returns-clause-overflow
returns-clause-overflow c = round_overflows

pub returns-clause-either_sign : goal.returns-clause-either_sign
returns-clause-either_sign c = round_negates
