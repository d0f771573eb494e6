use lib.Ieee.{fin}
use Rattle.std.proofs.Common.{refl}
use Rattle.binary32.specs.Convert.{convert_format}
use Rattle.binary32.proofs.Convert.{convert_finite, convert_fits, convert_nearest, convert_tie_even, convert_overflows, convert_zero, convert_own, convert_negates}
use Rattle.binary32.proofs.laws.converts_ties_to_even.Goals as goal

pub returns-clause-nearest_or_even : goal.returns-clause-nearest_or_even
returns-clause-nearest_or_even c = λ f s m e below. record {
  is_finite = convert_finite f s m e below;
  of_format = convert_fits f (fin s m e);
  none_nearer = convert_nearest f s m e below;
  tie_even = convert_tie_even f s m e below;
}

pub returns-clause-overflow : goal.returns-clause-overflow
returns-clause-overflow c = convert_overflows

pub returns-clause-zero : goal.returns-clause-zero
returns-clause-zero c = convert_zero

pub returns-clause-infinity : goal.returns-clause-infinity
unfolding convert_format
returns-clause-infinity c = λ f s. refl

pub returns-clause-not_a_number : goal.returns-clause-not_a_number
unfolding convert_format
returns-clause-not_a_number c = λ f. refl

pub returns-clause-own : goal.returns-clause-own
returns-clause-own c = convert_own

pub returns-clause-either_sign : goal.returns-clause-either_sign
returns-clause-either_sign c = convert_negates

pub returns-clause-of_format : goal.returns-clause-of_format
returns-clause-of_format c = convert_fits
