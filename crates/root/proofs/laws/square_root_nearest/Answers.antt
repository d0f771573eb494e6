use lib.Ieee.{of_bits}
use Rattle.root.proofs.Nearest.{square_root_finite, square_root_nearest, square_root_fits}
use Rattle.root.proofs.Monotone.{square_root_monotone}
use Rattle.root.proofs.laws.square_root_nearest.Goals as goal

pub returns-clause-nearest : goal.returns-clause-nearest
unfolding of_bits
returns-clause-nearest c = λ f x held number not_below. record {
  is_finite = square_root_finite f x held number not_below;
  of_format = square_root_fits f x held;
  none_below = λ v v_held v_number v_not_below. (square_root_nearest f x held number not_below v v_held v_number v_not_below).0;
  none_above = λ v v_held v_number v_not_below. (square_root_nearest f x held number not_below v v_held v_number v_not_below).1;
}

pub returns-clause-order : goal.returns-clause-order
unfolding of_bits
returns-clause-order c = square_root_monotone
