use Rattle.std.specs.Float.Ieee.{of_bits}
use Rattle.rounding.proofs.Monotone.{round_monotone, add_monotone, mul_monotone, square_monotone, div_monotone, div_antitone}
use Rattle.rounding.proofs.laws.rounding_keeps_order.Goals as goal

pub returns-clause-rounding : goal.returns-clause-rounding
returns-clause-rounding c = round_monotone

pub returns-clause-sum : goal.returns-clause-sum
returns-clause-sum c = add_monotone

pub returns-clause-product : goal.returns-clause-product
returns-clause-product c = mul_monotone

pub returns-clause-square : goal.returns-clause-square
returns-clause-square c = square_monotone

pub returns-clause-quotient : goal.returns-clause-quotient
returns-clause-quotient c = div_monotone

pub returns-clause-divisor : goal.returns-clause-divisor
unfolding of_bits
returns-clause-divisor c = div_antitone
