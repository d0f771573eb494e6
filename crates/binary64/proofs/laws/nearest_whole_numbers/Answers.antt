use Rattle.binary64.proofs.Integral.{floor_not_above, floor_greatest, ceil_not_below, ceil_least, integral_exact}
use Rattle.binary64.proofs.laws.nearest_whole_numbers.Goals as goal

pub returns : goal.returns
returns c = record { floor_not_above = floor_not_above; floor_greatest = floor_greatest; ceil_not_below = ceil_not_below; ceil_least = ceil_least; exact = integral_exact }
