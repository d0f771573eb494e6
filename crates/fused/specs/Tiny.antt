-- Where products and halves are tiny. Definitions only.
use Rattle.std.specs.Prelude.{Bool, false, negsuc, ◌||◌, Float}
use Rattle.std.specs.Float.{fin}
use Rattle.std.specs.Float.Ieee.{lt, neg}

-- 2 ^ -900
abbrev pub least_product : Float
least_product = fin false 1 (negsuc 899)

-- x or -x is above it
abbrev pub is_not_tiny : Float → Bool
is_not_tiny x = lt least_product x || lt x (neg least_product)
