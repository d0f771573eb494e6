-- The least of three barycentric weights. Definitions only.
use Rattle.std.specs.Prelude.{Float}
use Rattle.binary64.specs.Minimum.{minimum_number}
use Rattle.vector.specs.declared.Weights.{Weights}

-- minimumNumber (IEEE 754-2019, 9.6), taken twice: a NaN is skipped. Three NaN have no least; NaN stands for it.
unfoldable pub least_weight : Weights → Float
unfolding minimum_number
least_weight t = minimum_number (minimum_number t.u t.v) t.w
