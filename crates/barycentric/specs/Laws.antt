-- What is proved of the least of any three weights. Definitions only.
use Rattle.std.specs.Prelude.{◌≡◌, true, false, ◌&&◌, ◌⊎◌, Float}
use Rattle.std.specs.Float.{binary64}
use Rattle.std.specs.Float.Ieee.{lt, fits, is_nan}
use Rattle.vector.specs.declared.Weights.{Weights}
use Rattle.vector.specs.Triangle.{weights}
use Rattle.barycentric.specs.LeastWeight.{least_weight}

-- No weight is below the least (IEEE 754-2019, 5.11): a NaN is below nothing.
pub record NoneBelow (t : Weights) : Type 0 where
  pub u_not_below : lt t.u (least_weight t) ≡ false
  pub v_not_below : lt t.v (least_weight t) ≡ false
  pub w_not_below : lt t.w (least_weight t) ≡ false

abbrev pub LeastHasNoneBelow : Type 0
LeastHasNoneBelow = (t : Weights) → NoneBelow t

-- The least is one of the three.
abbrev pub LeastIsWeight : Type 0
LeastIsWeight = (t : Weights) → ((least_weight t ≡ t.u) ⊎ (least_weight t ≡ t.v)) ⊎ (least_weight t ≡ t.w)

-- It is a NaN exactly where all three are.
abbrev pub LeastSkipsNan : Type 0
LeastSkipsNan = (t : Weights) → is_nan (least_weight t) ≡ (is_nan t.u && is_nan t.v && is_nan t.w)

-- The three weights in each of their five other orders have the same least.
pub record HasSameLeast (u v w : Float) : Type 0 where
  pub uwv : least_weight (weights u w v) ≡ least_weight (weights u v w)
  pub vuw : least_weight (weights v u w) ≡ least_weight (weights u v w)
  pub vwu : least_weight (weights v w u) ≡ least_weight (weights u v w)
  pub wuv : least_weight (weights w u v) ≡ least_weight (weights u v w)
  pub wvu : least_weight (weights w v u) ≡ least_weight (weights u v w)

-- So it is of any three doubles, zeros of both signs and NaNs among them.
abbrev pub LeastInAnyOrder : Type 0
LeastInAnyOrder = (u v w : Float) → fits binary64 u ≡ true → fits binary64 v ≡ true → fits binary64 w ≡ true → HasSameLeast u v w
