-- What lies between two finite values stays between what they become, as each rounding keeps the order: `between_mul` by a value that is not below zero, `between_add`, `between_div` by one above zero. Over any format. Assumes nothing.
use mathlib.Core.Bool.{false}
use lib.Dec.{T}
use lib.IntN.{pos}
use lib.Ieee.{Float, fin, Format, add, mul, div, le}
use lib.Ieee.Positive.{positive}
use lib.Ieee.Scale.{finite}
use Rattle.binary64.proofs.NotNan.{between_finite}
use Rattle.rounding.proofs.Monotone.{add_monotone, mul_monotone_finite, div_monotone}

pub record Between (low x high : Float) : Type 0 where
  pub low_finite : T (finite low)
  pub high_finite : T (finite high)
  pub not_below : T (le low x)
  pub not_above : T (le x high)

x_finite : {low x high : Float} → Between low x high → T (finite x)
x_finite {low} {x} {high} h = between_finite low x high h.low_finite h.high_finite h.not_below h.not_above

module _ (f : Format) {low x high : Float} (h : Between low x high) where
  pub between_mul : (y : Float) → T (finite y) → T (le (fin false 0 (pos 0)) y) → T (finite (mul f low y)) → T (finite (mul f high y)) → Between (mul f low y) (mul f x y) (mul f high y)
  between_mul y Y not_below_zero low_finite high_finite = record {
    low_finite = low_finite;
    high_finite = high_finite;
    not_below = mul_monotone_finite f low x y h.low_finite (x_finite h) Y not_below_zero h.not_below;
    not_above = mul_monotone_finite f x high y (x_finite h) h.high_finite Y not_below_zero h.not_above;
  }

  pub between_add : {low' y high' : Float} → Between low' y high' → T (finite (add f low low')) → T (finite (add f high high')) → Between (add f low low') (add f x y) (add f high high')
  between_add {low'} {y} {high'} k low_finite high_finite = record {
    low_finite = low_finite;
    high_finite = high_finite;
    not_below = add_monotone f low x low' y h.low_finite (x_finite h) k.low_finite (x_finite k) h.not_below k.not_below;
    not_above = add_monotone f x high y high' (x_finite h) h.high_finite (x_finite k) k.high_finite h.not_above k.not_above;
  }

  pub between_div : (y : Float) → T (positive y) → T (finite (div f low y)) → T (finite (div f high y)) → Between (div f low y) (div f x y) (div f high y)
  between_div y Y low_finite high_finite = record {
    low_finite = low_finite;
    high_finite = high_finite;
    not_below = div_monotone f low x y h.low_finite (x_finite h) Y h.not_below;
    not_above = div_monotone f x high y (x_finite h) h.high_finite Y h.not_above;
  }
