-- A significand of at most p bits brought to the top bit of a word by the count of its leading zeros: the bits below it are 0. Assumes nothing.
use mathlib.Core.Path.{◌≡◌, sym, ap, ◌∙◌}
use Prim.Native.Nat.{ℕ, ◌+◌, ◌-◌, ◌*◌, ◌%◌, ◌^◌, ◌≤◌, ◌<◌}
use native.Mathlib.Nat.{le_of_eq, lt_of_lt_of_le, lt_of_le_of_lt, mul_assoc, mul-mod_left, mod-eq_of_lt, mul-lt-mul_of_pos_right}
use native.Mathlib.Omega.{arith}
use lib.Pow.{pow-add, pow_pos, pow_mono}
use lib.Count.{count_leading_zeros}
use Rattle.words.proofs.LeadingZeros.{TopShift, leading_zeros_top}
use Rattle.rounding.proofs.RoundSticky.{pow_lt_back}

module _ (p m : ℕ) (short : p ≤ 64) (some : 0 < m) (small : m < 2 ^ p) where
  pub significand_top : TopShift m (count_leading_zeros 64 m)
  significand_top = leading_zeros_top m some (lt_of_lt_of_le small (pow_mono short))

  pub zeros_ge : 64 - p ≤ count_leading_zeros 64 m
  zeros_ge =
      let z = count_leading_zeros 64 m in
      let a : 2 ^ 63 < 2 ^ (p + z) = lt_of_le_of_lt significand_top.top (lt_of_lt_of_le (mul-lt-mul_of_pos_right small (pow_pos z)) (le_of_eq (sym (pow-add 2 p z)))) in
      let b : 63 < p + z = pow_lt_back 63 (p + z) a in
      omega arith

  pub shifted_multiple : m * 2 ^ count_leading_zeros 64 m % 2 ^ 64 % 2 ^ (64 - p) ≡ 0
  shifted_multiple =
      let z = count_leading_zeros 64 m in
      let e : z ≡ z - (64 - p) + (64 - p) = let g = zeros_ge in omega arith in
      ap (λ (x : ℕ). x % 2 ^ (64 - p)) (mod-eq_of_lt significand_top.fits ∙ ap (λ (x : ℕ). m * x) (ap (λ (x : ℕ). 2 ^ x) e ∙ pow-add 2 (z - (64 - p)) (64 - p)) ∙ sym (mul_assoc m (2 ^ (z - (64 - p))) (2 ^ (64 - p))))
      ∙ mul-mod_left (m * 2 ^ (z - (64 - p))) (2 ^ (64 - p))

  -- the exponent makes up for the shift
  pub shifted_value : (e : ℕ) → m * 2 ^ count_leading_zeros 64 m % 2 ^ 64 * 2 ^ (e + 64 - count_leading_zeros 64 m) ≡ m * 2 ^ e * 2 ^ 64
  shifted_value e =
      let z = count_leading_zeros 64 m in
      let l = significand_top.short in
      let k : z + (e + 64 - z) ≡ e + 64 = omega arith in
      ap (λ (x : ℕ). x * 2 ^ (e + 64 - z)) (mod-eq_of_lt significand_top.fits) ∙ mul_assoc m (2 ^ z) (2 ^ (e + 64 - z))
      ∙ ap (λ (x : ℕ). m * x) (sym (pow-add 2 z (e + 64 - z)) ∙ ap (λ (x : ℕ). 2 ^ x) k ∙ pow-add 2 e 64) ∙ sym (mul_assoc m (2 ^ e) (2 ^ 64))
