-- The whole part of a positive number below 2 ^ 53 is its digits, with the leading one, shifted by what the exponent's field says; below 1 they are shifted out. Assumes nothing.
use Rattle.std.proofs.Common.{◌≡◌, ℕ, ◌+◌, ◌-◌, ◌*◌, ◌/◌, ◌%◌, ◌^◌, ◌<◌, ◌≤◌, min, Bool, true, false, not, T, leb, pos, sym, refl, ap, ◌∙◌, subst, lt_of_lt_of_le, le_of_suc-le-suc, mod-lt, mod-eq_of_lt, div-lt_iff_lt-mul, add_comm, le-div_iff_mul-le, arith, lt→ltb, pow_pos, pow_mono, ltb-false, ltb-true, leb-false}
use mathlib.Core.Bool.{false≢true}
use native.Mathlib.Nat.{div-eq_of_lt}
use lib.Bits.{bit_and, bit_or, and_mask, or_shifted_r}
use lib.Ieee.{Float, nan, inf, fin, binary64, up, down, below, lt, fits, is_nan, of_bits, to_bits, nan_bits, to_unsigned}
use lib.Ieee.Fits.{down_pos}
use lib.Ieee.Bits.{of_bits-to_bits, nan_bits_is}
use Rattle.std.proofs.num.Truncating.{cut_down, below_one}
use Rattle.binary64.proofs.FloatOrder.{lt_right_number, lt_not_le, le_of_not_lt}
use Rattle.binary64.proofs.SignMagnitude.{lt_bits}

abbrev plus_zero : Float
plus_zero = fin false 0 (pos 0)

abbrev plus_one : Float
plus_one = fin false 1 (pos 0)

-- Below 2 ^ 53 a number is in the range of a truncation to a word.
truncation_asks : (x : Float) → T (lt plus_zero x) → lt x (fin false 1 (pos 53)) ≡ true → T (lt (fin true 1 (pos 0)) x) × T (lt x (fin false 1 (pos 64)))
unfolding lt
truncation_asks (inf false) h g = absurd (false≢true g)
truncation_asks (fin false m e) h g =
    let p = down_pos e in
    let l = ltb-true (m * up e * 1) (1 * 2 ^ 53 * down e) g in
    (lt→ltb 0 (1 * 1 * down e + m * up e * 1) (omega arith), lt→ltb (m * up e * 1) (1 * 2 ^ 64 * down e) (omega arith))
truncation_asks nan h g = elim h [ ]
truncation_asks (inf true) h g = elim h [ ]
truncation_asks (fin true m e) h g = elim h [ ]

-- by a mask and an or, as the kit's truncation has them
digits_masked : (b : ℕ) → bit_or (bit_and b (2 ^ 52 - 1)) (2 ^ 52) ≡ b % 2 ^ 52 + 2 ^ 52
digits_masked b = ap (λ (k : ℕ). bit_or k (2 ^ 52)) (and_mask b 52) ∙ or_shifted_r 1 52 (b % 2 ^ 52) (mod-lt b (pow_pos 52)) ∙ add_comm (2 ^ 52) (b % 2 ^ 52)

module _ (x : Float) (F : T (fits binary64 x)) (above : lt plus_zero x ≡ true) (under : lt x (fin false 1 (pos 53)) ≡ true) where
  abbrev b : ℕ
  b = to_bits binary64 x

  no_nan_pattern : nan_bits binary64 b ≡ false
  no_nan_pattern = nan_bits_is binary64 b ∙ ap is_nan (of_bits-to_bits binary64 x F) ∙ lt_right_number plus_zero x above

  sign_clear : leb (2 ^ 63) b ≡ false
  unfolding of_bits nan_bits
  sign_clear = go (leb (2 ^ 63) b) (sym (lt_bits binary64 0 b refl no_nan_pattern) ∙ ap (lt plus_zero) (of_bits-to_bits binary64 x F) ∙ above)
    where
      go : (s : Bool) → below false 0 s (b % 2 ^ 63) ≡ true → s ≡ false
      go true h = absurd (false≢true h)
      go false h = refl

  -- held against a number by its pattern
  lt_pattern : (y : ℕ) → nan_bits binary64 y ≡ false → lt x (of_bits binary64 y) ≡ below false b (leb (2 ^ 63) y) (y % 2 ^ 63)
  lt_pattern y h =
      ap (λ (z : Float). lt z (of_bits binary64 y)) (sym (of_bits-to_bits binary64 x F))
      ∙ lt_bits binary64 b y no_nan_pattern h
      ∙ (λ i. below (sign_clear i) (mod-eq_of_lt (leb-false (2 ^ 63) b sign_clear) i) (leb (2 ^ 63) y) (y % 2 ^ 63))

  -- 2 ^ 53 has the field 1076, and 1 has 1023
  pub field_small : b / 2 ^ 52 ≤ 1075
  unfolding of_bits nan_bits
  field_small = le_of_suc-le-suc ((div-lt_iff_lt-mul (pow_pos 52)).1 (ltb-true b (1076 * 2 ^ 52) (sym (lt_pattern (1076 * 2 ^ 52) refl) ∙ under)))

  field_below_one : lt x plus_one ≡ true → b / 2 ^ 52 < 1023
  unfolding of_bits nan_bits
  field_below_one h = (div-lt_iff_lt-mul (pow_pos 52)).1 (ltb-true b (1023 * 2 ^ 52) (sym (lt_pattern (1023 * 2 ^ 52) refl) ∙ h))

  field_from_one : lt x plus_one ≡ false → 1023 ≤ b / 2 ^ 52
  unfolding of_bits nan_bits
  field_from_one h = (le-div_iff_mul-le (pow_pos 52)).1 (ltb-false b (1023 * 2 ^ 52) (sym (lt_pattern (1023 * 2 ^ 52) refl) ∙ h))

  digits_few : b % 2 ^ 52 + 2 ^ 52 < 2 ^ 53
  digits_few = omega (arith, mod-lt b (pow_pos 52))

  -- below 1 no digit is left
  pub digits_shifted : (shift : ℕ) → shift ≡ min (1075 - b / 2 ^ 52) 63 → (b % 2 ^ 52 + 2 ^ 52) / 2 ^ shift ≡ to_unsigned 64 x
  unfolding is_nan
  digits_shifted shift s = go (lt x plus_one) refl
    where
      long : b / 2 ^ 52 < 1023 → 53 ≤ shift
      long h = omega arith

      exact : 1023 ≤ b / 2 ^ 52 → shift ≡ 1075 - b / 2 ^ 52
      exact h = omega arith

      go : (small : Bool) → lt x plus_one ≡ small → (b % 2 ^ 52 + 2 ^ 52) / 2 ^ shift ≡ to_unsigned 64 x
      go true h =
          div-eq_of_lt (lt_of_lt_of_le digits_few (pow_mono (long (field_below_one h))))
          ∙ below_one 64 x (subst (λ (t : Bool). T (not t)) (sym (lt_not_le x plus_one h)) tt)
      go false h =
          ap (λ (k : ℕ). (b % 2 ^ 52 + 2 ^ 52) / 2 ^ k) (exact (field_from_one h))
          ∙ ap (λ (k : ℕ). k / 2 ^ (1075 - b / 2 ^ 52)) (sym (digits_masked b))
          ∙ cut_down x F (subst T (sym (le_of_not_lt plus_one x refl (lt_right_number plus_zero x above) h)) tt) (truncation_asks x (subst T (sym above) tt) under).1 field_small
