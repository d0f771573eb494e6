-- The whole answer of a conversion, by the tests that the code makes, and what a caller reads in it. Assumes nothing.
use Rattle.std.proofs.Common.{◌≡◌, ℕ, zero, suc, ◌+◌, ◌-◌, ◌*◌, ◌/◌, ◌%◌, ◌^◌, ◌<◌, ◌≤◌, Bool, true, false, ◌||◌, T, eqb, ◌⊎◌, ℤ, pos, negsuc, sym, refl, ap, ◌∙◌, subst, inl, inr, ⊎_elim, add-zero, zero-lt-suc, add-mul, mul-pos, div-add-mod', zero-mul, mul-one, div-le_self, mul_right_comm, arith, to_z-of_z, w64, to_z, of_z, eq-eqb, ne_eqb, leb-true}
use mathlib.Core.Bool.{beq, or-true, false≢true}
use native.Mathlib.Nat.{mod-one}
use lib.Signed.{le_z}
use lib.Ieee.{Float, nan, inf, fin, binary64, up, down, round, level, lt, le, eq, is_nan, of_int, to_signed, fits}
use lib.Ieee.Casts.{to_signed_in}
use lib.Ieee.Exact.{HasValue}
use lib.Ieee.Fits.{down_pos}
use lib.Ieee.Back.{round_whole}
use Rattle.binary64.specs.declared.Conversion.{Conversion}
use Rattle.binary64.specs.declared.Conversion.TheVariants.{Kept, Cut, Held, NotANumber}
use Rattle.binary64.specs.declared.Converted.{Converted}
use Rattle.binary64.specs.Integral.{negative, positive, round_to_integral}
use Rattle.binary64.specs.Convert.{to_i64, signed_whole, least_of_range, above_range, is_whole, conversion_of, converted_of}
use Rattle.binary64.proofs.Nan.{only_nan, same_number}
use Rattle.binary64.proofs.FloatOrder.{lt_left_number}
use Rattle.binary64.proofs.Integral.{significand_bound, integral_exact}
use Rattle.binary64.proofs.ConvertSteps.{held_high, held_low}
use Rattle.binary64.proofs.ConversionCases.{whole_part_of, case_only}

abbrev pub converted : ℤ → Conversion → Converted
converted whole how = record { whole = whole; how = how }

pub in_range : (x : Float) (z : ℤ) (how : Conversion) → z ≡ to_i64 x → how ≡ conversion_of x → converted z how ≡ converted_of x
unfolding converted_of
in_range x z how e f = λ i. converted (e i) (f i)

pub below_range : (x : Float) → lt x above_range ≡ true → le least_of_range x ≡ false → converted (negsuc (2 ^ 63 - 1)) Held ≡ converted_of x
unfolding converted_of conversion_of to_i64
below_range x above below = rw (lt_left_number x above_range above, above, below, ← held_low 63 x below above)

pub above_range_lem : (x : Float) → lt x above_range ≡ false → is_nan x ≡ false → converted (pos (2 ^ 63 - 1)) Held ≡ converted_of x
unfolding converted_of conversion_of to_i64
above_range_lem x above number = rw (number, above, ← held_high 63 x above (same_number x number))

pub no_number : (x : Float) → is_nan x ≡ true → converted (pos 0) NotANumber ≡ converted_of x
unfolding converted_of conversion_of to_i64 is_nan
no_number x h = rw (only_nan x h)

-- ---- in the range: nothing was cut off where the number, as a double again, equals the value
-- the whole part of a magnitude is a value of the format: rounding toward zero is exact
whole_part_exact : (s : Bool) (m : ℕ) (e : ℤ) → T (fits binary64 (fin s m e)) → HasValue (round binary64 s (m * up e / down e) 1) s (m * up e / down e) 1
unfolding round_to_integral
whole_part_exact false m e t = subst (λ (n : ℕ). HasValue (round binary64 false n 1) false n 1) (add-zero (m * up e / down e)) (integral_exact negative (fin false m e) false (m * up e) (down e) t (down_pos e) (refl, refl))
whole_part_exact true m e t = subst (λ (n : ℕ). HasValue (round binary64 true n 1) true n 1) (add-zero (m * up e / down e)) (integral_exact positive (fin true m e) true (m * up e) (down e) t (down_pos e) (refl, refl))

-- that value as a double has the value's sign, but for a zero, which is positive
again_exact : (s : Bool) (q : ℕ) → HasValue (round binary64 s q 1) s q 1 → (t : Bool) × HasValue (of_int binary64 (signed_whole s q)) t q 1 × ((t ≡ s) ⊎ (q ≡ 0))
unfolding of_int
again_exact false q v = (false, v, inl refl)
again_exact true zero v = (false, round_whole binary64 false 0 (omega arith), inr refl)
again_exact true (suc q) v = (true, v, inl refl)

same_sign : (s : Bool) (b : Bool) → (beq s s || b) ≡ true
same_sign true b = refl
same_sign false b = refl

-- it equals the value ±n / d where there is no remainder
module _ (u s : Bool) (k n d w : ℕ) (whole : k * 1 ≡ n / d * w) where
  left_is : k * d ≡ n / d * d * w
  left_is = ap (λ (z : ℕ). z * d) (sym (mul-one k) ∙ whole) ∙ mul_right_comm (n / d) w d

  right_is : n * w ≡ n / d * d * w + n % d * w
  right_is = ap (λ (z : ℕ). z * w) (sym (div-add-mod' n d)) ∙ add-mul (n / d * d) (n % d) w

  signs_agree : (u ≡ s) ⊎ (n / d ≡ 0) → (beq u s || eqb (k * d) 0) ≡ true
  signs_agree (inl same) = ap (λ (z : Bool). beq z s || eqb (k * d) 0) same ∙ same_sign s (eqb (k * d) 0)
  signs_agree (inr none) =
      let zero_left : k * d ≡ 0 = left_is ∙ ap (λ (z : ℕ). z * d * w) none ∙ (let z : 0 * d * w ≡ 0 = omega arith in z) in
      ap (λ (z : Bool). beq u s || z) (eq-eqb (k * d) 0 zero_left) ∙ or-true (beq u s)

  equal_by_remainder : 0 < w → (u ≡ s) ⊎ (n / d ≡ 0) → level u (k * d) s (n * w) ≡ eqb (n % d) 0
  equal_by_remainder W signs = go (n % d) refl
    where
      go : (r : ℕ) → n % d ≡ r → level u (k * d) s (n * w) ≡ eqb r 0
      go zero none =
          let none_right : n % d * w ≡ 0 = ap (λ (z : ℕ). z * w) none ∙ zero-mul w in
          rw (eq-eqb (k * d) (n * w) (let z : k * d ≡ n * w = omega (arith, left_is, right_is) in z)) (signs_agree signs)
      go (suc r) some =
          let more : n % d * w ≡ suc r * w = ap (λ (z : ℕ). z * w) some in
          rw (ne_eqb (k * d) (n * w) (λ same. omega (arith, left_is, right_is, mul-pos (zero-lt-suc r) W)), ne_eqb (suc r) 0 (λ z. omega arith)) refl

equal_again : (y : Float) (t s : Bool) (m : ℕ) (e : ℤ) → HasValue y t (m * up e / down e) 1 → ((t ≡ s) ⊎ (m * up e / down e ≡ 0)) → eq y (fin s m e) ≡ is_whole (fin s m e)
unfolding eq
equal_again (fin u k g) t s m e v signs = equal_by_remainder u s (k * up g) (m * up e) (down e) (down g) v.1 (down_pos g) (⊎_elim (λ same. inl (v.0 ∙ same)) (λ none. inr none) signs)
equal_again nan t s m e v signs = elim v [ ]
equal_again (inf _) t s m e v signs = elim v [ ]

kept_by_number : (x : Float) → T (fits binary64 x) → lt x above_range ≡ true → le least_of_range x ≡ true → eq (of_int binary64 (to_i64 x)) x ≡ is_whole x
kept_by_number nan t above least = absurd (unfold lt in false≢true above)
kept_by_number (inf true) t above least = absurd (unfold le in false≢true least)
kept_by_number (inf false) t above least = absurd (unfold lt in false≢true above)
kept_by_number (fin s m e) t above least =
    let again = again_exact s (m * up e / down e) (whole_part_exact s m e t) in
    rw (whole_part_of s m e above least) (equal_again _ again.0 s m e again.1 again.2)

-- from 2 ^ 53 on a value of the format has no fraction
large_whole : (s : Bool) (m : ℕ) (e : ℤ) → T (fits binary64 (fin s m e)) → 2 ^ 53 ≤ m * up e / down e → is_whole (fin s m e) ≡ true
large_whole s m (pos k) t l = eq-eqb (m * 2 ^ k % 1) 0 (mod-one (m * 2 ^ k))
large_whole s m (negsuc k) t l = absurd (let z : ⊥ = omega (arith, div-le_self (m * 1) (2 ^ suc k), (significand_bound binary64 s m (negsuc k) t).0) in z)

-- a number of 2 ^ 53 or more either way
abbrev Far : ℤ → Type 0
Far z = (le_z (pos (2 ^ 53)) z ≡ true) ⊎ (le_z z (negsuc (2 ^ 53 - 1)) ≡ true)

far_magnitude : (s : Bool) (q : ℕ) → Far (signed_whole s q) → 2 ^ 53 ≤ q
far_magnitude false q (inl h) = leb-true (2 ^ 53) q h
far_magnitude false q (inr h) = absurd (false≢true h)
far_magnitude true zero (inl h) = absurd (let l = leb-true (2 ^ 53) 0 h in let z : ⊥ = omega arith in z)
far_magnitude true (suc q) (inl h) = absurd (false≢true h)
far_magnitude true zero (inr h) = absurd (false≢true h)
far_magnitude true (suc q) (inr h) = let l = leb-true (2 ^ 53 - 1) q h in omega arith

kept_far : (x : Float) → T (fits binary64 x) → lt x above_range ≡ true → le least_of_range x ≡ true → Far (to_i64 x) → is_whole x ≡ true
kept_far nan t above least far = absurd (unfold lt in false≢true above)
kept_far (inf true) t above least far = absurd (unfold le in false≢true least)
kept_far (inf false) t above least far = absurd (unfold lt in false≢true above)
kept_far (fin s m e) t above least far = large_whole s m e t (far_magnitude s (m * up e / down e) (subst Far (whole_part_of s m e above least) far))

-- the case by these tests
module _ (x : Float) (t : T (fits binary64 x)) (above : lt x above_range ≡ true) (least : le least_of_range x ≡ true) where
  pub far_kept : Far (to_i64 x) → Kept ≡ conversion_of x
  far_kept far = case_only x Kept (least, above, kept_far x t above least far)

  pub same_kept : eq (of_int binary64 (to_i64 x)) x ≡ true → Kept ≡ conversion_of x
  same_kept e = case_only x Kept (least, above, sym (kept_by_number x t above least) ∙ e)

  pub other_cut : eq (of_int binary64 (to_i64 x)) x ≡ false → Cut ≡ conversion_of x
  other_cut e = case_only x Cut (least, above, sym (kept_by_number x t above least) ∙ e)

-- ---- what a caller reads in the answer: the case
pub how_of : (x : Float) (r : Converted) → r ≡ converted_of x → r.how ≡ conversion_of x
unfolding converted_of
how_of x r e = ap (λ (c : Converted). c.how) e

-- and the whole number, as it is handed on
pub whole_of : (x : Float) (r : Converted) → r ≡ converted_of x → to_z w64 (of_z w64 r.whole) ≡ to_i64 x
unfolding converted_of to_i64
whole_of x r e = ap (λ (c : Converted). to_z w64 (of_z w64 c.whole)) e ∙ to_z-of_z {w = w64} {z = to_signed 63 x} (record { sfits = to_signed_in 63 x })
