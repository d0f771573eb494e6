-- minimum_number by the total order: its rank is the lesser of its operands' ranks, so that neither order nor grouping matters (`minimum_rank`, `minimum_commutes`, `minimum_associates`).
-- Of two numbers the lesser has the lesser rank, −0 a lesser one than +0, and every number a lesser one than NaN. Assumes nothing.
use Rattle.std.proofs.Common.{◌≡◌, ℕ, ◌+◌, ◌-◌, ◌*◌, ◌/◌, ◌^◌, ◌<◌, ◌≤◌, min, Bool, true, false, cond, ◌&&◌, ◌||◌, T, eqb, ◌⊎◌, ℤ, pos, sym, refl, ap, ◌∙◌, subst, inl, inr, le_of_lt, lt_irrefl, mul_right_comm, not-le_of_lt, arith, lit<, eqb-true}
use mathlib.Core.Bool.{false≢true}
use native.Mathlib.Nat.{min_comm, min-eq_left, min-eq_right, eq_of_mul-eq-mul_right}
use lib.Ieee.{Float, nan, inf, fin, binary64, up, down, size, prec, hid, top, lt, le, eq, is_nan, fits, to_bits, nan_bits}
use lib.Ieee.Bits.{of_bits-to_bits, to_bits-lt, nan_bits_is}
use lib.Ieee.Fits.{up_pos, down_pos}
use lib.Ieee.Nearest.{div_same}
use Rattle.std.proofs.lemmas.Bool.{and_parts}
use Rattle.binary64.specs.TotalOrder.{total_order, rank_of_bits, rank_of}
use Rattle.binary64.specs.Minimum.{is_zero, below_or_negative_zero, minimum_number}
use Rattle.binary64.proofs.Nan.{only_nan}
use Rattle.binary64.proofs.Tests.{Tested, tested}
use Rattle.binary64.proofs.TotalOrder.{rank_of_strictly_below, rank_of_lt, le_of_rank, rank_of_injective}
use Rattle.binary64.proofs.Zeros.{zero_is}
use Rattle.binary64.proofs.Minimum.{minimum_by}

-- ---- equal numbers: the same encoding, or zeros of two signs
-- Fractions that are equal, of one sign, have the same encoding.
same_encoding : (s : Bool) (m : ℕ) (e : ℤ) (n : ℕ) (d : ℤ) → m * up e * down d ≡ n * up d * down e → to_bits binary64 (fin s m e) ≡ to_bits binary64 (fin s n d)
unfolding to_bits
same_encoding s m e n d h =
    ap (λ (q : ℕ). let k = size q - prec binary64 in cond s (top binary64) 0 + k * hid binary64 + q / 2 ^ k)
    (div_same (m * up e * 2 ^ 1074) (down e) (n * up d * 2 ^ 1074) (down d) (down_pos e) (down_pos d)
    (mul_right_comm (m * up e) (2 ^ 1074) (down d) ∙ ap (λ (z : ℕ). z * 2 ^ 1074) h ∙ mul_right_comm (n * up d) (down e) (2 ^ 1074)))

both_zero : (m : ℕ) (e : ℤ) (n : ℕ) (d : ℤ) → (eqb (m * up e * down d) (n * up d * down e) ≡ true) × (eqb (m * up e * down d) 0 ≡ true) → (eqb m 0 && eqb n 0) ≡ true
both_zero m e n d h =
    let first : m * up e * down d ≡ 0 = eqb-true (m * up e * down d) 0 h.1 in
    let second : n * up d * down e ≡ 0 = sym (eqb-true (m * up e * down d) (n * up d * down e) h.0) ∙ first in
    rw (no_digits m (up e) (down d) (up_pos e) (down_pos d) first, no_digits n (up d) (down e) (up_pos d) (down_pos e) second) refl
  where
    no_digits : (k a b : ℕ) → 0 < a → 0 < b → k * a * b ≡ 0 → k ≡ 0
    no_digits k a b p q h = eq_of_mul-eq-mul_right a p k 0 (omega (arith, eq_of_mul-eq-mul_right b q (k * a) 0 (omega arith)))

-- −0 and +0
abbrev ZerosApart : Float → Float → Type 0
ZerosApart y x = (is_zero true y && is_zero false x) ≡ true

equal_cases : (y x : Float) → eq y x ≡ true → (to_bits binary64 y ≡ to_bits binary64 x) ⊎ (ZerosApart y x ⊎ ZerosApart x y)
unfolding eq
equal_cases nan x h = absurd (false≢true h)
equal_cases (inf s) nan h = absurd (false≢true h)
equal_cases (inf true) (inf true) h = inl refl
equal_cases (inf true) (inf false) h = absurd (false≢true h)
equal_cases (inf false) (inf true) h = absurd (false≢true h)
equal_cases (inf false) (inf false) h = inl refl
equal_cases (inf s) (fin t n d) h = absurd (false≢true h)
equal_cases (fin s m e) nan h = absurd (false≢true h)
equal_cases (fin s m e) (inf t) h = absurd (false≢true h)
equal_cases (fin true m e) (fin true n d) h = inl (same_encoding true m e n d (eqb-true (m * up e * down d) (n * up d * down e) (and_parts _ _ h).0))
equal_cases (fin false m e) (fin false n d) h = inl (same_encoding false m e n d (eqb-true (m * up e * down d) (n * up d * down e) (and_parts _ _ h).0))
equal_cases (fin true m e) (fin false n d) h = inr (inl (both_zero m e n d (and_parts _ _ h)))
equal_cases (fin false m e) (fin true n d) h = inr (inr (swapped (eqb m 0) (eqb n 0) (both_zero m e n d (and_parts _ _ h))))
  where
    swapped : (p q : Bool) → (p && q) ≡ true → (q && p) ≡ true
    swapped p q e = let both = and_parts p q e in rw (both.0, both.1) refl

same_rank : (y x : Float) → to_bits binary64 y ≡ to_bits binary64 x → rank_of y ≡ rank_of x
unfolding rank_of
same_rank y x e = ap rank_of_bits e

-- ---- −0 before +0, and NaN last
negative_zero_first : rank_of (fin true 0 (pos 0)) < rank_of (fin false 0 (pos 0))
unfolding rank_of
negative_zero_first = lit< tt

zeros_ranked : (y x : Float) → T (fits binary64 y) → T (fits binary64 x) → ZerosApart y x → rank_of y < rank_of x
zeros_ranked y x fy fx h = let both = and_parts (is_zero true y) (is_zero false x) h in rw (zero_is true y fy both.0, zero_is false x fx both.1) negative_zero_first

nan_last : (x : Float) → T (fits binary64 x) → is_nan x ≡ false → rank_of x < rank_of nan
unfolding rank_of total_order is_nan
nan_last x fx h =
    let number : nan_bits binary64 (to_bits binary64 x) ≡ false = nan_bits_is binary64 (to_bits binary64 x) ∙ ap is_nan (of_bits-to_bits binary64 x fx) ∙ h in
    rank_of_strictly_below (to_bits binary64 x) (to_bits binary64 nan) (to_bits-lt binary64 x fx) (lit< tt) (rw number refl, rw number refl)

-- ---- the minimum of two doubles by their ranks
module _ (x y : Float) (fx : T (fits binary64 x)) (fy : T (fits binary64 y)) where
  less_by_rank : is_nan x ≡ false → is_nan y ≡ false → rank_of y < rank_of x → below_or_negative_zero y x ≡ true
  unfolding below_or_negative_zero le
  less_by_rank nx ny h = go (lt y x) (eq y x) refl refl (le_of_rank y x fy fx ny nx (le_of_lt h))
    where
      from_equal : (to_bits binary64 y ≡ to_bits binary64 x) ⊎ (ZerosApart y x ⊎ ZerosApart x y) → ZerosApart y x
      from_equal (inl e) = absurd (lt_irrefl (rank_of x) (subst (λ (k : ℕ). k < rank_of x) (same_rank y x e) h))
      from_equal (inr (inl z)) = z
      from_equal (inr (inr z)) = absurd (not-le_of_lt (zeros_ranked x y fx fy z) (le_of_lt h))

      go : (a b : Bool) → lt y x ≡ a → eq y x ≡ b → (a || b) ≡ true → (lt y x || (is_zero true y && is_zero false x)) ≡ true
      go true b e f k = rw e refl
      go false true e f k = rw (e, from_equal (equal_cases y x f)) refl
      go false false e f k = absurd (false≢true k)

  not_less_by_rank : rank_of x ≤ rank_of y → below_or_negative_zero y x ≡ false
  unfolding below_or_negative_zero
  not_less_by_rank h = go (lt y x) (is_zero true y && is_zero false x) refl refl
    where
      go : (a b : Bool) → lt y x ≡ a → (is_zero true y && is_zero false x) ≡ b → (lt y x || (is_zero true y && is_zero false x)) ≡ false
      go true b e f = absurd (not-le_of_lt (rank_of_lt y x fy fx e) h)
      go false true e f = absurd (not-le_of_lt (zeros_ranked y x fy fx f) h)
      go false false e f = rw (e, f) refl

  pub second_by_rank : rank_of y < rank_of x → y ≡ minimum_number x y
  unfolding minimum_number
  second_by_rank h = go (is_nan x) (is_nan y) refl refl
    where
      go : (a b : Bool) → is_nan x ≡ a → is_nan y ≡ b → y ≡ cond a y (cond (below_or_negative_zero y x) y x)
      go true b e f = refl
      go false true e f = absurd (not-le_of_lt (nan_last x fx e) (le_of_lt (subst (λ (z : Float). rank_of z < rank_of x) (only_nan y f) h)))
      go false false e f = rw (less_by_rank e f h) refl

  pub first_by_rank : rank_of x ≤ rank_of y → x ≡ minimum_number x y
  unfolding minimum_number
  first_by_rank h = go (is_nan x) (is_nan y) refl refl
    where
      go : (a b : Bool) → is_nan x ≡ a → is_nan y ≡ b → x ≡ cond a y (cond (below_or_negative_zero y x) y x)
      go true true e f = only_nan x e ∙ sym (only_nan y f)
      go true false e f = absurd (not-le_of_lt (nan_last y fy f) (subst (λ (z : Float). rank_of z ≤ rank_of y) (only_nan x e) h))
      go false b e f = rw (not_less_by_rank h) refl

  pub minimum_rank : rank_of (minimum_number x y) ≡ min (rank_of x) (rank_of y)
  minimum_rank = go (tested (rank_of x) (rank_of y))
    where
      go : Tested (rank_of x) (rank_of y) → rank_of (minimum_number x y) ≡ min (rank_of x) (rank_of y)
      go (inl h) = ap rank_of (sym (first_by_rank h.0)) ∙ sym (min-eq_left h.0)
      go (inr l) = ap rank_of (sym (second_by_rank l.0)) ∙ sym (min-eq_right (le_of_lt l.0))

  pub minimum_fits : T (fits binary64 (minimum_number x y))
  minimum_fits = minimum_by (λ (r : Float). T (fits binary64 r)) x y (λ e. fy) (λ e f. fy) (λ e f. fx)

-- ---- "whichever comes first" (W-201)
pub minimum_commutes : (x y : Float) → T (fits binary64 x) → T (fits binary64 y) → minimum_number x y ≡ minimum_number y x
minimum_commutes x y fx fy =
    rank_of_injective (minimum_number x y) (minimum_number y x) (minimum_fits x y fx fy) (minimum_fits y x fy fx)
    (minimum_rank x y fx fy ∙ min_comm (rank_of x) (rank_of y) ∙ sym (minimum_rank y x fy fx))

pub minimum_associates : (x y z : Float) → T (fits binary64 x) → T (fits binary64 y) → T (fits binary64 z) → minimum_number (minimum_number x y) z ≡ minimum_number x (minimum_number y z)
minimum_associates x y z fx fy fz =
    let front = minimum_fits x y fx fy in
    let back = minimum_fits y z fy fz in
    rank_of_injective (minimum_number (minimum_number x y) z) (minimum_number x (minimum_number y z)) (minimum_fits (minimum_number x y) z front fz) (minimum_fits x (minimum_number y z) fx back)
    (minimum_rank (minimum_number x y) z front fz ∙ ap (λ (r : ℕ). min r (rank_of z)) (minimum_rank x y fx fy) ∙ (let grouped : min (min (rank_of x) (rank_of y)) (rank_of z) ≡ min (rank_of x) (min (rank_of y) (rank_of z)) = omega arith in grouped)
    ∙ sym (minimum_rank x (minimum_number y z) fx back ∙ ap (min (rank_of x)) (minimum_rank y z fy fz)))
