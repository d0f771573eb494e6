-- Laws of the total order: it is one, it has the chain that follows from IEEE 754-2019, 5.10, it refines `lt`, and the rank says where a datum stands in it.
-- Sign and magnitude of an encoding decide throughout: a NaN's magnitude lies above the infinities', and grows as NaNs are ordered: by IEEE 754-2019, 5.10 d) 3) i) and ii), and by their payloads. Assumes nothing.
use Rattle.std.proofs.Common.{◌≡◌, ℕ, ◌+◌, ◌-◌, ◌%◌, ◌^◌, ◌<◌, ◌≤◌, Bool, true, false, cond, not, ◌||◌, T, ltb, leb, ◌⊎◌, sym, refl, ap, ◌∙◌, inl, inr, le_trans, le_of_eq, le_refl, le_of_lt, mod-lt, le_antisymm, not-le_of_lt, arith, lit<, lit≤, pow_pos, ltb-false, ltb-true, le-ltb, lt-ltb, le-leb, leb-false, leb-true}
use mathlib.Core.Bool.{beq}
use borrow.Author.Tests.{lt-leb}
use lib.Pow.{mod-mod-pow}
use lib.Ieee.{Float, nan, binary64, below, lt, le, fits, is_nan, of_bits, to_bits, nan_bits}
use lib.Ieee.Bits.{nan_bits_is, nan_bits_above, of_bits-to_bits, to_bits-lt}
use Rattle.std.specs.Ordering.{nat_cmp}
use Rattle.std.specs.Cmp.{nat_cmp_is}
use Rattle.std.proofs.lemmas.Bool.{cases_order}
use Rattle.std.specs.declared.cmp.Ordering.TheVariants.{Less, Equal, Greater}
use Rattle.binary64.specs.TotalOrder.{is_negative, payload, positive_nan_order, nan_order, number_order, total_order, total_ordering, StrictlyBelow, rank_of_bits, rank_of}
use Rattle.binary64.proofs.Tests.{Tested, tested, leb_alike}
use Rattle.binary64.proofs.FloatOrder.{lt_left_number, lt_right_number, lt_asymmetric, le_of_not_lt}
use Rattle.binary64.proofs.SignMagnitude.{infinity, lt_bits}

-- ---- the total order is that of signed magnitudes, with −0 below +0

signed_order : Bool → ℕ → Bool → ℕ → Bool
signed_order false p false q = leb p q
signed_order false p true q = false
signed_order true p false q = true
signed_order true p true q = leb q p

abbrev signed_order_of_bits : ℕ → ℕ → Bool
signed_order_of_bits x y = signed_order (is_negative x) (x % 2 ^ 63) (is_negative y) (y % 2 ^ 63)

-- Two data that are no NaN.
cond_same : (b v : Bool) → cond b v v ≡ v
cond_same true v = refl
cond_same false v = refl

by_tests : (a b : ℕ) → cond (ltb a b) true (cond (ltb b a) false true) ≡ leb a b
by_tests a b = go (tested a b)
  where
    go : Tested a b → cond (ltb a b) true (cond (ltb b a) false true) ≡ leb a b
    go (inl h) = rw (h.1, le-ltb b a h.0) (cond_same (ltb a b) true)
    go (inr h) = rw (h.1, le-ltb a b (le_of_lt h.0), lt-ltb b a h.0)

signed_order_below : (s : Bool) (p : ℕ) (t : Bool) (q : ℕ) → cond (below s p t q) true (cond (below t q s p) false (s || not t)) ≡ signed_order s p t q
unfolding signed_order
signed_order_below false p false q = by_tests p q
signed_order_below false p true q = cond_same (ltb 0 (q + p)) false
signed_order_below true p false q = cond_same (ltb 0 (p + q)) true
signed_order_below true p true q = by_tests q p

number_order_signed : (x y : ℕ) → nan_bits binary64 x ≡ false → nan_bits binary64 y ≡ false → number_order x y ≡ signed_order_of_bits x y
unfolding number_order
number_order_signed x y h k =
    rw (lt_bits binary64 x y h k, lt_bits binary64 y x k h) (signed_order_below (is_negative x) (x % 2 ^ 63) (is_negative y) (y % 2 ^ 63))

-- A NaN's magnitude lies above that of the infinities, every other one does not.
nan_magnitude : (b : ℕ) → nan_bits binary64 b ≡ true → infinity binary64 < b % 2 ^ 63
nan_magnitude b h = ltb-true (infinity binary64) (b % 2 ^ 63) (sym (nan_bits_above binary64 b) ∙ h)

number_magnitude : (b : ℕ) → nan_bits binary64 b ≡ false → b % 2 ^ 63 ≤ infinity binary64
number_magnitude b h = ltb-false (infinity binary64) (b % 2 ^ 63) (sym (nan_bits_above binary64 b) ∙ h)

-- Two NaNs. Being quiet and the payload are together the magnitude.
positive_nan_magnitudes : (p q : ℕ) → infinity binary64 < p → p < 2 ^ 63 → infinity binary64 < q → q < 2 ^ 63 → positive_nan_order p q ≡ leb p q
unfolding positive_nan_order
positive_nan_magnitudes p q a b c d = go (tested (2 ^ 51) (p % 2 ^ 52)) (tested (2 ^ 51) (q % 2 ^ 52))
  where
    go : Tested (2 ^ 51) (p % 2 ^ 52) → Tested (2 ^ 51) (q % 2 ^ 52) → positive_nan_order p q ≡ leb p q
    go (inl h) (inl k) = rw (h.1, k.1) (leb_alike p q (payload p) (payload q) (λ l. omega arith) (λ l. omega arith))
    go (inl h) (inr k) = rw (h.1, k.1) (sym (lt-leb p q (omega arith)))
    go (inr h) (inl k) = rw (h.1, k.1) (sym (le-leb p q (omega arith)))
    go (inr h) (inr k) = rw (h.1, k.1) (leb_alike p q (payload p) (payload q) (λ l. omega arith) (λ l. omega arith))

positive_nan_order_magnitudes : (x y : ℕ) → positive_nan_order x y ≡ positive_nan_order (x % 2 ^ 63) (y % 2 ^ 63)
unfolding positive_nan_order
positive_nan_order_magnitudes x y = rw (mod-mod-pow x 11 52, mod-mod-pow y 11 52, mod-mod-pow x 12 51, mod-mod-pow y 12 51)

positive_nan_order_lem : (x y : ℕ) → nan_bits binary64 x ≡ true → nan_bits binary64 y ≡ true → positive_nan_order x y ≡ leb (x % 2 ^ 63) (y % 2 ^ 63)
positive_nan_order_lem x y h k =
    positive_nan_order_magnitudes x y
    ∙ positive_nan_magnitudes (x % 2 ^ 63) (y % 2 ^ 63) (nan_magnitude x h) (mod-lt x (pow_pos 63)) (nan_magnitude y k) (mod-lt y (pow_pos 63))

signed_order_nans : (s : Bool) (p : ℕ) (t : Bool) (q : ℕ) → cond (beq s t) (cond s (leb q p) (leb p q)) s ≡ signed_order s p t q
unfolding signed_order
signed_order_nans false p false q = refl
signed_order_nans false p true q = refl
signed_order_nans true p false q = refl
signed_order_nans true p true q = refl

nan_order_signed : (x y : ℕ) → nan_bits binary64 x ≡ true → nan_bits binary64 y ≡ true → nan_order x y ≡ signed_order_of_bits x y
unfolding nan_order
nan_order_signed x y h k =
    rw (positive_nan_order_lem x y h k, positive_nan_order_lem y x k h) (signed_order_nans (is_negative x) (x % 2 ^ 63) (is_negative y) (y % 2 ^ 63))

-- A NaN and a number: the sign of the NaN, which has the greater magnitude, decides.
signed_order_greater : (s : Bool) (p : ℕ) (t : Bool) (q : ℕ) → q < p → s ≡ signed_order s p t q
unfolding signed_order
signed_order_greater false p false q h = sym (lt-leb p q h)
signed_order_greater false p true q h = refl
signed_order_greater true p false q h = refl
signed_order_greater true p true q h = sym (le-leb q p (le_of_lt h))

signed_order_less : (s : Bool) (p : ℕ) (t : Bool) (q : ℕ) → p < q → not t ≡ signed_order s p t q
unfolding signed_order
signed_order_less false p false q h = sym (le-leb p q (le_of_lt h))
signed_order_less false p true q h = refl
signed_order_less true p false q h = refl
signed_order_less true p true q h = sym (lt-leb q p h)

total_order_signed : (x y : ℕ) → total_order x y ≡ signed_order_of_bits x y
unfolding total_order
total_order_signed x y = go (nan_bits binary64 x) (nan_bits binary64 y) refl refl
  where
    go : (a b : Bool) → nan_bits binary64 x ≡ a → nan_bits binary64 y ≡ b → total_order x y ≡ signed_order_of_bits x y
    go true true h k = rw (h, k) (nan_order_signed x y h k)
    go true false h k = rw (h, k) (signed_order_greater (is_negative x) (x % 2 ^ 63) (is_negative y) (y % 2 ^ 63) (omega (arith, nan_magnitude x h, number_magnitude y k)))
    go false true h k = rw (h, k) (signed_order_less (is_negative x) (x % 2 ^ 63) (is_negative y) (y % 2 ^ 63) (omega (arith, number_magnitude x h, nan_magnitude y k)))
    go false false h k = rw (h, k) (number_order_signed x y h k)

-- ---- the rank

-- The two halves of the rank's definition: negative data come first, the greatest magnitude first among them.
pub rank_negative : (b : ℕ) → 2 ^ 63 ≤ b → rank_of_bits b ≡ 2 ^ 64 - 1 - b
unfolding rank_of_bits
rank_negative b h = rw (le-leb (2 ^ 63) b h)

pub rank_positive : (b : ℕ) → b < 2 ^ 63 → rank_of_bits b ≡ 2 ^ 63 + b
unfolding rank_of_bits
rank_positive b h = rw (lt-leb (2 ^ 63) b h)

rank_order_signed : (x y : ℕ) → x < 2 ^ 64 → y < 2 ^ 64 → leb (rank_of_bits x) (rank_of_bits y) ≡ signed_order_of_bits x y
unfolding signed_order
rank_order_signed x y a b = go (tested (2 ^ 63) x) (tested (2 ^ 63) y)
  where
    go : Tested (2 ^ 63) x → Tested (2 ^ 63) y → leb (rank_of_bits x) (rank_of_bits y) ≡ signed_order_of_bits x y
    go (inl h) (inl k) = rw (rank_negative x h.0, rank_negative y k.0, h.1, k.1) (leb_alike (y % 2 ^ 63) (x % 2 ^ 63) (2 ^ 64 - 1 - x) (2 ^ 64 - 1 - y) (λ l. omega arith) (λ l. omega arith))
    go (inl h) (inr k) = rw (rank_negative x h.0, rank_positive y k.0, h.1, k.1) (le-leb (2 ^ 64 - 1 - x) (2 ^ 63 + y) (omega arith))
    go (inr h) (inl k) = rw (rank_positive x h.0, rank_negative y k.0, h.1, k.1) (lt-leb (2 ^ 63 + x) (2 ^ 64 - 1 - y) (omega arith))
    go (inr h) (inr k) = rw (rank_positive x h.0, rank_positive y k.0, h.1, k.1) (leb_alike (x % 2 ^ 63) (y % 2 ^ 63) (2 ^ 63 + x) (2 ^ 63 + y) (λ l. omega arith) (λ l. omega arith))

-- The order is that of the ranks.
pub total_order_rank : (x y : ℕ) → x < 2 ^ 64 → y < 2 ^ 64 → total_order x y ≡ leb (rank_of_bits x) (rank_of_bits y)
total_order_rank x y a b = total_order_signed x y ∙ sym (rank_order_signed x y a b)

-- The rank is a bijection of the 2 ^ 64 encodings, so it is the number of encodings that stand below.
pub rank_below : (b : ℕ) → b < 2 ^ 64 → rank_of_bits b < 2 ^ 64
rank_below b a = go (tested (2 ^ 63) b)
  where
    go : Tested (2 ^ 63) b → rank_of_bits b < 2 ^ 64
    go (inl h) = rw (rank_negative b h.0) (omega arith)
    go (inr h) = rw (rank_positive b h.0) (omega arith)

pub rank_injective : (x y : ℕ) → x < 2 ^ 64 → y < 2 ^ 64 → rank_of_bits x ≡ rank_of_bits y → x ≡ y
rank_injective x y a b e = go (tested (2 ^ 63) x) (tested (2 ^ 63) y)
  where
    go : Tested (2 ^ 63) x → Tested (2 ^ 63) y → x ≡ y
    go (inl h) (inl k) = omega (arith, rank_negative x h.0, rank_negative y k.0)
    go (inl h) (inr k) = omega (arith, rank_negative x h.0, rank_positive y k.0)
    go (inr h) (inl k) = omega (arith, rank_positive x h.0, rank_negative y k.0)
    go (inr h) (inr k) = omega (arith, rank_positive x h.0, rank_positive y k.0)

pub rank_onto : (r : ℕ) → r < 2 ^ 64 → (b : ℕ) × (b < 2 ^ 64) × (rank_of_bits b ≡ r)
rank_onto r a = go (tested (2 ^ 63) r)
  where
    go : Tested (2 ^ 63) r → (b : ℕ) × (b < 2 ^ 64) × (rank_of_bits b ≡ r)
    go (inl h) = (r - 2 ^ 63, omega arith, rank_positive (r - 2 ^ 63) (omega arith) ∙ omega arith)
    go (inr h) = (2 ^ 64 - 1 - r, omega arith, rank_negative (2 ^ 64 - 1 - r) (omega arith) ∙ omega arith)

-- ---- it is a total order

module _ (x y : ℕ) (x_Fits : x < 2 ^ 64) (y-fits : y < 2 ^ 64) where
  rank_le : total_order x y ≡ true → rank_of_bits x ≤ rank_of_bits y
  rank_le h = leb-true (rank_of_bits x) (rank_of_bits y) (sym (total_order_rank x y x_Fits y-fits) ∙ h)

  ordered : rank_of_bits x ≤ rank_of_bits y → total_order x y ≡ true
  ordered h = total_order_rank x y x_Fits y-fits ∙ le-leb (rank_of_bits x) (rank_of_bits y) h

  not_ordered : rank_of_bits y < rank_of_bits x → total_order x y ≡ false
  not_ordered h = total_order_rank x y x_Fits y-fits ∙ lt-leb (rank_of_bits x) (rank_of_bits y) h

-- It is reflexive, total, antisymmetric and transitive on the encodings, which are the numbers below 2 ^ 64.
pub total_order_reflexive : (x : ℕ) → x < 2 ^ 64 → total_order x x ≡ true
total_order_reflexive x a = ordered x x a a (le_refl (rank_of_bits x))

pub total_order_total : (x y : ℕ) → x < 2 ^ 64 → y < 2 ^ 64 → (total_order x y ≡ true) ⊎ (total_order y x ≡ true)
total_order_total x y a b = go (tested (rank_of_bits x) (rank_of_bits y))
  where
    go : Tested (rank_of_bits x) (rank_of_bits y) → (total_order x y ≡ true) ⊎ (total_order y x ≡ true)
    go (inl h) = inl (ordered x y a b h.0)
    go (inr h) = inr (ordered y x b a (le_of_lt h.0))

pub total_order_antisymmetric : (x y : ℕ) → x < 2 ^ 64 → y < 2 ^ 64 → total_order x y ≡ true → total_order y x ≡ true → x ≡ y
total_order_antisymmetric x y a b h k = rank_injective x y a b (le_antisymm (rank_le x y a b h) (rank_le y x b a k))

pub total_order_transitive : (x y z : ℕ) → x < 2 ^ 64 → y < 2 ^ 64 → z < 2 ^ 64 → total_order x y ≡ true → total_order y z ≡ true → total_order x z ≡ true
total_order_transitive x y z a b c h k = ordered x z a c (le_trans (rank_le x y a b h) (rank_le y z b c k))

-- ---- the answer by cases, by the ranks

-- The ranks are ordered as their data are.
pub total_ordering_by_rank : (x y : ℕ) → x < 2 ^ 64 → y < 2 ^ 64 → total_ordering x y ≡ nat_cmp (rank_of_bits x) (rank_of_bits y)
unfolding total_ordering
total_ordering_by_rank x y a b = go (cases_order (rank_of_bits x) (rank_of_bits y))
  where
    go : (rank_of_bits x ≡ rank_of_bits y) ⊎ ((rank_of_bits x < rank_of_bits y) ⊎ (rank_of_bits y < rank_of_bits x)) → total_ordering x y ≡ nat_cmp (rank_of_bits x) (rank_of_bits y)
    go (inl e) = rw (ordered x y a b (le_of_eq e), ordered y x b a (le_of_eq (sym e))) (nat_cmp_is _ _ Equal e)
    go (inr (inl h)) = rw (ordered x y a b (le_of_lt h), not_ordered y x b a h) (nat_cmp_is _ _ Less h)
    go (inr (inr h)) = rw (not_ordered x y a b h) (nat_cmp_is _ _ Greater h)

-- ---- strictly below

pub strictly_below_of_rank : (x y : ℕ) → x < 2 ^ 64 → y < 2 ^ 64 → rank_of_bits x < rank_of_bits y → StrictlyBelow x y
strictly_below_of_rank x y a b h = (ordered x y a b (le_of_lt h), not_ordered y x b a h)

pub rank_of_strictly_below : (x y : ℕ) → x < 2 ^ 64 → y < 2 ^ 64 → StrictlyBelow x y → rank_of_bits x < rank_of_bits y
rank_of_strictly_below x y a b h = leb-false (rank_of_bits y) (rank_of_bits x) (sym (total_order_rank y x b a) ∙ h.1)

-- IEEE 754-2019, 5.10: −NaN < −∞ < −0 < +0 < +∞ < +NaN, for every NaN encoding.
pub negative_nan_below_infinity : (x : ℕ) → x < 2 ^ 64 → nan_bits binary64 x ≡ true → is_negative x ≡ true → StrictlyBelow x 0xfff0_0000_0000_0000
negative_nan_below_infinity x a h s =
    let l : 2 ^ 63 ≤ x = leb-true (2 ^ 63) x s in
    strictly_below_of_rank x 0xfff0_0000_0000_0000 a (lit< tt)
    (rw (rank_negative x l, rank_negative 0xfff0_0000_0000_0000 (lit≤ tt)) (omega (arith, nan_magnitude x h)))

pub negative_infinity_below_zero : StrictlyBelow 0xfff0_0000_0000_0000 0x8000_0000_0000_0000
unfolding total_order
negative_infinity_below_zero = (refl, refl)

pub negative_zero_below_positive_zero : StrictlyBelow 0x8000_0000_0000_0000 0
unfolding total_order
negative_zero_below_positive_zero = (refl, refl)

pub positive_zero_below_infinity : StrictlyBelow 0 0x7ff0_0000_0000_0000
unfolding total_order
positive_zero_below_infinity = (refl, refl)

pub positive_infinity_below_nan : (x : ℕ) → x < 2 ^ 64 → nan_bits binary64 x ≡ true → is_negative x ≡ false → StrictlyBelow 0x7ff0_0000_0000_0000 x
positive_infinity_below_nan x a h s =
    let l : x < 2 ^ 63 = leb-false (2 ^ 63) x s in
    strictly_below_of_rank 0x7ff0_0000_0000_0000 x (lit< tt) a
    (rw (rank_positive x l, rank_positive 0x7ff0_0000_0000_0000 (lit< tt)) (omega (arith, nan_magnitude x h)))

-- ---- it refines `lt`

-- `lt` is false where a NaN stands, so it speaks of numbers only.
pub total_order_refines_lt : (x y : ℕ) → lt (of_bits binary64 x) (of_bits binary64 y) ≡ true → StrictlyBelow x y
unfolding total_order
total_order_refines_lt x y h =
    let x-number : nan_bits binary64 x ≡ false = nan_bits_is binary64 x ∙ lt_left_number (of_bits binary64 x) (of_bits binary64 y) h in
    let y-number : nan_bits binary64 y ≡ false = nan_bits_is binary64 y ∙ lt_right_number (of_bits binary64 x) (of_bits binary64 y) h in
    (rw (x-number, y-number, h), rw (x-number, y-number, lt_asymmetric (of_bits binary64 x) (of_bits binary64 y) h, h))

-- ---- the rank of a double

-- A NaN counts as the quiet one with a positive sign and no payload.
pub rank_of_nan : rank_of nan ≡ rank_of_bits 0x7ff8_0000_0000_0000
unfolding rank_of
rank_of_nan = refl

-- Of two doubles the lesser has the lesser rank.
pub rank_of_lt : (x y : Float) → T (fits binary64 x) → T (fits binary64 y) → lt x y ≡ true → rank_of x < rank_of y
unfolding rank_of
rank_of_lt x y a b h =
    rank_of_strictly_below (to_bits binary64 x) (to_bits binary64 y) (to_bits-lt binary64 x a) (to_bits-lt binary64 y b)
    (total_order_refines_lt (to_bits binary64 x) (to_bits binary64 y) (rw (of_bits-to_bits binary64 x a, of_bits-to_bits binary64 y b) h))

-- The converse for numbers gives `le` and not `lt`: −0 has a lesser rank than +0 and is equal to it.
pub le_of_rank : (x y : Float) → T (fits binary64 x) → T (fits binary64 y) → is_nan x ≡ false → is_nan y ≡ false → rank_of x ≤ rank_of y → le x y ≡ true
le_of_rank x y a b nx ny h = le_of_not_lt x y nx ny (go (lt y x) refl)
  where
    go : (t : Bool) → lt y x ≡ t → lt y x ≡ false
    go true e = absurd (not-le_of_lt (rank_of_lt y x b a e) h)
    go false e = e

-- Doubles of the same rank are the same, with the same sign.
pub rank_of_injective : (x y : Float) → T (fits binary64 x) → T (fits binary64 y) → rank_of x ≡ rank_of y → x ≡ y
unfolding rank_of
rank_of_injective x y a b h =
    sym (of_bits-to_bits binary64 x a)
    ∙ ap (of_bits binary64) (rank_injective (to_bits binary64 x) (to_bits binary64 y) (to_bits-lt binary64 x a) (to_bits-lt binary64 y b) h)
    ∙ of_bits-to_bits binary64 y b
