-- minimum_number by its definition: what it is of two operands, that neither is below it, and what a zero's sign may change of it. Assumes nothing.
use Rattle.std.proofs.Common.{◌≡◌, Bool, true, false, cond, ◌&&◌, ◌||◌, ◌⊎◌, pos, sym, refl, ◌∙◌, inl, inr, true≢false}
use mathlib.Core.Bool.{false≢true}
use lib.Ieee.{Float, nan, inf, fin, lt, eq, is_nan}
use lib.Ieee.Bits.{is_true}
use Rattle.std.proofs.lemmas.Bool.{and_parts, or_cases, or_parts, false_from_ne_true}
use Rattle.std.proofs.lemmas.Float as float
use Rattle.std.proofs.lemmas.Float.{T_from_true}
use Rattle.binary64.specs.Minimum.{is_zero, below_or_negative_zero, minimum_number, SameButZeroSign}
use Rattle.binary64.proofs.FloatOrder.{lt_left_number, lt_irreflexive}
use Rattle.binary64.proofs.Zeros.{zero_number, zeros_equal, zeros_alike, same_above, same_nan, same_zero, same_symmetric, same_transitive}

-- What holds of the operand that each way of the definition gives holds of the minimum.
pub minimum_by : (P : Float → Type 0) (x y : Float)
    → (is_nan x ≡ true → P y) → (is_nan x ≡ false → below_or_negative_zero y x ≡ true → P y) → (is_nan x ≡ false → below_or_negative_zero y x ≡ false → P x)
    → P (minimum_number x y)
unfolding minimum_number
minimum_by P x y skipped second first = split (is_nan x) (below_or_negative_zero y x) refl refl
  where
    split : (a b : Bool) → is_nan x ≡ a → below_or_negative_zero y x ≡ b → P (cond a y (cond b y x))
    split true b e f = skipped e
    split false true e f = second e f
    split false false e f = first e f

pub minimum_operand : (x y : Float) → (minimum_number x y ≡ x) ⊎ (minimum_number x y ≡ y)
minimum_operand x y = minimum_by (λ (r : Float). (r ≡ x) ⊎ (r ≡ y)) x y (λ e. inr refl) (λ e f. inr refl) (λ e f. inl refl)

-- ---- each pair of zeros and NaN
-- −0 where either zero is, in either order.
pub minimum_of_zeros : (s t : Bool) → minimum_number (fin s 0 (pos 0)) (fin t 0 (pos 0)) ≡ fin (s || t) 0 (pos 0)
unfolding minimum_number below_or_negative_zero lt is_nan
minimum_of_zeros true true = refl
minimum_of_zeros true false = refl
minimum_of_zeros false true = refl
minimum_of_zeros false false = refl

-- The other operand, which may be a NaN too.
pub minimum_skips_nan : (x : Float) → (minimum_number x nan ≡ x) × (minimum_number nan x ≡ x)
unfolding minimum_number below_or_negative_zero lt is_nan
minimum_skips_nan nan = (refl, refl)
minimum_skips_nan (inf s) = (refl, refl)
minimum_skips_nan (fin s m e) = (refl, refl)

-- ---- what "less" says, for this operation
less_number : (y x : Float) → below_or_negative_zero y x ≡ true → is_nan y ≡ false
unfolding below_or_negative_zero
less_number y x h = elim (or_cases (lt y x) (is_zero true y && is_zero false x) h) [ inl l ↦ lt_left_number y x l | inr z ↦ zero_number true y (and_parts (is_zero true y) (is_zero false x) z).0 ]

not_less : (y x : Float) → below_or_negative_zero y x ≡ false → lt y x ≡ false
unfolding below_or_negative_zero
not_less y x h = (or_parts (lt y x) (is_zero true y && is_zero false x) h).0

-- What is not below x is not below y, where y is less than x.
less_below : (z y x : Float) → below_or_negative_zero y x ≡ true → lt z x ≡ false → lt z y ≡ false
unfolding below_or_negative_zero
less_below z y x h k =
    elim (or_cases (lt y x) (is_zero true y && is_zero false x) h) [
      | inl l ↦ false_from_ne_true (lt z y) (λ g. false≢true (sym k ∙ is_true _ (float.lt_trans z y x (T_from_true _ g) (T_from_true _ l))))
      | inr zeros ↦ let both = and_parts (is_zero true y) (is_zero false x) zeros in (zeros_alike true false y x z both.0 both.1).0 ∙ k
    ]

-- x is the minimum where it is a number and y neither equals it nor is below it: a NaN, or above it.
pub first_is_minimum : (x y : Float) → is_nan x ≡ false → eq x y ≡ false → lt y x ≡ false → x ≡ minimum_number x y
unfolding minimum_number below_or_negative_zero
first_is_minimum x y number apart above = rw (number, above) (decide (is_zero true y && is_zero false x) refl)
  where
    decide : (b : Bool) → (is_zero true y && is_zero false x) ≡ b → x ≡ cond b y x
    decide true zeros = let both = and_parts (is_zero true y) (is_zero false x) zeros in absurd (true≢false (sym (zeros_equal false true x y both.1 both.0) ∙ apart))
    decide false zeros = refl

-- ---- NaN is skipped
pub minimum_nan : (x y : Float) → is_nan (minimum_number x y) ≡ (is_nan x && is_nan y)
minimum_nan x y = minimum_by (λ (r : Float). is_nan r ≡ (is_nan x && is_nan y)) x y (λ e. rw e) (λ e f. rw (e, less_number y x f)) (λ e f. rw e)

-- ---- no operand is below the minimum
nan_not_below : (x y : Float) → is_nan x ≡ true → lt x y ≡ false
nan_not_below x y e = false_from_ne_true (lt x y) (λ h. true≢false (sym e ∙ lt_left_number x y h))

pub first_not_below : (x y : Float) → lt x (minimum_number x y) ≡ false
first_not_below x y = minimum_by (λ (r : Float). lt x r ≡ false) x y (λ e. nan_not_below x y e) (λ e f. less_below x y x f (lt_irreflexive x)) (λ e f. lt_irreflexive x)

pub second_not_below : (x y : Float) → lt y (minimum_number x y) ≡ false
second_not_below x y = minimum_by (λ (r : Float). lt y r ≡ false) x y (λ e. lt_irreflexive y) (λ e f. lt_irreflexive y) (λ e f. not_less y x f)

-- What is not below x is not below the minimum of x and y; a NaN x, which is skipped, says that of a NaN alone.
pub still_not_below : (z x y : Float) → (is_nan x ≡ true → is_nan z ≡ true) → lt z x ≡ false → lt z (minimum_number x y) ≡ false
still_not_below z x y nans h = minimum_by (λ (r : Float). lt z r ≡ false) x y (λ e. nan_not_below z y (nans e)) (λ e f. less_below z y x f h) (λ e f. h)

-- ---- minima that differ in the sign of a zero at most
-- An operand that differs so changes no more of the minimum.
pub minimum_same : (x x' y : Float) → SameButZeroSign x x' → SameButZeroSign (minimum_number x y) (minimum_number x' y)
unfolding minimum_number below_or_negative_zero
minimum_same x x' y h = go (is_nan x) (is_nan x') (lt y x) (lt y x') (is_zero true y && is_zero false x) (is_zero true y && is_zero false x') (same_nan x x' h) (same_above x x' y h) refl refl
  where
    zeros : (z : Float) → (is_zero true y && is_zero false z) ≡ true → (is_zero true y ≡ true) × (is_zero false z ≡ true)
    zeros z e = and_parts (is_zero true y) (is_zero false z) e

    go : (a a' b b' c c' : Bool) → a ≡ a' → b ≡ b' → (is_zero true y && is_zero false x) ≡ c → (is_zero true y && is_zero false x') ≡ c'
        → SameButZeroSign (cond a y (cond (b || c) y x)) (cond a' y (cond (b' || c') y x'))
    go true true b b' c c' p q e f = inl refl
    go false false true true c c' p q e f = inl refl
    go false false false false true true p q e f = inl refl
    go false false false false false false p q e f = h
    go false false false false true false p q e f = let other = same_zero false x x' h (zeros x e).1 in inr (true, other.0, (zeros x e).0, other.1)
    go false false false false false true p q e f = let other = same_zero false x' x (same_symmetric x x' h) (zeros x' f).1 in inr (other.0, true, other.1, (zeros x' f).0)
    go true false b b' c c' p q e f = absurd (true≢false p)
    go false true b b' c c' p q e f = absurd (false≢true p)
    go false false true false c c' p q e f = absurd (true≢false q)
    go false false false true c c' p q e f = absurd (false≢true q)

-- One that keeps the earlier of equals differs in the sign of a zero at most.
pub earlier_same : (x y : Float) → SameButZeroSign (minimum_number x y) (cond (is_nan x) y (cond (lt y x) y x))
unfolding minimum_number below_or_negative_zero
earlier_same x y = go (is_nan x) (lt y x) (is_zero true y && is_zero false x) refl
  where
    go : (a b c : Bool) → (is_zero true y && is_zero false x) ≡ c → SameButZeroSign (cond a y (cond (b || c) y x)) (cond a y (cond b y x))
    go true b c z = inl refl
    go false true c z = inl refl
    go false false false z = inl refl
    go false false true z = let both = and_parts (is_zero true y) (is_zero false x) z in inr (true, false, both.0, both.1)

-- So with two operations in turn, each of which differs from minimum_number in the sign of a zero at most.
pub minima_same : (first second : Float → Float → Float) → ((x y : Float) → SameButZeroSign (minimum_number x y) (first x y)) → ((x y : Float) → SameButZeroSign (minimum_number x y) (second x y))
    → (x y z : Float) → SameButZeroSign (minimum_number (minimum_number x y) z) (second (first x y) z)
minima_same first second f s x y z =
    same_transitive (minimum_number (minimum_number x y) z) (minimum_number (first x y) z) (second (first x y) z)
    (minimum_same (minimum_number x y) (first x y) z (f x y)) (s (first x y) z)
