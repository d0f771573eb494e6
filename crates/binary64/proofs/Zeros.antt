-- Zeros of both signs: which doubles they are, and that no comparison tells them apart. Assumes nothing.
use Rattle.std.proofs.Common.{◌≡◌, ℕ, ◌*◌, Bool, true, false, T, eqb, pos, sym, refl, ap, ◌∙◌, subst, inl, inr, zero-mul, eqb-true}
use mathlib.Core.Bool.{beq, or-true, false≢true}
use lib.Ieee.{Float, nan, inf, fin, binary64, up, down, lt, le, eq, is_nan, fits}
use lib.Ieee.Back.{whole_unique}
use lib.Ieee.Bits.{is_true}
use Rattle.std.specs.Cmp.{booleans_Decides}
use Rattle.std.proofs.lemmas.Bool.{and_parts}
use Rattle.std.proofs.lemmas.Float.{T_from_true, lt_of_lt_of_le, lt_of_le_of_lt}
use Rattle.binary64.specs.Minimum.{is_zero, SameButZeroSign}

-- The format has one zero of each sign.
pub zero_is : (s : Bool) (x : Float) → T (fits binary64 x) → is_zero s x ≡ true → x ≡ fin s 0 (pos 0)
zero_is s nan fx h = absurd (false≢true h)
zero_is s (inf t) fx h = absurd (false≢true h)
zero_is s (fin t m e) fx h =
    let both = and_parts (beq s t) (eqb m 0) h in
    let none : m ≡ 0 = eqb-true m 0 both.1 in
    whole_unique binary64 (fin t m e) (fin s 0 (pos 0)) s 0 fx (unfold fits in tt) (sym ((booleans_Decides s t).0 both.0), ap (λ (k : ℕ). k * up e * 1) none ∙ ap (λ (k : ℕ). k * 1) (zero-mul (up e)) ∙ sym (zero-mul (down e))) (refl, refl)

pub zero_number : (s : Bool) (x : Float) → is_zero s x ≡ true → is_nan x ≡ false
unfolding is_nan
zero_number s nan h = absurd (false≢true h)
zero_number s (inf t) h = refl
zero_number s (fin t m e) h = refl

-- ---- zeros are equal
pub zeros_equal : (s t : Bool) (x y : Float) → is_zero s x ≡ true → is_zero t y ≡ true → eq x y ≡ true
unfolding eq
zeros_equal s t nan y h k = absurd (false≢true h)
zeros_equal s t (inf u) y h k = absurd (false≢true h)
zeros_equal s t (fin u m e) nan h k = absurd (false≢true k)
zeros_equal s t (fin u m e) (inf v) h k = absurd (false≢true k)
zeros_equal s t (fin u m e) (fin v n d) h k =
    let a : m ≡ 0 = eqb-true m 0 (and_parts (beq s u) (eqb m 0) h).1 in
    let b : n ≡ 0 = eqb-true n 0 (and_parts (beq t v) (eqb n 0) k).1 in
    rw (a, b, zero-mul (up e), zero-mul (up d), zero-mul (down d), zero-mul (down e)) (or-true (beq u v))

zeros_at_most : (s t : Bool) (x y : Float) → is_zero s x ≡ true → is_zero t y ≡ true → le x y ≡ true
unfolding le
zeros_at_most s t x y h k = rw (zeros_equal s t x y h k) (or-true (lt x y))

-- ---- no comparison tells them apart
both_ways : (p q : Bool) → (p ≡ true → q ≡ true) → (q ≡ true → p ≡ true) → p ≡ q
both_ways true q there back = sym (there refl)
both_ways false true there back = back refl
both_ways false false there back = refl

pub zeros_alike : (s t : Bool) (x y z : Float) → is_zero s x ≡ true → is_zero t y ≡ true → (lt z x ≡ lt z y) × (lt x z ≡ lt y z)
zeros_alike s t x y z h k =
    let there = T_from_true _ (zeros_at_most s t x y h k) in
    let back = T_from_true _ (zeros_at_most t s y x k h) in (
      both_ways (lt z x) (lt z y) (λ l. is_true _ (lt_of_lt_of_le z x y (T_from_true _ l) there)) (λ l. is_true _ (lt_of_lt_of_le z y x (T_from_true _ l) back)),
      both_ways (lt x z) (lt y z) (λ l. is_true _ (lt_of_le_of_lt y x z back (T_from_true _ l))) (λ l. is_true _ (lt_of_le_of_lt x y z there (T_from_true _ l))),
    )

-- ---- data that differ in the sign of a zero at most
pub same_above : (x y z : Float) → SameButZeroSign x y → lt z x ≡ lt z y
same_above x y z (inl e) = ap (lt z) e
same_above x y z (inr h) = (zeros_alike h.0 h.1 x y z h.2 h.3).0

pub same_below : (x y z : Float) → SameButZeroSign x y → lt x z ≡ lt y z
same_below x y z (inl e) = ap (λ (v : Float). lt v z) e
same_below x y z (inr h) = (zeros_alike h.0 h.1 x y z h.2 h.3).1

pub same_nan : (x y : Float) → SameButZeroSign x y → is_nan x ≡ is_nan y
same_nan x y (inl e) = ap is_nan e
same_nan x y (inr h) = zero_number h.0 x h.2 ∙ sym (zero_number h.1 y h.3)

-- a zero stays one
pub same_zero : (s : Bool) (x y : Float) → SameButZeroSign x y → is_zero s x ≡ true → (t : Bool) × (is_zero t y ≡ true)
same_zero s x y (inl e) z = (s, subst (λ (v : Float). is_zero s v ≡ true) e z)
same_zero s x y (inr h) z = (h.1, h.3)

pub same_symmetric : (x y : Float) → SameButZeroSign x y → SameButZeroSign y x
same_symmetric x y (inl e) = inl (sym e)
same_symmetric x y (inr h) = inr (h.1, h.0, h.3, h.2)

pub same_transitive : (x y z : Float) → SameButZeroSign x y → SameButZeroSign y z → SameButZeroSign x z
same_transitive x y z (inl e) k = subst (λ (v : Float). SameButZeroSign v z) (sym e) k
same_transitive x y z (inr h) k = let last = same_zero h.1 y z k h.3 in inr (h.0, last.0, h.2, last.1)
