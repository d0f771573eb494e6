-- What the answer of one comparison of floats, `lt` or `le`, tells of another's and of NaNs, by the library's order of floats. Assumes nothing.
use Rattle.std.proofs.Common.{◌≡◌, true, false, T, ◌⊎◌, refl, inl, inr, true≢false}
use Rattle.std.proofs.lemmas.Bool.{cases_Bool, false_from_ne_true}
use Rattle.std.proofs.lemmas.Float as float
use Rattle.std.proofs.lemmas.Float.{T_from_true, T_from_false}
use lib.Ieee.{Float, nan, inf, fin, lt, le, is_nan}
use lib.Ieee.Bits.{is_true, is_false}
use Rattle.binary64.proofs.NotNan.{Signed, infinite, number}

-- A NaN is not below anything, and nothing is below it.
pub lt_left_number : (x y : Float) → lt x y ≡ true → is_nan x ≡ false
lt_left_number x y h = is_false (is_nan x) (float.le_left x y (float.le_of_lt x y (T_from_true _ h)))

pub lt_right_number : (x y : Float) → lt x y ≡ true → is_nan y ≡ false
lt_right_number x y h = is_false (is_nan y) (float.le_right x y (float.le_of_lt x y (T_from_true _ h)))

-- Every number lies between the infinities.
pub infinity_least : (x : Float) → is_nan x ≡ false → le (inf true) x ≡ true
unfolding le is_nan
infinity_least nan h = absurd (true≢false h)
infinity_least (inf true) h = refl
infinity_least (inf false) h = refl
infinity_least (fin s m e) h = refl

pub infinity_greatest : (x : Float) → is_nan x ≡ false → le x (inf false) ≡ true
unfolding le is_nan
infinity_greatest nan h = absurd (true≢false h)
infinity_greatest (inf true) h = refl
infinity_greatest (inf false) h = refl
infinity_greatest (fin s m e) h = refl

-- What has the sign + is not below what has the sign −.
pub signs_apart : {x y : Float} → Signed true x → Signed false y → lt y x ≡ false
unfolding lt
signs_apart infinite infinite = refl
signs_apart infinite (number n d) = refl
signs_apart (number m e) infinite = refl
signs_apart (number m e) (number n d) = refl

pub lt_irreflexive : (x : Float) → lt x x ≡ false
lt_irreflexive x = false_from_ne_true (lt x x) (λ h. float.lt_irrefl x (T_from_true _ h))

pub lt_asymmetric : (x y : Float) → lt x y ≡ true → lt y x ≡ false
lt_asymmetric x y h = false_from_ne_true (lt y x) (λ k. float.lt_irrefl x (float.lt_trans x y x (T_from_true _ h) (T_from_true _ k)))

-- What lies above is not at most.
pub lt_not_le : (x y : Float) → lt x y ≡ true → le y x ≡ false
lt_not_le x y h = false_from_ne_true (le y x) (λ k. float.lt_irrefl x (float.lt_of_lt_of_le x y x (T_from_true _ h) (T_from_true _ k)))

pub le_not_lt : (x y : Float) → le y x ≡ true → lt x y ≡ false
le_not_lt x y h = false_from_ne_true (lt x y) (λ k. float.lt_irrefl x (float.lt_of_lt_of_le x y x (T_from_true _ k) (T_from_true _ h)))

-- Of two numbers, infinities included, one that is not above the other is at most it.
pub le_of_not_lt : (x y : Float) → is_nan x ≡ false → is_nan y ≡ false → lt y x ≡ false → le x y ≡ true
le_of_not_lt x y nx ny h = is_true (le x y) (float.le_of_not-lt y x (T_from_false _ ny) (T_from_false _ nx) (T_from_false _ h))

-- And one that is not at most the other is above it.
pub not_le_lt : (x y : Float) → is_nan x ≡ false → is_nan y ≡ false → le y x ≡ false → lt x y ≡ true
not_le_lt x y nx ny h = is_true (lt x y) (float.lt_of_not-le y x (T_from_false _ ny) (T_from_false _ nx) (T_from_false _ h))

-- Of two numbers one is at most the other.
pub le_total : (x y : Float) → is_nan x ≡ false → is_nan y ≡ false → T (le x y) ⊎ T (le y x)
le_total x y nx ny = elim (cases_Bool (lt y x)) [
  | inl above ↦ inr (float.le_of_lt y x (T_from_true _ above))
  | inr e ↦ inl (float.le_of_not-lt y x (T_from_false _ ny) (T_from_false _ nx) (T_from_false _ e))
]
