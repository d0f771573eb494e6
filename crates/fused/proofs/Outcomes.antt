-- `sum` of two magnitudes of one exponent e, by the magnitude v that is left, and from the greater and the lesser of the two; and what the tests of signs and of zero say. Over any format. Assumes nothing.
use mathlib.Core.Path.{◌≡◌, refl, sym, ap, ◌∙◌, subst}
use mathlib.Core.Logic.{inl, inr}
use Prim.Native.Nat.{ℕ, ◌+◌, ◌-◌, ◌*◌, ◌^◌, ◌≤◌, ◌<◌}
use native.Mathlib.Nat.{mul-lt-mul_of_pos_right, add-mul, zero-mul, mul-zero}
use native.Mathlib.Omega.{arith}
use mathlib.Core.Bool.{Bool, true, false, ◌||◌, cond, beq, true≢false, false≢true}
use lib.Dec.{T, eqb, ltb, eqb→eq}
use lib.Pow.{pow_pos}
use lib.Ieee.{Format, of_bits, round, sum}
use Rattle.std.specs.Cmp.{booleans_Decides}
use Rattle.std.proofs.lemmas.Bool.{cases_Bool, ltb-true, ltb-false}
use Rattle.rounding.proofs.Finite.{zero_pattern}
use Rattle.rounding.proofs.Sum.{sub_mul, sum_same_sign, sum_opposite_lt, sum_opposite_gt, sum_opposite_eq}

-- ---- the outcomes
module _ (f : Format) (s t : Bool) (a b e c v : ℕ) where
  pub outcome_same_sign : s ≡ t → v ≡ a + b → round f s (v * 2 ^ e) c ≡ sum f s (a * 2 ^ e) t (b * 2 ^ e) c
  outcome_same_sign q h = ap (λ (z : ℕ). round f s z c) (ap (λ (z : ℕ). z * 2 ^ e) h ∙ add-mul a b (2 ^ e)) ∙ sym (sum_same_sign f s t (a * 2 ^ e) (b * 2 ^ e) c q)

  pub outcome_lt : (s ≡ t → ⊥) → a < b → v ≡ b - a → round f t (v * 2 ^ e) c ≡ sum f s (a * 2 ^ e) t (b * 2 ^ e) c
  outcome_lt q l h =
      ap (λ (z : ℕ). round f t z c) (ap (λ (z : ℕ). z * 2 ^ e) h ∙ sub_mul b a (2 ^ e))
      ∙ sym (sum_opposite_lt f s t (a * 2 ^ e) (b * 2 ^ e) c q (mul-lt-mul_of_pos_right l (pow_pos e)))

  pub outcome_gt : (s ≡ t → ⊥) → v ≡ a - b → 0 < v → round f s (v * 2 ^ e) c ≡ sum f s (a * 2 ^ e) t (b * 2 ^ e) c
  outcome_gt q h p =
      ap (λ (z : ℕ). round f s z c) (ap (λ (z : ℕ). z * 2 ^ e) h ∙ sub_mul a b (2 ^ e))
      ∙ sym (sum_opposite_gt f s t (a * 2 ^ e) (b * 2 ^ e) c q (mul-lt-mul_of_pos_right (let k : b < a = omega arith in k) (pow_pos e)))

-- ---- the tests of the signs
pub signs_differ : (s t : Bool) → beq s t ≡ false → s ≡ t → ⊥
signs_differ true true e h = true≢false e
signs_differ false false e h = true≢false e
signs_differ true false e h = true≢false h
signs_differ false true e h = false≢true h

-- ---- the outcome, from the greater of the two, g, and the lesser, l: p says whether the second is the greater
pub value_chosen : {A B : Type 0} (of : A → B) (p : Bool) (x y r : A) → r ≡ cond p x y → of r ≡ cond p (of x) (of y)
value_chosen of true x y r h = ap of h
value_chosen of false x y r h = ap of h

module _ (p : Bool) (a b g l : ℕ) (greater : g ≡ cond p b a) (lesser : l ≡ cond p a b) where
  pub lesser_le : p ≡ ltb a b → l ≤ g
  lesser_le = go p greater lesser
    where
      go : (p : Bool) → g ≡ cond p b a → l ≡ cond p a b → p ≡ ltb a b → l ≤ g
      go true h k q = let m = ltb-true a b (sym q) in omega arith
      go false h k q = let m = ltb-false a b (sym q) in omega arith

  pub greater_plus_lesser : g + l ≡ a + b
  greater_plus_lesser = go p greater lesser
    where
      go : (p : Bool) → g ≡ cond p b a → l ≡ cond p a b → g + l ≡ a + b
      go true h k = omega arith
      go false h k = omega arith

  both_equal : g ≡ l → a ≡ b
  both_equal = go p greater lesser
    where
      go : (p : Bool) → g ≡ cond p b a → l ≡ cond p a b → g ≡ l → a ≡ b
      go true h k e = omega arith
      go false h k e = omega arith

  module _ (f : Format) (s t : Bool) (e c v : ℕ) (less : p ≡ ltb a b) (total : v ≡ cond (beq s t) (g + l) (g - l)) where
    total_same : beq s t ≡ true → v ≡ a + b
    total_same r = total ∙ ap (λ (z : Bool). cond z (g + l) (g - l)) r ∙ greater_plus_lesser

    total_opposite : beq s t ≡ false → v ≡ g - l
    total_opposite r = total ∙ ap (λ (z : Bool). cond z (g + l) (g - l)) r

    pub ordered_positive : (n : Bool) → n ≡ cond p t s → 0 < v → round f n (v * 2 ^ e) c ≡ sum f s (a * 2 ^ e) t (b * 2 ^ e) c
    ordered_positive n sign some = elim (cases_Bool (beq s t)) [
      | inl r ↦ ap (λ (z : Bool). round f z (v * 2 ^ e) c) (same p sign ((booleans_Decides s t).0 r)) ∙ outcome_same_sign f s t a b e c v ((booleans_Decides s t).0 r) (total_same r)
      | inr r ↦ opposite p less greater lesser sign (signs_differ s t r) (total_opposite r)
    ]
      where
        same : (p : Bool) → n ≡ cond p t s → s ≡ t → n ≡ s
        same true h q = h ∙ sym q
        same false h q = h

        opposite : (p : Bool) → p ≡ ltb a b → g ≡ cond p b a → l ≡ cond p a b → n ≡ cond p t s → (s ≡ t → ⊥) → v ≡ g - l → round f n (v * 2 ^ e) c ≡ sum f s (a * 2 ^ e) t (b * 2 ^ e) c
        opposite true m h k q differ d = ap (λ (z : Bool). round f z (v * 2 ^ e) c) q ∙ outcome_lt f s t a b e c v differ (ltb-true a b (sym m)) (omega arith)
        opposite false m h k q differ d = ap (λ (z : Bool). round f z (v * 2 ^ e) c) q ∙ outcome_gt f s t a b e c v differ (omega arith) some

    pub ordered_zero : v ≡ 0 → 0 < a + b → 0 < c → of_bits f 0 ≡ sum f s (a * 2 ^ e) t (b * 2 ^ e) c
    ordered_zero none some C = elim (cases_Bool (beq s t)) [
      | inl r ↦ absurd (let k = total_same r in let z : ⊥ = omega arith in z)
      | inr r ↦
          let k : g ≡ l = let m = lesser_le less in let d = total_opposite r in omega arith in
          zero_pattern f ∙ sym (sum_opposite_eq f s t (a * 2 ^ e) (b * 2 ^ e) c (signs_differ s t r) (ap (λ (z : ℕ). z * 2 ^ e) (both_equal k)) C)
    ]

-- ---- the tests of zero
zero_of_flag : (a : ℕ) → eqb a 0 ≡ true → a ≡ 0
zero_of_flag a e = eqb→eq a 0 (subst T (sym e) tt)

-- a factor is 0
pub product_zero : (m n d e : ℕ) → (eqb m 0 || eqb n 0) ≡ true → m * 2 ^ d * (n * 2 ^ e) ≡ 0
product_zero m n d e = go (eqb m 0) (eqb n 0) (zero_of_flag m) (zero_of_flag n)
  where
    go : (a b : Bool) → (a ≡ true → m ≡ 0) → (b ≡ true → n ≡ 0) → (a || b) ≡ true → m * 2 ^ d * (n * 2 ^ e) ≡ 0
    go true b x y h = ap (λ (z : ℕ). z * 2 ^ d * (n * 2 ^ e)) (x refl) ∙ ap (λ (z : ℕ). z * (n * 2 ^ e)) (zero-mul (2 ^ d)) ∙ zero-mul (n * 2 ^ e)
    go false true x y h = ap (λ (z : ℕ). m * 2 ^ d * (z * 2 ^ e)) (y refl) ∙ ap (λ (z : ℕ). m * 2 ^ d * z) (zero-mul (2 ^ e)) ∙ mul-zero (m * 2 ^ d)
    go false false x y h = absurd (false≢true h)
