-- `sum`, the one rounding of ±a / c + ±b / c, by its cases. It sees only the values of its fractions. Over any format. Assumes nothing.
use mathlib.Core.Path.{◌≡◌, refl, sym, ap, ◌∙◌}
use mathlib.Core.Logic.{◌⊎◌, inl, inr}
use Prim.Native.Nat.{ℕ, ◌+◌, ◌-◌, ◌*◌, ◌<◌}
use native.Mathlib.Nat.{le_of_eq, le_of_lt, lt_of_le_of_lt, lt_of_lt_of_le, eq-or-lt_of_le, eq_of_mul-eq-mul_right, lt_of_mul-lt-mul_right, mul-lt-mul_of_pos_right, mul_comm, mul-sub, add-mul, add_comm, add-zero, sub-zero, zero-mul}
use native.Mathlib.Omega.{arith}
use mathlib.Core.Bool.{Bool, true, false, ◌&&◌, cond, true≢false, false≢true, and-true, and-false}
use lib.Dec.{ltb, lit<}
use lib.IntN.{pos}
use lib.Ieee.{fin, Format, binary32, binary64, round, sum}
use lib.Ieee.Scale.{round_same}
use Rattle.std.proofs.lemmas.Bool.{cases_lt, lt-ltb, le-ltb}

pub sub_mul : (x y z : ℕ) → (x - y) * z ≡ x * z - y * z
sub_mul x y z = mul_comm (x - y) z ∙ mul-sub z x y ∙ (λ i. mul_comm z x i - mul_comm z y i)

-- ---- a zero that is rounded keeps its sign
zero_over_one : (f : Format) (s : Bool) → round f s 0 1 ≡ fin s 0 (pos 0)
unfolding round
zero_over_one binary32 true = refl
zero_over_one binary32 false = refl
zero_over_one binary64 true = refl
zero_over_one binary64 false = refl

pub round_zero : (f : Format) (s : Bool) (c : ℕ) → 0 < c → round f s 0 c ≡ fin s 0 (pos 0)
round_zero f s c h = round_same f s 0 c 0 1 h (lit< tt) (zero-mul 1 ∙ sym (zero-mul c)) ∙ zero_over_one f s

-- ---- the signs
pub same_or_not : (s t : Bool) → (s ≡ t) ⊎ (s ≡ t → ⊥)
same_or_not true true = inl refl
same_or_not false false = inl refl
same_or_not true false = inr true≢false
same_or_not false true = inr false≢true

-- ---- the cases
pub sum_same_sign : (f : Format) (s t : Bool) (a b c : ℕ) → s ≡ t → sum f s a t b c ≡ round f s (a + b) c
unfolding sum
sum_same_sign f true true a b c e = refl
sum_same_sign f false false a b c e = refl
sum_same_sign f true false a b c e = absurd (true≢false e)
sum_same_sign f false true a b c e = absurd (false≢true e)

sum_opposite : (f : Format) (s t : Bool) (a b c : ℕ) → (s ≡ t → ⊥) → sum f s a t b c ≡ cond (ltb a b) (round f t (b - a) c) (round f (s && ltb b a) (a - b) c)
unfolding sum
sum_opposite f true true a b c e = absurd (e refl)
sum_opposite f false false a b c e = absurd (e refl)
sum_opposite f true false a b c e = refl
sum_opposite f false true a b c e = refl

pub sum_opposite_gt : (f : Format) (s t : Bool) (a b c : ℕ) → (s ≡ t → ⊥) → b < a → sum f s a t b c ≡ round f s (a - b) c
sum_opposite_gt f s t a b c e h =
    sum_opposite f s t a b c e
    ∙ ap (λ (x : Bool). cond x (round f t (b - a) c) (round f (s && ltb b a) (a - b) c)) (le-ltb a b (le_of_lt h))
    ∙ ap (λ (x : Bool). round f x (a - b) c) (ap (λ (x : Bool). s && x) (lt-ltb b a h) ∙ and-true s)

pub sum_opposite_lt : (f : Format) (s t : Bool) (a b c : ℕ) → (s ≡ t → ⊥) → a < b → sum f s a t b c ≡ round f t (b - a) c
sum_opposite_lt f s t a b c e h = sum_opposite f s t a b c e ∙ ap (λ (x : Bool). cond x (round f t (b - a) c) (round f (s && ltb b a) (a - b) c)) (lt-ltb a b h)

-- An exact zero from opposite signs is +0 (IEEE 754-2019, 6.3).
pub sum_opposite_eq : (f : Format) (s t : Bool) (a b c : ℕ) → (s ≡ t → ⊥) → a ≡ b → 0 < c → sum f s a t b c ≡ fin false 0 (pos 0)
sum_opposite_eq f s t a b c e h C =
    sum_opposite f s t a b c e
    ∙ ap (λ (x : Bool). cond x (round f t (b - a) c) (round f (s && ltb b a) (a - b) c)) (le-ltb a b (le_of_eq (sym h)))
    ∙ ap (λ (x : Bool). round f x (a - b) c) (ap (λ (x : Bool). s && x) (le-ltb b a (le_of_eq h)) ∙ and-false s)
    ∙ ap (λ (x : ℕ). round f false x c) (let k : a - b ≡ 0 = omega arith in k)
    ∙ round_zero f false c C

-- ---- it commutes
pub sum_comm : (f : Format) (s t : Bool) (a b c : ℕ) → 0 < c → sum f s a t b c ≡ sum f t b s a c
sum_comm f s t a b c C = elim (same_or_not s t) [
  | inl e ↦ sum_same_sign f s t a b c e ∙ ap (λ (x : Bool). round f x (a + b) c) e ∙ ap (λ (x : ℕ). round f t x c) (add_comm a b) ∙ sym (sum_same_sign f t s b a c (sym e))
  | inr n ↦ elim (cases_lt a b) [
    | inl l ↦ sum_opposite_lt f s t a b c n l ∙ sym (sum_opposite_gt f t s b a c (λ e. n (sym e)) l)
    | inr g ↦ elim (eq-or-lt_of_le g) [
      | inl e ↦ sum_opposite_eq f s t a b c n (sym e) C ∙ sym (sum_opposite_eq f t s b a c (λ x. n (sym x)) e C)
      | inr l ↦ sum_opposite_gt f s t a b c n l ∙ sym (sum_opposite_lt f t s b a c (λ x. n (sym x)) l)
    ]
  ]
]

-- ---- it sees only the values of its fractions
cross_lt : (a b c a₂ b₂ c₂ : ℕ) → 0 < c₂ → a * c₂ ≡ a₂ * c → b * c₂ ≡ b₂ * c → a < b → a₂ < b₂
cross_lt a b c a₂ b₂ c₂ C₂ p q h = lt_of_mul-lt-mul_right c (lt_of_le_of_lt (le_of_eq (sym p)) (lt_of_lt_of_le (mul-lt-mul_of_pos_right h C₂) (le_of_eq q)))

pub sum_same : (f : Format) (s t : Bool) (a b c a₂ b₂ c₂ : ℕ) → 0 < c → 0 < c₂ → a * c₂ ≡ a₂ * c → b * c₂ ≡ b₂ * c → sum f s a t b c ≡ sum f s a₂ t b₂ c₂
sum_same f s t a b c a₂ b₂ c₂ C C₂ p q = elim (same_or_not s t) [
  | inl e ↦
      sum_same_sign f s t a b c e
      ∙ round_same f s (a + b) c (a₂ + b₂) c₂ C C₂ (add-mul a b c₂ ∙ (λ i. p i + q i) ∙ sym (add-mul a₂ b₂ c))
      ∙ sym (sum_same_sign f s t a₂ b₂ c₂ e)
  | inr n ↦ elim (cases_lt a b) [
    | inl l ↦
        sum_opposite_lt f s t a b c n l
        ∙ round_same f t (b - a) c (b₂ - a₂) c₂ C C₂ (sub_mul b a c₂ ∙ (λ i. q i - p i) ∙ sym (sub_mul b₂ a₂ c))
        ∙ sym (sum_opposite_lt f s t a₂ b₂ c₂ n (cross_lt a b c a₂ b₂ c₂ C₂ p q l))
    | inr g ↦ elim (eq-or-lt_of_le g) [
      | inl e ↦ sum_opposite_eq f s t a b c n (sym e) C ∙ sym (sum_opposite_eq f s t a₂ b₂ c₂ n (eq_of_mul-eq-mul_right c C a₂ b₂ (sym p ∙ ap (λ (z : ℕ). z * c₂) (sym e) ∙ q)) C₂)
      | inr l ↦
          sum_opposite_gt f s t a b c n l
          ∙ round_same f s (a - b) c (a₂ - b₂) c₂ C C₂ (sub_mul a b c₂ ∙ (λ i. p i - q i) ∙ sym (sub_mul a₂ b₂ c))
          ∙ sym (sum_opposite_gt f s t a₂ b₂ c₂ n (cross_lt b a c b₂ a₂ c₂ C₂ q p l))
    ]
  ]
]

-- ---- a zero added to what is no zero
pub sum_zero_right : (f : Format) (s t : Bool) (a c : ℕ) → 0 < a → sum f s a t 0 c ≡ round f s a c
sum_zero_right f s t a c h = elim (same_or_not s t) [
  | inl e ↦ sum_same_sign f s t a 0 c e ∙ ap (λ (z : ℕ). round f s z c) (add-zero a)
  | inr n ↦ sum_opposite_gt f s t a 0 c n h ∙ ap (λ (z : ℕ). round f s z c) (sub-zero a)
]
