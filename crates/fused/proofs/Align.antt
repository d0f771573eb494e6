-- `sum` of two alignable magnitudes is that of the one and the other shifted right, with a sticky bit, to its exponent. Over any format, an exponent e standing for 2 ^ e / 2 ^ (low + b). Assumes nothing.
use mathlib.Core.Path.{◌≡◌, refl, sym, ap, ◌∙◌, subst}
use mathlib.Core.Logic.{inl, inr}
use Prim.Native.Nat.{ℕ, suc, ◌+◌, ◌-◌, ◌*◌, ◌/◌, ◌%◌, ◌^◌, ◌≤◌, ◌<◌}
use native.Mathlib.Nat.{le_trans, le_of_eq, le_of_lt, le-add_right, lt_of_lt_of_le, mul_comm, mul_assoc, mul-le-mul_left, mul-lt-mul_of_pos_right, add-mul}
use native.Mathlib.Omega.{arith}
use mathlib.Core.Bool.{Bool, true, false, cond}
use lib.Dec.{ltb, lit<, lit≤}
use lib.Pow.{pow-add, pow_pos, pow_mono}
use lib.Ieee.{Format, prec, low, round, sum}
use Rattle.words.specs.Value.{value}
use Rattle.words.specs.Sticky.{StickyEquivalent}
use Rattle.std.proofs.lemmas.Bool.{cases_lt, ltb-true, ltb-false}
use Rattle.words.proofs.StickyShift.{multiple_split}
use Rattle.rounding.proofs.RoundSticky.{round_shifted}
use Rattle.rounding.proofs.RoundWord.{prec_short}
use Rattle.rounding.proofs.Sum.{sub_mul, same_or_not, sum_same_sign, sum_opposite_gt, sum_comm}
use Rattle.fused.specs.declared.Scaled.{Scaled}
use Rattle.fused.specs.Operands.{Alignable}
use Rattle.fused.proofs.StickySum.{sticky_lt, sticky_lt_back, sticky_add, sticky_subtract, sticky_exact}

-- a multiple of 16 is one of each lower power of two
sixteen_multiple : (n j : ℕ) → j ≤ 4 → n % 16 ≡ 0 → n % 2 ^ j ≡ 0
sixteen_multiple n j h z = (multiple_split n (2 ^ (4 - j)) (2 ^ j) (pow_pos (4 - j)) (pow_pos j) (ap (λ (x : ℕ). n % x) (sym (pow-add 2 (4 - j) j) ∙ ap (λ (x : ℕ). 2 ^ x) (let k : 4 - j + j ≡ 4 = omega arith in k)) ∙ z)).1

-- ---- the sum of X * 2 ^ (e + j) and Y * 2 ^ e, with v for Y / 2 ^ j
module _ (f : Format) (s t : Bool) (X Y v j e b : ℕ) (ax : Alignable X) (ay : Alignable Y) (sticky : StickyEquivalent 2 (2 ^ j) Y v) where
  c : ℕ
  c = 2 ^ (low f + b)

  raise : (n : ℕ) → n * 2 ^ j * 2 ^ e ≡ n * 2 ^ (e + j)
  raise n = mul_assoc n (2 ^ j) (2 ^ e) ∙ ap (λ (z : ℕ). n * z) (mul_comm (2 ^ j) (2 ^ e) ∙ sym (pow-add 2 e j))

  -- at most four places: nothing is shifted out
  near : j ≤ 4 → sum f s (X * 2 ^ (e + j)) t (Y * 2 ^ e) c ≡ sum f s (X * 2 ^ (e + j)) t (v * 2 ^ (e + j)) c
  near h = ap (λ (z : ℕ). sum f s (X * 2 ^ (e + j)) t z c) (ap (λ (z : ℕ). z * 2 ^ e) (sticky_exact (2 ^ j) Y v (pow_pos j) sticky (sixteen_multiple Y j h ay.last_bits)) ∙ raise v)

  -- X as a multiple of the unit
  half : ℕ
  half = X / 2

  half_twice : half * 2 ≡ X
  unfolding half
  half_twice = let z = ax.last_bits in omega arith

  in_units : half * (2 ^ j * 2) * 2 ^ e ≡ X * 2 ^ (e + j)
  in_units = ap (λ (z : ℕ). z * 2 ^ e) (ap (λ (z : ℕ). half * z) (mul_comm (2 ^ j) 2) ∙ sym (mul_assoc half 2 (2 ^ j)) ∙ ap (λ (z : ℕ). z * 2 ^ j) half_twice) ∙ raise X

  -- five places or more: v is far below X
  v_small : 5 ≤ j → v < 2 ^ 121
  v_small h =
      sticky_lt_back 2 (2 ^ j) Y v (lit< tt) (pow_pos j) sticky (2 ^ 120)
      (lt_of_lt_of_le ay.most (le_trans (le_of_eq (pow-add 2 120 6)) (mul-le-mul_left (2 ^ 120) (le_trans (pow_mono {i = 6} {j = j + 1} (let k : 6 ≤ j + 1 = omega arith in k)) (le_of_eq (pow-add 2 j 1))))))

  -- the bits that rounding asks for
  bits_kept : 2 ^ suc (prec f) ≤ 2 ^ 123
  bits_kept = pow_mono (let p = prec_short f in let k : suc (prec f) ≤ 123 = omega arith in k)

  far_sum : round f s (X * 2 ^ (e + j) + Y * 2 ^ e) c ≡ round f s (X * 2 ^ (e + j) + v * 2 ^ (e + j)) c
  unfolding c
  far_sum =
      ap (λ (z : ℕ). round f s z c) (ap (λ (z : ℕ). z + Y * 2 ^ e) (sym in_units) ∙ sym (add-mul (half * (2 ^ j * 2)) Y (2 ^ e)))
      ∙ round_shifted f s (half * (2 ^ j * 2) + Y) (half * 2 + v) j e b (sticky_add 2 (2 ^ j) Y v (lit< tt) (pow_pos j) sticky half)
      (le_trans bits_kept (le_trans (le_trans (lit≤ tt) ax.least) (le_trans (le_of_eq (sym half_twice)) (le-add_right (half * 2) v))))
      ∙ ap (λ (z : ℕ). round f s z c) (ap (λ (z : ℕ). (z + v) * 2 ^ (e + j)) half_twice ∙ add-mul X v (2 ^ (e + j)))

  room : (U W Z x y : ℕ) → U ≤ x → y < W → W + Z ≤ U → Z ≤ x - y
  room U W Z x y p q r = omega arith

  under : (U W x y : ℕ) → U ≤ x → y < W → W ≤ U → y < x
  under U W x y p q r = omega arith

  v_lt : 5 ≤ j → v < X
  v_lt h = under (2 ^ 124) (2 ^ 121) X v ax.least (v_small h) (lit≤ tt)

  Y-lt : 5 ≤ j → Y < half * (2 ^ j * 2)
  Y-lt h = sticky_lt 2 (2 ^ j) Y v (lit< tt) (pow_pos j) sticky half (lt_of_lt_of_le (v_lt h) (le_of_eq (sym half_twice)))

  far_difference : 5 ≤ j → round f s (X * 2 ^ (e + j) - Y * 2 ^ e) c ≡ round f s (X * 2 ^ (e + j) - v * 2 ^ (e + j)) c
  unfolding c
  far_difference h =
      ap (λ (z : ℕ). round f s z c) (ap (λ (z : ℕ). z - Y * 2 ^ e) (sym in_units) ∙ sym (sub_mul (half * (2 ^ j * 2)) Y (2 ^ e)))
      ∙ round_shifted f s (half * (2 ^ j * 2) - Y) (half * 2 - v) j e b
      (sticky_subtract 2 (2 ^ j) Y v (lit< tt) (pow_pos j) sticky half (le_of_lt (Y-lt h)) (le_of_lt (lt_of_lt_of_le (v_lt h) (le_of_eq (sym half_twice)))))
      (le_trans bits_kept (room (2 ^ 124) (2 ^ 121) (2 ^ 123) (half * 2) v (le_trans ax.least (le_of_eq (sym half_twice))) (v_small h) (lit≤ tt)))
      ∙ ap (λ (z : ℕ). round f s z c) (ap (λ (z : ℕ). (z - v) * 2 ^ (e + j)) half_twice ∙ sub_mul X v (2 ^ (e + j)))

  far : 5 ≤ j → sum f s (X * 2 ^ (e + j)) t (Y * 2 ^ e) c ≡ sum f s (X * 2 ^ (e + j)) t (v * 2 ^ (e + j)) c
  far h =
      let x = X * 2 ^ (e + j) in
      elim (same_or_not s t) [
        | inl q ↦ sum_same_sign f s t x (Y * 2 ^ e) c q ∙ far_sum ∙ sym (sum_same_sign f s t x (v * 2 ^ (e + j)) c q)
        | inr q ↦
            sum_opposite_gt f s t x (Y * 2 ^ e) c q (lt_of_lt_of_le (mul-lt-mul_of_pos_right (Y-lt h) (pow_pos e)) (le_of_eq in_units))
            ∙ far_difference h
            ∙ sym (sum_opposite_gt f s t x (v * 2 ^ (e + j)) c q (mul-lt-mul_of_pos_right (v_lt h) (pow_pos (e + j))))
      ]

  pub sum_aligned : sum f s (X * 2 ^ (e + j)) t (Y * 2 ^ e) (2 ^ (low f + b)) ≡ sum f s (X * 2 ^ (e + j)) t (v * 2 ^ (e + j)) (2 ^ (low f + b))
  unfolding c
  sum_aligned = elim (cases_lt 4 j) [ inl l ↦ far l | inr g ↦ near g ]

-- ---- any two exponents
pub align_second : (f : Format) (s t : Bool) (X Y v d e b : ℕ) → Alignable X → Alignable Y → e ≤ d → StickyEquivalent 2 (2 ^ (d - e)) Y v
    → sum f s (X * 2 ^ d) t (v * 2 ^ d) (2 ^ (low f + b)) ≡ sum f s (X * 2 ^ d) t (Y * 2 ^ e) (2 ^ (low f + b))
align_second f s t X Y v d e b ax ay h sticky =
    let k : e + (d - e) ≡ d = omega arith in
    subst (λ (z : ℕ). sum f s (X * 2 ^ z) t (v * 2 ^ z) (2 ^ (low f + b)) ≡ sum f s (X * 2 ^ z) t (Y * 2 ^ e) (2 ^ (low f + b))) k (sym (sum_aligned f s t X Y v (d - e) e b ax ay sticky))

-- ---- as a program has the two: u has the upper exponent and l the lower one, and p says whether u is the second
abbrev magnitude : Scaled → ℕ
magnitude z = value z.number.words * 2 ^ z.exponent

module _ (p : Bool) (x y u l : Scaled) (upper : u ≡ cond p y x) (lower : l ≡ cond p x y) where
  pub lower_le : p ≡ ltb x.exponent y.exponent → l.exponent ≤ u.exponent
  lower_le q = subst (λ (z : Scaled). z.exponent ≤ u.exponent) (sym lower) (subst (λ (z : Scaled). (cond p x y).exponent ≤ z.exponent) (sym upper) (go p q))
    where
      go : (p : Bool) → p ≡ ltb x.exponent y.exponent → (cond p x y).exponent ≤ (cond p y x).exponent
      go true q = le_of_lt (ltb-true x.exponent y.exponent (sym q))
      go false q = ltb-false x.exponent y.exponent (sym q)

  pub sum_ordered : (f : Format) (c : ℕ) → 0 < c → sum f u.number.negative (magnitude u) l.number.negative (magnitude l) c ≡ sum f x.number.negative (magnitude x) y.number.negative (magnitude y) c
  sum_ordered f c C = (λ i. sum f (upper i).number.negative (magnitude (upper i)) (lower i).number.negative (magnitude (lower i)) c) ∙ go p
    where
      go : (p : Bool) → sum f (cond p y x).number.negative (magnitude (cond p y x)) (cond p x y).number.negative (magnitude (cond p x y)) c ≡ sum f x.number.negative (magnitude x) y.number.negative (magnitude y) c
      go true = sum_comm f y.number.negative x.number.negative (magnitude y) (magnitude x) c C
      go false = refl

pub alignable_pos : (x : ℕ) → Alignable x → 0 < x
alignable_pos x h = lt_of_lt_of_le (lit< tt) h.least
