-- The digits of a root, with a sticky bit where a remainder is left, round as the root itself. Assumes nothing.
use Rattle.std.proofs.Common.{◌≡◌, ℕ, ◌+◌, ◌-◌, ◌*◌, ◌/◌, ◌%◌, ◌^◌, ◌<◌, ◌≤◌, Bool, true, false, cond, T, eqb, sym, refl, ap, ◌∙◌, le_trans, le_of_eq, lt_of_lt_of_le, mod-eq_of_lt, le-add_right, lt_of_le_of_lt, add-zero, mul-le-mul_right, mul_assoc, mul_comm, add-mul, mul-lt-mul_of_pos_right, mul-pos, div-add-mod', mul-add, mul-div_cancel, mul_left_comm, arith, eqb→eq, pow_pos, pow-add}
use native.Mathlib.Nat.{eq_of_mul-eq-mul_right, mul-mul-mul_comm, mul-mod_left, div-eq_of_lt-le, div-div-eq-div-mul, mul-div-mul_right}
use lib.Pow.{high, low, shl_lt}
use lib.Count.{count_leading_zeros}
use lib.Ieee.{binary64, size, round}
use lib.Ieee.Bits.{is_true}
use lib.Ieee.Fits.{eq→eqb}
use Rattle.words.specs.Sticky.{StickyEquivalent}
use Rattle.words.proofs.LeadingZeros.{leading_zeros_top}
use Rattle.words.proofs.StickyShift.{multiple_split, sticky_rescale}
use Rattle.rounding.specs.Scale.{high_word_scale}
use Rattle.rounding.proofs.RoundSticky.{round_sticky, pow_lt_back}
use Rattle.root.specs.Root.{integer_root, root_in_halves, scaled_root}
use Rattle.root.proofs.IntegerRoot.{square_lt, square_lt_back, integer_root_lem}
use Rattle.root.specs.Places.{squared_place, root_zeros, root_place}

-- the root's place once ten bits are behind its digits, and that of a digit's half: the radicand's, halved
abbrev pub word_place : ℕ
word_place = root_place - 10

abbrev half_place : ℕ
half_place = (squared_place - root_zeros) / 2

next_square : (q m u : ℕ) → m ≤ 2 * q → q * q + m ≡ u → u < (q + 1) * (q + 1)
next_square q m u h e = let s : (q + 1) * (q + 1) ≡ q * q + q * 1 + (1 * q + 1 * 1) = add-mul q 1 (q + 1) ∙ (λ i. mul-add q q 1 i + mul-add 1 q 1 i) in omega arith

-- q is the integer root of u, with the remainder m, and the radicand is u in a unit smaller by A². So q * A is its root but for what lies below A.
module _ (q m u A : ℕ) (le : m ≤ 2 * q) (is : q * q + m ≡ u) (A_pos : 0 < A) where
  radicand : ℕ
  radicand = u * (A * A)

  whole_root : ℕ
  whole_root = integer_root (size radicand) radicand

  in_halves : ℕ
  in_halves = root_in_halves radicand whole_root

  bounds : (whole_root * whole_root ≤ radicand) × (radicand < (whole_root + 1) * (whole_root + 1))
  unfolding whole_root
  bounds = integer_root_lem radicand

  from : q * A ≤ whole_root
  unfolding radicand
  from =
      let a : q * A * (q * A) ≤ radicand = le_trans (le_of_eq (mul-mul-mul_comm q A q A)) (mul-le-mul_right (A * A) (let k : q * q ≤ u = omega arith in k)) in
      let b : q * A < whole_root + 1 = square_lt_back (q * A) (whole_root + 1) (lt_of_le_of_lt a bounds.1) in
      omega arith

  below : whole_root < (q + 1) * A
  unfolding radicand
  below =
      square_lt_back whole_root ((q + 1) * A)
      (lt_of_le_of_lt bounds.0 (lt_of_lt_of_le (mul-lt-mul_of_pos_right (next_square q m u le is) (mul-pos A_pos A_pos)) (le_of_eq (mul-mul-mul_comm (q + 1) (q + 1) A A))))

  half_of : in_halves / 2 ≡ whole_root
  unfolding in_halves
  half_of = go (eqb (whole_root * whole_root) radicand)
    where
      even : (x : ℕ) → 2 * x / 2 ≡ x
      even x = omega arith

      odd : (x : ℕ) → (2 * x + 1) / 2 ≡ x
      odd x = omega arith

      go : (b : Bool) → cond b (2 * whole_root) (2 * whole_root + 1) / 2 ≡ whole_root
      go true = even whole_root
      go false = odd whole_root

  quotient_is : in_halves / (2 * A) ≡ q
  quotient_is = sym (div-div-eq-div-mul in_halves 2 A) ∙ ap (λ (x : ℕ). x / A) half_of ∙ div-eq_of_lt-le A from below

  -- the root is a multiple of A where the remainder is 0, and nowhere else
  exact_root : m ≡ 0 → in_halves ≡ q * (2 * A)
  unfolding radicand in_halves
  exact_root z =
      let e : u ≡ q * q = omega arith in
      let square : radicand ≡ q * A * (q * A) = ap (λ (x : ℕ). x * (A * A)) e ∙ mul-mul-mul_comm q q A A in
      let l : whole_root < q * A + 1 = square_lt_back whole_root (q * A + 1) (lt_of_le_of_lt (le_trans bounds.0 (le_of_eq square)) (square_lt (q * A) (q * A + 1) (let k : q * A < q * A + 1 = omega arith in k))) in
      let same : whole_root ≡ q * A = let k = from in omega arith in
      ap (λ (b : Bool). cond b (2 * whole_root) (2 * whole_root + 1)) (is_true (eqb (whole_root * whole_root) radicand) (eq→eqb (ap (λ (x : ℕ). x * x) same ∙ sym square)))
      ∙ ap (λ (x : ℕ). 2 * x) same ∙ mul_left_comm 2 q A

  no_remainder : in_halves ≡ q * (2 * A) → m ≡ 0
  unfolding radicand in_halves
  no_remainder e = go (eqb (whole_root * whole_root) radicand) (eqb→eq (whole_root * whole_root) radicand) (e ∙ mul_left_comm q 2 A)
    where
      halve : (x y : ℕ) → 2 * x ≡ 2 * y → x ≡ y
      halve x y e = omega arith

      odd : (x y : ℕ) → 2 * x + 1 ≡ 2 * y → ⊥
      odd x y e = omega arith

      go : (b : Bool) → (T b → whole_root * whole_root ≡ radicand) → cond b (2 * whole_root) (2 * whole_root + 1) ≡ 2 * (q * A) → m ≡ 0
      go true h k =
          let same : whole_root ≡ q * A = halve whole_root (q * A) k in
          let square : q * q ≡ u = eq_of_mul-eq-mul_right (A * A) (mul-pos A_pos A_pos) (q * q) u (sym (mul-mul-mul_comm q A q A) ∙ sym (ap (λ (x : ℕ). x * x) same) ∙ h tt) in
          omega arith
      go false h k = absurd (odd whole_root (q * A) k)

  -- among the multiples of 2 ^ 10: the root in halves, and q with ten bits below it that are 0 where the remainder is
  sticky_root : (s : ℕ) → s < 2 ^ 10 → (m ≡ 0 → s ≡ 0) → (s ≡ 0 → m ≡ 0) → StickyEquivalent (2 ^ 10) (2 * A) (in_halves * 2 ^ 10) (q * 2 ^ 10 + s)
  sticky_root s l f g =
      let D : 0 < 2 * A = omega arith in record {
        quotient = mul-div-mul_right in_halves (2 * A) (pow_pos 10) ∙ quotient_is ∙ sym (high q 10 l);
        exact = λ h. low q 10 l ∙ f (no_remainder (rebuilt in_halves (2 * A) q quotient_is (unscaled in_halves (2 * A) D h)));
        only_exact = λ h. ap (λ (x : ℕ). x * 2 ^ 10 % (2 * A * 2 ^ 10)) (exact_root (g (sym (low q 10 l) ∙ h))) ∙ ap (λ (x : ℕ). x % (2 * A * 2 ^ 10)) (mul_assoc q (2 * A) (2 ^ 10)) ∙ mul-mod_left q (2 * A * 2 ^ 10);
      }
    where
      rebuilt : (x D q : ℕ) → x / D ≡ q → x % D ≡ 0 → x ≡ q * D
      rebuilt x D q e z = sym (div-add-mod' x D) ∙ ap (λ (y : ℕ). x / D * D + y) z ∙ add-zero (x / D * D) ∙ ap (λ (y : ℕ). y * D) e

      unscaled : (x D : ℕ) → 0 < D → x * 2 ^ 10 % (D * 2 ^ 10) ≡ 0 → x % D ≡ 0
      unscaled x D d h = ap (λ (y : ℕ). y % D) (sym (mul-div_cancel x (pow_pos 10))) ∙ (multiple_split (x * 2 ^ 10) D (2 ^ 10) d (pow_pos 10) h).0

  root_rounds : (h s : ℕ) → A ≡ 2 ^ (h + half_place) → 2 ^ 53 ≤ q → s < 2 ^ 10 → (m ≡ 0 → s ≡ 0) → (s ≡ 0 → m ≡ 0)
      → round binary64 false ((q * 2 ^ 10 + s) * 2 ^ (h + word_place)) (2 ^ high_word_scale) ≡ scaled_root binary64 radicand
  unfolding scaled_root whole_root in_halves
  root_rounds h s a big l f g =
      let e = h + word_place in
      let w = q * 2 ^ 10 + s in
      let c : in_halves * 2 ^ 10 * (2 ^ 1075 * 2 ^ (10 + e)) ≡ in_halves * 2 ^ 2340 * (2 * A * 2 ^ 10) =
      mul_assoc in_halves (2 ^ 10) (2 ^ 1075 * 2 ^ (10 + e)) ∙ ap (λ (x : ℕ). in_halves * x) powers ∙ sym (mul_assoc in_halves (2 ^ 2340) (2 * A * 2 ^ 10)) in
      sym (round_sticky binary64 false in_halves (2 ^ 1075) (w * 2 ^ e) (10 + e) 1266 (pow_pos 1075)
      (sticky_rescale (2 ^ 10) (2 * A) (in_halves * 2 ^ 10) w (2 ^ (10 + e)) (2 ^ 1075) (in_halves * 2 ^ 2340) (w * 2 ^ e) (pow_pos 10) (let k : 0 < 2 * A = omega arith in k) (pow_pos (10 + e)) (pow_pos 1075)
      c (ap (λ (x : ℕ). w * x) (pow-add 2 10 e ∙ mul_comm (2 ^ 10) (2 ^ e)) ∙ sym (mul_assoc w (2 ^ e) (2 ^ 10))) (sticky_root s l f g))
      (le_trans (le_of_eq (ap (λ (x : ℕ). 2 ^ x) (places e) ∙ pow-add 2 63 e)) (mul-le-mul_right (2 ^ e) (le_trans (mul-le-mul_right (2 ^ 10) big) (le-add_right (q * 2 ^ 10) s)))))
    where
      places : (e : ℕ) → 10 + e + 53 ≡ 63 + e
      places e = omega arith

      left : (a b J K : ℕ) → a * (b * (J * K)) ≡ J * (a * (b * K))
      left a b J K = simp mul_left_comm

      right : (c t J K e : ℕ) → c * (t * (J * K) * e) ≡ J * (c * (t * K * e))
      right c t J K e = simp (mul_assoc, mul_left_comm)

      powers : 2 ^ 10 * (2 ^ 1075 * 2 ^ (10 + (h + word_place))) ≡ 2 ^ 2340 * (2 * A * 2 ^ 10)
      powers = ap (λ (x : ℕ). 2 ^ 10 * (2 ^ 1075 * x)) (ap (λ (x : ℕ). 2 ^ x) (let k : 10 + (h + word_place) ≡ h + root_place = omega arith in k) ∙ pow-add 2 h root_place) ∙ left (2 ^ 10) (2 ^ 1075) (2 ^ h) (2 ^ root_place)
          ∙ sym (ap (λ (x : ℕ). 2 ^ 2340 * (2 * x * 2 ^ 10)) (a ∙ pow-add 2 h half_place) ∙ right (2 ^ 2340) 2 (2 ^ h) (2 ^ half_place) (2 ^ 10))

-- ---- as the program has it: 54 digits are found of the root of w * 2 ^ root_zeros
pub full_significand : (q m w : ℕ) → m ≤ 2 * q → q * q + m ≡ w * 2 ^ root_zeros → 2 ^ 62 ≤ w → 2 ^ 53 ≤ q
full_significand q m w h e l =
    let a : 2 ^ 53 < q + 1 = square_lt_back (2 ^ 53) (q + 1) (lt_of_le_of_lt (mul-le-mul_right (2 ^ root_zeros) l) (next_square q m (w * 2 ^ root_zeros) h e)) in
    omega arith

pub significand_lt : (q m w : ℕ) → q * q + m ≡ w * 2 ^ root_zeros → w < 2 ^ 64 → q < 2 ^ 54
significand_lt q m w e l = square_lt_back q (2 ^ 54) (let k : q * q < 2 ^ 54 * 2 ^ 54 = omega arith in k)

-- s is the sticky bit of the remainder m
pub word_rounds : (q m w h s : ℕ) → m ≤ 2 * q → q * q + m ≡ w * 2 ^ root_zeros → 2 ^ 62 ≤ w → s ≤ 1 → (m ≡ 0 → s ≡ 0) → (s ≡ 0 → m ≡ 0)
    → round binary64 false ((q * 2 ^ 10 + s) * 2 ^ (h + word_place)) (2 ^ high_word_scale) ≡ scaled_root binary64 (w * 2 ^ (2 * h + squared_place))
unfolding radicand
word_rounds q m w h s le e l short none some =
    root_rounds q m (w * 2 ^ root_zeros) (2 ^ (h + half_place)) le e (pow_pos (h + half_place)) h s refl (full_significand q m w le e l) (omega (arith, short)) none some ∙ ap (scaled_root binary64) scaled
  where
    scaled : w * 2 ^ root_zeros * (2 ^ (h + half_place) * 2 ^ (h + half_place)) ≡ w * 2 ^ (2 * h + squared_place)
    scaled =
        mul_assoc w (2 ^ root_zeros) (2 ^ (h + half_place) * 2 ^ (h + half_place))
        ∙ ap (λ (x : ℕ). w * x) (ap (λ (x : ℕ). 2 ^ root_zeros * x) (sym (pow-add 2 (h + half_place) (h + half_place))) ∙ sym (pow-add 2 root_zeros (h + half_place + (h + half_place))) ∙ ap (λ (x : ℕ). 2 ^ x) (let k : root_zeros + (h + half_place + (h + half_place)) ≡ 2 * h + squared_place = omega arith in k))

-- ---- brought to the top bit of a word by the count of its leading zeros: 54 digits leave ten
zeros_of_root : (q : ℕ) → 2 ^ 53 ≤ q → q < 2 ^ 54 → count_leading_zeros 64 q ≡ 10
zeros_of_root q h l =
    let z = count_leading_zeros 64 q in
    let t = leading_zeros_top q (omega arith) (omega arith) in
    let at_least : 63 < 54 + z = pow_lt_back 63 (54 + z) (lt_of_le_of_lt t.top (shl_lt 54 z l)) in
    let at_most : 53 + z < 64 = pow_lt_back (53 + z) 64 (lt_of_le_of_lt (le_trans (le_of_eq (pow-add 2 53 z)) (mul-le-mul_right (2 ^ z) h)) t.fits) in
    omega arith

module _ (q m w : ℕ) (le : m ≤ 2 * q) (e : q * q + m ≡ w * 2 ^ root_zeros) (least : 2 ^ 62 ≤ w) (below : w < 2 ^ 64) where
  zeros : ℕ
  zeros = count_leading_zeros 64 q

  ten : zeros ≡ 10
  unfolding zeros
  ten = zeros_of_root q (full_significand q m w le e least) (significand_lt q m w e below)

  shifted : q * 2 ^ zeros % 2 ^ 64 ≡ q * 2 ^ 10
  shifted =
      let l = significand_lt q m w e below in
      ap (λ (z : ℕ). q * 2 ^ z % 2 ^ 64) ten ∙ mod-eq_of_lt (let k : q * 2 ^ 10 < 2 ^ 64 = omega arith in k)

  pub word_below : (s : ℕ) → s ≤ 1 → q * 2 ^ count_leading_zeros 64 q % 2 ^ 64 + s < 2 ^ 64
  unfolding zeros
  word_below s short = let l = significand_lt q m w e below in let k = shifted in omega arith

  pub word_top : (s : ℕ) → 2 ^ 63 ≤ q * 2 ^ count_leading_zeros 64 q % 2 ^ 64 + s
  unfolding zeros
  word_top s = let l = full_significand q m w le e least in let k = shifted in omega arith

  pub root_rounds_at_top : (h s : ℕ) → s ≤ 1 → (m ≡ 0 → s ≡ 0) → (s ≡ 0 → m ≡ 0)
      → round binary64 false ((q * 2 ^ count_leading_zeros 64 q % 2 ^ 64 + s) * 2 ^ (h + root_place - count_leading_zeros 64 q)) (2 ^ high_word_scale) ≡ scaled_root binary64 (w * 2 ^ (2 * h + squared_place))
  unfolding zeros
  root_rounds_at_top h s short none some =
      ap (λ (x : ℕ). round binary64 false ((x + s) * 2 ^ (h + root_place - zeros)) (2 ^ high_word_scale)) shifted
      ∙ ap (λ (x : ℕ). round binary64 false ((q * 2 ^ 10 + s) * 2 ^ x) (2 ^ high_word_scale)) (let k = ten in let p : h + root_place - zeros ≡ h + word_place = omega arith in p)
      ∙ word_rounds q m w h s le e least short none some
