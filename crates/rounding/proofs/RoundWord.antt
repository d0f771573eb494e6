-- What a word with its top bit set rounds to, as a bit pattern: a normal value, a subnormal one, or an infinity. And a number of two words rounds as the word does into which it collapses with a sticky bit.
-- Over any format, the word w with the exponent e standing for w * 2 ^ e / 2 ^ (low + b). Assumes nothing.
use mathlib.Core.Path.{◌≡◌, refl, sym, ap, ◌∙◌, subst}
use mathlib.Core.Logic.{inl, inr}
use Prim.Native.Nat.{ℕ, suc, ◌+◌, ◌-◌, ◌*◌, ◌/◌, ◌%◌, ◌^◌, ◌≤◌, ◌<◌, compare}
use native.Mathlib.Nat.{le_trans, le_of_eq, lt_of_lt_of_le, mul_assoc, mul-le-mul_right, mul-pos, div-div-eq-div-mul, div-lt_iff_lt-mul, le-div_iff_mul-le}
use native.Mathlib.Omega.{arith}
use mathlib.Core.Bool.{Bool}
use lib.Dec.{lit<, lit≤}
use lib.Pow.{pow-add, pow_pos, pow_mono, shl_lt, high}
use lib.Ieee.{Format, binary32, binary64, prec, low, hid, ones, units, round, of_bits}
use lib.Ieee.Fits.{two, nearest-le}
use lib.Ieee.Nearest.{closest, closest_same, nearest-ge}
use lib.Ieee.Scale.{round_same}
use Rattle.words.specs.Sticky.{StickyEquivalent}
use Rattle.rounding.proofs.Nearest.{closest_sticky}
use Rattle.rounding.proofs.RoundSticky.{round_whole_at, round_shifted}
use Rattle.rounding.proofs.BitPattern.{sign_bit, rounded_pattern, infinite_pattern}

-- the bits of a word below a format's significand
abbrev pub word_unit : Format → ℕ
word_unit f = 2 ^ (64 - prec f)

-- a format's significand leaves two bits of a word at least
pub prec_short : (f : Format) → prec f + 2 ≤ 64
prec_short binary32 = lit≤ tt
prec_short binary64 = lit≤ tt

word_split : (f : Format) → 2 ^ prec f * word_unit f ≡ 2 ^ 64
word_split f = sym (pow-add 2 (prec f) (64 - prec f)) ∙ ap (λ (x : ℕ). 2 ^ x) (let p = prec_short f in let k : prec f + (64 - prec f) ≡ 64 = omega arith in k)

hid_split : (f : Format) → hid f * word_unit f ≡ 2 ^ (prec f - 1 + (64 - prec f))
hid_split f = sym (pow-add 2 (prec f - 1) (64 - prec f))

-- ---- a word rounded to prec bits
pub rounded_le : (f : Format) (w : ℕ) → w < 2 ^ 64 → closest w (word_unit f) ≤ 2 ^ prec f
rounded_le f w h =
    le_trans (nearest-le (w / word_unit f) (compare (w % word_unit f * 2) (word_unit f)))
    ((div-lt_iff_lt-mul (pow_pos (64 - prec f))).1 (lt_of_lt_of_le h (le_of_eq (sym (word_split f)))))

pub rounded_ge : (f : Format) (w : ℕ) → 2 ^ 63 ≤ w → hid f ≤ closest w (word_unit f)
rounded_ge f w h =
    le_trans ((le-div_iff_mul-le (pow_pos (64 - prec f))).1 (le_trans (le_of_eq (hid_split f)) (le_trans (pow_mono (let p = prec_short f in let t = two f in let k : prec f - 1 + (64 - prec f) ≤ 63 = omega arith in k)) h)))
    (nearest-ge (w / word_unit f) (compare (w % word_unit f * 2) (word_unit f)))

-- ---- the leading bit stands at 63 + e
module _ (f : Format) (s : Bool) (w e b : ℕ) (lo : 2 ^ 63 ≤ w) (hi : w < 2 ^ 64) where
  by_place : round f s (w * 2 ^ e) (2 ^ (low f + b)) ≡ units f s (closest (w * 2 ^ e) (2 ^ (b + (64 + e - b - prec f)))) (64 + e - b - prec f)
  by_place =
      round_whole_at f s (w * 2 ^ e) (63 + e) b
      (le_trans (le_of_eq (pow-add 2 63 e)) (mul-le-mul_right (2 ^ e) lo))
      (subst (λ (x : ℕ). w * 2 ^ e < 2 ^ x) (next e) (shl_lt 64 e hi))
      ∙ ap (λ (k : ℕ). units f s (closest (w * 2 ^ e) (2 ^ (b + k))) k) (ap (λ (x : ℕ). x - b - prec f) (sym (next e)))
    where
      next : (e : ℕ) → 64 + e ≡ suc (63 + e)
      next e = omega arith

  -- k bits of the smallest values are dropped
  normal_rounds : (k : ℕ) → k + (b + prec f) ≡ 64 + e → round f s (w * 2 ^ e) (2 ^ (low f + b)) ≡ units f s (closest w (word_unit f)) k
  normal_rounds k p =
      by_place
      ∙ ap (λ (j : ℕ). units f s (closest (w * 2 ^ e) (2 ^ (b + j))) j) (drops k p)
      ∙ ap (λ (q : ℕ). units f s q k)
      (ap (λ (z : ℕ). closest (w * 2 ^ e) z) (ap (λ (z : ℕ). 2 ^ z) (place k p) ∙ pow-add 2 e (64 - prec f))
      ∙ closest_same (w * 2 ^ e) (2 ^ e * word_unit f) w (word_unit f) (mul-pos (pow_pos e) (pow_pos (64 - prec f))) (pow_pos (64 - prec f)) (mul_assoc w (2 ^ e) (word_unit f)))
    where
      drops : (k : ℕ) → k + (b + prec f) ≡ 64 + e → 64 + e - b - prec f ≡ k
      drops k p = omega arith

      place : (k : ℕ) → k + (b + prec f) ≡ 64 + e → b + k ≡ e + (64 - prec f)
      place k p = let l = prec_short f in omega arith

  -- none are: v is the word shifted right to the format's smallest value
  subnormal_rounds : (v d : ℕ) → d + (64 + e) ≡ b + prec f → StickyEquivalent 2 (2 ^ d) w v → round f s (w * 2 ^ e) (2 ^ (low f + b)) ≡ units f s (closest v (word_unit f)) 0
  subnormal_rounds v d p sticky =
      let D = 2 ^ d in
      let c = 2 ^ (62 - prec f) in
      let u : word_unit f ≡ 2 * (c * 2) = ap (λ (x : ℕ). 2 ^ x) (let l = prec_short f in let k : 64 - prec f ≡ 1 + (62 - prec f + 1) = omega arith in k) ∙ pow-add 2 1 (62 - prec f + 1) ∙ ap (λ (x : ℕ). 2 * x) (pow-add 2 (62 - prec f) 1) in
      let all : 2 ^ e * (D * 2 * (c * 2)) ≡ 2 ^ b =
      ap (λ (z : ℕ). 2 ^ e * z) (mul_assoc D 2 (c * 2) ∙ ap (λ (z : ℕ). D * z) (sym u) ∙ sym (pow-add 2 d (64 - prec f)))
      ∙ sym (pow-add 2 e (d + (64 - prec f))) ∙ ap (λ (z : ℕ). 2 ^ z) (let l = prec_short f in let k : e + (d + (64 - prec f)) ≡ b = omega arith in k) in
      by_place
      ∙ ap (λ (k : ℕ). units f s (closest (w * 2 ^ e) (2 ^ (b + k))) k) (let k : 64 + e - b - prec f ≡ 0 = omega arith in k)
      ∙ ap (λ (q : ℕ). units f s q 0)
      (ap (λ (z : ℕ). closest (w * 2 ^ e) (2 ^ z)) (let k : b + 0 ≡ b = omega arith in k)
      ∙ closest_same (w * 2 ^ e) (2 ^ b) w (D * 2 * (c * 2)) (pow_pos b) (mul-pos (mul-pos (pow_pos d) (lit< tt)) (mul-pos (pow_pos (62 - prec f)) (lit< tt))) (mul_assoc w (2 ^ e) (D * 2 * (c * 2)) ∙ ap (λ (z : ℕ). w * z) all)
      ∙ closest_sticky 2 c D w v (lit< tt) (pow_pos (62 - prec f)) (pow_pos d) sticky
      ∙ ap (λ (z : ℕ). closest v z) (sym u))

  -- A normal value, or the step to an infinity.
  pub normal_pattern : (k : ℕ) → k + (b + prec f) ≡ 64 + e → k ≤ ones f - 2 → of_bits f (sign_bit f s + (k * hid f + closest w (word_unit f))) ≡ round f s (w * 2 ^ e) (2 ^ (low f + b))
  normal_pattern k p h = rounded_pattern f s (closest w (word_unit f)) k (rounded_le f w hi, inr (rounded_ge f w lo)) h ∙ sym (normal_rounds k p)

  -- A subnormal value, zero, or the step to the least normal value.
  pub subnormal_pattern : (v d : ℕ) → v < 2 ^ 64 → d + (64 + e) ≡ b + prec f → StickyEquivalent 2 (2 ^ d) w v → of_bits f (sign_bit f s + closest v (word_unit f)) ≡ round f s (w * 2 ^ e) (2 ^ (low f + b))
  subnormal_pattern v d small p sticky =
      ap (λ (x : ℕ). of_bits f (sign_bit f s + x)) (field_zero (hid f) (closest v (word_unit f)))
      ∙ rounded_pattern f s (closest v (word_unit f)) 0 (rounded_le f v small, inl refl) (let k : 0 ≤ ones f - 2 = omega arith in k)
      ∙ sym (subnormal_rounds v d p sticky)
    where
      field_zero : (H q : ℕ) → q ≡ 0 * H + q
      field_zero H q = omega arith

  -- An infinity.
  pub overflow_pattern : (k : ℕ) → k + (b + prec f) ≡ 64 + e → ones f - 1 ≤ k → of_bits f (sign_bit f s + ones f * hid f) ≡ round f s (w * 2 ^ e) (2 ^ (low f + b))
  overflow_pattern k p h = infinite_pattern f s (closest w (word_unit f)) k (rounded_ge f w lo) h ∙ sym (normal_rounds k p)

-- ---- two words

-- the word that two words with the top bit set collapse into has its top bit set
pub collapsed_top : (h l w : ℕ) → l < 2 ^ 64 → 2 ^ 63 ≤ h → (h * 2 ^ 64 + l) / (2 ^ 64 * 2) ≡ w / 2 → 2 ^ 63 ≤ w
collapsed_top h l w L t e =
    let a : (h * 2 ^ 64 + l) / (2 ^ 64 * 2) ≡ h / 2 = sym (div-div-eq-div-mul (h * 2 ^ 64 + l) (2 ^ 64) 2) ∙ ap (λ (z : ℕ). z / 2) (high h 64 L) in
    omega arith

-- x with the exponent e, shifted left by k to n, and n collapsed into w
pub collapsed_rounds : (f : Format) (s : Bool) (x e b k n w : ℕ) → k < 128 → n ≡ x * 2 ^ k → 2 ^ 63 ≤ w → StickyEquivalent 2 (2 ^ 64) n w
    → round f s (w * 2 ^ (e + 128 - k)) (2 ^ (low f + (b + 64))) ≡ round f s (x * 2 ^ e) (2 ^ (low f + b))
collapsed_rounds f s x e b k n w K v top sticky =
    let E = e + 128 - k in
    let L = low f in
    round_same f s (w * 2 ^ E) (2 ^ (L + (b + 64))) (w * 2 ^ (E + 64)) (2 ^ (L + (b + 128))) (pow_pos (L + (b + 64))) (pow_pos (L + (b + 128)))
    (scaled w E (L + (b + 128)) (E + 64) (L + (b + 64)) (let k : E + (L + (b + 128)) ≡ E + 64 + (L + (b + 64)) = omega arith in k))
    ∙ sym (round_shifted f s n w 64 E (b + 128) sticky (le_trans (pow_mono (let l = prec_short f in let k : suc (prec f) ≤ 63 = omega arith in k)) top))
    ∙ ap (λ (z : ℕ). round f s (z * 2 ^ E) (2 ^ (L + (b + 128)))) v
    ∙ ap (λ (z : ℕ). round f s z (2 ^ (L + (b + 128)))) (mul_assoc x (2 ^ k) (2 ^ E) ∙ ap (λ (z : ℕ). x * z) (sym (pow-add 2 k E)))
    ∙ round_same f s (x * 2 ^ (k + E)) (2 ^ (L + (b + 128))) (x * 2 ^ e) (2 ^ (L + b)) (pow_pos (L + (b + 128))) (pow_pos (L + b))
    (scaled x (k + E) (L + b) e (L + (b + 128)) (let q : k + (e + 128 - k) + (L + b) ≡ e + (L + (b + 128)) = omega arith in q))
  where
    scaled : (x i j k l : ℕ) → i + j ≡ k + l → x * 2 ^ i * 2 ^ j ≡ x * 2 ^ k * 2 ^ l
    scaled x i j k l p = mul_assoc x (2 ^ i) (2 ^ j) ∙ ap (λ (z : ℕ). x * z) (sym (pow-add 2 i j) ∙ ap (λ (z : ℕ). 2 ^ z) p ∙ pow-add 2 k l) ∙ sym (mul_assoc x (2 ^ k) (2 ^ l))
