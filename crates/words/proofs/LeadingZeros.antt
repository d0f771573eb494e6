-- The count of leading zeros is the left shift that brings a word, or two, to the top bit. Assumes nothing.
use Rattle.std.proofs.Common.{◌≡◌, ℕ, suc, ◌+◌, ◌-◌, ◌*◌, ◌/◌, ◌%◌, ◌^◌, ◌<◌, ◌≤◌, sym, ap, ◌∙◌, subst, le_trans, le_of_eq, le-add_right, lt_of_le_of_lt, add-zero, le_of_lt, add-suc, mul-le-mul_right, mod-eq_of_lt, mul_assoc, add_comm, arith, pow_pos, pow-add, shl_lt}
use native.Mathlib.Nat.{suc_inj}
use lib.Count.{count_leading_zeros, leading_top}
use Rattle.words.proofs.Shift.{pow_split, right_in_two_steps, left_high_lt, left_value}

-- a, shifted left by z, is a word with its top bit set
pub record TopShift (a z : ℕ) : Type 0 where
  pub top : 2 ^ 63 ≤ a * 2 ^ z
  pub fits : a * 2 ^ z < 2 ^ 64
  pub short : z < 64

pub leading_zeros_top : (a : ℕ) → 0 < a → a < 2 ^ 64 → TopShift a (count_leading_zeros 64 a)
leading_zeros_top a A l =
    let t = leading_top 64 a A l in
    let k = t.0 in
    let s = count_leading_zeros 64 a in record {
      top = subst (λ (x : ℕ). 2 ^ x ≤ a * 2 ^ s) (add_comm k s ∙ suc_inj (sym (add-suc s k) ∙ t.1)) (le_trans (le_of_eq (pow-add 2 k s)) (mul-le-mul_right (2 ^ s) t.2));
      fits = subst (λ (x : ℕ). a * 2 ^ s < 2 ^ x) (add_comm (suc k) s ∙ t.1) (shl_lt {a = a} (suc k) s t.3);
      short = let e = t.1 in omega arith;
    }

-- ---- one word: nothing is shifted out
pub shifted_top : (a z : ℕ) → TopShift a z → 2 ^ 63 ≤ a * 2 ^ z % 2 ^ 64
shifted_top a z k = le_trans k.top (le_of_eq (sym (mod-eq_of_lt k.fits)))

-- ---- two words whose high one is 0
pub low_word_shifted : (h l z : ℕ) → h ≡ 0 → TopShift l z → l * 2 ^ z % 2 ^ 64 * 2 ^ 64 + 0 ≡ (h * 2 ^ 64 + l) * 2 ^ (z + 64)
low_word_shifted h l z e k =
    let p : h * 2 ^ 64 + l ≡ l = omega arith in
    add-zero (l * 2 ^ z % 2 ^ 64 * 2 ^ 64)
    ∙ ap (λ (y : ℕ). y * 2 ^ 64) (mod-eq_of_lt k.fits)
    ∙ mul_assoc l (2 ^ z) (2 ^ 64)
    ∙ ap (λ (y : ℕ). l * y) (sym (pow-add 2 z 64))
    ∙ ap (λ (y : ℕ). y * 2 ^ (z + 64)) (sym p)

-- ---- two words whose high one is not
module _ (h l z : ℕ) (k : TopShift h z) (L : l < 2 ^ 64) where
  split : 2 ^ z * 2 ^ (64 - z) ≡ 2 ^ 64
  split = pow_split z 64 (le_of_lt k.short)

  pub two_words_high_lt : h * 2 ^ z % 2 ^ 64 + l / 2 ^ (64 - z) < 2 ^ 64
  two_words_high_lt = left_high_lt (2 ^ z) (2 ^ (64 - z)) (2 ^ 64) split (pow_pos z) (pow_pos (64 - z)) h l k.fits L

  pub two_words_shifted : (h * 2 ^ z % 2 ^ 64 + l / 2 ^ (64 - z)) * 2 ^ 64 + l * 2 ^ z % 2 ^ 64 ≡ (h * 2 ^ 64 + l) * 2 ^ z
  two_words_shifted = left_value (2 ^ z) (2 ^ (64 - z)) (2 ^ 64) split (pow_pos z) (pow_pos (64 - z)) h l k.fits

  pub two_words_top : 2 ^ 63 ≤ h * 2 ^ z % 2 ^ 64 + l / 2 ^ (64 - z)
  two_words_top = le_trans (shifted_top h z k) (le-add_right (h * 2 ^ z % 2 ^ 64) (l / 2 ^ (64 - z)))

  -- the same where what enters the high word goes right in two steps
  high_is : h * 2 ^ z % 2 ^ 64 + l / 2 / 2 ^ (63 - z) ≡ h * 2 ^ z % 2 ^ 64 + l / 2 ^ (64 - z)
  high_is = ap (λ (y : ℕ). h * 2 ^ z % 2 ^ 64 + y) (right_in_two_steps l z k.short)

  pub two_words_high_lt_in_steps : h * 2 ^ z % 2 ^ 64 + l / 2 / 2 ^ (63 - z) < 2 ^ 64
  two_words_high_lt_in_steps = lt_of_le_of_lt (le_of_eq high_is) two_words_high_lt

  pub two_words_shifted_in_steps : (h * 2 ^ z % 2 ^ 64 + l / 2 / 2 ^ (63 - z)) * 2 ^ 64 + l * 2 ^ z % 2 ^ 64 ≡ (h * 2 ^ 64 + l) * 2 ^ z
  two_words_shifted_in_steps = ap (λ (y : ℕ). y * 2 ^ 64 + l * 2 ^ z % 2 ^ 64) high_is ∙ two_words_shifted

  pub two_words_top_in_steps : 2 ^ 63 ≤ h * 2 ^ z % 2 ^ 64 + l / 2 / 2 ^ (63 - z)
  two_words_top_in_steps = le_trans two_words_top (le_of_eq (sym high_is))
