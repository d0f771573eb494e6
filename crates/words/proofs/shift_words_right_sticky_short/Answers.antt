use Rattle.std.proofs.Common.{◌≡◌, ℕ, ◌+◌, ◌-◌, ◌*◌, ◌/◌, ◌%◌, ◌^◌, ◌<◌, sym, ◌∙◌, le_of_lt, arith, pow_pos, rules}
use Rattle.words.proofs.StickyShift.{shift_exact, shift_inexact, last_cleared_lt, last_set_lt, restored_exact, changed_inexact}
use Rattle.words.proofs.Shift.{pow_split, right_low_lt, right_value, right_rest}
use Rattle.words.proofs.shift_words_right_sticky_short.Goals as goal

-- the sticky bit of the low word is that of the number
sticky_low : (h t : ℕ) → h * 2 ^ 64 + (t / 2 * 2 + 1) ≡ (h * 2 ^ 64 + t) / 2 * 2 + 1
sticky_low h t = omega arith

module _ (d : ℕ) (D : d < 64) (h l : ℕ) (L : l < 2 ^ 64) where
  split : 2 ^ d * 2 ^ (64 - d) ≡ 2 ^ 64
  split = pow_split d 64 (le_of_lt D)

  low_lt : h * 2 ^ (64 - d) % 2 ^ 64 + l / 2 ^ d < 2 ^ 64
  low_lt = right_low_lt (2 ^ d) (2 ^ (64 - d)) (2 ^ 64) split (pow_pos d) (pow_pos (64 - d)) h l L

  value_is : h / 2 ^ d * 2 ^ 64 + (h * 2 ^ (64 - d) % 2 ^ 64 + l / 2 ^ d) ≡ (h * 2 ^ 64 + l) / 2 ^ d
  value_is = right_value (2 ^ d) (2 ^ (64 - d)) (2 ^ 64) split (pow_pos d) (pow_pos (64 - d)) h l

  rest_is : (h * 2 ^ 64 + l) % 2 ^ d ≡ l % 2 ^ d
  rest_is = right_rest (2 ^ d) (2 ^ (64 - d)) (2 ^ 64) split (pow_pos d) (pow_pos (64 - d)) h l

pub overflow_add-lo : goal.overflow_add-lo
overflow_add-lo c = record { fits = low_lt c.args.shift (search rules) _ _ (search rules) }

pub overflow_mul-result : goal.overflow_mul-result
overflow_mul-result c = record { fits = last_cleared_lt _ (low_lt c.args.shift (search rules) _ _ (search rules)) }

pub overflow_add-result : goal.overflow_add-result
overflow_add-result c = record { fits = last_set_lt _ (low_lt c.args.shift (search rules) _ _ (search rules)) }

pub returns-then-kept-shift : goal.returns-then-kept-shift
returns-then-kept-shift c =
    let d = c.args.shift in
    let x = c.args.x in
    let D : d < 64 = search rules in
    let L : x.lo < 2 ^ 64 = search rules in
    shift_exact _ _ _ (pow_pos d) (value_is d D x.hi x.lo L) (rest_is d D x.hi x.lo L ∙ restored_exact (2 ^ d) (2 ^ 64) x.lo L c.if-kept-shift.true)

pub returns-else-kept-shift : goal.returns-else-kept-shift
returns-else-kept-shift c =
    let d = c.args.shift in
    let x = c.args.x in
    let D : d < 64 = search rules in
    let L : x.lo < 2 ^ 64 = search rules in
    shift_inexact _ _ _ _ (pow_pos d) (value_is d D x.hi x.lo L) (sticky_low (x.hi / 2 ^ d) _)
    (λ z. changed_inexact (2 ^ d) (2 ^ 64) x.lo L c.if-kept-shift.false (sym (rest_is d D x.hi x.lo L) ∙ z))
