use Rattle.std.proofs.Common.{arith, rules}
use Rattle.words.proofs.LeadingZeros.{leading_zeros_top, shifted_top, low_word_shifted, two_words_high_lt_in_steps, two_words_shifted_in_steps, two_words_top_in_steps}
use Rattle.words.proofs.normalise_words.Goals as goal

-- what the count of leading zeros says of the word that holds the leading bit
pub overflow_add-result-else-x-eq0 : goal.overflow_add-result-else-x-eq0
overflow_add-result-else-x-eq0 c =
    let x = c.args.x in
    record { fits = two_words_high_lt_in_steps _ _ _ (leading_zeros_top x.hi (omega arith) (search rules)) (search rules) }

pub returns-then-x-eq0 : goal.returns-then-x-eq0
returns-then-x-eq0 c =
    let x = c.args.x in
    let k = leading_zeros_top x.lo (omega arith) (search rules) in
    (low_word_shifted _ _ _ c.if-x-eq0.true k, shifted_top _ _ k, let s = k.short in omega arith)

pub returns-else-x-eq0 : goal.returns-else-x-eq0
returns-else-x-eq0 c =
    let x = c.args.x in
    let k = leading_zeros_top x.hi (omega arith) (search rules) in
    (two_words_shifted_in_steps _ _ _ k (search rules), two_words_top_in_steps _ _ _ k (search rules), let s = k.short in omega arith)
