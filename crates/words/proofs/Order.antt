-- Two words compared, by the derived order. Assumes nothing.
use Rattle.std.proofs.Common.{◌≡◌, ◌^◌, ◌<◌, ltb, arith}
use Rattle.std.specs.Ordering.{partial_lt}
use Rattle.std.proofs.lemmas.Bool.Decides.{nat_tests}
use Rattle.words.specs.Value.{value}
use Rattle.words.specs.declared.TwoWords.{TwoWords}
use Rattle.words.specs.contracts.TwoWordsPartialOrd.TheImpl.{partial_cmp-value}

-- The derived `<` of two words, by the high ones first, is that of the numbers that they hold.
pub less_by_value : (x y : TwoWords) → x.lo < 2 ^ 64 → y.lo < 2 ^ 64 → partial_lt (partial_cmp-value).it x y ≡ ltb (value x) (value y)
less_by_value x y p q = grind (arith, nat_tests)
