-- A pattern is a NaN's where it is greater than an infinity's, the sign left out.
use Rattle.std.proofs.Common.{ℕ, ◌*◌, ◌%◌, ◌^◌, ◌<◌, ◌≡◌, Bool, not, sym, subst, ◌∙◌}
use borrow.Author.Tests.{lt-ltb}
use lib.Dec.{T}
use lib.Arith.{le→nltb}
use lib.Ieee.{nan, binary64, of_bits}
use lib.Ieee.Bits.{nan_bits_is, nan_bits_above}
use Rattle.binary64.proofs.Nan.{only_nan}
use Rattle.records.proofs.element.F64Element.from_word.Goals as goal

reads_nan : (bits : ℕ) → 2047 * 2 ^ 52 < bits % 2 ^ 63 → of_bits binary64 bits ≡ nan
reads_nan bits h = only_nan (of_bits binary64 bits) (sym (nan_bits_is binary64 bits) ∙ nan_bits_above binary64 bits ∙ lt-ltb _ _ h)

pub returns-then-word-gt9218868437227405312 : goal.returns-then-word-gt9218868437227405312
unfolding of_bits
returns-then-word-gt9218868437227405312 c = sym (reads_nan c.args.word c.if-word-gt9218868437227405312.true)

pub float_from_bits-result : goal.float_from_bits-result
float_from_bits-result c =
    subst (λ (b : Bool). T (not b)) (sym (nan_bits_above binary64 c.args.word)) (le→nltb (2047 * 2 ^ 52) (c.args.word % 2 ^ 63) c.if-word-gt9218868437227405312.false)
