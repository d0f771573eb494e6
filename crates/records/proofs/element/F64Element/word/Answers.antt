-- A NaN has the one pattern.
use Rattle.std.proofs.Common.{refl, sym}
use Rattle.std.specs.Float.Ieee.{to_bits}
use Rattle.binary64.proofs.Nan.{only_nan}
use Rattle.records.proofs.element.F64Element.word.Goals as goal

pub returns-then-is_nan : goal.returns-then-is_nan
unfolding to_bits
returns-then-is_nan c = rw (only_nan c.args.self (sym c.if-is_nan.ensures.value)) refl
