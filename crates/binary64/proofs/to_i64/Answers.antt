use Rattle.std.proofs.Common.{sym, ◌∙◌, to_z-of_z, w64}
use lib.Ieee.{of_bits, neg, to_signed}
use denote.Floats.{passes}
use Rattle.binary64.specs.Convert.{to_i64}
use Rattle.binary64.proofs.ConvertedSteps.{in_range, below_range, above_range_lem, no_number}
use Rattle.binary64.proofs.to_i64.Goals as goal

pub truncating_f64_to_i64-whole-requires : goal.truncating_f64_to_i64-whole-requires
unfolding of_bits neg
truncating_f64_to_i64-whole-requires c = record { lower_bound = passes _ c.if-x-2.true; upper_bound = passes _ c.if-x.true }

pub kept_or_cut-requires : goal.kept_or_cut-requires
unfolding of_bits neg to_i64 to_signed
kept_or_cut-requires c = record { below_end = c.if-x.true; from_least = c.if-x-2.true; its_whole = to_z-of_z {w = w64} {z = c.truncating_f64_to_i64-whole.result} (record { sfits = c.truncating_f64_to_i64-whole.type_inv }) ∙ c.truncating_f64_to_i64-whole.ensures }

pub returns-then-x-2 : goal.returns-then-x-2
unfolding to_i64 to_signed
returns-then-x-2 c = in_range c.args.x _ c.kept_or_cut.result (to_z-of_z {w = w64} {z = c.truncating_f64_to_i64-whole.result} (record { sfits = c.truncating_f64_to_i64-whole.type_inv }) ∙ c.truncating_f64_to_i64-whole.ensures) c.kept_or_cut.ensures

pub returns-else-x-2 : goal.returns-else-x-2
unfolding of_bits neg
returns-else-x-2 c = below_range c.args.x c.if-x.true c.if-x-2.false

pub returns-then-is_nan : goal.returns-then-is_nan
returns-then-is_nan c = no_number c.args.x (sym c.is_nan.ensures.value ∙ c.if-is_nan.true)

pub returns-else-is_nan : goal.returns-else-is_nan
unfolding of_bits
returns-else-is_nan c = above_range_lem c.args.x c.if-x.false (sym c.is_nan.ensures.value ∙ c.if-is_nan.false)
