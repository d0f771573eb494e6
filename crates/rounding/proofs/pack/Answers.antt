use Rattle.std.proofs.Common.{◌^◌, le_trans, le_of_eq}
use native.Mathlib.Nat.{mod-le, add-mod_right}
use Rattle.std.specs.Float.{binary64}
use Rattle.rounding.proofs.BitPattern.{not_nan_pattern}
use Rattle.rounding.proofs.pack.Goals as goal

pub float_from_bits-result : goal.float_from_bits-result
float_from_bits-result c = not_nan_pattern binary64 _ (le_trans (le_of_eq (add-mod_right c.args.magnitude (2 ^ 63))) (le_trans (mod-le c.args.magnitude (2 ^ 63)) c.requires))

pub float_from_bits-result-else-negative : goal.float_from_bits-result-else-negative
float_from_bits-result-else-negative c = not_nan_pattern binary64 _ (le_trans (mod-le c.args.magnitude (2 ^ 63)) c.requires)
