use Rattle.std.proofs.Common.{arith}
use lib.Dec.{lit≤}
use Rattle.words.proofs.LeadingZeros.{shifted_top}
use Rattle.rounding.proofs.Normalise.{significand_top, zeros_ge, shifted_multiple, shifted_value}
use Rattle.rounding.proofs.normalise_significand.Goals as goal

pub invariant_of-result : goal.invariant_of-result
invariant_of-result c =
    let x = c.args.x in
    let zeros = zeros_ge 53 x.significand (lit≤ tt) c.requires x.significand_in_range in
    record {
      top_bit = shifted_top _ _ (significand_top 53 x.significand (lit≤ tt) c.requires x.significand_in_range);
      last_bits = shifted_multiple 53 x.significand (lit≤ tt) c.requires x.significand_in_range;
      exponent_in_range = omega (arith, zeros, x.exponent_in_range);
    }

pub returns : goal.returns
returns c = let x = c.args.x in shifted_value 53 x.significand (lit≤ tt) c.requires x.significand_in_range x.exponent
