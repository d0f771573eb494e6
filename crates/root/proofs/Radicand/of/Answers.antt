use Rattle.std.proofs.Common.{◌%◌, sym, ap, ◌∙◌, arith, rules}
use Rattle.std.specs.Float.{binary64}
use Rattle.root.specs.Root.{scaled_root}
use Rattle.root.proofs.HalfExponent.{shifted_ge, shifted_le, half_exponent}
use Rattle.root.proofs.Operands.{positive_root, significand_positive}
use Rattle.root.proofs.Radicand.of.Goals as goal

pub normalise_significand-n-requires : goal.normalise_significand-n-requires
normalise_significand-n-requires c =
    let x = c.unpack.result in
    significand_positive c.args.x x.negative x.significand x.exponent c.requires c.unpack.ensures

pub invariant_of-result : goal.invariant_of-result
invariant_of-result c =
    let n = c.normalise_significand-n.result in
    record {
      top_bits = shifted_ge _ _ n.top_bit (omega arith);
      no_carry = shifted_le _ (n.exponent % 2) (search rules) n.last_bits (omega arith);
      half_in_range = omega (arith, n.exponent_in_range);
    }

pub returns : goal.returns
returns c =
    let n = c.normalise_significand-n in
    ap (scaled_root binary64) (half_exponent _ _ _ n.ensures (omega (arith, n.result.last_bits)))
    ∙ sym (positive_root c.args.x c.unpack.result.negative _ c.requires c.unpack.ensures)
