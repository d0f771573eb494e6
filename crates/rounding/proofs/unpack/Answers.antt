use Rattle.std.proofs.Common.{T, sym, subst}
use Rattle.std.specs.Float.{binary64}
use Rattle.binary64.proofs.NotNan.{finite_not_nan}
use Rattle.rounding.proofs.Fields.{unpacked_subnormal, unpacked_normal}
use Rattle.rounding.proofs.unpack.Goals as goal

pub float_to_bits-bits : goal.float_to_bits-bits
float_to_bits-bits c = finite_not_nan c.args.x c.requires

pub returns-then-field-eq0 : goal.returns-then-field-eq0
returns-then-field-eq0 c = (unpacked_subnormal binary64 c.args.x (subst T (sym c.well_formed.0.1) tt) c.requires c.if-field-eq0.true).value

pub invariant_of-result-2 : goal.invariant_of-result-2
invariant_of-result-2 c =
    let r = unpacked_normal binary64 c.args.x (subst T (sym c.well_formed.0.1) tt) c.requires c.if-field-eq0.false in
    record { significand_in_range = r.significand; exponent_in_range = r.exponent }

pub returns : goal.returns
returns c = (unpacked_normal binary64 c.args.x (subst T (sym c.well_formed.0.1) tt) c.requires c.if-field-eq0.false).value
