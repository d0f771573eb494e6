use Rattle.std.proofs.Common.{T, sym, ap, subst, ◌∙◌, true≢false, arith, rules}
use lib.Ieee.{is_nan}
use Rattle.words.proofs.Order.{less_by_value}
use Rattle.root.proofs.RoundedRoot.{candidate_accepted, root_accepted, root_number, both_tests}
use Rattle.root.proofs.Radicand.is_root.Goals as goal

pub returns-then-is_nan : goal.returns-then-is_nan
returns-then-is_nan c = (
  λ f. absurd (true≢false (sym f)),
  λ e. let r = c.args.self in absurd (true≢false (sym (sym c.is_nan.ensures.value ∙ c.if-is_nan.true) ∙ ap is_nan e ∙ root_number _)),
)

pub returns-then-bits-self : goal.returns-then-bits-self
returns-then-bits-self c = (
  λ f. absurd (true≢false (sym f)),
  λ e. let r = c.args.self in let passed = root_accepted r.significand r.half r.top_bits r.no_carry r.half_in_range c.args.candidate e in absurd (omega (arith, passed.place, c.if-bits-self.true)),
)

pub returns : goal.returns
returns c =
    let r = c.args.self in
    let square = c.multiply-square in
    let number = c.multiply-number in
    let tests =
    both_tests c.lt.result c.lt-2.result _ _ _ _ (c.lt.ensures ∙ less_by_value square.result c.add.result (search rules) (search rules)) (c.lt-2.ensures ∙ less_by_value c.add-2.result number.result (search rules) (search rules)) in (
      λ passed.
          candidate_accepted r.significand r.half r.top_bits r.no_carry r.half_in_range c.args.candidate (subst T (sym c.well_formed.1.0.1) tt)
          (record {
            place = search rules;
            short = omega (arith, (tests.0 passed).0, c.add.ensures, square.ensures, number.ensures);
            reaches = omega (arith, (tests.0 passed).1, c.add-2.ensures, square.ensures, number.ensures);
          }),
      λ e.
          let passes = root_accepted r.significand r.half r.top_bits r.no_carry r.half_in_range c.args.candidate e in
          tests.1 (omega (arith, passes.short, c.add.ensures, square.ensures, number.ensures), omega (arith, passes.reaches, c.add-2.ensures, square.ensures, number.ensures)),
    )
