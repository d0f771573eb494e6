use Rattle.std.proofs.Common.{◌≡◌, ℕ, ◌+◌, ◌-◌, ◌*◌, ◌^◌, ◌≤◌, ap, ◌∙◌, arith, rules}
use Rattle.std.specs.Float.{binary64}
use Rattle.std.specs.Float.Ieee.{emax, of_bits}
use Rattle.rounding.specs.Scale.{unpacked_scale, high_word_scale}
use Rattle.rounding.proofs.BitPattern.{sign_bit}
use Rattle.rounding.proofs.RoundWord.{normal_pattern, subnormal_pattern, overflow_pattern}
use Rattle.rounding.proofs.round_and_pack_word.Goals as goal

-- the exponent from which the leading bit of a word counts 2 ^ emin, that is 2 ^ (1 - emax), or more
abbrev least_normal : ℕ
least_normal = high_word_scale - 63 - (emax binary64 - 1)

-- how far a word stands below the smallest positive value
abbrev word_places : ℕ
word_places = high_word_scale - unpacked_scale

-- the laws of RoundWord at binary64
pub returns-then-exponent-lt-LEAST_NORMAL : goal.returns-then-exponent-lt-LEAST_NORMAL
returns-then-exponent-lt-LEAST_NORMAL c =
    let a = c.args in
    let v = c.shift_right_sticky-subnormal in
    let place : least_normal - a.exponent + (64 + a.exponent) ≡ word_places + 53 = omega (arith, c.if-exponent-lt-LEAST_NORMAL.true) in
    c.pack.ensures
    ∙ ap (λ (q : ℕ). of_bits binary64 (sign_bit binary64 a.negative + q)) c.round_significand.ensures
    ∙ subnormal_pattern binary64 a.negative a.significand a.exponent word_places c.requires (search rules) v.result (least_normal - a.exponent) (search rules) place v.ensures

pub returns-then-exponent-lt-LEAST_OVERFLOW : goal.returns-then-exponent-lt-LEAST_OVERFLOW
returns-then-exponent-lt-LEAST_OVERFLOW c =
    let a = c.args in
    let place : a.exponent - least_normal + (word_places + 53) ≡ 64 + a.exponent = omega (arith, c.if-exponent-lt-LEAST_NORMAL.false) in
    let h : a.exponent - least_normal ≤ 2045 = omega (arith, c.if-exponent-lt-LEAST_OVERFLOW.true) in
    c.pack-then-exponent-lt-LEAST_OVERFLOW.ensures
    ∙ ap (λ (q : ℕ). of_bits binary64 (sign_bit binary64 a.negative + ((a.exponent - least_normal) * 2 ^ 52 + q))) c.round_significand-rounded.ensures
    ∙ normal_pattern binary64 a.negative a.significand a.exponent word_places c.requires (search rules) (a.exponent - least_normal) place h

pub returns-else-exponent-lt-LEAST_OVERFLOW : goal.returns-else-exponent-lt-LEAST_OVERFLOW
returns-else-exponent-lt-LEAST_OVERFLOW c =
    let a = c.args in
    let place : a.exponent - least_normal + (word_places + 53) ≡ 64 + a.exponent = omega (arith, c.if-exponent-lt-LEAST_NORMAL.false) in
    let h : 2046 ≤ a.exponent - least_normal = omega (arith, c.if-exponent-lt-LEAST_OVERFLOW.false) in
    c.pack-else-exponent-lt-LEAST_OVERFLOW.ensures
    ∙ overflow_pattern binary64 a.negative a.significand a.exponent word_places c.requires (search rules) (a.exponent - least_normal) place h
