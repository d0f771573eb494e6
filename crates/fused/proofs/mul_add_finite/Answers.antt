use Rattle.std.proofs.Common.{◌≡◌, ℕ, ◌*◌, ◌^◌, Bool, sym, ap, ◌∙◌, zero-mul, mul-pos, pow_pos}
use Rattle.std.specs.Float.{binary64}
use Rattle.std.specs.Float.Ieee.{round, sum}
use Rattle.std.specs.Float.Ieee.Scale.{finite}
use Rattle.words.specs.Value.{value}
use Rattle.rounding.specs.declared.Unpacked.{Unpacked}
use Rattle.rounding.proofs.Sum.{sum_zero_right}
use Rattle.fused.specs.declared.Scaled.{Scaled}
use Rattle.fused.proofs.Align.{alignable_pos}
use Rattle.fused.proofs.Outcomes.{product_zero}
use Rattle.fused.proofs.Special.{each_finite}
use Rattle.fused.proofs.Values.{fused_scaled, zero_product_apart}
use Rattle.fused.proofs.mul_add_finite.Goals as goal

-- the magnitude of an unpacked value, in units of the smallest one
abbrev magnitude : Unpacked → ℕ
magnitude x = x.significand * 2 ^ x.exponent

abbrev scaled : Scaled → ℕ
scaled x = value x.number.words * 2 ^ x.exponent

zero_magnitude : (m e : ℕ) → m ≡ 0 → 0 ≡ m * 2 ^ e * 2 ^ 1202
zero_magnitude m e z = sym (ap (λ (x : ℕ). x * 2 ^ e * 2 ^ 1202) z ∙ ap (λ (x : ℕ). x * 2 ^ 1202) (zero-mul (2 ^ e)) ∙ zero-mul (2 ^ 1202))

pub returns-then-x-y : goal.returns-then-x-y
returns-then-x-y c =
    let x = c.unpack-x in
    let y = c.unpack-y in
    zero_product_apart binary64 _ _ _ _ _ (magnitude x.result) (magnitude y.result) (2 ^ 1074) (pow_pos 1074)
    x.ensures y.ensures (each_finite (finite c.args.a) (finite c.args.b) (finite c.args.c) c.requires).1.1
    (product_zero x.result.significand y.result.significand x.result.exponent y.result.exponent c.if-x-y.true)

pub returns-then-z-eq0 : goal.returns-then-z-eq0
returns-then-z-eq0 c =
    let x = c.unpack-x in
    let y = c.unpack-y in
    let z = c.unpack-z in
    let product = c.exact_product-product in
    c.round_and_pack.ensures
    ∙ ap (λ (s : Bool). round binary64 s (scaled product.result) (2 ^ 2276)) product.ensures.sign
    ∙ sym (fused_scaled binary64 1074 128 (magnitude x.result) (magnitude y.result) (magnitude z.result) _ 0 _ _ _ _ _ _
    x.ensures y.ensures z.ensures product.ensures.exact (zero_magnitude z.result.significand z.result.exponent c.if-z-eq0.true)
    ∙ sum_zero_right binary64 _ _ _ _ (mul-pos (alignable_pos _ product.result.alignable) (pow_pos product.result.exponent)))

pub returns : goal.returns
returns c =
    let x = c.unpack-x in
    let y = c.unpack-y in
    let z = c.unpack-z in
    let product = c.exact_product-product in
    let addend = c.exact_addend in
    c.align_and_add.ensures
    ∙ (λ i. sum binary64 (product.ensures.sign i) (scaled product.result) (addend.ensures.sign i) (scaled addend.result) (2 ^ 2276))
    ∙ sym (fused_scaled binary64 1074 128 (magnitude x.result) (magnitude y.result) (magnitude z.result) _ _ _ _ _ _ _ _
    x.ensures y.ensures z.ensures product.ensures.exact addend.ensures.exact)
