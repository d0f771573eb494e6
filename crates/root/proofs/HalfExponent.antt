-- A significand and an exponent, the exponent halved: an odd one takes a bit of the significand first. Assumes nothing.
use Rattle.std.proofs.Common.{◌≡◌, ℕ, zero, suc, ◌+◌, ◌-◌, ◌*◌, ◌/◌, ◌%◌, ◌^◌, ◌<◌, ◌≤◌, sym, ap, ◌∙◌, mul_assoc, arith, pow-add}
use Rattle.root.specs.Places.{squared_place}

-- the value is w * 2 ^ d / 2 ^ 1138, and a / 2 ^ 1074; in units of 4 ^ -1074 it is either of these
in_squared_units : (w d a : ℕ) → w * 2 ^ d ≡ a * 2 ^ 64 → w * 2 ^ (d + squared_place) ≡ a * 2 ^ 1074
in_squared_units w d a e = ap (λ (x : ℕ). w * x) (pow-add 2 d squared_place) ∙ sym (mul_assoc w (2 ^ d) (2 ^ squared_place)) ∙ ap (λ (x : ℕ). x * 2 ^ squared_place) e ∙ mul_assoc a (2 ^ 64) (2 ^ squared_place)

-- an even w gives up b bits, none or one
shifted_back : (w b : ℕ) → w % 2 ≡ 0 → b < 2 → w / 2 ^ b * 2 ^ b ≡ w
shifted_back w zero v l = omega arith
shifted_back w (suc zero) v l = omega arith
shifted_back w (suc (suc b)) v l = absurd (omega arith)

pub shifted_ge : (w b : ℕ) → 2 ^ 63 ≤ w → b < 2 → 2 ^ 62 ≤ w / 2 ^ b
shifted_ge w zero h l = omega arith
shifted_ge w (suc zero) h l = omega arith
shifted_ge w (suc (suc b)) h l = absurd (omega arith)

-- the last eleven bits of w are 0
pub shifted_le : (w b : ℕ) → w < 2 ^ 64 → w % 2048 ≡ 0 → b < 2 → w / 2 ^ b ≤ 2 ^ 64 - 2 ^ 11
shifted_le w zero h z l = omega arith
shifted_le w (suc zero) h z l = omega arith
shifted_le w (suc (suc b)) h z l = absurd (omega arith)

-- the bit that an odd d takes is d % 2
pub half_exponent : (w d a : ℕ) → w * 2 ^ d ≡ a * 2 ^ 64 → w % 2 ≡ 0 → w / 2 ^ (d % 2) * 2 ^ (2 * (d / 2 + d % 2) + squared_place) ≡ a * 2 ^ 1074
half_exponent w d a e v =
    let k : 2 * (d / 2 + d % 2) + squared_place ≡ d % 2 + (d + squared_place) = omega arith in
    let h : w / 2 ^ (d % 2) * 2 ^ (d % 2) ≡ w = shifted_back w (d % 2) v (omega arith) in
    ap (λ (x : ℕ). w / 2 ^ (d % 2) * x) (ap (λ (x : ℕ). 2 ^ x) k ∙ pow-add 2 (d % 2) (d + squared_place)) ∙ sym (mul_assoc (w / 2 ^ (d % 2)) (2 ^ (d % 2)) (2 ^ (d + squared_place)))
    ∙ ap (λ (x : ℕ). x * 2 ^ (d + squared_place)) h ∙ in_squared_units w d a e
