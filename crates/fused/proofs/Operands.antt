-- Significands with their top bit set, as an alignable product and an alignable addend. Assumes nothing.
use mathlib.Core.Path.{◌≡◌, sym, ap, ◌∙◌}
use Prim.Native.Nat.{ℕ, ◌+◌, ◌*◌, ◌/◌, ◌%◌, ◌^◌, ◌≤◌, ◌<◌}
use native.Mathlib.Nat.{le_trans, le_of_eq, lt_of_le_of_lt, mul_assoc, mul_right_comm, mul-mul-mul_comm, mul-le-mul, mul-mod_left, add-zero}
use native.Mathlib.Omega.{arith}
use lib.Pow.{pow-add}
use Rattle.std.proofs.lemmas.Nat.{mul-lt}
use Rattle.fused.specs.Operands.{Alignable}

-- ---- half a factor: one bit is left for a carry, and nothing is lost
half_exact : (m : ℕ) → m % 2048 ≡ 0 → m / 2 * 2 ≡ m
half_exact m z = omega arith

half_value : (m d A : ℕ) → m % 2048 ≡ 0 → m * 2 ^ d ≡ A → m / 2 * 2 ^ (d + 1) ≡ A
half_value m d A z h =
    ap (λ (x : ℕ). m / 2 * x) (pow-add 2 d 1) ∙ (let k : m / 2 * (2 ^ d * 2) ≡ m / 2 * 2 * 2 ^ d = sym (mul_assoc (m / 2) (2 ^ d) 2) ∙ mul_right_comm (m / 2) (2 ^ d) 2 in k)
    ∙ ap (λ (x : ℕ). x * 2 ^ d) (half_exact m z) ∙ h

pub product_value : (A B P m n d e : ℕ) → P ≡ m / 2 * (n / 2) → m % 2048 ≡ 0 → n % 2048 ≡ 0 → m * 2 ^ d ≡ A * 2 ^ 64 → n * 2 ^ e ≡ B * 2 ^ 64 → P * 2 ^ (d + e + 2) ≡ A * B * 2 ^ 128
product_value A B P m n d e p x y h k =
    ap (λ (w : ℕ). w * 2 ^ (d + e + 2)) p
    ∙ ap (λ (w : ℕ). m / 2 * (n / 2) * w) (ap (λ (w : ℕ). 2 ^ w) (let q : d + e + 2 ≡ d + 1 + (e + 1) = omega arith in q) ∙ pow-add 2 (d + 1) (e + 1))
    ∙ mul-mul-mul_comm (m / 2) (n / 2) (2 ^ (d + 1)) (2 ^ (e + 1))
    ∙ (λ i. half_value m d (A * 2 ^ 64) x h i * half_value n e (B * 2 ^ 64) y k i)
    ∙ mul-mul-mul_comm A (2 ^ 64) B (2 ^ 64)

pub product_alignable : (P m n : ℕ) → P ≡ m / 2 * (n / 2) → 2 ^ 63 ≤ m → m < 2 ^ 64 → m % 2048 ≡ 0 → 2 ^ 63 ≤ n → n < 2 ^ 64 → Alignable P
product_alignable P m n p ml mh mz nl nh =
    let e : m / 2 ≡ m / 2 / 16 * 16 = omega arith in
    let xl : 2 ^ 62 ≤ m / 2 = omega arith in
    let xh : m / 2 < 2 ^ 63 = omega arith in
    let yl : 2 ^ 62 ≤ n / 2 = omega arith in
    let yh : n / 2 < 2 ^ 63 = omega arith in record {
      least = le_trans (mul-le-mul xl yl) (le_of_eq (sym p));
      most = lt_of_le_of_lt (le_of_eq p) (mul-lt _ _ _ _ xh yh);
      last_bits = ap (λ (w : ℕ). w % 16) (p ∙ ap (λ (w : ℕ). w * (n / 2)) e ∙ mul_right_comm (m / 2 / 16) 16 (n / 2)) ∙ mul-mod_left (m / 2 / 16 * (n / 2)) 16;
    }

-- ---- the addend in the high word, a quarter of it
pub addend_value : (O n d : ℕ) → n % 2048 ≡ 0 → n * 2 ^ d ≡ O * 2 ^ 64 → (n / 4 * 2 ^ 64 + 0) * 2 ^ (d + 1076) ≡ O * 2 ^ 1202
addend_value O n d z h =
    let e : n / 4 * 4 ≡ n = omega arith in
    ap (λ (v : ℕ). v * 2 ^ (d + 1076)) (add-zero (n / 4 * 2 ^ 64) ∙ sym (mul_assoc (n / 4) 4 (2 ^ 62)) ∙ ap (λ (v : ℕ). v * 2 ^ 62) e)
    ∙ ap (λ (v : ℕ). n * 2 ^ 62 * v) (pow-add 2 d 1076)
    ∙ mul-mul-mul_comm n (2 ^ 62) (2 ^ d) (2 ^ 1076)
    ∙ ap (λ (v : ℕ). v * (2 ^ 62 * 2 ^ 1076)) h
    ∙ mul_assoc O (2 ^ 64) (2 ^ 62 * 2 ^ 1076)
