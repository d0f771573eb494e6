-- Laws of the square root digit by digit, over plain numbers: the significand keeps room for the digits to come, and n digits scale the radicand by 4 ^ n. Assumes nothing.
use Rattle.std.proofs.Common.{◌≡◌, ℕ, ◌+◌, ◌*◌, ◌^◌, ◌<◌, ◌≤◌, sym, ap, ◌∙◌, le_trans, le_of_eq, le_refl, mul-le-mul_right, mul_assoc, mul_comm, mul-le-mul, le_of_mul-le-mul_right, arith, pow_mono, pow_pos, pow-add}

-- ---- n digits: q is the significand after i of them
pub room_now : (q i n : ℕ) → i < n → (q + 1) * 2 ^ n ≤ 2 ^ 60 * 2 ^ i → q < 2 ^ 59
room_now q i n h k =
    let a : (q + 1) * 2 ^ (i + 1) ≤ 2 ^ 60 * 2 ^ i = le_trans (mul-le-mul (le_refl (q + 1)) (pow_mono {i = i + 1} {j = n} (omega arith))) k in
    let b : (q + 1) * 2 * 2 ^ i ≤ 2 ^ 60 * 2 ^ i = le_trans (le_of_eq (mul_assoc (q + 1) 2 (2 ^ i) ∙ ap (λ (x : ℕ). (q + 1) * x) (mul_comm 2 (2 ^ i) ∙ sym (pow-add 2 i 1)))) a in
    let c : (q + 1) * 2 ≤ 2 ^ 60 = le_of_mul-le-mul_right {k = 2 ^ i} b (pow_pos i) in
    omega arith

pub room_after : (q p i n : ℕ) → p ≤ 2 * q + 1 → (q + 1) * 2 ^ n ≤ 2 ^ 60 * 2 ^ i → (p + 1) * 2 ^ n ≤ 2 ^ 60 * 2 ^ (i + 1)
room_after q p i n h k =
    let a : (p + 1) * 2 ^ n ≤ 2 * (q + 1) * 2 ^ n = mul-le-mul_right (2 ^ n) (omega arith) in
    let b : 2 * (q + 1) * 2 ^ n ≡ 2 * ((q + 1) * 2 ^ n) = mul_assoc 2 (q + 1) (2 ^ n) in
    let c : 2 ^ 60 * 2 ^ (i + 1) ≡ 2 * (2 ^ 60 * 2 ^ i) = ap (λ (x : ℕ). 2 ^ 60 * x) (pow-add 2 i 1) ∙ sym (mul_assoc (2 ^ 60) (2 ^ i) 2) ∙ mul_comm (2 ^ 60 * 2 ^ i) 2 in
    omega arith

pub scaled_more : (i x y z : ℕ) → y ≡ 4 ^ i * x → z ≡ 4 * y → z ≡ 4 ^ (i + 1) * x
scaled_more i x y z p q = q ∙ ap (λ (w : ℕ). 4 * w) p ∙ sym (mul_assoc 4 (4 ^ i) x) ∙ ap (λ (w : ℕ). w * x) (mul_comm 4 (4 ^ i) ∙ sym (pow-add 4 i 1))
