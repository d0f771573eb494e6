-- `integer_root` is the integer square root: r * r ≤ n < (r + 1) * (r + 1). Assumes nothing.
use Rattle.std.proofs.Common.{◌≡◌, ℕ, zero, suc, ◌+◌, ◌*◌, ◌/◌, ◌^◌, ◌<◌, ◌≤◌, Bool, true, false, cond, not, T, leb, ap, ◌∙◌, le_of_eq, le_refl, lt_of_lt_of_le, lt_of_le_of_lt, le_of_lt, lt_irrefl, add-mul, mul-add, mul_comm, div-lt_iff_lt-mul, mul-le-mul, mul-lt-mul_of_pos_right, pow-suc, lt_of_not-le, arith, lit<, lit≤, leb→le}
use native.Mathlib.Nat.{mul-mul-mul_comm, pow-le-pow_left}
use lib.Dec.{nleb→lt}
use lib.Ieee.{size}
use lib.Ieee.Digits.{size-lt}
use Rattle.root.specs.Root.{integer_root}

-- ---- squares keep the order
pub square_lt : (a b : ℕ) → a < b → a * a < b * b
square_lt a b h = lt_of_le_of_lt (mul-le-mul (le_refl a) (le_of_lt h)) (mul-lt-mul_of_pos_right h (lt_of_le_of_lt (let k : 0 ≤ a = omega arith in k) h))

pub square_lt_back : (a b : ℕ) → a * a < b * b → a < b
square_lt_back a b h = lt_of_not-le (λ (g : b ≤ a). lt_irrefl (a * a) (lt_of_lt_of_le h (mul-le-mul g g)))

pub double_square : (q : ℕ) → 2 * q * (2 * q) ≡ 4 * (q * q)
double_square q = mul-mul-mul_comm 2 q 2 q

pub square_of_sum : (a b : ℕ) → (a + b) * (a + b) ≡ a * a + 2 * (a * b) + b * b
square_of_sum a b = simp (add-mul, mul-add, mul_comm) (omega arith)

-- ---- the root of an n below 4 ^ k
root_below : (k n : ℕ) → n < 4 ^ k → (integer_root k n * integer_root k n ≤ n) × (n < (integer_root k n + 1) * (integer_root k n + 1))
unfolding integer_root
root_below zero n h = (let k : 0 * 0 ≤ n = omega arith in k, h)
root_below (suc k) n h =
    let q = integer_root k (n / 4) in
    let quarter = root_below k (n / 4) ((div-lt_iff_lt-mul (lit< tt)).1 (lt_of_lt_of_le h (le_of_eq (pow-suc 4 k)))) in
    let r = 2 * q in
    let lo : r * r ≤ n = let e = double_square q in let l = quarter.0 in omega arith in
    let hi : n < (r + 1 + 1) * (r + 1 + 1) =
    let e : (r + 1 + 1) * (r + 1 + 1) ≡ 4 * ((q + 1) * (q + 1)) = ap (λ (x : ℕ). x * x) (let y : r + 1 + 1 ≡ 2 * (q + 1) = omega arith in y) ∙ double_square (q + 1) in
    let l = quarter.1 in omega arith in
    go r (leb ((r + 1) * (r + 1)) n) (leb→le ((r + 1) * (r + 1)) n) (nleb→lt ((r + 1) * (r + 1)) n) lo hi
  where
    go : (r : ℕ) (b : Bool) → (T b → (r + 1) * (r + 1) ≤ n) → (T (not b) → n < (r + 1) * (r + 1)) → r * r ≤ n → n < (r + 1 + 1) * (r + 1 + 1)
        → (cond b (r + 1) r * cond b (r + 1) r ≤ n) × (n < (cond b (r + 1) r + 1) * (cond b (r + 1) r + 1))
    go r true y z lo hi = (y tt, hi)
    go r false y z lo hi = (lo, z tt)

-- With as many steps as n has binary digits, n is small enough.
pub integer_root_lem : (n : ℕ) → (integer_root (size n) n * integer_root (size n) n ≤ n) × (n < (integer_root (size n) n + 1) * (integer_root (size n) n + 1))
integer_root_lem n = root_below (size n) n (lt_of_lt_of_le (size-lt n) (pow-le-pow_left (lit≤ tt) (size n)))
