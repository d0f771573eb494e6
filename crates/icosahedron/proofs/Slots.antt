-- Laws of the slots of a master face: each lattice point's slot lies below the number of slots. Assumes nothing.
use mathlib.Core.Path.{◌≡◌, refl, ap, ◌∙◌, subst}
use Prim.Native.Nat.{ℕ, zero, suc, ◌+◌, ◌-◌, ◌*◌, ◌≤◌, ◌<◌}
use native.Mathlib.Nat.{add-mul, mul-add, mul_comm, mul-one, mul-sub, mul-le-mul}
use native.Mathlib.Numerals.{towards_suc}
use native.Mathlib.Omega.{arith}
use Rattle.icosahedron.specs.Slots.{slot_of, slots_per_face}

-- k(k + 1) is even
half_of_neighbours : (k : ℕ) → (h : ℕ) × (k * k + k ≡ 2 * h)
half_of_neighbours zero = (0, refl)
half_of_neighbours (suc k) = let p = half_of_neighbours k in (p.0 + k + 1, simp towards_suc (omega (arith, p.1)))

-- a(a - 1) with the subtraction last, as the code has it
pub predecessor_product : (a : ℕ) → a * (a - 1) ≡ a * a - a
predecessor_product a = mul-sub a a 1 ∙ ap (λ (k : ℕ). a * a - k) (mul-one a)

-- the slots behind (a, b) in a face whose third weight and b make m: twice their number is (m + 1)(m + 2) - 2b
slot_below_at : (a m b : ℕ) → b ≤ m → slot_of (a + m) a b < slots_per_face (a + m)
unfolding slot_of slots_per_face
slot_below_at a m b h = rw predecessor_product (simp (add-mul, mul-add, mul_comm m a) (omega (arith, (half_of_neighbours a).1, (half_of_neighbours m).1)))

pub slot_below : (n a b : ℕ) → a + b ≤ n → slot_of n a b < slots_per_face n
slot_below n a b h =
    let m = n - a in
    let e : a + m ≡ n = omega arith in
    subst (λ (k : ℕ). slot_of k a b < slots_per_face k) e (slot_below_at a m b (omega arith))

pub slots_per_face_le : (n : ℕ) → n ≤ 80 → slots_per_face n ≤ 3321
unfolding slots_per_face
slots_per_face_le n h = omega (arith, mul-le-mul {n₁ = n + 1} {m₁ = n + 2} {n₂ = 81} {m₂ = 82} (omega arith) (omega arith))
