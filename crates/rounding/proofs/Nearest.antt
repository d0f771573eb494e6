-- `closest a b`, the whole number nearest to a / b, a tie to the even one (IEEE 754-2019, 4.3.1). Sticky-equivalent numbers have the same one, where the unit of the equivalence divides half of b.
-- Assumes nothing.
use mathlib.Core.Path.{◌≡◌, refl, sym, ap, ◌∙◌}
use Prim.Native.Nat.{ℕ, zero, suc, ◌+◌, ◌*◌, ◌/◌, ◌%◌, ◌≤◌, ◌<◌, compare, Ordering}
use native.Mathlib.Nat.{le_trans, le_of_eq, mul_comm, mul_assoc, mul-le-mul_right, mul-pos, mod-lt, div-div-eq-div-mul, suc-mul}
use native.Mathlib.Omega.{arith}
use lib.Arith.{mod-mul}
use lib.Ieee.{nearest}
use lib.Ieee.Nearest.{closest}
use Rattle.words.specs.Sticky.{StickyEquivalent}
use Rattle.rounding.proofs.Compare.{Compares, compare_holds, compare_unique}

-- ---- q units and a rest r, which is less than a unit, compared with c units
abbrev with_rest : Ordering → ℕ → Ordering
with_rest Ordering.lt r = Ordering.lt
with_rest Ordering.gt r = Ordering.gt
with_rest Ordering.eq zero = Ordering.eq
with_rest Ordering.eq (suc r) = Ordering.gt

with_rest_holds : (o : Ordering) (q c u r : ℕ) → r < u → Compares o q c → Compares (with_rest o r) ((q * u + r) * 2) (u * (c * 2))
with_rest_holds Ordering.lt q c u r l x =
    let p : q * u + u ≤ c * u = le_trans (le_of_eq (sym (suc-mul q u))) (mul-le-mul_right u x) in
    let e : u * (c * 2) ≡ c * u * 2 = sym (mul_assoc u c 2) ∙ ap (λ (z : ℕ). z * 2) (mul_comm u c) in
    omega arith
with_rest_holds Ordering.gt q c u r l x =
    let p : c * u + u ≤ q * u = le_trans (le_of_eq (sym (suc-mul c u))) (mul-le-mul_right u x) in
    let e : u * (c * 2) ≡ c * u * 2 = sym (mul_assoc u c 2) ∙ ap (λ (z : ℕ). z * 2) (mul_comm u c) in
    omega arith
with_rest_holds Ordering.eq q c u zero l x =
    let p : q * u ≡ c * u = ap (λ (z : ℕ). z * u) x in
    let e : u * (c * 2) ≡ c * u * 2 = sym (mul_assoc u c 2) ∙ ap (λ (z : ℕ). z * 2) (mul_comm u c) in
    omega arith
with_rest_holds Ordering.eq q c u (suc r) l x =
    let p : q * u ≡ c * u = ap (λ (z : ℕ). z * u) x in
    let e : u * (c * 2) ≡ c * u * 2 = sym (mul_assoc u c 2) ∙ ap (λ (z : ℕ). z * 2) (mul_comm u c) in
    omega arith

-- the number nearest to a / (2c units), by a's whole number of units and its rest
abbrev by_units : ℕ → ℕ → ℕ → ℕ
by_units q r c = nearest (q / (c * 2)) (with_rest (compare (q % (c * 2)) c) r)

closest_by_units : (a u c : ℕ) → 0 < u → 0 < c → closest a (u * (c * 2)) ≡ by_units (a / u) (a % u) c
closest_by_units a u c U C =
    let C2 : 0 < c * 2 = omega arith in
    let m : a % (u * (c * 2)) ≡ a / u % (c * 2) * u + a % u = ap (λ (z : ℕ). a % z) (mul_comm u (c * 2)) ∙ mod-mul a C2 U in
    let o : compare (a % (u * (c * 2)) * 2) (u * (c * 2)) ≡ with_rest (compare (a / u % (c * 2)) c) (a % u) =
    ap (λ (z : ℕ). compare (z * 2) (u * (c * 2))) m
    ∙ compare_unique (with_rest (compare (a / u % (c * 2)) c) (a % u)) ((a / u % (c * 2) * u + a % u) * 2) (u * (c * 2))
    (with_rest_holds (compare (a / u % (c * 2)) c) (a / u % (c * 2)) c u (a % u) (mod-lt a U) (compare_holds (a / u % (c * 2)) c)) in
    ap (λ (z : ℕ). nearest z (compare (a % (u * (c * 2)) * 2) (u * (c * 2)))) (sym (div-div-eq-div-mul a u (c * 2)))
    ∙ ap (λ (z : Ordering). nearest (a / u / (c * 2)) z) o

-- ---- sticky-equivalent numbers
same_rest : (o : Ordering) (r s : ℕ) → (r ≡ 0 → s ≡ 0) → (s ≡ 0 → r ≡ 0) → with_rest o r ≡ with_rest o s
same_rest Ordering.lt r s a b = refl
same_rest Ordering.gt r s a b = refl
same_rest Ordering.eq zero zero a b = refl
same_rest Ordering.eq zero (suc s) a b = absurd (let z : suc s ≡ 0 = a refl in omega arith)
same_rest Ordering.eq (suc r) zero a b = absurd (let z : suc r ≡ 0 = b refl in omega arith)
same_rest Ordering.eq (suc r) (suc s) a b = refl

pub closest_sticky : (unit c d n t : ℕ) → 0 < unit → 0 < c → 0 < d → StickyEquivalent unit d n t → closest n (d * unit * (c * 2)) ≡ closest t (unit * (c * 2))
closest_sticky u c d n t U C D sticky =
    closest_by_units n (d * u) c (mul-pos D U) C
    ∙ ap (λ (z : ℕ). by_units z (n % (d * u)) c) sticky.quotient
    ∙ ap (λ (o : Ordering). nearest (t / u / (c * 2)) o) (same_rest (compare (t / u % (c * 2)) c) (n % (d * u)) (t % u) sticky.exact sticky.only_exact)
    ∙ sym (closest_by_units t u c U C)
