-- Sticky equivalence, and a multiple m of the unit: it orders both alike, may be added to both, and both may be taken from it. An equivalent of an exact quotient is that quotient. Assumes nothing.
use mathlib.Core.Path.{◌≡◌, refl, sym, ap, ◌∙◌}
use mathlib.Core.Logic.{inl, inr}
use Prim.Native.Nat.{ℕ, zero, suc, ◌+◌, ◌-◌, ◌*◌, ◌/◌, ◌%◌, ◌≤◌, ◌<◌}
use native.Mathlib.Nat.{le_trans, le_of_eq, lt_of_le_of_lt, mul_comm, mul-pos, add-mul, add-zero, one-mul, div-add-mod', div-div-eq-div-mul, mod-lt, div-lt_iff_lt-mul, mul-add-div_right, mul-add-mod_self_right, mul-div_cancel, mul-mod_left, lt_of_mul-lt-mul_right}
use native.Mathlib.Omega.{arith}
use lib.Dec.{lit<}
use lib.Arith.{digits_div, digits_mod}
use Rattle.words.specs.Sticky.{StickyEquivalent}
use Rattle.std.proofs.lemmas.Bool.{cases_lt}
use Rattle.words.proofs.StickyShift.{multiple_split, multiple_join}
use Rattle.rounding.proofs.Sum.{sub_mul}

-- ---- order and sum
module _ (unit D n t : ℕ) (U : 0 < unit) (pos_d : 0 < D) (sticky : StickyEquivalent unit D n t) where
  pub sticky_lt : (m : ℕ) → t < m * unit → n < m * (D * unit)
  sticky_lt m h = (div-lt_iff_lt-mul (mul-pos pos_d U)).0 (lt_of_le_of_lt (le_of_eq sticky.quotient) ((div-lt_iff_lt-mul U).1 h))

  pub sticky_lt_back : (m : ℕ) → n < m * (D * unit) → t < m * unit
  sticky_lt_back m h = (div-lt_iff_lt-mul U).0 (lt_of_le_of_lt (le_of_eq (sym sticky.quotient)) ((div-lt_iff_lt-mul (mul-pos pos_d U)).1 h))

  pub sticky_add : (m : ℕ) → StickyEquivalent unit D (m * (D * unit) + n) (m * unit + t)
  sticky_add m = record {
    quotient = mul-add-div_right (mul-pos pos_d U) m n ∙ ap (λ (z : ℕ). m + z) sticky.quotient ∙ sym (mul-add-div_right U m t);
    exact = λ h. mul-add-mod_self_right m unit t ∙ sticky.exact (sym (mul-add-mod_self_right m (D * unit) n) ∙ h);
    only_exact = λ h. mul-add-mod_self_right m (D * unit) n ∙ sticky.only_exact (sym (mul-add-mod_self_right m unit t) ∙ h);
  }

-- ---- difference: the quotient of m * G - (q * G + r) is m - q, less one where r is not 0
abbrev one_if_some : ℕ → ℕ
one_if_some zero = 0
one_if_some (suc r) = 1

same_one : (r s : ℕ) → (r ≡ 0 → s ≡ 0) → (s ≡ 0 → r ≡ 0) → one_if_some r ≡ one_if_some s
same_one zero zero a b = refl
same_one zero (suc s) a b = absurd (let z : suc s ≡ 0 = a refl in omega arith)
same_one (suc r) zero a b = absurd (let z : suc r ≡ 0 = b refl in omega arith)
same_one (suc r) (suc s) a b = refl

-- without a rest the difference is a multiple
exact_difference : (G m q r : ℕ) → r ≡ 0 → m * G - (q * G + r) ≡ (m - q) * G
exact_difference G m q r z = ap (λ (x : ℕ). m * G - x) (let k : q * G + r ≡ q * G = omega arith in k) ∙ sym (sub_mul m q G)

-- with one it has a rest too
inexact_difference : (G m q r : ℕ) → suc r < G → q * G + suc r ≤ m * G → m * G - (q * G + suc r) ≡ (m - q - 1) * G + (G - suc r)
inexact_difference G m q r l h =
    let less : q < m = lt_of_mul-lt-mul_right G (let k : q * G < m * G = omega arith in k) in
    let k = m - q - 1 in
    let x : m ≡ q + (k + 1) = omega arith in
    let p : m * G ≡ q * G + (k * G + G) = ap (λ (z : ℕ). z * G) x ∙ add-mul q (k + 1) G ∙ ap (λ (z : ℕ). q * G + z) (add-mul k 1 G ∙ ap (λ (z : ℕ). k * G + z) (one-mul G)) in
    omega arith

difference_quotient : (G m q r : ℕ) → r < G → q * G + r ≤ m * G → (m * G - (q * G + r)) / G ≡ m - q - one_if_some r
difference_quotient G m q zero l h = ap (λ (z : ℕ). z / G) (exact_difference G m q 0 refl) ∙ mul-div_cancel (m - q) l ∙ (let k : m - q ≡ m - q - 0 = omega arith in k)
difference_quotient G m q (suc r) l h = ap (λ (z : ℕ). z / G) (inexact_difference G m q r l h) ∙ digits_div (m - q - 1) (let e : G - suc r < G = omega arith in e)

exact_of_difference : (G m q r : ℕ) → r < G → q * G + r ≤ m * G → (m * G - (q * G + r)) % G ≡ 0 → r ≡ 0
exact_of_difference G m q zero l h e = refl
exact_of_difference G m q (suc r) l h e =
    let f : (m * G - (q * G + suc r)) % G ≡ G - suc r = ap (λ (z : ℕ). z % G) (inexact_difference G m q r l h) ∙ digits_mod (m - q - 1) (let e : G - suc r < G = omega arith in e) in
    absurd (omega arith)

difference_exact : (G m q r : ℕ) → r ≡ 0 → (m * G - (q * G + r)) % G ≡ 0
difference_exact G m q r z = ap (λ (x : ℕ). x % G) (exact_difference G m q r z) ∙ mul-mod_left (m - q) G

pub sticky_subtract : (unit D n t : ℕ) → 0 < unit → 0 < D → StickyEquivalent unit D n t → (m : ℕ) → n ≤ m * (D * unit) → t ≤ m * unit
    → StickyEquivalent unit D (m * (D * unit) - n) (m * unit - t)
sticky_subtract g D n t U pos_d sticky m ln lt =
    let G = D * g in
    let P : 0 < G = mul-pos pos_d U in
    let en : n / G * G + n % G ≡ n = div-add-mod' n G in
    let et : t / g * g + t % g ≡ t = div-add-mod' t g in record {
      quotient =
          ap (λ (z : ℕ). (m * G - z) / G) (sym en)
          ∙ difference_quotient G m (n / G) (n % G) (mod-lt n P) (le_trans (le_of_eq en) ln)
          ∙ ap (λ (z : ℕ). m - z - one_if_some (n % G)) sticky.quotient
          ∙ ap (λ (z : ℕ). m - t / g - z) (same_one (n % G) (t % g) sticky.exact sticky.only_exact)
          ∙ sym (ap (λ (z : ℕ). (m * g - z) / g) (sym et) ∙ difference_quotient g m (t / g) (t % g) (mod-lt t U) (le_trans (le_of_eq et) lt));
      exact = λ h.
          let z = exact_of_difference G m (n / G) (n % G) (mod-lt n P) (le_trans (le_of_eq en) ln) (ap (λ (z : ℕ). (m * G - z) % G) en ∙ h) in
          ap (λ (z : ℕ). (m * g - z) % g) (sym et) ∙ difference_exact g m (t / g) (t % g) (sticky.exact z);
      only_exact = λ h.
          let z = exact_of_difference g m (t / g) (t % g) (mod-lt t U) (le_trans (le_of_eq et) lt) (ap (λ (z : ℕ). (m * g - z) % g) et ∙ h) in
          ap (λ (z : ℕ). (m * G - z) % G) (sym en) ∙ difference_exact G m (n / G) (n % G) (sticky.only_exact z);
    }

-- ---- nothing was shifted out
same_parity : (y t : ℕ) → y / 2 ≡ t / 2 → (y % 2 ≡ 0 → t % 2 ≡ 0) → (t % 2 ≡ 0 → y % 2 ≡ 0) → y ≡ t
same_parity y t e f g = elim (cases_lt (y % 2) 1) [
  | inl l ↦ let k : t % 2 ≡ 0 = f (let z : y % 2 ≡ 0 = omega arith in z) in omega arith
  | inr h ↦ elim (cases_lt (t % 2) 1) [
    | inl l ↦ let k : y % 2 ≡ 0 = g (let z : t % 2 ≡ 0 = omega arith in z) in omega arith
    | inr k ↦ omega arith
  ]
]

pub sticky_exact : (D n t : ℕ) → 0 < D → StickyEquivalent 2 D n t → n % D ≡ 0 → n ≡ t * D
sticky_exact D n t P sticky z =
    let y = n / D in
    let n-is : n ≡ y * D = sym (div-add-mod' n D) ∙ ap (λ (x : ℕ). y * D + x) z ∙ add-zero (y * D) in
    let two : 0 < 2 = lit< tt in
    n-is
    ∙ ap (λ (x : ℕ). x * D)
    (same_parity y t (div-div-eq-div-mul n D 2 ∙ sticky.quotient)
    (λ h. sticky.exact (ap (λ (x : ℕ). n % x) (mul_comm D 2) ∙ multiple_join n 2 D two P h z))
    (λ h. (multiple_split n 2 D two P (ap (λ (x : ℕ). n % x) (mul_comm 2 D) ∙ sticky.only_exact h)).0))
