-- A number divided by D, its last bit also set where the division is not exact, is sticky-equivalent to the fraction. Such shifts compose, and the units may be changed. Assumes nothing.
use Rattle.std.proofs.Common.{◌≡◌, ℕ, ◌+◌, ◌*◌, ◌/◌, ◌%◌, ◌^◌, ◌<◌, ◌≤◌, sym, ap, ◌∙◌, lt_of_le_of_lt, add-zero, mod-eq_of_lt, mul_assoc, mul_comm, mul-pos, div-add-mod', zero-mul, mul_right_comm, mul_left_comm, arith}
use native.Mathlib.Nat.{div-div-eq-div-mul, div-eq_of_lt, mul-mod_left, eq_of_mul-eq-mul_right}
use lib.Arith.{mod-mul}
use lib.Ieee.Nearest.{div_same}
use Rattle.words.specs.Sticky.{StickyEquivalent}

-- ---- n is a multiple of m * c where n / c is one of m, and n one of c
pub multiple_split : (n m c : ℕ) → 0 < m → 0 < c → n % (m * c) ≡ 0 → (n / c % m ≡ 0) × (n % c ≡ 0)
multiple_split n m c M C h =
    let e : n / c % m * c + n % c ≡ 0 = sym (mod-mul n M C) ∙ h in
    (eq_of_mul-eq-mul_right c C (n / c % m) 0 (omega arith), omega arith)

pub multiple_join : (n m c : ℕ) → 0 < m → 0 < c → n / c % m ≡ 0 → n % c ≡ 0 → n % (m * c) ≡ 0
multiple_join n m c M C h k = mod-mul n M C ∙ ap (λ (x : ℕ). x * c + n % c) h ∙ ap (λ (x : ℕ). 0 * c + x) k ∙ zeros c
  where
    zeros : (c : ℕ) → 0 * c + 0 ≡ 0
    zeros c = let z = zero-mul c in omega arith

two : 0 < 2
two = omega arith

-- ---- one shift

-- nothing is shifted out
pub shift_exact : (D n r : ℕ) → 0 < D → r ≡ n / D → n % D ≡ 0 → StickyEquivalent 2 D n r
shift_exact D n r P e z = record {
  quotient = sym (div-div-eq-div-mul n D 2) ∙ ap (λ (x : ℕ). x / 2) (sym e);
  exact = λ h. ap (λ (x : ℕ). x % 2) e ∙ (multiple_split n 2 D two P (ap (λ (x : ℕ). n % x) (mul_comm 2 D) ∙ h)).0;
  only_exact = λ h. ap (λ (x : ℕ). n % x) (mul_comm D 2) ∙ multiple_join n 2 D two P (ap (λ (x : ℕ). x % 2) (sym e) ∙ h) z;
}

-- something is, and the sticky bit is set
pub shift_inexact : (D n t r : ℕ) → 0 < D → t ≡ n / D → r ≡ t / 2 * 2 + 1 → (n % D ≡ 0 → ⊥) → StickyEquivalent 2 D n r
shift_inexact D n t r P e f some = record {
  quotient = sym (div-div-eq-div-mul n D 2) ∙ ap (λ (x : ℕ). x / 2) (sym e) ∙ half t r f;
  exact = λ h. absurd (some (multiple_split n 2 D two P (ap (λ (x : ℕ). n % x) (mul_comm 2 D) ∙ h)).1);
  only_exact = λ h. absurd (odd t r f h);
}
  where
    half : (t r : ℕ) → r ≡ t / 2 * 2 + 1 → t / 2 ≡ r / 2
    half t r f = omega arith

    odd : (t r : ℕ) → r ≡ t / 2 * 2 + 1 → r % 2 ≡ 0 → ⊥
    odd t r f h = omega arith

-- everything is
pub shift_all : (D n r : ℕ) → n < D → r ≤ 1 → (n ≡ 0 → r ≡ 0) → (r ≡ 0 → n ≡ 0) → StickyEquivalent 2 D n r
shift_all D n r l o a b =
    let l2 : n < D * 2 = omega arith in record {
      quotient = div-eq_of_lt l2 ∙ none r o;
      exact = λ h. ap (λ (x : ℕ). x % 2) (a (sym (mod-eq_of_lt l2) ∙ h));
      only_exact = λ h. mod-eq_of_lt l2 ∙ b (let k : r ≡ 0 = omega arith in k);
    }
  where
    none : (r : ℕ) → r ≤ 1 → 0 ≡ r / 2
    none r o = omega arith

-- a word stays one when its last bit is cleared or set
pub last_cleared_lt : (t : ℕ) → t < 2 ^ 64 → t / 2 * 2 < 2 ^ 64
last_cleared_lt t h = omega arith

pub last_set_lt : (t : ℕ) → t < 2 ^ 64 → t / 2 * 2 + 1 < 2 ^ 64
last_set_lt t h = omega arith

-- ---- the test that nothing is shifted out: a word shifted right and left again, within P, is the word
pub restored_exact : (D P n : ℕ) → n < P → n / D * D % P ≡ n → n % D ≡ 0
restored_exact D P n l h =
    let a : n / D * D + n % D ≡ n = div-add-mod' n D in
    let b : n / D * D % P ≡ n / D * D = mod-eq_of_lt (lt_of_le_of_lt (let k : n / D * D ≤ n = omega arith in k) l) in
    omega arith

pub changed_inexact : (D P n : ℕ) → n < P → (n / D * D % P ≡ n → ⊥) → n % D ≡ 0 → ⊥
changed_inexact D P n l h z =
    let a : n / D * D + n % D ≡ n = div-add-mod' n D in
    let b : n / D * D ≡ n = omega arith in
    h (ap (λ (x : ℕ). x % P) b ∙ mod-eq_of_lt l)

-- ---- a second shift, of what a first one gave
pub sticky_compose : (unit d e n t r : ℕ) → 0 < unit → 0 < d → 0 < e → StickyEquivalent unit d n t → StickyEquivalent unit e t r → StickyEquivalent unit (d * e) n r
sticky_compose g d e n t r G D E a b =
    let s : d * e * g ≡ e * (d * g) = mul_assoc d e g ∙ mul_left_comm d e g in record {
      quotient =
          ap (λ (x : ℕ). n / x) (s ∙ mul_comm e (d * g)) ∙ sym (div-div-eq-div-mul n (d * g) e)
          ∙ ap (λ (x : ℕ). x / e) a.quotient ∙ div-div-eq-div-mul t g e ∙ ap (λ (x : ℕ). t / x) (mul_comm g e) ∙ b.quotient;
      exact = λ h.
          let k = multiple_split n e (d * g) E (mul-pos D G) (ap (λ (x : ℕ). n % x) (sym s) ∙ h) in
          b.exact (multiple_join t e g E G (ap (λ (x : ℕ). x % e) (sym a.quotient) ∙ k.0) (a.exact k.1));
      only_exact = λ h.
          let k = multiple_split t e g E G (b.only_exact h) in
          ap (λ (x : ℕ). n % x) s ∙ multiple_join n e (d * g) E (mul-pos D G) (ap (λ (x : ℕ). x % e) a.quotient ∙ k.0) (a.only_exact k.1);
    }

-- ---- the same fraction and the same number of units, written otherwise
multiple_same : (n D n₂ D₂ : ℕ) → 0 < D → n * D₂ ≡ n₂ * D → n % D ≡ 0 → n₂ % D₂ ≡ 0
multiple_same n D n₂ D₂ P e z =
    let q = n / D in
    let a : n ≡ q * D = sym (div-add-mod' n D) ∙ ap (λ (x : ℕ). q * D + x) z ∙ add-zero (q * D) in
    let b : n₂ * D ≡ q * D₂ * D = sym e ∙ ap (λ (x : ℕ). x * D₂) a ∙ mul_right_comm q D D₂ in
    ap (λ (x : ℕ). x % D₂) (eq_of_mul-eq-mul_right D P n₂ (q * D₂) b) ∙ mul-mod_left q D₂

pub sticky_rescale : (g d n t g₂ d₂ n₂ t₂ : ℕ) → 0 < g → 0 < d → 0 < g₂ → 0 < d₂ → n * (d₂ * g₂) ≡ n₂ * (d * g) → t * g₂ ≡ t₂ * g → StickyEquivalent g d n t → StickyEquivalent g₂ d₂ n₂ t₂
sticky_rescale g d n t g₂ d₂ n₂ t₂ G D G₂ D₂ e f al =
    let P : 0 < d * g = mul-pos D G in
    let P₂ : 0 < d₂ * g₂ = mul-pos D₂ G₂ in record {
      quotient = sym (div_same n (d * g) n₂ (d₂ * g₂) P P₂ e) ∙ al.quotient ∙ div_same t g t₂ g₂ G G₂ f;
      exact = λ h. multiple_same t g t₂ g₂ G f (al.exact (multiple_same n₂ (d₂ * g₂) n (d * g) P₂ (sym e) h));
      only_exact = λ h. multiple_same n (d * g) n₂ (d₂ * g₂) P e (al.only_exact (multiple_same t₂ g₂ t g G₂ (sym f) h));
    }
