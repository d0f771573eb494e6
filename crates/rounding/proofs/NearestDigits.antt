-- The number of at most p digits nearest to a fraction n / den, a tie to the even one: what `round` works out once its unit is chosen, over plain numbers.
-- `rounded_nearest`: no number of at most p digits lies nearer. `rounded_even`: where another lies as near, the kept digits are an even number. Assumes nothing.
use mathlib.Core.Path.{◌≡◌, sym, ap, ◌∙◌, subst}
use mathlib.Core.Logic.{◌⊎◌, inl, inr}
use Prim.Native.Nat.{ℕ, zero, suc, ◌+◌, ◌-◌, ◌*◌, ◌/◌, ◌%◌, ◌^◌, ◌≤◌, ◌<◌, compare, Ordering}
use native.Mathlib.Nat.{pow-suc, mul-mod_left, div-div-eq-div-mul, add-mul, le_trans, le_of_eq, le_of_lt, lt_irrefl, lt_of_lt_of_le, lt_of_le_of_lt, mul_comm, mul_assoc, mul_right_comm, mul-le-mul_right, mul-lt-mul_of_pos_right, mul-pos, eq_of_mul-eq-mul_right, suc-mul, mod-lt, div-add-mod', le-div_iff_mul-le}
use native.Mathlib.Omega.{arith}
use mathlib.Core.Bool.{Bool, true, false, not}
use lib.Dec.{T, ltb, ltb→lt, nltb→le}
use lib.Pow.{pow-add, pow_pos, pow_mono, shl_lt}
use lib.Ieee.{size, nearest}
use lib.Ieee.Digits.{size_reaches, back}
use lib.Ieee.Fits.{nearest-le, kept-lt}
use lib.Ieee.Nearest.{closest}
use lib.Ieee.Order.{drop, kept}
use Rattle.rounding.proofs.Compare.{Compares, compare_holds}
use Rattle.rounding.proofs.Sum.{sub_mul}
use Rattle.rounding.specs.TiesToEven.{abs_diff}

-- ---- distances and even numbers
pub abs_diff_mul : (x y c : ℕ) → abs_diff x y * c ≡ abs_diff (x * c) (y * c)
abs_diff_mul x y c = add-mul (x - y) (y - x) c ∙ (λ i. sub_mul x y c i + sub_mul y x c i)

pub even_product : (q x : ℕ) → q % 2 ≡ 0 → q * x % 2 ≡ 0
even_product q x e =
    ap (λ (z : ℕ). z * x % 2) (let h : q ≡ q / 2 * 2 = omega arith in h) ∙ ap (λ (z : ℕ). z % 2) (mul_right_comm (q / 2) 2 x) ∙ mul-mod_left (q / 2 * x) 2

pub even_pow : (k : ℕ) → 0 < k → 2 ^ k % 2 ≡ 0
even_pow zero h = absurd (lt_irrefl 0 h)
even_pow (suc k) h = ap (λ (z : ℕ). z % 2) (pow-suc 2 k) ∙ mul-mod_left (2 ^ k) 2

-- ---- the whole number nearest to n / u
-- w * u is at most q * u, or a whole u above it
multiples : (w q u : ℕ) → (w * u ≤ q * u) ⊎ (q * u + u ≤ w * u)
multiples w q u = go (ltb q w) (ltb→lt q w) (nltb→le q w)
  where
    go : (b : Bool) → (T b → q < w) → (T (not b) → w ≤ q) → (w * u ≤ q * u) ⊎ (q * u + u ≤ w * u)
    go true h k = inr (le_trans (le_of_eq (sym (suc-mul q u))) (mul-le-mul_right u (h tt)))
    go false h k = inl (mul-le-mul_right u (k tt))

even_or_next : (q u : ℕ) → ((q + q % 2) * u ≡ q * u) ⊎ ((q + q % 2) * u ≡ q * u + u)
even_or_next q u = go (q % 2) (let l : q % 2 < 2 = omega arith in l)
  where
    go : (r : ℕ) → r < 2 → ((q + r) * u ≡ q * u) ⊎ ((q + r) * u ≡ q * u + u)
    go zero l = inl (ap (λ (x : ℕ). x * u) (let e : q + 0 ≡ q = omega arith in e))
    go (suc zero) l = inr (ap (λ (x : ℕ). x * u) (let e : q + 1 ≡ suc q = omega arith in e) ∙ suc-mul q u)
    go (suc (suc r)) l = absurd (omega arith)

-- n is Q + r with r < u; the multiple P of u is Q or less, or Q + u or more
below_half : (Q r u P : ℕ) → r * 2 ≤ u → (P ≤ Q) ⊎ (Q + u ≤ P) → abs_diff (Q + r) Q ≤ abs_diff (Q + r) P
below_half Q r u P h (inl l) = omega arith
below_half Q r u P h (inr l) = omega arith

above_half : (Q r u P : ℕ) → r < u → u ≤ r * 2 → (P ≤ Q) ⊎ (Q + u ≤ P) → abs_diff (Q + r) (Q + u) ≤ abs_diff (Q + r) P
above_half Q r u P b h (inl l) = omega arith
above_half Q r u P b h (inr l) = omega arith

nearest_of_lem : (q r u w : ℕ) (o : Ordering) → r < u → Compares o (r * 2) u → abs_diff (q * u + r) (nearest q o * u) ≤ abs_diff (q * u + r) (w * u)
nearest_of_lem q r u w Ordering.lt b x = below_half (q * u) r u (w * u) (let h : r * 2 ≤ u = omega arith in h) (multiples w q u)
nearest_of_lem q r u w Ordering.eq b x = elim (even_or_next q u) [
  | inl e ↦ subst (λ (z : ℕ). abs_diff (q * u + r) z ≤ abs_diff (q * u + r) (w * u)) (sym e) (below_half (q * u) r u (w * u) (le_of_eq x) (multiples w q u))
  | inr e ↦ subst (λ (z : ℕ). abs_diff (q * u + r) z ≤ abs_diff (q * u + r) (w * u)) (sym e) (above_half (q * u) r u (w * u) b (le_of_eq (sym x)) (multiples w q u))
]
nearest_of_lem q r u w Ordering.gt b x = subst (λ (z : ℕ). abs_diff (q * u + r) z ≤ abs_diff (q * u + r) (w * u)) (sym (suc-mul q u)) (above_half (q * u) r u (w * u) b (let h : u ≤ r * 2 = omega arith in h) (multiples w q u))

pub closest_nearest : (n u w : ℕ) → 0 < u → abs_diff n (closest n u * u) ≤ abs_diff n (w * u)
closest_nearest n u w U =
    subst (λ (z : ℕ). abs_diff z (closest n u * u) ≤ abs_diff z (w * u)) (div-add-mod' n u)
    (nearest_of_lem (n / u) (n % u) u w (compare (n % u * 2) u) (mod-lt n U) (compare_holds (n % u * 2) u))

-- and no other is as near, unless this one is even
tie_below : (Q r u P : ℕ) → r * 2 < u → (P ≤ Q) ⊎ (Q + u ≤ P) → abs_diff (Q + r) Q ≡ abs_diff (Q + r) P → (P ≡ Q → ⊥) → ⊥
tie_below Q r u P h (inl l) e z = z (let d : P ≡ Q = omega arith in d)
tie_below Q r u P h (inr l) e z = omega arith

tie_above : (Q r u P : ℕ) → r < u → u < r * 2 → (P ≤ Q) ⊎ (Q + u ≤ P) → abs_diff (Q + r) (Q + u) ≡ abs_diff (Q + r) P → (P ≡ Q + u → ⊥) → ⊥
tie_above Q r u P b h (inl l) e z = omega arith
tie_above Q r u P b h (inr l) e z = z (let d : P ≡ Q + u = omega arith in d)

nearest_even : (q r u w : ℕ) (o : Ordering) → r < u → Compares o (r * 2) u → abs_diff (q * u + r) (nearest q o * u) ≡ abs_diff (q * u + r) (w * u) → (w * u ≡ nearest q o * u → ⊥) → nearest q o % 2 ≡ 0
nearest_even q r u w Ordering.lt b x e z = absurd (tie_below (q * u) r u (w * u) x (multiples w q u) e z)
nearest_even q r u w Ordering.eq b x e z = omega arith
nearest_even q r u w Ordering.gt b x e z =
    let s : suc q * u ≡ q * u + u = suc-mul q u in
    absurd (tie_above (q * u) r u (w * u) b x (multiples w q u) (ap (abs_diff (q * u + r)) (sym s) ∙ e) (λ (d : w * u ≡ q * u + u). z (d ∙ sym s)))

pub closest_even : (n u w : ℕ) → 0 < u → abs_diff n (closest n u * u) ≡ abs_diff n (w * u) → (w * u ≡ closest n u * u → ⊥) → closest n u % 2 ≡ 0
closest_even n u w U e z =
    nearest_even (n / u) (n % u) u w (compare (n % u * 2) u) (mod-lt n U) (compare_holds (n % u * 2) u)
    (subst (λ (x : ℕ). abs_diff x (closest n u * u) ≡ abs_diff x (w * u)) (sym (div-add-mod' n u)) e) z

-- ---- the number nearest to n / den that has p digits
-- A number of at most p digits, m * 2 ^ j, is a multiple of the unit 2 ^ drop; or it is below the least number of p digits in that unit, which is not above n / den.
abbrev OnGrid : ℕ → ℕ → ℕ → ℕ → Type 0
OnGrid p n den v = ((w : ℕ) × (v ≡ w * 2 ^ drop p n den)) ⊎ ((v < 2 ^ (p - 1) * 2 ^ drop p n den) × (2 ^ (p - 1) * 2 ^ drop p n den * den ≤ n))

on_grid : (p n den m j : ℕ) → 0 < p → 0 < den → m < 2 ^ p → OnGrid p n den (m * 2 ^ j)
on_grid p n den m j P D h = go (ltb j k) (ltb→lt j k) (nltb→le j k)
  where
    k : ℕ
    k = drop p n den

    digits : (z p : ℕ) → 0 < p → 0 < z - p → p - 1 + (z - p) < z
    digits z p P h = omega arith

    room : (p j k : ℕ) → 0 < p → j < k → p + j ≤ p - 1 + k
    room p j k P h = omega arith

    some : (j k : ℕ) → j < k → 0 < k
    some j k h = omega arith

    go : (b : Bool) → (T b → j < k) → (T (not b) → k ≤ j) → OnGrid p n den (m * 2 ^ j)
    go true l g =
        let e : 2 ^ (p - 1 + k) ≡ 2 ^ (p - 1) * 2 ^ k = pow-add 2 (p - 1) k in
        let top : 2 ^ (p - 1 + k) ≤ n / den = size_reaches (n / den) (p - 1 + k) (digits (size (n / den)) p P (some j k (l tt))) in
        inr (lt_of_lt_of_le (shl_lt p j h) (le_trans (pow_mono (room p j k P (l tt))) (le_of_eq e)), le_trans (le_of_eq (ap (λ (x : ℕ). x * den) (sym e))) ((le-div_iff_mul-le D).0 top))
    go false l g = inl (m * 2 ^ (j - k), ap (λ (x : ℕ). m * x) (ap (λ (x : ℕ). 2 ^ x) (sym (back j k (g tt))) ∙ pow-add 2 (j - k) k) ∙ sym (mul_assoc m (2 ^ (j - k)) (2 ^ k)))

-- what `round` makes of n / den, in the same unit
abbrev rounded : ℕ → ℕ → ℕ → ℕ
rounded p n den = kept p n den * 2 ^ drop p n den

closer : (n x y : ℕ) → x ≤ y → y ≤ n → abs_diff n y ≤ abs_diff n x
closer n x y h k = omega arith

strictly_closer : (n x y : ℕ) → x < y → y ≤ n → abs_diff n y < abs_diff n x
strictly_closer n x y h k = omega arith

regroup : (w k den : ℕ) → w * 2 ^ k * den ≡ w * (den * 2 ^ k)
regroup w k den = mul_assoc w (2 ^ k) den ∙ ap (λ (x : ℕ). w * x) (mul_comm (2 ^ k) den)

module _ (p n den m j : ℕ) (P : 0 < p) (D : 0 < den) (M : m < 2 ^ p) where
  k : ℕ
  k = drop p n den

  -- n / den is as far from w units as n is from w * (den * 2 ^ k)
  from_unit : (w : ℕ) → abs_diff n (rounded p n den * den) ≤ abs_diff n (w * 2 ^ k * den)
  unfolding k
  from_unit w =
      subst (λ (x : ℕ). abs_diff n x ≤ abs_diff n (w * 2 ^ drop p n den * den)) (sym (regroup (kept p n den) (drop p n den) den))
      (subst (λ (x : ℕ). abs_diff n (kept p n den * (den * 2 ^ drop p n den)) ≤ abs_diff n x) (sym (regroup w (drop p n den) den)) (closest_nearest n (den * 2 ^ drop p n den) w (mul-pos D (pow_pos (drop p n den)))))

  pub rounded_nearest : abs_diff n (rounded p n den * den) ≤ abs_diff n (m * 2 ^ j * den)
  unfolding k
  rounded_nearest = elim (on_grid p n den m j P D M) [
    | inl (w, e) ↦ subst (λ (x : ℕ). abs_diff n (rounded p n den * den) ≤ abs_diff n (x * den)) (sym e) (from_unit w)
    | inr (l, h) ↦ le_trans (from_unit (2 ^ (p - 1))) (closer n (m * 2 ^ j * den) (2 ^ (p - 1) * 2 ^ drop p n den * den) (mul-le-mul_right den (le_of_lt l)) h)
  ]

  -- what lies as near is a multiple of the same unit
  pub as_near_on_grid : abs_diff n (rounded p n den * den) ≡ abs_diff n (m * 2 ^ j * den) → (w : ℕ) × (m * 2 ^ j ≡ w * 2 ^ drop p n den)
  unfolding k
  as_near_on_grid t = elim (on_grid p n den m j P D M) [
    | inl at ↦ at
    | inr (l, h) ↦
        absurd (lt_irrefl (abs_diff n (m * 2 ^ j * den))
        (lt_of_le_of_lt (le_trans (le_of_eq (sym t)) (from_unit (2 ^ (p - 1)))) (strictly_closer n (m * 2 ^ j * den) (2 ^ (p - 1) * 2 ^ drop p n den * den) (mul-lt-mul_of_pos_right l D) h)))
  ]

  pub rounded_even : abs_diff n (rounded p n den * den) ≡ abs_diff n (m * 2 ^ j * den) → (m * 2 ^ j ≡ rounded p n den → ⊥) → kept p n den % 2 ≡ 0
  rounded_even t z =
      let u = den * 2 ^ drop p n den in
      let U : 0 < u = mul-pos D (pow_pos (drop p n den)) in
      let at = as_near_on_grid t in
      closest_even n u at.0 U (ap (abs_diff n) (sym (regroup (kept p n den) (drop p n den) den)) ∙ t ∙ ap (λ (x : ℕ). abs_diff n (x * den)) at.1 ∙ ap (abs_diff n) (regroup at.0 (drop p n den) den))
      (λ (d : at.0 * u ≡ kept p n den * u). z (at.1 ∙ ap (λ (x : ℕ). x * 2 ^ drop p n den) (eq_of_mul-eq-mul_right u U at.0 (kept p n den) d)))

-- what is kept has at most p digits, or is the least number of one more
pub kept_le : (p n den : ℕ) → kept p n den ≤ 2 ^ p
kept_le p n den =
    let u = den * 2 ^ drop p n den in
    le_trans (nearest-le (n / u) (compare (n % u * 2) u)) (subst (λ (x : ℕ). x < 2 ^ p) (div-div-eq-div-mul n den (2 ^ drop p n den)) (kept-lt p (n / den)))
