-- The bit pattern of q * 2 ^ k of a format's smallest values is k * 2 ^ (prec - 1) + q below the sign: k counts as the exponent's field, and the leading bit of q, or a carry out of q, adds to it.
-- An overflow gives the pattern of an infinity in the same way. Over any format; IEEE 754-2019, 3.4. Assumes nothing.
use mathlib.Core.Path.{◌≡◌, refl, sym, ap, ◌∙◌, subst}
use mathlib.Core.Logic.{◌⊎◌, inl, inr}
use Prim.Native.Nat.{ℕ, zero, suc, ◌+◌, ◌-◌, ◌*◌, ◌/◌, ◌%◌, ◌^◌, ◌≤◌, ◌<◌}
use native.Mathlib.Nat.{le_refl, le_trans, le_of_eq, lt_of_le_of_lt, eq-or-lt_of_le, mul_comm, mul_assoc, mul-one, mul-le-mul_left, mul-le-mul, le_of_mul-le-mul_right, mul-le-mul_right, mul-div_cancel, div-one, pow-suc, add_assoc, add-mul}
use native.Mathlib.Omega.{arith}
use mathlib.Core.Bool.{Bool, not, cond}
use lib.Dec.{T}
use lib.Arith.{le→nltb}
use lib.IntN.{ℤ, pos}
use lib.Pow.{pow-add, pow_pos, pow_mono, pow-lt, shl_lt}
use lib.Count.{count_trailing_zeros}
use lib.Ieee.{inf, fin, Format, prec, emax, low, hid, ones, top, up, down, minus, size, odd, units, nan_bits, of_bits, to_bits}
use lib.Ieee.Digits.{odd_val, size-le}
use lib.Ieee.Fits.{two, reach, odd-fits, inf-fits, down_pos}
use lib.Ieee.Bits.{of_bits-to_bits, nan_bits_above}
use lib.Ieee.Scale.{overflow}
use Rattle.std.proofs.lemmas.Bool.{cases_lt, lt-ltb, le-ltb}
use Rattle.rounding.proofs.RoundSticky.{size_exact, pow_le_back}

-- the sign's bit
abbrev pub sign_bit : Format → Bool → ℕ
sign_bit f s = cond s (top f) 0

-- ---- the parameters of a format
prec_suc : (f : Format) → suc (prec f - 1) ≡ prec f
prec_suc f = let t = two f in omega arith

-- 2 ^ prec is twice the weight of the exponent's field
pub hid_double : (f : Format) → 2 ^ prec f ≡ hid f + hid f
hid_double f = ap (λ (x : ℕ). 2 ^ x) (sym (prec_suc f)) ∙ pow-suc 2 (prec f - 1) ∙ twice (hid f)
  where
    twice : (h : ℕ) → h * 2 ≡ h + h
    twice h = omega arith

-- the least infinity is 2 ^ prec of the values with ones - 2 as their k
overflow_place : (f : Format) → low f + suc (emax f) ≡ prec f + (ones f - 2)
overflow_place f = let t = two f in let r = reach f in omega arith

units_finite : (f : Format) (s : Bool) (q k : ℕ) → q * 2 ^ k < overflow f → units f s q k ≡ odd (suc (prec f)) s q k (low f)
unfolding units
units_finite f s q k h = ap (λ (b : Bool). cond b (odd (suc (prec f)) s q k (low f)) (inf s)) (lt-ltb (q * 2 ^ k) (overflow f) h)

units_infinite : (f : Format) (s : Bool) (q k : ℕ) → overflow f ≤ q * 2 ^ k → units f s q k ≡ inf s
unfolding units
units_infinite f s q k h = ap (λ (b : Bool). cond b (odd (suc (prec f)) s q k (low f)) (inf s)) (le-ltb (q * 2 ^ k) (overflow f) h)

-- ---- what `to_bits` writes for a value that is `a` of the smallest values
abbrev written : Format → Bool → ℕ → ℕ → ℕ
written f s a k = sign_bit f s + k * hid f + a / 2 ^ k

to_bits_at : (f : Format) (s : Bool) (m : ℕ) (e : ℤ) (a : ℕ) → m * up e * 2 ^ low f / down e ≡ a → to_bits f (fin s m e) ≡ written f s a (size a - prec f)
unfolding to_bits
to_bits_at f s m e a p = ap (λ (x : ℕ). written f s x (size x - prec f)) p

to_bits_odd : (f : Format) (d : ℕ) (s : Bool) (q k : ℕ) → to_bits f (odd d s q k (low f)) ≡ written f s (q * 2 ^ k) (size (q * 2 ^ k) - prec f)
unfolding odd
to_bits_odd f d s zero k = to_bits_at f s 0 (pos 0) (0 * 2 ^ k) (ap (λ (x : ℕ). x / 1) (odd_val d s zero k (low f)) ∙ div-one (0 * 2 ^ k * 1) ∙ mul-one (0 * 2 ^ k))
to_bits_odd f d s (suc q) k =
    let t = count_trailing_zeros d (suc q) in
    let e = minus (k + t) (low f) in
    to_bits_at f s (suc q / 2 ^ t) e (suc q * 2 ^ k) (ap (λ (x : ℕ). x / down e) (odd_val d s (suc q) k (low f)) ∙ mul-div_cancel (suc q * 2 ^ k) (down_pos e))

-- three ranges of q
written_subnormal : (f : Format) (s : Bool) (q : ℕ) → q < hid f → written f s (q * 2 ^ 0) (size (q * 2 ^ 0) - prec f) ≡ sign_bit f s + (0 * hid f + q)
written_subnormal f s q h =
    let z : size (q * 2 ^ 0) - prec f ≡ 0 = none (size (q * 2 ^ 0)) (prec f) (size-le (q * 2 ^ 0) (prec f - 1) (subst (λ (x : ℕ). x < hid f) (sym (mul-one q)) h)) in
    ap (λ (k : ℕ). written f s (q * 2 ^ 0) k) z ∙ ap (λ (x : ℕ). sign_bit f s + 0 * hid f + x) (div-one (q * 2 ^ 0) ∙ mul-one q) ∙ add_assoc (sign_bit f s) (0 * hid f) q
  where
    none : (z p : ℕ) → z ≤ p - 1 → z - p ≡ 0
    none z p h = omega arith

written_normal : (f : Format) (s : Bool) (q k : ℕ) → hid f ≤ q → q < 2 ^ prec f → written f s (q * 2 ^ k) (size (q * 2 ^ k) - prec f) ≡ sign_bit f s + (k * hid f + q)
written_normal f s q k lo hi =
    let a = q * 2 ^ k in
    let l : 2 ^ (prec f - 1 + k) ≤ a = le_trans (le_of_eq (pow-add 2 (prec f - 1) k)) (mul-le-mul_right (2 ^ k) lo) in
    let u : a < 2 ^ suc (prec f - 1 + k) = subst (λ (x : ℕ). a < 2 ^ x) (next (prec f) k (two f)) (shl_lt (prec f) k hi) in
    let z : size a - prec f ≡ k = ap (λ (x : ℕ). x - prec f) (size_exact (prec f - 1 + k) a l u) ∙ back (prec f) k (two f) in
    ap (λ (y : ℕ). written f s a y) z ∙ ap (λ (x : ℕ). sign_bit f s + k * hid f + x) (mul-div_cancel q (pow_pos k)) ∙ add_assoc (sign_bit f s) (k * hid f) q
  where
    next : (p k : ℕ) → 2 ≤ p → p + k ≡ suc (p - 1 + k)
    next p k h = omega arith

    back : (p k : ℕ) → 2 ≤ p → suc (p - 1 + k) - p ≡ k
    back p k h = omega arith

-- a carry out of the significand
written_carried : (f : Format) (s : Bool) (q k : ℕ) → q ≡ 2 ^ prec f → written f s (q * 2 ^ k) (size (q * 2 ^ k) - prec f) ≡ sign_bit f s + (k * hid f + q)
written_carried f s q k e =
    let H = hid f in
    let d : 2 ^ prec f ≡ H * 2 = ap (λ (x : ℕ). 2 ^ x) (sym (prec_suc f)) ∙ pow-suc 2 (prec f - 1) in
    let raised : q * 2 ^ k ≡ H * 2 ^ suc k = ap (λ (x : ℕ). x * 2 ^ k) (e ∙ d) ∙ sym (ap (λ (x : ℕ). H * x) (pow-suc 2 k ∙ mul_comm (2 ^ k) 2) ∙ sym (mul_assoc H 2 (2 ^ k))) in
    ap (λ (x : ℕ). written f s x (size x - prec f)) raised
    ∙ written_normal f s H (suc k) (le_refl H) (pow-lt (let t = two f in let k : prec f - 1 < prec f = omega arith in k))
    ∙ ap (λ (x : ℕ). sign_bit f s + x) (carry k q H (e ∙ hid_double f))
  where
    carry : (k q H : ℕ) → q ≡ H + H → suc k * H + H ≡ k * H + q
    carry k q H e = let d = add-mul 1 k H in omega arith

-- ---- q has at most prec bits, and prec of them where any were dropped
abbrev pub Kept : Format → ℕ → ℕ → Type 0
Kept f q k = (q ≤ 2 ^ prec f) × ((k ≡ 0) ⊎ (hid f ≤ q))

written_is : (f : Format) (s : Bool) (q k : ℕ) → Kept f q k → written f s (q * 2 ^ k) (size (q * 2 ^ k) - prec f) ≡ sign_bit f s + (k * hid f + q)
written_is f s q k (le, or) = elim (eq-or-lt_of_le le) [ inl e ↦ written_carried f s q k e | inr l ↦ below l (cases_lt q (hid f)) or ]
  where
    below : q < 2 ^ prec f → (q < hid f) ⊎ (hid f ≤ q) → (k ≡ 0) ⊎ (hid f ≤ q) → written f s (q * 2 ^ k) (size (q * 2 ^ k) - prec f) ≡ sign_bit f s + (k * hid f + q)
    below l (inr g) o = written_normal f s q k g l
    below l (inl b) (inr g) = written_normal f s q k g l
    below l (inl b) (inl z) = subst (λ (j : ℕ). written f s (q * 2 ^ j) (size (q * 2 ^ j) - prec f) ≡ sign_bit f s + (j * hid f + q)) (sym z) (written_subnormal f s q b)

-- ---- the pattern
finite_pattern : (f : Format) (s : Bool) (q k : ℕ) → Kept f q k → q * 2 ^ k < overflow f → of_bits f (sign_bit f s + (k * hid f + q)) ≡ units f s q k
finite_pattern f s q k kept h =
    let d = suc (prec f) in
    ap (λ (x : ℕ). of_bits f x) (sym (to_bits_odd f d s q k ∙ written_is f s q k kept))
    ∙ of_bits-to_bits f (odd d s q k (low f)) (odd-fits f d s q k (lt_of_le_of_lt kept.0 (pow-lt (le_refl d))) kept.0 h)
    ∙ sym (units_finite f s q k h)

to_bits_infinity : (f : Format) (s : Bool) → to_bits f (inf s) ≡ sign_bit f s + ones f * hid f
unfolding to_bits
to_bits_infinity f s = refl

pub infinity_pattern : (f : Format) (s : Bool) → of_bits f (sign_bit f s + ones f * hid f) ≡ inf s
infinity_pattern f s = ap (λ (x : ℕ). of_bits f x) (sym (to_bits_infinity f s)) ∙ of_bits-to_bits f (inf s) (inf-fits f s)

-- up to the pattern of an infinity none is a NaN's
pub not_nan_pattern : (f : Format) (n : ℕ) → n % top f ≤ ones f * hid f → T (not (nan_bits f n))
not_nan_pattern f n h = subst (λ (b : Bool). T (not b)) (sym (nan_bits_above f n)) (le→nltb (ones f * hid f) (n % top f) h)

-- at the threshold and beyond, with at most ones - 2 bits dropped: q is 2 ^ prec and k is ones - 2, so the pattern is an infinity's
overflow_pattern : (f : Format) (q k : ℕ) → q ≤ 2 ^ prec f → k ≤ ones f - 2 → overflow f ≤ q * 2 ^ k → k * hid f + q ≡ ones f * hid f
overflow_pattern f q k a b h =
    let j = ones f - 2 in
    let o : overflow f ≡ 2 ^ prec f * 2 ^ j = ap (λ (x : ℕ). 2 ^ x) (overflow_place f) ∙ pow-add 2 (prec f) j in
    let l : q * 2 ^ k ≤ q * 2 ^ j = mul-le-mul_left q (pow_mono b) in
    let full : 2 ^ prec f ≤ q = le_of_mul-le-mul_right {k = 2 ^ j} (le_trans (le_of_eq (sym o)) (le_trans h l)) (pow_pos j) in
    let m : q * 2 ^ k ≤ 2 ^ (prec f + k) = le_trans (mul-le-mul_right (2 ^ k) a) (le_of_eq (sym (pow-add 2 (prec f) k))) in
    let place : low f + suc (emax f) ≤ prec f + k = pow_le_back (low f + suc (emax f)) (prec f + k) (le_trans h m) in
    let p = overflow_place f in
    let n : k + 2 ≡ ones f = let t = two f in let r = reach f in omega arith in
    let d = hid_double f in
    let e : q ≡ hid f + hid f = omega arith in
    both k q (hid f) (ones f) n e
  where
    both : (k q H N : ℕ) → k + 2 ≡ N → q ≡ H + H → k * H + q ≡ N * H
    both k q H N n e = let d = add-mul k 2 H in let c : (k + 2) * H ≡ N * H = ap (λ (x : ℕ). x * H) n in omega arith

-- Rounded to q, k bits dropped: k is less than any infinity's field.
pub rounded_pattern : (f : Format) (s : Bool) (q k : ℕ) → Kept f q k → k ≤ ones f - 2 → of_bits f (sign_bit f s + (k * hid f + q)) ≡ units f s q k
rounded_pattern f s q k kept h = elim (cases_lt (q * 2 ^ k) (overflow f)) [
  | inl l ↦ finite_pattern f s q k kept l
  | inr g ↦ ap (λ (x : ℕ). of_bits f (sign_bit f s + x)) (overflow_pattern f q k kept.0 h g) ∙ infinity_pattern f s ∙ sym (units_infinite f s q k g)
]

-- More bits dropped: an infinity.
pub infinite_pattern : (f : Format) (s : Bool) (q k : ℕ) → hid f ≤ q → ones f - 1 ≤ k → of_bits f (sign_bit f s + ones f * hid f) ≡ units f s q k
infinite_pattern f s q k a b =
    let t = two f in
    let r = reach f in
    let e : low f + suc (emax f) ≡ prec f - 1 + (ones f - 1) = omega arith in
    infinity_pattern f s ∙ sym (units_infinite f s q k (le_trans (le_of_eq (ap (λ (x : ℕ). 2 ^ x) e ∙ pow-add 2 (prec f - 1) (ones f - 1))) (mul-le-mul a (pow_mono b))))
