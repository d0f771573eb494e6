-- Data that are no NaN are ordered as their encodings in sign and magnitude, in either format (`lt_bits`). Assumes nothing.
use Rattle.std.proofs.Common.{◌≡◌, ℕ, zero, suc, ◌+◌, ◌-◌, ◌*◌, ◌/◌, ◌%◌, ◌^◌, ◌<◌, ◌≤◌, Bool, true, false, cond, eqb, leb, ◌⊎◌, sym, refl, ap, ◌∙◌, subst, ap₂, subst₂, inl, inr, le_of_eq, le_refl, lt_of_lt_of_le, le_of_suc-le-suc, le-add_right, not-suc-le-zero, le_of_lt, mod-lt, mul_assoc, mul_comm, div-lt_iff_lt-mul, eq-zero-or-pos, mul-le-mul, eq-or-lt_of_le, mul-lt-mul_of_pos_right, mul-pos, div-add-mod', zero-mul, mul-one, mul_right_comm, mul-div_cancel, arith, lit<, pow_pos, pow_mono, ltb-false, le-ltb, lt-ltb, ne_eqb}
use native.Mathlib.Nat.{mul-mod_left, mod-mod_of_dvd, dvd-mul_right, pow-succ'}
use lib.Arith.{add-lt_cancel_left}
use lib.Pow.{shr_mono}
use lib.Ieee.{Float, nan, inf, fin, Format, binary32, binary64, prec, low, up, down, below, lt, odd, hid, ones, top, of_fields, of_bits, nan_bits}
use lib.Ieee.Bits.{nan_bits_above}
use lib.Ieee.Fits.{down_pos}
use lib.Ieee.Exact.{HasValue, odd_sign}
use Rattle.binary64.proofs.Tests.{ltb_alike}

-- ---- the comparison of two signed magnitudes

-- It stays where both magnitudes go through a map that is strictly increasing and keeps 0.
module _ (g : ℕ → ℕ) (zero-kept : g 0 ≡ 0) (increasing : (a b : ℕ) → a < b → g a < g b) where
  not_decreasing : (a b : ℕ) → a ≤ b → g a ≤ g b
  not_decreasing a b h = go (eq-or-lt_of_le h)
    where
      go : (a ≡ b) ⊎ (a < b) → g a ≤ g b
      go (inl e) = le_of_eq (ap g e)
      go (inr l) = le_of_lt (increasing a b l)

  sum_positive : (a b : ℕ) → 0 < a + b → 0 < g a + g b
  sum_positive a b h = go (eq-zero-or-pos a)
    where
      go : (a ≡ 0) ⊎ (0 < a) → 0 < g a + g b
      go (inl e) = omega (arith, zero-kept, increasing 0 b (omega arith))
      go (inr l) = omega (arith, zero-kept, increasing 0 a l)

  sum_zero : (a b : ℕ) → a + b ≤ 0 → g a + g b ≤ 0
  sum_zero a b h =
      let a-zero : a ≡ 0 = omega arith in
      let b-zero : b ≡ 0 = omega arith in
      rw (a-zero, b-zero, zero-kept) (omega arith)

  below_map : (s : Bool) (a : ℕ) (t : Bool) (b : ℕ) → below s (g a) t (g b) ≡ below s a t b
  below_map false a false b = ltb_alike a b (g a) (g b) (increasing a b) (not_decreasing b a)
  below_map false a true b = refl
  below_map true a false b = ltb_alike 0 (a + b) 0 (g a + g b) (sum_positive a b) (sum_zero a b)
  below_map true a true b = ltb_alike b a (g b) (g a) (increasing b a) (not_decreasing a b)

-- ---- two finite values

-- With a common denominator their order is that of the numerators.
lt_of_values : (v w : Float) (s t : Bool) (a b c : ℕ) → 0 < c → HasValue v s a c → HasValue w t b c → lt v w ≡ below s a t b
unfolding lt
lt_of_values nan w s t a b c C p q = absurd p
lt_of_values (inf r) w s t a b c C p q = absurd p
lt_of_values (fin r m e) nan s t a b c C p q = absurd q
lt_of_values (fin r m e) (inf u) s t a b c C p q = absurd q
lt_of_values (fin r m e) (fin u n d) s t a b c C p q =
    let k = down e * down d in
    let left : m * up e * down d * c ≡ a * k = mul_right_comm (m * up e) (down d) c ∙ ap (λ (z : ℕ). z * down d) p.1 ∙ mul_assoc a (down e) (down d) in
    let right : n * up d * down e * c ≡ b * k = mul_right_comm (n * up d) (down e) c ∙ ap (λ (z : ℕ). z * down e) q.1 ∙ mul_assoc b (down d) (down e) ∙ ap (λ (z : ℕ). b * z) (mul_comm (down d) (down e)) in
    ap₂ (λ (x y : Bool). below x (m * up e * down d) y (n * up d * down e)) p.0 q.0
    ∙ sym (scaled c C s (m * up e * down d) t (n * up d * down e))
    ∙ ap₂ (λ (x y : ℕ). below s x t y) left right
    ∙ scaled k (mul-pos (down_pos e) (down_pos d)) s a t b
  where
    scaled : (k : ℕ) → 0 < k → (s : Bool) (a : ℕ) (t : Bool) (b : ℕ) → below s (a * k) t (b * k) ≡ below s a t b
    scaled k K = below_map (λ a. a * k) (zero-mul k) (λ a b h. mul-lt-mul_of_pos_right h K)

-- ---- the magnitude of an encoding, in units of the format's smallest value

-- By its exponent's field x and its digits t. A field of 0 has no leading digit, and counts as a field of 1.
units_of : Format → ℕ → ℕ → ℕ
units_of f zero t = t
units_of f (suc x) t = (hid f + t) * 2 ^ x

-- The next field begins above all digits of this one.
units_below : (f : Format) (x t : ℕ) → t < hid f → units_of f x t < hid f * 2 ^ x
unfolding units_of
units_below f zero t h = rw mul-one h
units_below f (suc x) t h = lt_of_lt_of_le (mul-lt-mul_of_pos_right (twice (hid f) t h) (pow_pos x)) (le_of_eq (mul_assoc (hid f) 2 (2 ^ x) ∙ ap (λ (z : ℕ). hid f * z) (sym (pow-succ' 2 x))))
  where
    twice : (h t : ℕ) → t < h → h + t < h * 2
    twice h t l = omega arith

units_reach : (f : Format) (x y t : ℕ) → x < y → hid f * 2 ^ x ≤ units_of f y t
unfolding units_of
units_reach f x zero t h = absurd (not-suc-le-zero h)
units_reach f x (suc y) t h = mul-le-mul (le-add_right (hid f) t) (pow_mono (le_of_suc-le-suc h))

units_digits : (f : Format) (x t u : ℕ) → t < u → units_of f x t < units_of f x u
unfolding units_of
units_digits f zero t u h = h
units_digits f (suc x) t u h = mul-lt-mul_of_pos_right (further (hid f) t u h) (pow_pos x)
  where
    further : (h t u : ℕ) → t < u → h + t < h + u
    further h t u l = omega arith

-- By the encoding p without its sign. An infinity's is that of a number beyond all others.
abbrev magnitude : Format → ℕ → ℕ
magnitude f p = units_of f (p / hid f) (p % hid f)

magnitude_increasing : (f : Format) (p q : ℕ) → p < q → magnitude f p < magnitude f q
magnitude_increasing f p q h = go (eq-or-lt_of_le (shr_mono (prec f - 1) (le_of_lt h)))
  where
    go : (p / hid f ≡ q / hid f) ⊎ (p / hid f < q / hid f) → magnitude f p < magnitude f q
    go (inl e) =
        rw (← e) (units_digits f (p / hid f) (p % hid f) (q % hid f)
        (add-lt_cancel_left (p / hid f * hid f)
        (subst₂ (λ (x y : ℕ). x < y) (sym (div-add-mod' p (hid f))) (sym (div-add-mod' q (hid f)) ∙ ap (λ (x : ℕ). x * hid f + q % hid f) (sym e)) h)))
    go (inr l) = lt_of_lt_of_le (units_below f (p / hid f) (p % hid f) (mod-lt p (pow_pos (prec f - 1)))) (units_reach f (p / hid f) (q / hid f) (q % hid f) l)

magnitude_zero : (f : Format) → magnitude f 0 ≡ 0
unfolding units_of
magnitude_zero binary32 = refl
magnitude_zero binary64 = refl

-- ---- what an encoding is read as, where it is no NaN's

infinity_fields : (f : Format) (s : Bool) → of_fields f s (ones f) 0 ≡ inf s
unfolding of_fields
infinity_fields binary32 s = refl
infinity_fields binary64 s = refl

finite_fields : (f : Format) (s : Bool) (x t : ℕ) → x < ones f → HasValue (of_fields f s x t) s (units_of f x t) (2 ^ low f)
unfolding of_fields units_of
finite_fields f s zero t h = subst (λ (z : ℕ). HasValue (odd (prec f) s t 0 (low f)) s z (2 ^ low f)) (mul-one t) (odd_sign (prec f) s t 0 (low f))
finite_fields f s (suc x) t h =
    subst (λ (b : Bool). HasValue (cond b (cond (eqb t 0) (inf s) nan) (odd (prec f) s (hid f + t) x (low f))) s ((hid f + t) * 2 ^ x) (2 ^ low f))
    (sym (ne_eqb (suc x) (ones f) (apart (suc x) (ones f) h)))
    (odd_sign (prec f) s (hid f + t) x (low f))
  where
    apart : (a b : ℕ) → a < b → a ≡ b → ⊥
    apart a b l e = omega arith

abbrev sign : Format → ℕ → Bool
sign f b = leb (top f) b

-- The encoding of +∞.
abbrev pub infinity : Format → ℕ
infinity f = ones f * hid f

infinity_positive : (f : Format) → 0 < infinity f
infinity_positive binary32 = lit< tt
infinity_positive binary64 = lit< tt

-- An infinity, or a number by its sign and magnitude.
abbrev Read : Format → ℕ → Type 0
Read f b =
    ((of_bits f b ≡ inf (sign f b)) × (b % top f ≡ infinity f))
    ⊎ (HasValue (of_bits f b) (sign f b) (magnitude f (b % top f)) (2 ^ low f) × (b % top f < infinity f))

of_bits_is : (f : Format) (b : ℕ) → of_bits f b ≡ of_fields f (sign f b) (b % top f / hid f) (b % top f % hid f)
unfolding of_bits
of_bits_is f b = ap (of_fields f (sign f b) (b % top f / hid f)) (sym (mod-mod_of_dvd (hid f) b (dvd-mul_right (hid f) (suc (ones f)))))

read : (f : Format) (b : ℕ) → nan_bits f b ≡ false → Read f b
read f b h = go (eq-or-lt_of_le (ltb-false (infinity f) (b % top f) (sym (nan_bits_above f b) ∙ h)))
  where
    fields_of : (p : ℕ) → p ≡ infinity f → of_fields f (sign f b) (p / hid f) (p % hid f) ≡ inf (sign f b)
    fields_of p e =
        ap₂ (of_fields f (sign f b)) (ap (λ (n : ℕ). n / hid f) e ∙ mul-div_cancel (ones f) (pow_pos (prec f - 1))) (ap (λ (n : ℕ). n % hid f) e ∙ mul-mod_left (ones f) (hid f))
        ∙ infinity_fields f (sign f b)

    go : (b % top f ≡ infinity f) ⊎ (b % top f < infinity f) → Read f b
    go (inl e) = inl (of_bits_is f b ∙ fields_of (b % top f) e, e)
    go (inr l) =
        inr (rw of_bits_is (finite_fields f (sign f b) (b % top f / hid f) (b % top f % hid f) ((div-lt_iff_lt-mul (pow_pos (prec f - 1))).1 l)), l)

-- ---- the order

-- Infinities against each other, and against a finite value, whose magnitude is less.
infinity_lt_infinity : (s t : Bool) (p : ℕ) → 0 < p → lt (inf s) (inf t) ≡ below s p t p
unfolding lt
infinity_lt_infinity false false p h = sym (le-ltb p p (le_refl p))
infinity_lt_infinity false true p h = refl
infinity_lt_infinity true false p h = sym (lt-ltb 0 (p + p) (omega arith))
infinity_lt_infinity true true p h = sym (le-ltb p p (le_refl p))

infinity_lt : (v : Float) (s t : Bool) (a c p q : ℕ) → HasValue v t a c → q < p → lt (inf s) v ≡ below s p t q
unfolding lt
infinity_lt nan s t a c p q v h = absurd v
infinity_lt (inf r) s t a c p q v h = absurd v
infinity_lt (fin r m e) false false a c p q v h = sym (le-ltb p q (le_of_lt h))
infinity_lt (fin r m e) false true a c p q v h = refl
infinity_lt (fin r m e) true false a c p q v h = sym (lt-ltb 0 (p + q) (omega arith))
infinity_lt (fin r m e) true true a c p q v h = sym (lt-ltb q p h)

lt_infinity : (v : Float) (s t : Bool) (a c p q : ℕ) → HasValue v s a c → p < q → lt v (inf t) ≡ below s p t q
unfolding lt
lt_infinity nan s t a c p q v h = absurd v
lt_infinity (inf r) s t a c p q v h = absurd v
lt_infinity (fin r m e) false false a c p q v h = sym (lt-ltb p q h)
lt_infinity (fin r m e) false true a c p q v h = refl
lt_infinity (fin r m e) true false a c p q v h = sym (lt-ltb 0 (p + q) (omega arith))
lt_infinity (fin r m e) true true a c p q v h = sym (le-ltb q p (le_of_lt h))

-- Of two data that are no NaN, `lt` compares the encodings as signed magnitudes.
pub lt_bits : (f : Format) (x y : ℕ) → nan_bits f x ≡ false → nan_bits f y ≡ false
    → lt (of_bits f x) (of_bits f y) ≡ below (leb (top f) x) (x % top f) (leb (top f) y) (y % top f)
lt_bits f x y h k = go (read f x h) (read f y k)
  where
    go : Read f x → Read f y → lt (of_bits f x) (of_bits f y) ≡ below (sign f x) (x % top f) (sign f y) (y % top f)
    go (inl p) (inl q) = rw (p.0, p.1, q.0, q.1) (infinity_lt_infinity (sign f x) (sign f y) (infinity f) (infinity_positive f))
    go (inl p) (inr q) = rw (p.0, p.1) (infinity_lt (of_bits f y) (sign f x) (sign f y) _ _ (infinity f) (y % top f) q.0 q.1)
    go (inr p) (inl q) = rw (q.0, q.1) (lt_infinity (of_bits f x) (sign f x) (sign f y) _ _ (x % top f) (infinity f) p.0 p.1)
    go (inr p) (inr q) =
        lt_of_values (of_bits f x) (of_bits f y) (sign f x) (sign f y) (magnitude f (x % top f)) (magnitude f (y % top f)) (2 ^ low f) (pow_pos (low f)) p.0 q.0
        ∙ below_map (magnitude f) (magnitude_zero f) (magnitude_increasing f) (sign f x) (x % top f) (sign f y) (y % top f)
