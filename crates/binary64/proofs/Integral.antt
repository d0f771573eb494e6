-- Laws of rounding to an integral value. Assumes nothing.
use Rattle.std.proofs.Common.{◌≡◌, ℕ, zero, suc, ◌+◌, ◌-◌, ◌*◌, ◌/◌, ◌%◌, ◌^◌, ◌<◌, ◌≤◌, Bool, true, false, cond, not, ◌&&◌, T, eqb, ltb, leb, ℤ, pos, negsuc, sym, refl, ap, ◌∙◌, subst, le_trans, le_of_eq, add-zero, zero-lt-suc, mul_assoc, add-mul, add_comm, lt_of_mul-lt-mul_right, mul-pos, div-add-mod', le-div_iff_mul-le, zero-mul, mul-one, div-le_self, mul_right_comm, div-mul-le_self, le_of_mul-le-mul_right, div-one, div-lt_iff_lt-mul, mod-lt, le_antisymm, arith, ltb→lt, pow_pos, pow-add, shl_lt}
use native.Mathlib.Nat.{mod-one, lt-div-mul-add}
use lib.Dec.{eqb-suc-zero}
use lib.Ieee.{Float, nan, inf, fin, Format, binary64, prec, emax, low, up, down, round, neg, le, fits, is_nan}
use lib.Ieee.Fits.{down_pos, and_l, and_r, neg-fits}
use lib.Ieee.Nearest.{div_same}
use lib.Ieee.Exact.{HasValue, round_exact}
use lib.Ieee.Back.{round_whole}
use Rattle.std.specs.Float as Float
use Rattle.std.specs.Float.{ratio_ceil}
use Rattle.binary64.specs.Integral.{Toward, negative, away_from_zero, whole_magnitude, round_to_integral, floor_of, ceil_of}
use Rattle.binary64.proofs.Negation.{neg_neg, neg_value, neg_round}
use Rattle.binary64.proofs.SignedOrder.{SignedLe, signed_of_le, le_of_signed, neg_le}

-- The ceiling is the floor, mirrored.
pub ceil_is_negated_floor : (x : Float) → neg (floor_of (neg x)) ≡ ceil_of x
unfolding neg round_to_integral
ceil_is_negated_floor nan = refl
ceil_is_negated_floor (inf true) = refl
ceil_is_negated_floor (inf false) = refl
ceil_is_negated_floor (fin true m e) = neg_round binary64 false (whole_magnitude false (m * up e) (down e)) 1
ceil_is_negated_floor (fin false m e) = neg_round binary64 true (whole_magnitude true (m * up e) (down e)) 1

-- ---- the whole magnitude of a fraction
-- A whole number is its own.
whole_of_whole : (away : Bool) (n : ℕ) → whole_magnitude away n 1 ≡ n
whole_of_whole true n = rw (div-one n, mod-one n) (add-zero n)
whole_of_whole false n = rw (div-one n) (add-zero n)

whole_le : (away : Bool) (a c : ℕ) → whole_magnitude away a c ≤ a / c + 1
whole_le away a c = step (away && not (eqb (a % c) 0))
  where
    step : (b : Bool) → a / c + cond b 1 0 ≤ a / c + 1
    step true = omega arith
    step false = omega arith

-- The remainders of equal fractions are in proportion, so that one is 0 where the other is.
same_remainder : (r k c d : ℕ) → 0 < c → 0 < d → r * d ≡ k * c → eqb r 0 ≡ eqb k 0
same_remainder zero zero c d C D h = refl
same_remainder zero (suc k) c d C D h = absurd (omega (arith, mul-pos (zero-lt-suc k) C, zero-mul d))
same_remainder (suc r) zero c d C D h = absurd (omega (arith, mul-pos (zero-lt-suc r) D, zero-mul c))
same_remainder (suc r) (suc k) c d C D h = eqb-suc-zero r ∙ sym (eqb-suc-zero k)

-- It is that of the number, however the fraction is written.
whole_same : (away : Bool) (a c n d : ℕ) → 0 < c → 0 < d → a * d ≡ n * c → whole_magnitude away a c ≡ whole_magnitude away n d
whole_same away a c n d C D h =
    let q : a / c ≡ n / d = div_same a c n d C D h in
    let r : eqb (a % c) 0 ≡ eqb (n % d) 0 = same_remainder (a % c) (n % d) c d C D (remainders q) in
    rw (q, r)
  where
    remainders : a / c ≡ n / d → a % c * d ≡ n % d * c
    remainders q =
        let x : a * d ≡ a / c * c * d + a % c * d = ap (λ (k : ℕ). k * d) (sym (div-add-mod' a c)) ∙ add-mul (a / c * c) (a % c) d in
        let y : n * c ≡ n / d * d * c + n % d * c = ap (λ (k : ℕ). k * c) (sym (div-add-mod' n d)) ∙ add-mul (n / d * d) (n % d) c in
        let z : a / c * c * d ≡ n / d * d * c = ap (λ (k : ℕ). k * c * d) q ∙ mul_right_comm (n / d) c d in
        omega arith

-- ---- it is what the library's rounding gives
-- The next whole number up, as the library writes it.
away_is_ceil : (n d : ℕ) → 0 < d → whole_magnitude true n d ≡ ratio_ceil n d
away_is_ceil n d D = le_antisymm (at_least (n % d) refl) (at_most (n % d) refl)
  where
    at_least : (r : ℕ) → n % d ≡ r → n / d + cond (not (eqb r 0)) 1 0 ≤ (n + d - 1) / d
    at_least zero h = (le-div_iff_mul-le D).1 (omega (arith, div-add-mod' n d))
    at_least (suc r) h = rw (eqb-suc-zero r) ((le-div_iff_mul-le D).1 (omega (arith, div-add-mod' n d)))

    at_most : (r : ℕ) → n % d ≡ r → (n + d - 1) / d ≤ n / d + cond (not (eqb r 0)) 1 0
    at_most zero h = omega (arith, (div-lt_iff_lt-mul {x = n + d - 1} {y = n / d + 1} D).1 (omega (arith, div-add-mod' n d)))
    at_most (suc r) h = rw (eqb-suc-zero r) (omega (arith, (div-lt_iff_lt-mul {x = n + d - 1} {y = n / d + 1 + 1} D).1 (omega (arith, div-add-mod' n d, mod-lt n D))))

pub floor_is_library : (x : Float) → floor_of x ≡ Float.floor binary64 x
unfolding round_to_integral Float.round_with
floor_is_library nan = refl
floor_is_library (inf s) = refl
floor_is_library (fin false m e) = ap (λ (n : ℕ). round binary64 false n 1) (add-zero (m * up e / down e))
floor_is_library (fin true m e) = ap (λ (n : ℕ). round binary64 true n 1) (away_is_ceil (m * up e) (down e) (down_pos e))

pub ceil_is_library : (x : Float) → ceil_of x ≡ Float.ceil binary64 x
unfolding round_to_integral Float.round_with
ceil_is_library nan = refl
ceil_is_library (inf s) = refl
ceil_is_library (fin false m e) = ap (λ (n : ℕ). round binary64 false n 1) (away_is_ceil (m * up e) (down e) (down_pos e))
ceil_is_library (fin true m e) = ap (λ (n : ℕ). round binary64 true n 1) (add-zero (m * up e / down e))

-- ---- it is a value of the format
-- What a format holds has at most `prec` binary digits and lies below 2 ^ (emax + 1).
pub significand_bound : (f : Format) (s : Bool) (m : ℕ) (e : ℤ) → T (fits f (fin s m e)) → (m < 2 ^ prec f) × (m * up e < 2 ^ suc (emax f) * down e)
unfolding fits
significand_bound f s zero e t = (pow_pos (prec f), rw (zero-mul (up e)) (mul-pos (pow_pos (suc (emax f))) (down_pos e)))
significand_bound f s (suc m) e t =
    let A = eqb (suc m % 2) 1 in
    let B = ltb (suc m) (2 ^ prec f) in
    let C = leb (down e) (2 ^ low f) in
    let D = ltb (suc m * up e) (2 ^ suc (emax f) * down e) in
    (ltb→lt (suc m) (2 ^ prec f) (and_r A B (and_l (A && B) C (and_l (A && B && C) D t))), ltb→lt (suc m * up e) (2 ^ suc (emax f) * down e) (and_r (A && B && C) D t))

round_shifted : (f : Format) (s : Bool) (m k : ℕ) → m < 2 ^ prec f → m * 2 ^ k < 2 ^ suc (emax f) → HasValue (round f s (m * 2 ^ k) 1) s (m * 2 ^ k) 1
round_shifted f s m k l h =
    let units : m * 2 ^ k * 2 ^ low f ≡ m * 2 ^ (k + low f) = mul_assoc m (2 ^ k) (2 ^ low f) ∙ ap (λ (n : ℕ). m * n) (sym (pow-add 2 k (low f))) in
    round_exact f s (m * 2 ^ k) 1 m (k + low f) (zero-lt-suc 0) l
    (subst (λ (n : ℕ). n < 2 ^ (low f + suc (emax f))) units (subst (λ (n : ℕ). m * 2 ^ k * 2 ^ low f < 2 ^ n) (add_comm (suc (emax f)) (low f)) (shl_lt (suc (emax f)) (low f) h)))
    (units ∙ sym (mul-one (m * 2 ^ (k + low f))))

-- A number with no binary digit behind the point is whole already; any other has a whole part of at most 53 digits.
exact_parts : (d : Toward) (s : Bool) (m : ℕ) (e : ℤ) → T (fits binary64 (fin s m e))
    → HasValue (round_to_integral d (fin s m e)) s (whole_magnitude (away_from_zero d s) (m * up e) (down e)) 1
unfolding round_to_integral
exact_parts d s m (pos k) t =
    let b = significand_bound binary64 s m (pos k) t in
    rw (whole_of_whole (away_from_zero d s) (m * 2 ^ k)) (round_shifted binary64 s m k b.0 (rw (mul-one (2 ^ 1024)) at b.1))
exact_parts d s m (negsuc k) t =
    let w = whole_magnitude (away_from_zero d s) (m * 1) (2 ^ suc k) in
    round_whole binary64 s w (few (m * 1 / 2 ^ suc k) w (whole_le (away_from_zero d s) (m * 1) (2 ^ suc k)) (div-le_self (m * 1) (2 ^ suc k)) (significand_bound binary64 s m (negsuc k) t).0)
  where
    few : (q w : ℕ) → w ≤ q + 1 → q ≤ m * 1 → m < 2 ^ 53 → w ≤ 2 ^ 53
    few q w a b l = omega arith

-- The result is exactly the whole magnitude, with the sign of x: `round` changes nothing.
pub integral_exact : (d : Toward) (x : Float) (s : Bool) (a c : ℕ) → T (fits binary64 x) → 0 < c → HasValue x s a c
    → HasValue (round_to_integral d x) s (whole_magnitude (away_from_zero d s) a c) 1
integral_exact d (fin t m e) s a c h C v =
    subst (λ (n : ℕ). HasValue (round_to_integral d (fin t m e)) s n 1) (whole_same (away_from_zero d s) (m * up e) (down e) a c (down_pos e) C v.1)
    (subst (λ (u : Bool). HasValue (round_to_integral d (fin t m e)) u (whole_magnitude (away_from_zero d u) (m * up e) (down e)) 1) v.0 (exact_parts d t m e h))
integral_exact d nan s a c h C v = elim v [ ]
integral_exact d (inf _) s a c h C v = elim v [ ]

-- ---- the floor is the greatest whole number that is not above x
cut_at_most : (n d : ℕ) → whole_magnitude false n d * d ≤ n * 1
cut_at_most n d = omega (arith, div-mul-le_self n d)

away_at_least : (n d : ℕ) → 0 < d → n * 1 ≤ whole_magnitude true n d * d
away_at_least n d D = by_remainder (n % d) refl
  where
    by_remainder : (r : ℕ) → n % d ≡ r → n * 1 ≤ (n / d + cond (not (eqb r 0)) 1 0) * d
    by_remainder zero h = omega (arith, div-add-mod' n d)
    by_remainder (suc r) h = rw (eqb-suc-zero r) (omega (arith, lt-div-mul-add {a = n} D))

away_least : (n d k : ℕ) → 0 < d → n * 1 ≤ k * d → whole_magnitude true n d ≤ k
away_least n d k D l = by_remainder (n % d) refl
  where
    by_remainder : (r : ℕ) → n % d ≡ r → n / d + cond (not (eqb r 0)) 1 0 ≤ k
    by_remainder zero h = omega (arith, le_of_mul-le-mul_right {m = n / d} {n = k} (omega (arith, div-mul-le_self n d)) D)
    by_remainder (suc r) h = rw (eqb-suc-zero r) (omega (arith, lt_of_mul-lt-mul_right d {m = n / d} {n = k} (omega (arith, div-add-mod' n d))))

-- The floor of a number is not above it.
pub floor_not_above : (x : Float) → T (fits binary64 x) → T (not (is_nan x)) → T (le (floor_of x) x)
unfolding is_nan
floor_not_above nan t n = absurd n
floor_not_above (inf true) t n = unfold le round_to_integral in tt
floor_not_above (inf false) t n = unfold le round_to_integral in tt
floor_not_above (fin s m e) t n =
    le_of_signed (floor_of (fin s m e)) (fin s m e) s (whole_magnitude s (m * up e) (down e)) 1 s (m * up e) (down e) (zero-lt-suc 0) (down_pos e)
    (exact_parts negative s m e t) (refl, refl) (by_sign s)
  where
    by_sign : (s : Bool) → SignedLe s (whole_magnitude s (m * up e) (down e) * down e) s (m * up e * 1)
    by_sign false = cut_at_most (m * up e) (down e)
    by_sign true = away_at_least (m * up e) (down e) (down_pos e)

-- A whole number ±n that is not above x is not above the floor.
pub floor_greatest : (x y : Float) (t : Bool) (n : ℕ) → T (fits binary64 x) → HasValue y t n 1 → T (le y x) → T (le y (floor_of x))
floor_greatest nan y t n f v h = unfold round_to_integral in h
floor_greatest (inf s) y t n f v h = unfold round_to_integral in h
floor_greatest (fin s m e) y t n f v h =
    le_of_signed y (floor_of (fin s m e)) t n 1 s (whole_magnitude s (m * up e) (down e)) 1 (zero-lt-suc 0) (zero-lt-suc 0) v (exact_parts negative s m e f)
    (by_signs t s (signed_of_le y (fin s m e) t n 1 s (m * up e) (down e) v (refl, refl) h))
  where
    by_signs : (t s : Bool) → SignedLe t (n * down e) s (m * up e * 1) → SignedLe t (n * 1) s (whole_magnitude s (m * up e) (down e) * 1)
    by_signs false false l = omega (arith, (le-div_iff_mul-le {x = n} (down_pos e)).1 (le_trans l (le_of_eq (mul-one (m * up e)))))
    by_signs true false l = tt
    by_signs true true l = omega (arith, away_least (m * up e) (down e) n (down_pos e) l)
    by_signs false true l =
        let q = away_least (m * up e) (down e) 0 (down_pos e) (omega arith) in
        let z : n ≤ 0 = le_of_mul-le-mul_right (omega arith) (down_pos e) in
        omega arith

-- ---- the ceiling is the least whole number that is not below x
-- The ceiling of a number is not below it.
pub ceil_not_below : (x : Float) → T (fits binary64 x) → T (not (is_nan x)) → T (le x (ceil_of x))
ceil_not_below x t n =
    rw (neg_neg x, ceil_is_negated_floor x) at (neg_le (floor_of (neg x)) (neg x) (floor_not_above (neg x) (neg-fits binary64 x t) (number x n)))
  where
    number : (x : Float) → T (not (is_nan x)) → T (not (is_nan (neg x)))
    number nan n = absurd (unfold is_nan in n)
    number (inf s) n = unfold is_nan neg in tt
    number (fin s m e) n = unfold is_nan neg in tt

-- A whole number ±n that is not below x is not below the ceiling.
pub ceil_least : (x y : Float) (t : Bool) (n : ℕ) → T (fits binary64 x) → HasValue y t n 1 → T (le x y) → T (le (ceil_of x) y)
ceil_least x y t n f v h =
    rw (neg_neg y, ceil_is_negated_floor x) at (neg_le (neg y) (floor_of (neg x)) (floor_greatest (neg x) (neg y) (not t) n (neg-fits binary64 x f) (neg_value y t n 1 v) (neg_le x y h)))
