-- `round` is roundTiesToEven (IEEE 754-2019, 4.3.1), in either format and for every fraction num / den with either sign:
-- `round_overflows` and `round_finite`: it gives an infinity exactly from 2 ^ emax * (2 − 2 ^ −prec) on; `round_nearest`: below that it gives a value than which no value of the format lies nearer;
-- `round_tie_even`: where another lies as near, the one with an even significand; `round_negates`: the sign plays no part. That the result is a value of the format is `round-fits` of lib.Ieee.Fits.
-- Assumes nothing.
use mathlib.Core.Path.{◌≡◌, refl, sym, ap, ◌∙◌, subst}
use mathlib.Core.Logic.{inl, inr}
use Prim.Native.Nat.{ℕ, zero, suc, ◌+◌, ◌-◌, ◌*◌, ◌/◌, ◌%◌, ◌^◌, ◌≤◌, ◌<◌}
use native.Mathlib.Nat.{eq-zero-or-pos, le_refl, lt-suc_self, eq-or-lt_of_le, mul-div_cancel, pow-succ', lt_of_mul-lt-mul_right, le_of_mul-le-mul_right, lt_of_not-le, mul-one, zero-mul, mul-sub, add-mul, le_trans, le_of_eq, lt_irrefl, lt_of_lt_of_le, lt_of_le_of_lt, mul_comm, mul_assoc, mul_left_comm, mul_right_comm, mul-le-mul_right, mul-lt-mul_of_pos_right, mul-pos, eq_of_mul-eq-mul_right, suc-mul}
use native.Mathlib.Omega.{arith}
use mathlib.Core.Bool.{Bool, true, false, not, ◌&&◌, ◌||◌, cond, beq}
use lib.IntN.{ℤ, pos, negsuc}
use lib.Dec.{T, T_not, leb, eqb, ltb, leb→le, ltb→lt}
use lib.Pow.{pow-add, pow_pos, pow-lt, shl_lt, ones_lt}
use lib.Ieee.{Float, nan, inf, fin, Format, binary32, binary64, prec, emax, low, size, up, down, round, neg, eq, ne, le, fits, hid, ones, top, to_bits}
use lib.Ieee.Digits.{size-le, back}
use lib.Ieee.Fits.{and_i, and_l, and_r, eq→eqb, two, two-le_pos, down_pos, round_is}
use lib.Ieee.Exact.{HasValue, units_val}
use lib.Ieee.Order.{drop, kept, round_mono}
use lib.Ieee.Scale.{grid, overflow, finite}
use lib.Ieee.Positive.{den, den_pos}
use Rattle.std.specs.Cmp.{booleans_Decides}
use Rattle.std.proofs.lemmas.Bool.{or_left}
use Rattle.std.proofs.lemmas.Float.{T_from_true}
use Rattle.binary64.proofs.Negation.{neg_round}
use Rattle.binary64.proofs.NotNan.{value_finite}
use Rattle.rounding.proofs.RoundSticky.{pow_le_back, size_exact}
use Rattle.rounding.specs.TiesToEven.{abs_diff, distance, overflow_threshold, Overflows, InRange}
use Rattle.rounding.proofs.NearestDigits.{abs_diff_mul, even_product, even_pow, rounded_nearest, rounded_even, kept_le}

-- ---- in units of the format's smallest value
-- a value of the format is m * 2 ^ j units
abbrev pub Units : Format → ℕ → ℤ → Type 0
Units f m e = (m < 2 ^ prec f) × (j : ℕ) × (m * up e * 2 ^ low f ≡ m * 2 ^ j * down e)

place : (l m : ℕ) (e : ℤ) → down e ≤ 2 ^ l → (j : ℕ) × (m * up e * 2 ^ l ≡ m * 2 ^ j * down e)
place l m (pos a) h = (a + l, mul_assoc m (2 ^ a) (2 ^ l) ∙ ap (λ (x : ℕ). m * x) (sym (pow-add 2 a l)) ∙ sym (mul-one (m * 2 ^ (a + l))))
place l m (negsuc a) h =
    let i : suc a ≤ l = pow_le_back (suc a) l h in (
      l - suc a,
      ap (λ (x : ℕ). x * 2 ^ l) (mul-one m) ∙ ap (λ (x : ℕ). m * x) (ap (λ (x : ℕ). 2 ^ x) (sym (back l (suc a) i)) ∙ pow-add 2 (l - suc a) (suc a)) ∙ sym (mul_assoc m (2 ^ (l - suc a)) (2 ^ suc a)),
    )

pub in_units : (f : Format) (s : Bool) (m : ℕ) (e : ℤ) → T (fits f (fin s m e)) → Units f m e
unfolding fits
in_units f s zero e t = (pow_pos (prec f), 0, ap (λ (x : ℕ). x * 2 ^ low f) (zero-mul (up e)) ∙ zero-mul (2 ^ low f) ∙ sym (zero-mul (down e)))
in_units f s (suc m) e t =
    let a = eqb (suc m % 2) 1 in
    let b = ltb (suc m) (2 ^ prec f) in
    let c = leb (down e) (2 ^ low f) in
    let d = ltb (suc m * up e) (2 ^ suc (emax f) * down e) in
    let at = place (low f) (suc m) e (leb→le (down e) (2 ^ low f) (and_r (a && b) c (and_l (a && b && c) d t))) in
    (ltb→lt (suc m) (2 ^ prec f) (and_r a b (and_l (a && b) c (and_l (a && b && c) d t))), at.0, at.1)

-- Below, the fraction is a / b, and a value x / y is c units of 1 / L each.
same_units : (a b x y c L : ℕ) → x * L ≡ c * y → abs_diff (a * y) (x * b) * L ≡ abs_diff (a * L) (c * b) * y
same_units a b x y c L e =
    abs_diff_mul (a * y) (x * b) L
    ∙ (λ i. abs_diff (mul_right_comm a y L i) ((mul_right_comm x b L ∙ ap (λ (z : ℕ). z * b) e ∙ mul_right_comm c y b) i))
    ∙ sym (abs_diff_mul (a * L) (c * b) y)

sum_units : (a b x y c L : ℕ) → x * L ≡ c * y → (a * y + x * b) * L ≡ (a * L + c * b) * y
sum_units a b x y c L e =
    add-mul (a * y) (x * b) L ∙ (λ i. mul_right_comm a y L i + (mul_right_comm x b L ∙ ap (λ (z : ℕ). z * b) e ∙ mul_right_comm c y b) i) ∙ sym (add-mul (a * L) (c * b) y)

-- the distance of a value with the fraction's own sign
distance_own : (s : Bool) (a b : ℕ) (x : Float) (c L : ℕ) → HasValue x s c L → distance s a b x * L ≡ abs_diff (a * L) (c * b) * den x
unfolding distance
distance_own s a b nan c L h = absurd h
distance_own s a b (inf t) c L h = absurd h
distance_own s a b (fin t m e) c L h = go (beq s t) (T_from_true _ ((booleans_Decides s t).1 (sym h.0)))
  where
    go : (q : Bool) → T q → cond q (abs_diff (a * down e) (m * up e * b)) (a * down e + m * up e * b) * L ≡ abs_diff (a * L) (c * b) * down e
    go true u = same_units a b (m * up e) (down e) c L h.1
    go false u = absurd u

-- of a value with the other sign
distance_unlike : (s : Bool) (a b : ℕ) (t : Bool) (m : ℕ) (e : ℤ) (c L : ℕ) → T (not (beq s t)) → m * up e * L ≡ c * down e → distance s a b (fin t m e) * L ≡ (a * L + c * b) * down e
unfolding distance
distance_unlike s a b t m e c L n h = go (beq s t) n
  where
    go : (q : Bool) → T (not q) → cond q (abs_diff (a * down e) (m * up e * b)) (a * down e + m * up e * b) * L ≡ (a * L + c * b) * down e
    go true u = absurd u
    go false u = sum_units a b (m * up e) (down e) c L h

-- of either sign: it is the distance of the sizes, or more
distance_any : (s : Bool) (a b : ℕ) (t : Bool) (m : ℕ) (e : ℤ) (c L : ℕ) → m * up e * L ≡ c * down e → abs_diff (a * L) (c * b) * down e ≤ distance s a b (fin t m e) * L
unfolding distance
distance_any s a b t m e c L h = go (beq s t)
  where
    more : (x y : ℕ) → abs_diff x y ≤ x + y
    more x y = omega arith

    go : (q : Bool) → abs_diff (a * L) (c * b) * down e ≤ cond q (abs_diff (a * down e) (m * up e * b)) (a * down e + m * up e * b) * L
    go true = le_of_eq (sym (same_units a b (m * up e) (down e) c L h))
    go false = le_trans (mul-le-mul_right (down e) (more (a * L) (c * b))) (le_of_eq (sym (sum_units a b (m * up e) (down e) c L h)))

-- ---- where the result is finite
-- 2 ^ (emax + 1) is 2 ^ (prec + 1) times the half unit of the largest values
half_unit : Format → ℕ
half_unit f = low f + emax f - prec f

top_split : (f : Format) → low f + suc (emax f) ≡ suc (prec f) + half_unit f
unfolding half_unit
top_split binary32 = refl
top_split binary64 = refl

span_split : (f : Format) → emax f + low f ≡ prec f + half_unit f
unfolding half_unit
span_split binary32 = refl
span_split binary64 = refl

-- Where n lies below h - c, h - 2c lies nearer to it than any g from h on.
between : (n g h c : ℕ) → 0 < c → h ≤ g → n + c < h → abs_diff n g ≤ abs_diff n (h - 2 * c) → ⊥
between n g h c p k l d = omega arith

-- (2X - 1) * c + c is 2X * c
whole_top : (X c : ℕ) → 0 < X → (2 * X - 1) * c + c ≡ 2 * X * c
whole_top X c h = sym (suc-mul (2 * X - 1) c) ∙ ap (λ (z : ℕ). z * c) (let e : suc (2 * X - 1) ≡ 2 * X = omega arith in e)

last_below : (X c : ℕ) → (X - 1) * (2 * c) ≡ 2 * X * c - 2 * c
last_below X c = mul_comm (X - 1) (2 * c) ∙ mul-sub (2 * c) X 1 ∙ (λ i. mul_right_comm 2 c X i - mul-one (2 * c) i)

in_range : (f : Format) (a b : ℕ) → 0 < b → InRange f a b → grid f a b < overflow f
in_range f a b B h =
    let p = prec f in
    let L = 2 ^ low f in
    let X = 2 ^ p in
    let C = 2 ^ half_unit f in
    let two-X : 2 ^ suc p ≡ 2 * X = pow-succ' 2 p in
    let two-C : 2 ^ suc (half_unit f) ≡ 2 * C = pow-succ' 2 (half_unit f) in
    let H : overflow f ≡ 2 * X * C = ap (λ (z : ℕ). 2 ^ z) (top_split f) ∙ pow-add 2 (suc p) (half_unit f) ∙ ap (λ (z : ℕ). z * C) two-X in
    let below : a * L < (2 * X - 1) * C * b =
    lt_of_mul-lt-mul_right X
    (lt_of_le_of_lt (le_of_eq (mul_right_comm a L X))
    (lt_of_lt_of_le (mul-lt-mul_of_pos_right h (pow_pos (low f)))
    (le_of_eq
    (ap (λ (z : ℕ). 2 ^ emax f * (z - 1) * b * L) two-X
    ∙ regroup_top (2 ^ emax f) (2 * X - 1) b L
    ∙ ap (λ (z : ℕ). z * ((2 * X - 1) * b)) (sym (pow-add 2 (emax f) (low f)) ∙ ap (λ (z : ℕ). 2 ^ z) (span_split f) ∙ pow-add 2 p (half_unit f))
    ∙ regroup_half X C (2 * X - 1) b)))) in
    let near-unit : abs_diff (a * L) (grid f a b * b) ≤ abs_diff (a * L) ((X - 1) * (2 ^ suc (half_unit f)) * b) =
    rounded_nearest p (a * L) b (X - 1) (suc (half_unit f)) (two-le_pos p (two f)) B (ones_lt p) in
    let near_last : abs_diff (a * L) (grid f a b * b) ≤ abs_diff (a * L) (2 * X * C * b - 2 * (C * b)) =
    subst (λ (z : ℕ). abs_diff (a * L) (grid f a b * b) ≤ abs_diff (a * L) z)
    (ap (λ (z : ℕ). (X - 1) * z * b) two-C ∙ ap (λ (z : ℕ). z * b) (last_below X C) ∙ mul_comm (2 * X * C - 2 * C) b ∙ mul-sub b (2 * X * C) (2 * C) ∙ (λ i. mul_comm b (2 * X * C) i - (mul_comm b (2 * C) ∙ mul_assoc 2 C b) i)) near-unit in
    lt_of_not-le (λ (g : overflow f ≤ grid f a b).
    between (a * L) (grid f a b * b) (2 * X * C * b) (C * b) (mul-pos (pow_pos (half_unit f)) B)
    (mul-le-mul_right b (le_trans (le_of_eq (sym H)) g))
    (under (a * L) ((2 * X - 1) * C * b) (C * b) (2 * X * C * b) below (sym (add-mul ((2 * X - 1) * C) C b) ∙ ap (λ (z : ℕ). z * b) (whole_top X C (pow_pos p)))) near_last)
  where
    regroup_top : (e x b l : ℕ) → e * x * b * l ≡ e * l * (x * b)
    regroup_top e x b l = simp (mul_assoc, mul_comm, mul_left_comm)

    regroup_half : (X C x b : ℕ) → X * C * (x * b) ≡ x * C * b * X
    regroup_half X C x b = simp (mul_assoc, mul_comm, mul_left_comm)

    under : (n x c h : ℕ) → n < x → x + c ≡ h → n + c < h
    under n x c h l e = omega arith

pub round_units : (f : Format) (s : Bool) (a b : ℕ) → 0 < b → InRange f a b → HasValue (round f s a b) s (grid f a b) (2 ^ low f)
round_units f s a b B h =
    subst (λ (z : Float). HasValue z s (grid f a b) (2 ^ low f)) (sym (round_is f s a b))
    (units_val f s (kept (prec f) (a * 2 ^ low f) b) (drop (prec f) (a * 2 ^ low f) b) (in_range f a b B h))

-- The rounding threshold (4.3.1): below it the result is finite.
pub round_finite : (f : Format) (s : Bool) (num denom : ℕ) → 0 < denom → InRange f num denom → T (finite (round f s num denom))
round_finite f s num denom D h = value_finite (round f s num denom) s (grid f num denom) (2 ^ low f) (round_units f s num denom D h)

-- The sign plays no part: what a number of the other sign rounds to is the negative.
pub round_negates : (f : Format) (s : Bool) (num denom : ℕ) → round f (not s) num denom ≡ neg (round f s num denom)
round_negates f s num denom = sym (neg_round f s num denom)

-- the threshold itself rounds to an infinity
threshold_rounds : (f : Format) → round f false (overflow_threshold f) (2 ^ prec f) ≡ inf false
unfolding round
threshold_rounds binary32 = refl
threshold_rounds binary64 = refl

from_inf : (y : Float) → T (le (inf false) y) → y ≡ inf false
unfolding le
from_inf nan t = absurd t
from_inf (inf true) t = absurd t
from_inf (inf false) t = refl
from_inf (fin s m e) t = absurd t

-- From the threshold on (4.3.1) the result is an infinity with the fraction's sign.
pub round_overflows : (f : Format) (s : Bool) (num denom : ℕ) → 0 < denom → Overflows f num denom → round f s num denom ≡ inf s
round_overflows f s num denom D h = go s
  where
    positive : round f false num denom ≡ inf false
    positive = from_inf (round f false num denom) (subst (λ (z : Float). T (le z (round f false num denom))) (threshold_rounds f) (round_mono f (overflow_threshold f) (2 ^ prec f) num denom (pow_pos (prec f)) D h))

    go : (s : Bool) → round f s num denom ≡ inf s
    go false = positive
    go true = round_negates f false num denom ∙ ap neg positive ∙ (unfold neg in refl)

-- The nearest value (4.3.1): below the threshold no finite value of the format, of either sign, lies nearer to the fraction than what it rounds to.
cross_le : (d D x y X Y L : ℕ) → 0 < L → d * L ≡ x * X → y * Y ≤ D * L → x ≤ y → d * Y ≤ D * X
cross_le d D x y X Y L l e h k =
    le_of_mul-le-mul_right
    (le_trans (le_of_eq (mul_right_comm d Y L ∙ ap (λ (z : ℕ). z * Y) e ∙ mul_right_comm x X Y))
    (le_trans (mul-le-mul_right X (le_trans (mul-le-mul_right Y k) h)) (le_of_eq (mul_right_comm D L X)))) l

pub round_nearest : (f : Format) (s : Bool) (num denom : ℕ) → 0 < denom → InRange f num denom → (v : Float) → T (fits f v) → T (finite v)
    → distance s num denom (round f s num denom) * den v ≤ distance s num denom v * den (round f s num denom)
round_nearest f s a b B h nan t u = absurd u
round_nearest f s a b B h (inf z) t u = absurd u
round_nearest f s a b B h (fin z m e) t u =
    let L = 2 ^ low f in
    let at = in_units f z m e t in
    let r = round f s a b in
    cross_le (distance s a b r) (distance s a b (fin z m e)) (abs_diff (a * L) (grid f a b * b)) (abs_diff (a * L) (m * 2 ^ at.1 * b)) (den r) (down e) L (pow_pos (low f))
    (distance_own s a b r (grid f a b) L (round_units f s a b B h))
    (distance_any s a b z m e (m * 2 ^ at.1) L at.2)
    (rounded_nearest (prec f) (a * L) b m at.1 (two-le_pos (prec f) (two f)) B at.0)

-- ---- an even number of units of the last place is written with an even last digit
-- the significand that `to_bits` writes for q * 2 ^ k units
last_digit : (p q k : ℕ) → 2 ≤ p → q ≤ 2 ^ p → q % 2 ≡ 0 → q * 2 ^ k / 2 ^ (size (q * 2 ^ k) - p) % 2 ≡ 0
last_digit p q k P h e = elim (eq-or-lt_of_le h) [ inl top ↦ at_top top | inr l ↦ inside l ]
  where
    one_more : (p k : ℕ) → suc (p + k) - p ≡ suc k
    one_more p k = omega arith

    moved : (p k : ℕ) → 2 ≤ p → p + k ≡ p - 1 + suc k
    moved p k h = omega arith

    at_top : q ≡ 2 ^ p → q * 2 ^ k / 2 ^ (size (q * 2 ^ k) - p) % 2 ≡ 0
    at_top t =
        let n : q * 2 ^ k ≡ 2 ^ (p + k) = ap (λ (z : ℕ). z * 2 ^ k) t ∙ sym (pow-add 2 p k) in
        ap (λ (z : ℕ). z / 2 ^ (size z - p) % 2) n
        ∙ ap (λ (z : ℕ). 2 ^ (p + k) / 2 ^ z % 2) (ap (λ (z : ℕ). z - p) (size_exact (p + k) (2 ^ (p + k)) (le_refl (2 ^ (p + k))) (pow-lt (lt-suc_self (p + k)))) ∙ one_more p k)
        ∙ ap (λ (z : ℕ). z / 2 ^ suc k % 2) (ap (λ (z : ℕ). 2 ^ z) (moved p k P) ∙ pow-add 2 (p - 1) (suc k))
        ∙ ap (λ (z : ℕ). z % 2) (mul-div_cancel (2 ^ (p - 1)) (pow_pos (suc k)))
        ∙ even_pow (p - 1) (let l : 0 < p - 1 = omega arith in l)

    fewer : (z p k : ℕ) → z ≤ p + k → z - p ≤ k
    fewer z p k h = omega arith

    inside : q < 2 ^ p → q * 2 ^ k / 2 ^ (size (q * 2 ^ k) - p) % 2 ≡ 0
    inside l =
        let j = size (q * 2 ^ k) - p in
        let le : j ≤ k = fewer (size (q * 2 ^ k)) p k (size-le (q * 2 ^ k) (p + k) (shl_lt p k l)) in
        let n : q * 2 ^ k ≡ q * 2 ^ (k - j) * 2 ^ j = ap (λ (z : ℕ). q * z) (ap (λ (z : ℕ). 2 ^ z) (sym (back k j le)) ∙ pow-add 2 (k - j) j) ∙ sym (mul_assoc q (2 ^ (k - j)) (2 ^ j)) in
        ap (λ (z : ℕ). z / 2 ^ j % 2) n ∙ ap (λ (z : ℕ). z % 2) (mul-div_cancel (q * 2 ^ (k - j)) (pow_pos j)) ∙ even_product q (2 ^ (k - j)) e

even_sum : (x y z : ℕ) → x % 2 ≡ 0 → y % 2 ≡ 0 → z % 2 ≡ 0 → (x + y + z) % 2 ≡ 0
even_sum x y z a b c = omega arith

even_bits : (f : Format) (s : Bool) (x : Float) (q k : ℕ) → HasValue x s (q * 2 ^ k) (2 ^ low f) → q ≤ 2 ^ prec f → q % 2 ≡ 0 → to_bits f x % 2 ≡ 0
unfolding to_bits
even_bits f s nan q k v l e = absurd v
even_bits f s (inf t) q k v l e = absurd v
even_bits f s (fin t m d) q k v l e =
    let n : m * up d * 2 ^ low f / down d ≡ q * 2 ^ k = ap (λ (z : ℕ). z / down d) v.1 ∙ mul-div_cancel (q * 2 ^ k) (down_pos d) in
    let c = size (q * 2 ^ k) - prec f in
    let even-hid : hid f % 2 ≡ 0 = even_pow (prec f - 1) (one_below (prec f) (two f)) in
    ap (λ (z : ℕ). (cond t (top f) 0 + (size z - prec f) * hid f + z / 2 ^ (size z - prec f)) % 2) n
    ∙ even_sum (cond t (top f) 0) (c * hid f) (q * 2 ^ k / 2 ^ c) (sign t (even_product (hid f) (suc (ones f)) even-hid)) (ap (λ (z : ℕ). z % 2) (mul_comm c (hid f)) ∙ even_product (hid f) c even-hid)
    (last_digit (prec f) q k (two f) l e)
  where
    one_below : (p : ℕ) → 2 ≤ p → 0 < p - 1
    one_below p h = omega arith

    sign : (t : Bool) → top f % 2 ≡ 0 → cond t (top f) 0 % 2 ≡ 0
    sign true h = h
    sign false h = refl

-- ---- the tie
cross_eq : (d D x y X Y L : ℕ) → 0 < X → 0 < Y → d * L ≡ x * X → D * L ≡ y * Y → d * Y ≡ D * X → x ≡ y
cross_eq d D x y X Y L hX hY e g h =
    eq_of_mul-eq-mul_right (X * Y) (mul-pos hX hY) x y
    (sym (mul_assoc x X Y) ∙ ap (λ (z : ℕ). z * Y) (sym e) ∙ mul_right_comm d L Y ∙ ap (λ (z : ℕ). z * L) h ∙ mul_right_comm D X L ∙ ap (λ (z : ℕ). z * X) g ∙ mul_assoc y Y X ∙ ap (λ (z : ℕ). y * z) (mul_comm Y X))

-- the sizes c / L that two unequal values of one sign have are unequal
unequal : (s : Bool) (m : ℕ) (e : ℤ) (r : Float) (c L : ℕ) → 0 < L → m * up e * L ≡ c * down e → HasValue r s c L → T (ne (fin s m e) r) → ⊥
unfolding ne eq
unequal s m e nan c L p h v t = v
unequal s m e (inf z) c L p h v t = v
unequal s m e (fin z n d) c L p h v t =
    let same : m * up e * down d ≡ n * up d * down e = eq_of_mul-eq-mul_right L p (m * up e * down d) (n * up d * down e)
    (mul_right_comm (m * up e) (down d) L ∙ ap (λ (x : ℕ). x * down d) h ∙ mul_right_comm c (down e) (down d) ∙ ap (λ (x : ℕ). x * down e) (sym v.1) ∙ mul_right_comm (n * up d) L (down e)) in
    T_not (eqb (m * up e * down d) (n * up d * down e) && (beq s z || eqb (m * up e * down d) 0)) t
    (and_i (eqb (m * up e * down d) (n * up d * down e)) (beq s z || eqb (m * up e * down d) 0) (eq→eqb same) (T_from_true _ (or_left (beq s z) (eqb (m * up e * down d) 0) ((booleans_Decides s z).1 (sym v.0)))))

module _ (f : Format) (s : Bool) (a b : ℕ) (B : 0 < b) (H : InRange f a b) where
  -- a value of the fraction's sign
  like_even : (m : ℕ) (e : ℤ) → T (fits f (fin s m e)) → distance s a b (round f s a b) * down e ≡ distance s a b (fin s m e) * den (round f s a b) → T (ne (fin s m e) (round f s a b))
      → kept (prec f) (a * 2 ^ low f) b % 2 ≡ 0
  like_even m e t d u =
      let L = 2 ^ low f in
      let r = round f s a b in
      let at = in_units f s m e t in
      let c = m * 2 ^ at.1 in
      let v : HasValue r s (grid f a b) L = round_units f s a b B H in
      rounded_even (prec f) (a * L) b m at.1 (two-le_pos (prec f) (two f)) B at.0
      (cross_eq (distance s a b r) (distance s a b (fin s m e)) (abs_diff (a * L) (grid f a b * b)) (abs_diff (a * L) (c * b)) (den r) (down e) L (den_pos r) (down_pos e)
      (distance_own s a b r (grid f a b) L v) (distance_own s a b (fin s m e) c L (refl, at.2)) d)
      (λ (z : c ≡ grid f a b). unequal s m e r (grid f a b) L (pow_pos (low f)) (subst (λ (x : ℕ). m * up e * L ≡ x * down e) z at.2) v u)

  -- A value of the other sign lies no nearer than zero, so zero is as near too.
  unlike_even : (t : Bool) (m : ℕ) (e : ℤ) → T (not (beq s t)) → T (fits f (fin t m e)) → distance s a b (round f s a b) * down e ≡ distance s a b (fin t m e) * den (round f s a b)
      → kept (prec f) (a * 2 ^ low f) b % 2 ≡ 0
  unlike_even t m e n h d =
      let p = prec f in
      let L = 2 ^ low f in
      let r = round f s a b in
      let at = in_units f t m e h in
      let c = m * 2 ^ at.1 in
      let P : 0 < p = two-le_pos p (two f) in
      let none : 0 * 2 ^ 0 * b ≡ 0 = zero-mul b in
      let x : abs_diff (a * L) (grid f a b * b) ≡ a * L + c * b =
      cross_eq (distance s a b r) (distance s a b (fin t m e)) (abs_diff (a * L) (grid f a b * b)) (a * L + c * b) (den r) (down e) L (den_pos r) (down_pos e)
      (distance_own s a b r (grid f a b) L (round_units f s a b B H)) (distance_unlike s a b t m e c L n at.2) d in
      let y : abs_diff (a * L) (grid f a b * b) ≤ abs_diff (a * L) (0 * 2 ^ 0 * b) = rounded_nearest p (a * L) b 0 0 P B (pow_pos p) in
      elim (eq-zero-or-pos (grid f a b)) [
        | inl z ↦ ap (λ (q : ℕ). q % 2) (eq_of_mul-eq-mul_right (2 ^ drop p (a * L) b) (pow_pos (drop p (a * L) b)) (kept p (a * L) b) 0 (omega (arith, z)))
        | inr g ↦
            rounded_even p (a * L) b 0 0 P B (pow_pos p) (as_far (a * L) (c * b) (abs_diff (a * L) (grid f a b * b)) (0 * 2 ^ 0 * b) none x y)
            (λ (z : 0 * 2 ^ 0 ≡ grid f a b). lt_irrefl 0 (subst (λ (w : ℕ). 0 < w) (sym z) g))
      ]
    where
      as_far : (n y g z : ℕ) → z ≡ 0 → g ≡ n + y → g ≤ abs_diff n z → g ≡ abs_diff n z
      as_far n y g z o e h = omega arith

-- The tie (4.3.1): where some other value of the format is as near, the result is the one with an even least significant digit, which is the last digit of its encoding.
pub round_tie_even : (f : Format) (s : Bool) (num denom : ℕ) → 0 < denom → InRange f num denom → (v : Float) → T (fits f v) → T (finite v) → T (ne v (round f s num denom))
    → distance s num denom (round f s num denom) * den v ≡ distance s num denom v * den (round f s num denom)
    → to_bits f (round f s num denom) % 2 ≡ 0
round_tie_even f s a b B h nan t z u d = absurd z
round_tie_even f s a b B h (inf w) t z u d = absurd z
round_tie_even f s a b B h (fin w m e) t z u d =
    even_bits f s (round f s a b) (kept (prec f) (a * 2 ^ low f) b) (drop (prec f) (a * 2 ^ low f) b) (round_units f s a b B h) (kept_le (prec f) (a * 2 ^ low f) b) (go s w h t u d)
  where
    go : (s w : Bool) → InRange f a b → T (fits f (fin w m e)) → T (ne (fin w m e) (round f s a b)) → distance s a b (round f s a b) * down e ≡ distance s a b (fin w m e) * den (round f s a b)
        → kept (prec f) (a * 2 ^ low f) b % 2 ≡ 0
    go true true h t u d = like_even f true a b B h m e t d u
    go false false h t u d = like_even f false a b B h m e t d u
    go true false h t u d = unlike_even f true a b B h false m e tt t d
    go false true h t u d = unlike_even f false a b B h true m e tt t d
