-- The sign of a * b - p, rounded once (IEEE 754-2019, 4.3.1), is that of the product rounded alone minus p, where these two differ and the product is not tiny: `product_decides`.
-- A rounding keeps the order, and p is its own rounding; and where no digit of the exact product lies below the format's smallest value, a difference above zero doesn't round to zero.
-- Assumes nothing.
use mathlib.Core.Path.{◌≡◌, refl, sym, ap, ◌∙◌, subst}
use mathlib.Core.Logic.{◌⊎◌, inl, inr, ⊎_elim}
use mathlib.Core.Bool.{Bool, true, false, not, ◌&&◌, ◌||◌, cond, true≢false, false≢true}
use Prim.Native.Nat.{ℕ, zero, suc, ◌+◌, ◌-◌, ◌*◌, ◌%◌, ◌^◌, ◌≤◌, ◌<◌, zero-le}
use native.Mathlib.Nat.{zero-mul, one-mul, mul-one, mul_comm, mul_assoc, mul_right_comm, mul-pos, mul-le-mul, mul-le-mul_right, lt_of_mul-lt-mul_right, le_trans, le_of_eq, le_of_lt, lt_of_le_of_lt, suc-mul}
use native.Mathlib.Omega.{arith}
use borrow.Author.Tests.{le-ltb, ne_eqb}
use lib.Dec.{T, leb, ltb, eqb, leb→le, ltb→lt, eqb→eq, lit≤}
use lib.IntN.{ℤ, pos, negsuc}
use lib.Pow.{pow-add, pow_pos, pow_mono}
use lib.Ieee.{Float, nan, inf, fin, Format, binary64, prec, emax, low, up, down, unlike, round, sum, mul, add, neg, lt, le, fits, is_nan}
use lib.Ieee.Bits.{is_true}
use lib.Ieee.Fits.{up_pos, down_pos, and_l, and_r}
use lib.Ieee.Order.{round_mono}
use lib.Ieee.Positive.{first_pos, above, above_of_le}
use lib.Ieee.Scale.{finite}
use Rattle.std.proofs.lemmas.Bool.{or_cases}
use Rattle.binary64.proofs.FloatOrder.{signs_apart, lt_asymmetric, le_not_lt, le_of_not_lt}
use Rattle.binary64.proofs.Integral.{significand_bound}
use Rattle.binary64.proofs.Negation.{neg_round}
use Rattle.binary64.proofs.NotNan.{Signed, infinite, number, signed_not_nan, round_signed}
use Rattle.std.proofs.lemmas.Bool.{cases_lt}
use Rattle.rounding.proofs.Sum.{sum_same_sign, sum_opposite_gt, sum_opposite_lt}
use Rattle.rounding.proofs.Exact.{rounding_not_below, rounding_not_above}
use Rattle.fused.specs.Fused.{fused_multiply_add}
use Rattle.fused.specs.Tiny.{least_product}
use Rattle.fused.proofs.Special.{special_factor_apart}

abbrev zero_f : Float
zero_f = fin false 0 (pos 0)

-- ---- the denominator of a value
denominator_bound : (f : Format) (s : Bool) (m : ℕ) (e : ℤ) → T (fits f (fin s m e)) → down e ≤ 2 ^ low f
unfolding fits
denominator_bound f s zero e t = le_trans (le_trans (le_of_eq (sym (one-mul (down e)))) (mul-le-mul_right (down e) (up_pos e))) (le_trans (le_of_eq (eqb→eq (up e * down e) 1 t)) (pow_pos (low f)))
denominator_bound f s (suc m) e t =
    let a = eqb (suc m % 2) 1 in
    let b = ltb (suc m) (2 ^ prec f) in
    let c = leb (down e) (2 ^ low f) in
    leb→le (down e) (2 ^ low f) (and_r (a && b) c (and_l (a && b && c) (ltb (suc m * up e) (2 ^ suc (emax f) * down e)) t))

-- ---- a fraction a / c and a value m * 2 ^ e: the rounded fraction lies on the same side of the value
module _ (f : Format) (s : Bool) (a c m : ℕ) (e : ℤ) (C : 0 < c) (t : T (fits f (fin s m e))) where
  not_below : m * up e * c ≤ a * down e → lt (round f false a c) (fin false m e) ≡ false
  not_below h = le_not_lt (round f false a c) (fin false m e) (is_true _ (rounding_not_below f s a c m e C t h))

  not_above : a * down e ≤ m * up e * c → lt (fin false m e) (round f false a c) ≡ false
  not_above h = le_not_lt (fin false m e) (round f false a c) (is_true _ (rounding_not_above f s a c m e C t h))

  below_says : lt (round f false a c) (fin false m e) ≡ true → a * down e < m * up e * c
  below_says h = elim (cases_lt (a * down e) (m * up e * c)) [ inl l ↦ l | inr l ↦ absurd (true≢false (sym h ∙ not_below l)) ]

  above_says : lt (fin false m e) (round f false a c) ≡ true → m * up e * c < a * down e
  above_says h = elim (cases_lt (m * up e * c) (a * down e)) [ inl l ↦ l | inr l ↦ absurd (true≢false (sym h ∙ not_above l)) ]

-- ---- the order of values of either sign
neg_lt_left : {r : Float} (m : ℕ) (e : ℤ) → Signed false r → lt (neg r) (fin true m e) ≡ lt (fin false m e) r
unfolding lt neg
neg_lt_left m e infinite = refl
neg_lt_left m e (number n d) = refl

neg_lt_right : {r : Float} (m : ℕ) (e : ℤ) → Signed false r → lt (fin true m e) (neg r) ≡ lt r (fin false m e)
unfolding lt neg
neg_lt_right m e infinite = refl
neg_lt_right m e (number n d) = refl

at_most_zero : {x : Float} → Signed true x → le x zero_f ≡ true
unfolding is_nan
at_most_zero h = le_of_not_lt _ zero_f (signed_not_nan h) refl (signs_apart h (number 0 (pos 0)))

above_zero : (x : Float) → T (above x) → le x zero_f ≡ false
unfolding le lt
above_zero nan h = absurd h
above_zero (inf true) h = absurd h
above_zero (inf false) h = refl
above_zero (fin true m e) h = absurd h
above_zero (fin false m e) h =
    let some : 0 < m * up e = mul-pos (ltb→lt 0 m h) (up_pos e) in
    rw (le-ltb (m * up e * 1) (0 * 1 * down e) (omega (arith, zero-mul (down e))), ne_eqb (m * up e * 1) (0 * 1 * down e) (λ q. absurd (let z : ⊥ = omega (arith, zero-mul (down e)) in z)))

-- ---- the exact difference, rounded once
-- ±a / c less ±m * 2 ^ e
abbrev difference : Format → Bool → ℕ → ℕ → Bool → ℕ → ℤ → Float
difference f s a c u m e = sum f s (a * down e) (not u) (m * up e * c) (c * down e)

-- where the rounded fraction is below the value, the difference is not above 0
difference_not_above : (f : Format) (s : Bool) (a c : ℕ) (u : Bool) (m : ℕ) (e : ℤ) → 0 < c → T (fits f (fin u m e)) → lt (round f s a c) (fin u m e) ≡ true → le (difference f s a c u m e) zero_f ≡ true
difference_not_above f false a c false m e C t h = rw (sum_opposite_lt f false true (a * down e) (m * up e * c) (c * down e) false≢true (below_says f false a c m e C t h)) (at_most_zero (round_signed f true _ _))
difference_not_above f false a c true m e C t h = absurd (true≢false (sym h ∙ signs_apart (number m e) (round_signed f false a c)))
difference_not_above f true a c true m e C t h =
    let below : lt (neg (round f false a c)) (fin true m e) ≡ true = rw (neg_round f false a c) h in
    rw (sum_opposite_gt f true false (a * down e) (m * up e * c) (c * down e) true≢false (above_says f true a c m e C t (sym (neg_lt_left m e (round_signed f false a c)) ∙ below))) (at_most_zero (round_signed f true _ _))
difference_not_above f true a c false m e C t h = rw (sum_same_sign f true true (a * down e) (m * up e * c) (c * down e) refl) (at_most_zero (round_signed f true _ _))

-- a fraction no smaller than the format's smallest value is not rounded to 0
smallest : round binary64 false 1 (2 ^ 1074) ≡ fin false 1 (negsuc 1073)
unfolding round
smallest = refl

rounds_above : (n c : ℕ) → 0 < c → c ≤ n * 2 ^ 1074 → le (round binary64 false n c) zero_f ≡ false
rounds_above n c C h =
    above_zero (round binary64 false n c)
    (above_of_le (fin false 1 (negsuc 1073)) (round binary64 false n c) tt
    (subst (λ (z : Float). T (le z (round binary64 false n c))) smallest (round_mono binary64 1 (2 ^ 1074) n c (pow_pos 1074) C (le_trans (le_of_eq (one-mul c)) h))))

-- two multiples of w are w apart at least
apart : (x y w : ℕ) → y * w < x * w → w ≤ x * w - y * w
apart x y w h =
    let more : (y + 1) * w ≤ x * w = mul-le-mul_right w (omega (arith, lt_of_mul-lt-mul_right w {m = y} {n = x} h)) in
    omega (arith, suc-mul y w)

abbrev Power : ℕ → Type 0
Power n = (k : ℕ) × (n ≡ 2 ^ k)

down_power : (e : ℤ) → Power (down e)
down_power (pos k) = (0, refl)
down_power (negsuc k) = (suc k, refl)

product_power : (c d : ℕ) → Power c → Power d → Power (c * d)
product_power c d p q = (p.0 + q.0, rw (p.1, q.1, pow-add 2 p.0 q.0))

-- of two powers one divides the other
divides : (c d : ℕ) → Power c → Power d → ((k : ℕ) × (c ≡ k * d)) ⊎ ((k : ℕ) × (d ≡ k * c))
divides c d p q =
    elim (cases_lt p.0 q.0) [
      | inl l ↦ inr (2 ^ (q.0 - p.0), rw (p.1, q.1, ← pow-add 2 (q.0 - p.0) p.0) (ap (λ (k : ℕ). 2 ^ k) (let z : q.0 ≡ q.0 - p.0 + p.0 = omega arith in z)))
      | inr l ↦ inl (2 ^ (p.0 - q.0), rw (p.1, q.1, ← pow-add 2 (p.0 - q.0) q.0) (ap (λ (k : ℕ). 2 ^ k) (let z : p.0 ≡ p.0 - q.0 + q.0 = omega arith in z)))
    ]

-- a / c and b / d are 1 / l apart at least
fractions_apart : (a c b d l : ℕ) → Power c → Power d → c ≤ l → d ≤ l → b * c < a * d → c * d ≤ (a * d - b * c) * l
fractions_apart a c b d l p q cl dl h =
    elim (divides c d p q) [
      | inl k ↦
          let e : b * c ≡ b * k.0 * d = ap (λ (z : ℕ). b * z) k.1 ∙ sym (mul_assoc b k.0 d) in
          let w : d ≤ a * d - b * c = rw e (apart a (b * k.0) d (rw e at h)) in
          le_trans (le_of_eq (mul_comm c d)) (mul-le-mul w cl)
      | inr k ↦
          let e : a * d ≡ a * k.0 * c = ap (λ (z : ℕ). a * z) k.1 ∙ sym (mul_assoc a k.0 c) in
          let w : c ≤ a * d - b * c = rw e (apart (a * k.0) b c (rw e at h)) in
          mul-le-mul w dl
    ]

-- where the rounded fraction is above the value and no digit of it lies below the smallest value, the difference is above 0
difference_above : (s : Bool) (a c : ℕ) (u : Bool) (m : ℕ) (e : ℤ) → Power c → c ≤ 2 ^ 1074 → 0 < a → T (fits binary64 (fin u m e)) → lt (fin u m e) (round binary64 s a c) ≡ true
    → le (difference binary64 s a c u m e) zero_f ≡ false
difference_above s a c u m e P L A t h = go s u t h
  where
    C : 0 < c
    C = rw P.1 (pow_pos P.0)

    D : down e ≤ 2 ^ 1074
    D = denominator_bound binary64 u m e t

    Z : 0 < c * down e
    Z = mul-pos C (down_pos e)

    go : (s u : Bool) → T (fits binary64 (fin u m e)) → lt (fin u m e) (round binary64 s a c) ≡ true → le (difference binary64 s a c u m e) zero_f ≡ false
    go false false t h =
        let more = above_says binary64 false a c m e C t h in
        rw (sum_opposite_gt binary64 false true (a * down e) (m * up e * c) (c * down e) false≢true more)
        (rounds_above (a * down e - m * up e * c) (c * down e) Z (fractions_apart a c (m * up e) (down e) (2 ^ 1074) P (down_power e) L D more))
    go false true t h =
        let first : c * down e ≤ a * down e * 2 ^ 1074 =
        le_trans (mul-le-mul_right (down e) (le_trans L (le_trans (le_of_eq (sym (one-mul (2 ^ 1074)))) (mul-le-mul_right (2 ^ 1074) A)))) (le_of_eq (mul_right_comm a (2 ^ 1074) (down e))) in
        rw (sum_same_sign binary64 false false (a * down e) (m * up e * c) (c * down e) refl)
        (rounds_above (a * down e + m * up e * c) (c * down e) Z (le_trans first (mul-le-mul_right (2 ^ 1074) (let z : a * down e ≤ a * down e + m * up e * c = omega arith in z))))
    go true true t h =
        let above : lt (fin true m e) (neg (round binary64 false a c)) ≡ true = rw (neg_round binary64 false a c) h in
        let less = below_says binary64 true a c m e C t (sym (neg_lt_right m e (round_signed binary64 false a c)) ∙ above) in
        rw (sum_opposite_lt binary64 true false (a * down e) (m * up e * c) (c * down e) true≢false less)
        (rounds_above (m * up e * c - a * down e) (c * down e) Z (le_trans (le_of_eq (mul_comm c (down e))) (fractions_apart (m * up e) (down e) a c (2 ^ 1074) (down_power e) P D L less)))
    go true false t h = absurd (true≢false (sym h ∙ signs_apart (round_signed binary64 true a c) (number m e)))

-- ---- a product that is not tiny
least_fits : T (fits binary64 least_product)
unfolding fits
least_fits = tt

-- the fraction's denominator, where the product of two significands is above 2 ^ -900 of it
few_digits : (m n : ℕ) (e d : ℤ) → m < 2 ^ 53 → n < 2 ^ 53 → down e ≤ 2 ^ 1074 → down d ≤ 2 ^ 1074 → down e * down d < m * up e * (n * up d) * 2 ^ 900 → down e * down d ≤ 2 ^ 1074
few_digits m n (pos i) d M N E D h = le_trans (le_of_eq (one-mul (down d))) D
few_digits m n (negsuc i) (pos j) M N E D h = le_trans (le_of_eq (mul-one (2 ^ suc i))) E
few_digits m n (negsuc i) (negsuc j) M N E D h =
    le_trans (le_of_lt h)
    (le_trans (mul-le-mul_right (2 ^ 900) (mul-le-mul (le_trans (le_of_eq (mul-one m)) (le_of_lt M)) (le_trans (le_of_eq (mul-one n)) (le_of_lt N))))
    (le_trans (le_of_eq (ap (λ (k : ℕ). k * 2 ^ 900) (sym (pow-add 2 53 53)) ∙ sym (pow-add 2 106 900))) (pow_mono {i = 1006} {j = 1074} (lit≤ tt))))

not_tiny : (s : Bool) (a c : ℕ) → (lt least_product (round binary64 s a c) || lt (round binary64 s a c) (neg least_product)) ≡ true → lt least_product (round binary64 false a c) ≡ true
unfolding neg
not_tiny false a c h = elim (or_cases _ _ h) [ inl l ↦ l | inr l ↦ absurd (true≢false (sym l ∙ signs_apart (number 1 (negsuc 899)) (round_signed binary64 false a c))) ]
not_tiny true a c h =
    elim (or_cases _ _ h) [
      | inl l ↦ absurd (true≢false (sym l ∙ signs_apart (round_signed binary64 true a c) (number 1 (negsuc 899))))
      | inr l ↦ sym (neg_lt_left 1 (negsuc 899) (round_signed binary64 false a c)) ∙ (rw (neg_round binary64 false a c) l)
    ]

-- ---- the whole law
module _ (s t u : Bool) (m n o : ℕ) (e d g : ℤ) (mf : T (fits binary64 (fin s m e))) (nf : T (fits binary64 (fin t n d))) (of : T (fits binary64 (fin u o g))) where
  abbrev product : Float
  product = round binary64 (unlike s t) (m * up e * (n * up d)) (down e * down d)

  finite_decides : (lt product (fin u o g) || lt (fin u o g) product) ≡ true → (lt least_product product || lt product (neg least_product)) ≡ true
      → le (difference binary64 (unlike s t) (m * up e * (n * up d)) (down e * down d) u o g) zero_f ≡ lt product (fin u o g)
  finite_decides h k =
      let C = mul-pos (down_pos e) (down_pos d) in
      ⊎_elim (λ l. difference_not_above binary64 (unlike s t) _ _ u o g C of l ∙ sym l)
      (λ l.
      let large : down e * down d < m * up e * (n * up d) * 2 ^ 900 = rw (one-mul (down e * down d)) at (above_says binary64 false (m * up e * (n * up d)) (down e * down d) 1 (negsuc 899) C least_fits (not_tiny (unlike s t) _ _ k)) in
      difference_above (unlike s t) _ _ u o g (product_power (down e) (down d) (down_power e) (down_power d))
      (few_digits m n e d (significand_bound binary64 s m e mf).0 (significand_bound binary64 t n d nf).0 (denominator_bound binary64 s m e mf) (denominator_bound binary64 t n d nf) large)
      (first_pos (m * up e * (n * up d)) (2 ^ 900) (lt_of_le_of_lt zero-le large)) of l
      ∙ sym (lt_asymmetric (fin u o g) product l))
      (or_cases _ _ h)

-- an infinite product, or none
infinite_decides : (s : Bool) (p : Float) → (lt (inf s) p || lt p (inf s)) ≡ true → le (add binary64 (inf s) (neg p)) zero_f ≡ lt (inf s) p
unfolding lt le neg add
infinite_decides true nan h = absurd (false≢true h)
infinite_decides false nan h = absurd (false≢true h)
infinite_decides true (inf true) h = absurd (false≢true h)
infinite_decides true (inf false) h = refl
infinite_decides false (inf true) h = refl
infinite_decides false (inf false) h = absurd (false≢true h)
infinite_decides true (fin u o g) h = refl
infinite_decides false (fin u o g) h = refl

no_product : (p : Float) → (lt nan p || lt p nan) ≡ true → ⊥
unfolding lt
no_product nan h = false≢true h
no_product (inf u) h = false≢true h
no_product (fin u o g) h = false≢true h

-- a factor that is infinite or NaN
special_decides : (b s : Bool) (p : Float) → (lt (cond b nan (inf s)) p || lt p (cond b nan (inf s))) ≡ true → le (add binary64 (cond b nan (inf s)) (neg p)) zero_f ≡ lt (cond b nan (inf s)) p
special_decides true s p h = absurd (no_product p h)
special_decides false s p h = infinite_decides s p h

apart_decides : (a b p : Float) → (finite a && finite b) ≡ false → le (add binary64 (mul binary64 a b) (neg p)) zero_f ≡ lt (mul binary64 a b) p → le (fused_multiply_add binary64 a b (neg p)) zero_f ≡ lt (mul binary64 a b) p
apart_decides a b p e h = rw (← special_factor_apart binary64 a b (neg p) e) h

-- a value that is infinite or NaN, and a finite product
infinite_value : (s : Bool) {q : Float} (u : Bool) → Signed s q → (lt q (inf u) || lt (inf u) q) ≡ true → le (inf (not u)) zero_f ≡ lt q (inf u)
unfolding lt le
infinite_value s true (number m e) h = refl
infinite_value s false (number m e) h = refl
infinite_value true true infinite h = absurd (false≢true h)
infinite_value true false infinite h = refl
infinite_value false true infinite h = refl
infinite_value false false infinite h = absurd (false≢true h)

nan_value : (q : Float) → (lt q nan || lt nan q) ≡ true → ⊥
unfolding lt
nan_value nan h = false≢true h
nan_value (inf u) h = false≢true h
nan_value (fin u o g) h = false≢true h

pub product_decides : (a b p : Float) → T (fits binary64 a) → T (fits binary64 b) → T (fits binary64 p)
    → (lt (mul binary64 a b) p || lt p (mul binary64 a b)) ≡ true → (lt least_product (mul binary64 a b) || lt (mul binary64 a b) (neg least_product)) ≡ true
    → le (fused_multiply_add binary64 a b (neg p)) zero_f ≡ lt (mul binary64 a b) p
unfolding mul fused_multiply_add neg
product_decides nan b p af bf pf h k = absurd (no_product p h)
product_decides (inf s) nan p af bf pf h k = absurd (no_product p h)
product_decides (inf s) (inf t) p af bf pf h k = apart_decides (inf s) (inf t) p refl (infinite_decides (unlike s t) p h)
product_decides (inf s) (fin t n d) p af bf pf h k = apart_decides (inf s) (fin t n d) p refl (special_decides (eqb n 0) (unlike s t) p h)
product_decides (fin s m e) nan p af bf pf h k = absurd (no_product p h)
product_decides (fin s m e) (inf t) p af bf pf h k = apart_decides (fin s m e) (inf t) p refl (special_decides (eqb m 0) (unlike s t) p h)
product_decides (fin s m e) (fin t n d) nan af bf pf h k = absurd (nan_value (round binary64 (unlike s t) (m * up e * (n * up d)) (down e * down d)) h)
product_decides (fin s m e) (fin t n d) (inf u) af bf pf h k = infinite_value (unlike s t) u (round_signed binary64 (unlike s t) (m * up e * (n * up d)) (down e * down d)) h
product_decides (fin s m e) (fin t n d) (fin u o g) af bf pf h k = finite_decides s t u m n o e d g af bf pf h k
