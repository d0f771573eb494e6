-- The root keeps the order, from zero up: `square_root_monotone`. The integer root does, so do its halves, and their rounding (IEEE 754-2019, 4.3.1). Over any format. Assumes nothing.
use Rattle.std.proofs.Common.{◌≡◌, ℕ, zero, suc, ◌+◌, ◌*◌, ◌/◌, ◌^◌, ◌<◌, ◌≤◌, Bool, true, false, cond, T, eqb, ℤ, pos, sym, refl, ap, ◌∙◌, subst, inl, inr, le_trans, le_of_eq, mul-le-mul_right, zero-lt-suc, mul-le-mul, mul-pos, zero-mul, mul_right_comm, arith, pow_pos, eqb-true}
use borrow.Author.Tests.{eqb-false}
use lib.Ieee.{Float, nan, inf, fin, Format, low, size, up, down, le}
use lib.Ieee.Fits.{up_pos, down_pos}
use lib.Ieee.Nearest.{div_mono}
use lib.Ieee.Order.{round_mono}
use Rattle.std.proofs.lemmas.Float as float
use Rattle.binary64.proofs.FloatOrder.{infinity_greatest}
use Rattle.binary64.proofs.NotNan.{round_not_nan}
use Rattle.binary64.proofs.SignedOrder.{zeros_level, signed_of_finite, le_of_signed}
use Rattle.binary64.proofs.Tests.{Tested, tested}
use Rattle.rounding.proofs.Sum.{round_zero}
use Rattle.root.specs.Root.{square_root, scaled_root, root_in_halves, integer_root}
use Rattle.root.proofs.IntegerRoot.{integer_root_lem}
use Rattle.root.proofs.Nearest.{no_negative}

-- ---- the root in halves
at_most : (b : Bool) (r : ℕ) → cond b (2 * r) (2 * r + 1) ≤ 2 * r + 1
at_most true r = omega arith
at_most false r = omega arith

at_least : (b : Bool) (r : ℕ) → 2 * r ≤ cond b (2 * r) (2 * r + 1)
at_least true r = omega arith
at_least false r = omega arith

-- one root for both: where the lesser has something left over, the greater has too
same_root : (n k r : ℕ) → n ≤ k → r * r ≤ n → root_in_halves n r ≤ root_in_halves k r
same_root n k r h a = go (eqb (r * r) n) (eqb (r * r) k) refl refl
  where
    go : (b c : Bool) → eqb (r * r) n ≡ b → eqb (r * r) k ≡ c → cond b (2 * r) (2 * r + 1) ≤ cond c (2 * r) (2 * r + 1)
    go true c e f = at_least c r
    go false false e f = omega arith
    go false true e f = absurd (eqb-false (r * r) n e (omega (arith, eqb-true (r * r) k f)))

halves_grow : (n k r q : ℕ) → n ≤ k → r * r ≤ n → k < (q + 1) * (q + 1) → root_in_halves n r ≤ root_in_halves k q
halves_grow n k r q h a d = go (tested (r + 1) q) (tested r q)
  where
    go : Tested (r + 1) q → Tested r q → root_in_halves n r ≤ root_in_halves k q
    go (inl less) t = le_trans (at_most (eqb (r * r) n) r) (le_trans (let z : 2 * r + 1 ≤ 2 * q = omega (arith, less.0) in z) (at_least (eqb (q * q) k) q))
    go (inr more) (inr above) =
        let s : q + 1 ≤ r = omega (arith, above.0) in
        let beyond : (q + 1) * (q + 1) ≤ r * r = mul-le-mul s s in
        absurd (let z : ⊥ = omega arith in z)
    go (inr more) (inl level) =
        let same : q ≡ r = omega (arith, more.0, level.0) in
        subst (λ (z : ℕ). root_in_halves n r ≤ root_in_halves k z) (sym same) (same_root n k r h a)

scaled_grows : (f : Format) (n k : ℕ) → n ≤ k → T (le (scaled_root f n) (scaled_root f k))
unfolding scaled_root
scaled_grows f n k h =
    let l = 2 ^ (low f + 1) in
    let r = integer_root_lem n in
    let q = integer_root_lem k in
    round_mono f (root_in_halves n (integer_root (size n) n)) l (root_in_halves k (integer_root (size k) k)) l (pow_pos (low f + 1)) (pow_pos (low f + 1))
    (mul-le-mul_right l (halves_grow n k (integer_root (size n) n) (integer_root (size k) k) h r.0 q.1))

-- ---- beside zeros and infinities
scaled_number : (f : Format) (n : ℕ) → T (le (scaled_root f n) (inf false))
unfolding scaled_root
scaled_number f n = subst T (sym (infinity_greatest _ (round_not_nan f false _ _))) tt

scaled_not_below : (f : Format) (n : ℕ) → T (le (fin false 0 (pos 0)) (scaled_root f n))
unfolding scaled_root
scaled_not_below f n =
    let l = 2 ^ (low f + 1) in
    subst (λ (z : Float). T (le z (scaled_root f n))) (round_zero f false l (pow_pos (low f + 1)))
    (round_mono f 0 l _ l (pow_pos (low f + 1)) (pow_pos (low f + 1)) (mul-le-mul_right l (omega arith)))

zero_not_above : (s : Bool) (e : ℤ) → T (le (fin s 0 e) (fin false 0 (pos 0)))
zero_not_above s e =
    le_of_signed (fin s 0 e) (fin false 0 (pos 0)) s 0 1 false 0 1 (omega arith) (omega arith) (refl, ap (λ (z : ℕ). z * 1) (zero-mul (up e)) ∙ sym (zero-mul (down e))) (refl, refl) (zeros_level s false)

root_not_below : (f : Format) (x : Float) → T (le (fin false 0 (pos 0)) x) → T (le (fin false 0 (pos 0)) (square_root f x))
unfolding square_root le
root_not_below f nan z = absurd z
root_not_below f (inf true) z = absurd z
root_not_below f (inf false) z = tt
root_not_below f (fin s zero e) z = z
root_not_below f (fin false (suc m) e) z = scaled_not_below f (suc m * up e * 2 ^ (low f + low f) / down e)
root_not_below f (fin true (suc m) e) z = absurd (no_negative m e z)

-- ---- all that is not below zero, −0 and +∞ too
pub square_root_monotone : (f : Format) (x y : Float) → T (le (fin false 0 (pos 0)) x) → T (le x y) → T (le (square_root f x) (square_root f y))
unfolding square_root le
square_root_monotone f nan y z h = absurd z
square_root_monotone f (inf true) y z h = absurd z
square_root_monotone f (inf false) nan z h = absurd h
square_root_monotone f (inf false) (inf true) z h = absurd h
square_root_monotone f (inf false) (inf false) z h = tt
square_root_monotone f (inf false) (fin t n d) z h = absurd h
square_root_monotone f (fin s zero e) y z h =
    float.le_trans (fin s 0 e) (fin false 0 (pos 0)) (square_root f y) (zero_not_above s e) (root_not_below f y (float.le_trans (fin false 0 (pos 0)) (fin s 0 e) y z h))
square_root_monotone f (fin true (suc m) e) y z h = absurd (no_negative m e z)
square_root_monotone f (fin false (suc m) e) nan z h = absurd h
square_root_monotone f (fin false (suc m) e) (inf true) z h = absurd h
square_root_monotone f (fin false (suc m) e) (inf false) z h = scaled_number f (suc m * up e * 2 ^ (low f + low f) / down e)
square_root_monotone f (fin false (suc m) e) (fin true n d) z h =
    absurd (none (suc m * up e * down d) (n * up d * down e) (mul-pos (mul-pos (zero-lt-suc m) (up_pos e)) (down_pos d)) (signed_of_finite false (suc m) e true n d h))
  where
    none : (a b : ℕ) → 0 < a → a + b ≤ 0 → ⊥
    none a b A k = omega arith
square_root_monotone f (fin false (suc m) e) (fin false zero d) z h =
    absurd (none (suc m * up e * down d) (0 * up d * down e) (mul-pos (mul-pos (zero-lt-suc m) (up_pos e)) (down_pos d)) (ap (λ (k : ℕ). k * down e) (zero-mul (up d)) ∙ zero-mul (down e)) (signed_of_finite false (suc m) e false 0 d h))
  where
    none : (a b : ℕ) → 0 < a → b ≡ 0 → a ≤ b → ⊥
    none a b A e k = omega arith
square_root_monotone f (fin false (suc m) e) (fin false (suc n) d) z h =
    let u = 2 ^ (low f + low f) in
    scaled_grows f (suc m * up e * u / down e) (suc n * up d * u / down d)
    (div_mono (suc m * up e * u) (down e) (suc n * up d * u) (down d) (down_pos e) (down_pos d)
    (le_trans (le_of_eq (mul_right_comm (suc m * up e) u (down d))) (le_trans (mul-le-mul_right u (signed_of_finite false (suc m) e false (suc n) d h)) (le_of_eq (mul_right_comm (suc n * up d) (down e) u)))))
