-- A value beyond the range of h bits and a sign is held at the nearer end. Assumes nothing.
use Rattle.std.proofs.Common.{◌≡◌, ℕ, ◌+◌, ◌-◌, ◌*◌, ◌/◌, ◌^◌, ◌<◌, ◌≤◌, min, true, false, ltb, ℤ, pos, negsuc, neg_ℤ, sym, refl, ap, ◌∙◌, true≢false, zero-lt-suc, mul-pos, one-mul, le-div_iff_mul-le, mul-one, arith, pow_pos, ltb-false}
use mathlib.Core.Bool.{false≢true}
use native.Mathlib.Nat.{min-eq_right}
use lib.Pow.{suc_ones}
use lib.Ieee.{Float, nan, inf, fin, lt, le, ne, up, down, to_signed}
use lib.Ieee.Compare.{nan_differs}
use lib.Ieee.Fits.{down_pos}
use Rattle.std.proofs.lemmas.Bool.{or_parts}

-- a magnitude n / d of 2 ^ h or more, by the products of the comparison
reaches : (h n d : ℕ) → 0 < d → 1 * 2 ^ h * d ≤ n * 1 → 2 ^ h ≤ n / d
reaches h n d p l = (le-div_iff_mul-le p).1 (simp (mul-one, one-mul) at l)

-- an end of the range is no zero, so that no number of the other sign lies beyond it
end_positive : (h : ℕ) (e : ℤ) → 0 < 1 * 2 ^ h * down e
end_positive h e = mul-pos (mul-pos (zero-lt-suc 0) (pow_pos h)) (down_pos e)

not_both_zero : (p q : ℕ) → ltb 0 (p + q) ≡ false → 0 < p + q → ⊥
not_both_zero p q h l = omega (arith, ltb-false 0 (p + q) h)

-- From 2 ^ h on, the greatest.
pub held_high : (h : ℕ) (x : Float) → lt x (fin false 1 (pos h)) ≡ false → ne x x ≡ false → pos (2 ^ h - 1) ≡ to_signed h x
unfolding lt to_signed
held_high h nan a b = absurd (true≢false (sym nan_differs ∙ b))
held_high h (inf true) a b = absurd (true≢false a)
held_high h (inf false) a b = refl
held_high h (fin true m e) a b = absurd (not_both_zero (m * up e * 1) (1 * 2 ^ h * down e) a (omega (arith, end_positive h e)))
held_high h (fin false m e) a b =
    ap pos (capped (m * up e / down e) (2 ^ h) (reaches h (m * up e) (down e) (down_pos e) (ltb-false (m * up e * 1) (1 * 2 ^ h * down e) a)))
  where
    capped : (q k : ℕ) → k ≤ q → k - 1 ≡ min q (k - 1)
    capped q k l = omega arith

least : (h : ℕ) → negsuc (2 ^ h - 1) ≡ neg_ℤ (pos (2 ^ h))
least h = ap (λ (n : ℕ). neg_ℤ (pos n)) (suc_ones h)

-- Below -2 ^ h, the least.
pub held_low : (h : ℕ) (x : Float) → le (fin true 1 (pos h)) x ≡ false → lt x (fin false 1 (pos h)) ≡ true → negsuc (2 ^ h - 1) ≡ to_signed h x
unfolding le to_signed
held_low h nan a b = absurd (false≢true b)
held_low h (inf true) a b = least h
held_low h (inf false) a b = absurd (true≢false a)
held_low h (fin false m e) a b = absurd (not_both_zero (1 * 2 ^ h * down e) (m * up e * 1) (or_parts _ _ a).0 (omega (arith, end_positive h e)))
held_low h (fin true m e) a b =
    least h ∙ ap (λ (n : ℕ). neg_ℤ (pos n)) (sym (min-eq_right
    (reaches h (m * up e) (down e) (down_pos e) (ltb-false (m * up e * 1) (1 * 2 ^ h * down e) (or_parts _ _ a).0))))
