-- x / 2 + 1 / 2 rounded once (IEEE 754-2019, 4.3.1) is the same with product and sum rounded apart, where x is not tiny: halving is exact. Assumes nothing.
use mathlib.Core.Path.{◌≡◌, refl, sym, ap, ◌∙◌, subst}
use mathlib.Core.Logic.{inl, inr}
use mathlib.Core.Bool.{Bool, true, false, ◌||◌, false≢true}
use Prim.Native.Nat.{ℕ, zero, suc, ◌+◌, ◌*◌, ◌^◌, ◌≤◌, ◌<◌}
use native.Mathlib.Nat.{mul-one, one-mul, mul_comm, mul_assoc, mul-mul-mul_comm, mul-pos, lt_of_mul-lt-mul_right, mul-lt-mul_of_pos_right, lt_irrefl, lt_of_lt_of_le, le_of_eq, lt_of_le_of_lt, le_of_lt, pow-succ'}
use native.Mathlib.Omega.{arith}
use borrow.Author.Tests.{ltb-true}
use lib.Dec.{T, lit<}
use lib.IntN.{ℤ}
use lib.Pow.{pow-add, pow_pos, pow-lt}
use lib.Ieee.{Float, nan, inf, fin, binary64, up, down, unlike, round, sum, mul, add, neg, lt, fits, of_bits}
use lib.Ieee.Exact.{HasValue, round_exact}
use lib.Ieee.Fits.{down_pos}
use Rattle.std.proofs.lemmas.Bool.{or_cases}
use Rattle.binary64.proofs.Integral.{significand_bound}
use Rattle.rounding.proofs.Exact.{scaled_below}
use Rattle.rounding.proofs.Sum.{sum_same}
use Rattle.rounding.proofs.TiesToEven.{in_units}
use Rattle.fused.specs.Fused.{fused_multiply_add}
use Rattle.binary64.specs.Constants.{half}
use Rattle.fused.specs.Tiny.{least_product}
use Rattle.fused.proofs.Special.{special_factor_apart}

-- a value above 2 ^ -900 is more than one unit, so that half of it is whole units
more_units : (a d m : ℕ) → 0 < d → d < a * 2 ^ 900 → a * 2 ^ 1074 ≡ m * 1 * d → m < 2 ^ 53 → ⊥
more_units a d m D h e few =
    let times : d * 2 ^ 174 < m * d =
    lt_of_lt_of_le (mul-lt-mul_of_pos_right h (pow_pos 174)) (le_of_eq (mul_assoc a (2 ^ 900) (2 ^ 174) ∙ ap (λ (k : ℕ). a * k) (sym (pow-add 2 900 174)) ∙ e ∙ ap (λ (k : ℕ). k * d) (mul-one m))) in
    let more : 2 ^ 174 < m = lt_of_mul-lt-mul_right d (subst (λ (k : ℕ). k < m * d) (mul_comm d (2 ^ 174)) times) in
    lt_irrefl (2 ^ 174) (lt_of_lt_of_le more (le_of_lt (lt_of_lt_of_le few (le_of_lt (pow-lt {i = 53} {j = 174} (lit< tt))))))

twice : (m j : ℕ) → m * 2 ^ suc j ≡ m * 2 ^ j * 2
twice m j = ap (λ (k : ℕ). m * k) (pow-succ' 2 j ∙ mul_comm 2 (2 ^ j)) ∙ sym (mul_assoc m (2 ^ j) 2)

at_most_twice : (k : ℕ) → k ≤ k * 2
at_most_twice k = omega arith

halved : (s t : Bool) (m : ℕ) (e : ℤ) → T (fits binary64 (fin s m e)) → down e < m * up e * 2 ^ 900 → HasValue (round binary64 t (m * up e * 1) (down e * 2)) t (m * up e * 1) (down e * 2)
halved s t m e fit h = go (in_units binary64 s m e fit).1 (in_units binary64 s m e fit).2
  where
    few : m < 2 ^ 53
    few = (in_units binary64 s m e fit).0

    go : (j : ℕ) → m * up e * 2 ^ 1074 ≡ m * 2 ^ j * down e → HasValue (round binary64 t (m * up e * 1) (down e * 2)) t (m * up e * 1) (down e * 2)
    go zero q = absurd (more_units (m * up e) (down e) m (down_pos e) h q few)
    go (suc j) q =
        round_exact binary64 t (m * up e * 1) (down e * 2) m j (mul-pos (down_pos e) (lit< tt)) few
        (lt_of_le_of_lt (at_most_twice (m * 2 ^ j)) (subst (λ (k : ℕ). k < 2 ^ (1074 + 1024)) (twice m j) (subst (λ (k : ℕ). m * 2 ^ suc j < k) (sym (pow-add 2 1074 1024)) (scaled_below (m * 2 ^ suc j) (down e) (2 ^ 1074) (2 ^ 1024) (m * up e) (pow_pos 1074) q (significand_bound binary64 s m e fit).1))))
        (ap (λ (k : ℕ). k * 2 ^ 1074) (mul-one (m * up e)) ∙ q ∙ ap (λ (k : ℕ). k * down e) (twice m j) ∙ mul_assoc (m * 2 ^ j) 2 (down e) ∙ ap (λ (k : ℕ). m * 2 ^ j * k) (mul_comm 2 (down e)))

-- ---- the sum
same_first : (x w y v : ℕ) → x * (w * 2) ≡ y * v → x * 2 * (w * 2 * 2) ≡ y * 2 * (v * 2)
same_first x w y v h = mul-mul-mul_comm x 2 (w * 2) 2 ∙ ap (λ (k : ℕ). k * (2 * 2)) h ∙ sym (mul-mul-mul_comm y 2 v 2)

same_second : (w v : ℕ) → 1 * v * (w * 2 * 2) ≡ 1 * (w * 2) * (v * 2)
same_second w v = rw (one-mul v, one-mul (w * 2)) (sym (mul_assoc v (w * 2) 2) ∙ ap (λ (k : ℕ). k * 2) (mul_comm v (w * 2)) ∙ mul_assoc (w * 2) v 2)

-- by any fraction that the halved value equals
added : (t : Bool) (a d : ℕ) (x : Float) → 0 < d → HasValue x t a (d * 2) → add binary64 x half ≡ sum binary64 t (a * 2) false (1 * (d * 2)) (d * 2 * 2)
unfolding add of_bits
added t a d (fin s n g) D v =
    rw v.0
    (sum_same binary64 t false (n * up g * 2) (1 * down g) (down g * 2) (a * 2) (1 * (d * 2)) (d * 2 * 2) (mul-pos (down_pos g) (lit< tt)) (mul-pos (mul-pos D (lit< tt)) (lit< tt)) (same_first (n * up g) d a (down g) v.1) (same_second d (down g)))
added t a d nan D v = elim v [ ]
added t a d (inf _) D v = elim v [ ]

not_tiny : (s : Bool) (m : ℕ) (e : ℤ) → (lt least_product (fin s m e) || lt (fin s m e) (neg least_product)) ≡ true → down e < m * up e * 2 ^ 900
unfolding neg lt
not_tiny false m e h = elim (or_cases _ false h) [ inl l ↦ subst (λ (k : ℕ). k < m * up e * 2 ^ 900) (one-mul (down e)) (ltb-true (1 * down e) (m * up e * 2 ^ 900) l) | inr l ↦ absurd (false≢true l) ]
not_tiny true m e h = subst (λ (k : ℕ). k < m * up e * 2 ^ 900) (one-mul (down e)) (ltb-true (1 * down e) (m * up e * 2 ^ 900) h)

pub half_sum_apart : (x : Float) → T (fits binary64 x) → (lt least_product x || lt x (neg least_product)) ≡ true → add binary64 (mul binary64 x half) half ≡ fused_multiply_add binary64 x half half
unfolding mul fused_multiply_add neg lt of_bits
half_sum_apart nan fit h = absurd (false≢true h)
half_sum_apart (inf s) fit h = special_factor_apart binary64 (inf s) half half refl
half_sum_apart (fin s m e) fit h = added (unlike s false) (m * up e * 1) (down e) (round binary64 (unlike s false) (m * up e * 1) (down e * 2)) (down_pos e) (halved s (unlike s false) m e fit (not_tiny s m e h))
