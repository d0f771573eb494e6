-- x / 2 + 1 / 2 rounded once (IEEE 754-2019, 4.3.1) is the same with product and sum rounded apart, for every x: `half_sum`. Where x is tiny both are 1 / 2, since both keep the order and are so at 2 ^ -900 and at -2 ^ -900. Assumes nothing.
use Rattle.std.proofs.Common.{◌≡◌, ℕ, ◌+◌, ◌-◌, ◌*◌, Bool, true, false, ◌&&◌, T, arith, lit<, ltb, sym, refl, ◌∙◌, subst}
use Rattle.std.specs.Bool.{beq}
use lib.Ieee.{Float, nan, inf, fin, binary64, up, down, unlike, sum, add, mul, neg, lt, le, is_nan, fits, of_bits}
use lib.Ieee.Fits.{down_pos, round-fits, cond-fits, add-fits}
use lib.Ieee.Scale.{finite}
use Rattle.binary64.proofs.FloatOrder.{le_of_not_lt}
use Rattle.binary64.proofs.NotNan.{between_finite}
use Rattle.binary64.proofs.SignedOrder.{SignedLe, signed_of_le}
use Rattle.rounding.proofs.Neutral.{value_unique}
use Rattle.rounding.proofs.Monotone.{add_monotone, mul_monotone}
use Rattle.fused.proofs.Halves.{half_sum_apart}
use Rattle.fused.proofs.Monotone.{fused_monotone_first}
use Rattle.fused.proofs.Special.{special_factor_apart}
use Rattle.binary64.specs.Constants.{half}
use Rattle.fused.specs.Fused.{fused_multiply_add}
use Rattle.fused.specs.Tiny.{least_product}

abbrev apart : Float → Float
apart x = add binary64 (mul binary64 x half) half

abbrev once : Float → Float
once x = fused_multiply_add binary64 x half half

apart_above : apart least_product ≡ half
unfolding mul add of_bits
apart_above = refl

apart_below : apart (neg least_product) ≡ half
unfolding mul add neg of_bits
apart_below = refl

once_above : once least_product ≡ half
unfolding fused_multiply_add of_bits
once_above = refl

once_below : once (neg least_product) ≡ half
unfolding fused_multiply_add neg of_bits
once_below = refl

-- what is neither below nor above 1 / 2
same_as_half : (v : Float) → T (fits binary64 v) → T (le half v) → T (le v half) → half ≡ v
unfolding le of_bits fits
same_as_half nan held lo hi = absurd lo
same_as_half (inf true) held lo hi = absurd lo
same_as_half (inf false) held lo hi = absurd hi
same_as_half (fin s m e) held lo hi =
    same s (signed_of_le half (fin s m e) false 1 2 s (m * up e) (down e) (refl, refl) (refl, refl) lo) (signed_of_le (fin s m e) half s (m * up e) (down e) false 1 2 (refl, refl) (refl, refl) hi) held
  where
    same : (s : Bool) → SignedLe false (1 * down e) s (m * up e * 2) → SignedLe s (m * up e * 2) false (1 * down e) → T (fits binary64 (fin s m e)) → half ≡ fin s m e
    same false a b held = value_unique binary64 half (fin false m e) false 1 2 (lit< tt) tt held (refl, refl) (refl, omega (arith, a, b))
    same true a b held = absurd (let z : ⊥ = omega (arith, a, down_pos e) in z)

sum_fits : (s : Bool) (a : ℕ) (t : Bool) (b c : ℕ) → T (fits binary64 (sum binary64 s a t b c))
unfolding sum
sum_fits s a t b c =
    cond-fits binary64 (beq s t) _ _ (round-fits binary64 s (a + b) c)
    (cond-fits binary64 (ltb a b) _ _ (round-fits binary64 t (b - a) c) (round-fits binary64 (s && ltb b a) (a - b) c))

fused_fits : (x y z : Float) → T (finite x) → T (finite y) → T (finite z) → T (fits binary64 (fused_multiply_add binary64 x y z))
unfolding fused_multiply_add
fused_fits (fin s m e) (fin t n d) (fin u o g) X Y Z = sum_fits (unlike s t) (m * up e * (n * up d) * down g) u (o * up g * (down e * down d)) (down e * down d * down g)
fused_fits nan y z X Y Z = elim X [ ]
fused_fits (inf _) y z X Y Z = elim X [ ]
fused_fits (fin s m e) nan z X Y Z = elim Y [ ]
fused_fits (fin s m e) (inf _) z X Y Z = elim Y [ ]
fused_fits (fin s m e) (fin t n d) nan X Y Z = elim Z [ ]
fused_fits (fin s m e) (fin t n d) (inf _) X Y Z = elim Z [ ]

module _ (x : Float) (not_below : T (le (neg least_product) x)) (not_above : T (le x least_product)) where
  halved_finite : T (finite (mul binary64 x half))
  unfolding mul neg of_bits
  halved_finite =
      between_finite (mul binary64 (neg least_product) half) (mul binary64 x half) (mul binary64 least_product half) tt tt
      (mul_monotone binary64 (neg least_product) x half tt not_below) (mul_monotone binary64 x least_product half tt not_above)

  apart_not_below : T (le half (apart x))
  unfolding mul neg le of_bits
  apart_not_below =
      subst (λ (r : Float). T (le r (apart x))) apart_below
      (add_monotone binary64 (mul binary64 (neg least_product) half) (mul binary64 x half) half half tt halved_finite tt tt (mul_monotone binary64 (neg least_product) x half tt not_below) tt)

  apart_not_above : T (le (apart x) half)
  unfolding mul neg le of_bits
  apart_not_above =
      subst (λ (r : Float). T (le (apart x) r)) apart_above
      (add_monotone binary64 (mul binary64 x half) (mul binary64 least_product half) half half halved_finite tt tt tt (mul_monotone binary64 x least_product half tt not_above) tt)

  once_not_below : T (le half (once x))
  unfolding of_bits
  once_not_below = subst (λ (r : Float). T (le r (once x))) once_below (fused_monotone_first binary64 (neg least_product) x half half tt tt not_below)

  once_not_above : T (le (once x) half)
  unfolding of_bits
  once_not_above = subst (λ (r : Float). T (le (once x) r)) once_above (fused_monotone_first binary64 x least_product half half tt tt not_above)

  x_finite : T (finite x)
  unfolding neg
  x_finite = between_finite (neg least_product) x least_product tt tt not_below not_above

  pub half_sum_tiny : apart x ≡ once x
  unfolding of_bits
  half_sum_tiny =
      sym (same_as_half (apart x) (add-fits binary64 _ _) apart_not_below apart_not_above)
      ∙ same_as_half (once x) (fused_fits x half half x_finite tt tt) once_not_below once_not_above

-- ---- for every x
pub half_sum : (x : Float) → T (fits binary64 x) → apart x ≡ once x
unfolding add mul fused_multiply_add is_nan neg
half_sum nan held = refl
half_sum (inf s) held = special_factor_apart binary64 (inf s) half half refl
half_sum (fin s m d) held = go (lt least_product (fin s m d)) (lt (fin s m d) (neg least_product)) refl refl
  where
    go : (a b : Bool) → lt least_product (fin s m d) ≡ a → lt (fin s m d) (neg least_product) ≡ b → apart (fin s m d) ≡ once (fin s m d)
    go true b e f = half_sum_apart _ held (rw e refl)
    go false true e f = half_sum_apart _ held (rw (e, f) refl)
    go false false e f =
        let not_below : le (neg least_product) (fin s m d) ≡ true = le_of_not_lt (neg least_product) (fin s m d) refl refl f in
        let not_above : le (fin s m d) least_product ≡ true = le_of_not_lt (fin s m d) least_product refl refl e in
        half_sum_tiny (fin s m d) (subst T (sym not_below) tt) (subst T (sym not_above) tt)
