-- Whether g is the side, as code tests it: by its range, `out_of_range`, and then by two comparisons and no ceiling, `side_between`. Assumes nothing.
use Rattle.std.proofs.Common.{◌≡◌, ℕ, ◌-◌, ◌<◌, ◌≤◌, Bool, true, false, ◌&&◌, ◌||◌, T, eqb, ltb, sym, refl, ◌∙◌, subst, inl, inr, true≢false, arith, ltb-false, ltb-true, eq-eqb, ne_eqb}
use native.Mathlib.Decide.{dec_lt}
use lib.Ieee.{Float, binary64, lt, le, div, to_unsigned, fits}
use lib.Ieee.Bits.{is_true}
use lib.Ieee.Exact.{HasValue}
use lib.Ieee.Order.{le_of_values}
use lib.Ieee.Fits.{mul-fits}
use lib.Ieee.Positive.{num, den, den_pos, positive, positive-finite, own_value, values_of_le}
use Rattle.binary64.specs.Convert.{whole}
use Rattle.binary64.proofs.Integral.{integral_exact, ceil_not_below, ceil_least}
use Rattle.binary64.proofs.FloatOrder.{le_not_lt, le_of_not_lt}
use Rattle.std.proofs.lemmas.Float as float
use Rattle.binary64.proofs.NotNan.{finite_number, finite_not_nan}
use Rattle.binary64.proofs.Tests.{Tested, tested}
use Rattle.binary64.proofs.WholeNumbers.{whole_value, whole_positive, to_unsigned_whole, whole_converted, to_unsigned_monotone}
use Rattle.root.specs.Root.{square_root}
use Rattle.mesh.specs.Rows.{greatest_count}
use Rattle.grid.specs.Settings.{factor_fits}
use Rattle.grid.specs.Cells.{side_across, side_of}
use Rattle.grid.specs.Passes.{greatest_side}
use Rattle.grid.proofs.SideBound.{allowed_reach, side_across_positive, side_float, side_float_lem}

-- ---- the range of sides, as code tests it
pub out_of_range : (g s most : ℕ) → 2 ≤ s → s ≤ most → (ltb g 2 || ltb most g) ≡ true → false ≡ eqb g s
out_of_range g s most low high h = sym (ne_eqb g s (λ e. go (ltb g 2) refl h e))
  where
    go : (b : Bool) → ltb g 2 ≡ b → (b || ltb most g) ≡ true → g ≡ s → ⊥
    go true l h e = omega (arith, ltb-true g 2 l)
    go false l h e = omega (arith, ltb-true most g h)

pub side_in_range : (g most : ℕ) → (ltb g 2 || ltb most g) ≡ false → (2 ≤ g) × (g ≤ most)
side_in_range g most h = go (ltb g 2) refl h
  where
    go : (b : Bool) → ltb g 2 ≡ b → (b || ltb most g) ≡ false → (2 ≤ g) × (g ≤ most)
    go true l h = absurd (true≢false h)
    go false l h = (ltb-false g 2 l, ltb-false most g h)

-- ---- two comparisons
module _ (factor : Float) (allowed : factor_fits factor ≡ true) (n : ℕ) (some : 1 ≤ n) (few : n ≤ greatest_count) where
  abbrev across : Float
  across = side_across factor n

  abbrev ceiling : Float
  ceiling = side_float (allowed_reach factor allowed) n some few

  across_is_positive : T (positive across)
  across_is_positive = side_across_positive (allowed_reach factor allowed) n some few

  across_fits : T (fits binary64 across)
  across_fits = mul-fits binary64 (square_root binary64 (div binary64 (whole n) (whole 6))) factor

  ceiling_positive : T (positive ceiling)
  ceiling_positive = (side_float_lem (allowed_reach factor allowed) n some few).0

  -- the ceiling is a whole number, the one that it converts to
  whole_ceiling : HasValue ceiling false (to_unsigned 64 ceiling) 1
  whole_ceiling =
      let v = integral_exact _ across false (num across) (den across) across_fits (den_pos across) (own_value across across_is_positive) in
      let r = allowed_reach factor allowed in
      let most = values_of_le ceiling r.top _ 1 420 1 ceiling_positive r.top_positive v r.top_value (side_float_lem r n some few).1 in
      subst (λ (w : ℕ). HasValue ceiling false w 1) (sym (to_unsigned_whole 64 ceiling _ v (omega arith))) v

  module _ (k : ℕ) (low : 1 ≤ k) (high : k ≤ greatest_side) where
    k_value : HasValue (whole k) false k 1
    k_value = whole_value k (omega arith)

    k_positive : T (positive (whole k))
    k_positive = whole_positive k low (omega arith)

    at_most : T (le across (whole k)) → to_unsigned 64 ceiling ≤ k
    at_most h =
        let below = ceil_least across (whole k) false k across_fits k_value h in
        omega (arith, whole_converted k (omega arith), to_unsigned_monotone 64 ceiling (whole k) below)

    above : T (lt (whole k) across) → k < to_unsigned 64 ceiling
    above h = go (dec_lt k (to_unsigned 64 ceiling))
      where
        go : Dec (k < to_unsigned 64 ceiling) → k < to_unsigned 64 ceiling
        go (yes d) = d
        go (no d) =
            let below = le_of_values ceiling (whole k) (to_unsigned 64 ceiling) 1 k 1 (omega arith) (omega arith) whole_ceiling k_value (omega arith) in
            let reached = ceil_not_below across across_fits (finite_not_nan across (positive-finite across across_is_positive)) in
            let whole-way = float.le_trans across ceiling (whole k) reached below in
            absurd (true≢false (sym (is_true _ h) ∙ le_not_lt (whole k) across (is_true _ whole-way)))

    not_above : lt (whole k) across ≡ false → T (le across (whole k))
    not_above h =
        subst T (sym (le_of_not_lt across (whole k) (finite_number across (positive-finite across across_is_positive)) (finite_number (whole k) (positive-finite (whole k) k_positive)) h)) tt

  pub side_between : (g : ℕ) → 2 ≤ g → g ≤ greatest_side → (le across (whole g) && (eqb g 2 || lt (whole (g - 1)) across)) ≡ eqb g (side_of factor n)
  unfolding side_of
  side_between g lower upper = go (le across (whole g)) (lt (whole g) across) (lt (whole (g - 1)) across) refl refl refl (tested g 2)
    where
      go : (a b c : Bool) → le across (whole g) ≡ a → lt (whole g) across ≡ b → lt (whole (g - 1)) across ≡ c → Tested g 2 → (a && (eqb g 2 || c)) ≡ eqb g (side_of factor n)
      go false false c e f h t = absurd (subst T e (not_above g (omega arith) upper f))
      go false true c e f h t = let more = above g (omega arith) upper (subst T (sym f) tt) in sym (ne_eqb g (side_of factor n) (λ q. omega arith))
      go true b c e f h (inl two) =
          let is : g ≡ 2 = omega (arith, two.0) in
          let less = at_most g (omega arith) upper (subst T (sym e) tt) in
          rw (eq-eqb g 2 is) (sym (eq-eqb g (side_of factor n) (omega arith)))
      go true b true e f h (inr more) =
          let less = at_most g (omega arith) upper (subst T (sym e) tt) in
          let last = above (g - 1) (omega (arith, more.0)) (omega arith) (subst T (sym h) tt) in
          rw (ne_eqb g 2 (λ q. omega (arith, more.0))) (sym (eq-eqb g (side_of factor n) (omega (arith, more.0))))
      go true b false e f h (inr more) =
          let less = at_most (g - 1) (omega (arith, more.0)) (omega arith) (not_above (g - 1) (omega (arith, more.0)) (omega arith) h) in
          rw (ne_eqb g 2 (λ q. omega (arith, more.0))) (sym (ne_eqb g (side_of factor n) (λ q. omega (arith, more.0))))
