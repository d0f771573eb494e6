-- Bounds of the side of a grid, for every count from 1 to 65,536: from 2 to 420 for every factor that row 19 lets pass, and to 126 for 1.2. Assumes nothing.
use Rattle.std.proofs.Common.{◌≡◌, ℕ, ◌*◌, ◌^◌, ◌<◌, ◌≤◌, true, false, T, pos, negsuc, refl, ◌∙◌, subst, mul-le-mul_right, mul_comm, arith, lt→ltb}
use lib.Ieee.{Float, nan, inf, fin, binary64, up, down, lt, le, round, mul, div, of_int, of_bits}
use lib.Ieee.Bits.{is_true}
use lib.Ieee.Exact.{HasValue}
use lib.Ieee.Fits.{down_pos, mul-fits}
use lib.Ieee.Positive.{positive, positive-finite, values_of_le, between, mul_mono}
use Rattle.std.proofs.lemmas.Bool.{and_parts}
use Rattle.binary64.specs.Integral.{ceil_of}
use Rattle.binary64.proofs.Integral.{ceil_not_below, ceil_least}
use Rattle.std.proofs.lemmas.Float as float
use Rattle.binary64.proofs.NotNan.{finite_not_nan}
use Rattle.binary64.proofs.SignedOrder.{positive_not_below}
use Rattle.binary64.proofs.WholeNumbers.{whole_positive, whole_monotone, to_unsigned_whole, to_unsigned_monotone, above_minus_one}
use Rattle.rounding.proofs.Monotone.{div_monotone}
use Rattle.root.specs.Root.{square_root}
use Rattle.root.proofs.Monotone.{square_root_monotone}
use Rattle.mesh.specs.Rows.{greatest_count}
use Rattle.binary64.specs.Constants.{positive_zero}
use Rattle.binary64.specs.Convert.{whole}
use Rattle.grid.specs.Settings.{usual_factor, least_factor, greatest_factor, factor_fits}
use Rattle.grid.specs.Cells.{side_across, side_of}
use Rattle.grid.specs.Bounds.{SideIsBounded, UsualSideIsBounded}

-- ---- the quotient by 6
abbrev lowest : Float
lowest = div binary64 (whole 1) (whole 6)

abbrev highest : Float
highest = div binary64 (whole greatest_count) (whole 6)

-- the ends, by evaluation: from an eighth to 10923
quotient_ends : T (positive lowest) × T (positive highest) × T (le (fin false 1 (negsuc 2)) lowest) × T (le highest (fin false 10923 (pos 0)))
unfolding of_int div round le
quotient_ends = (tt, tt, tt, tt)

pub quotient_grows : (n k : ℕ) → 1 ≤ n → n ≤ k → k ≤ greatest_count → T (le (div binary64 (whole n) (whole 6)) (div binary64 (whole k) (whole 6)))
quotient_grows n k some grown few =
    div_monotone binary64 (whole n) (whole k) (whole 6) (positive-finite (whole n) (whole_positive n some (omega arith))) (positive-finite (whole k) (whole_positive k (omega arith) (omega arith)))
    (whole_positive 6 (omega arith) (omega arith)) (whole_monotone n k grown (omega arith))

module _ (n : ℕ) (some : 1 ≤ n) (few : n ≤ greatest_count) where
  abbrev pub quotient : Float
  quotient = div binary64 (whole n) (whole 6)

  above_lowest : T (le lowest quotient)
  above_lowest = quotient_grows 1 n (omega arith) some few

  below_highest : T (le quotient highest)
  below_highest = quotient_grows n greatest_count some few (omega arith)

  pub quotient_positive : T (positive quotient)
  quotient_positive = between lowest quotient highest quotient_ends.0 quotient_ends.1 above_lowest below_highest

  pub quotient_above : T (le (fin false 1 (negsuc 2)) quotient)
  quotient_above = float.le_trans (fin false 1 (negsuc 2)) lowest quotient quotient_ends.2 above_lowest

  pub quotient_below : T (le quotient (fin false 10923 (pos 0)))
  quotient_below = float.le_trans quotient highest (fin false 10923 (pos 0)) below_highest quotient_ends.3

-- ---- the root
-- the ends, by evaluation: from a quarter to 105
root_ends : T (le (fin false 1 (negsuc 1)) (square_root binary64 (fin false 1 (negsuc 2)))) × T (le (square_root binary64 (fin false 10923 (pos 0))) (fin false 105 (pos 0)))
unfolding square_root le
root_ends = (tt, tt)

-- a value x from an eighth to 10923 has a root from a quarter to 105
module _ (x : Float) (above : T (le (fin false 1 (negsuc 2)) x)) (below : T (le x (fin false 10923 (pos 0)))) where
  abbrev root : Float
  root = square_root binary64 x

  not_below_zero : T (le positive_zero x)
  unfolding of_bits
  not_below_zero = float.le_trans positive_zero (fin false 1 (negsuc 2)) x (positive_not_below (fin false 1 (negsuc 2)) tt) above

  pub root_at_most : T (le root (fin false 105 (pos 0)))
  unfolding of_bits
  root_at_most =
      float.le_trans root (square_root binary64 (fin false 10923 (pos 0))) (fin false 105 (pos 0)) (square_root_monotone binary64 x (fin false 10923 (pos 0)) not_below_zero below) root_ends.1

  pub root_at_least : T (le (fin false 1 (negsuc 1)) root)
  root_at_least =
      float.le_trans (fin false 1 (negsuc 1)) (square_root binary64 (fin false 1 (negsuc 2))) root root_ends.0
      (square_root_monotone binary64 (fin false 1 (negsuc 2)) x (positive_not_below (fin false 1 (negsuc 2)) tt) above)

  pub root_positive : T (positive root)
  root_positive = between (fin false 1 (negsuc 1)) root (fin false 105 (pos 0)) tt tt root_at_least root_at_most

-- ---- the side
-- A factor lies between two, and times them the least and the greatest root are worked out: no side is above `greatest`.
pub record FactorReach (factor : Float) (greatest : ℕ) : Type 0 where
  pub low : Float
  pub high : Float
  pub bottom : Float
  pub top : Float
  pub low_positive : T (positive low)
  pub high_positive : T (positive high)
  pub bottom_positive : T (positive bottom)
  pub top_positive : T (positive top)
  pub least : T (le low factor)
  pub most : T (le factor high)
  pub bottom_is : mul binary64 (fin false 1 (negsuc 1)) low ≡ bottom
  pub top_is : mul binary64 (fin false 105 (pos 0)) high ≡ top
  pub top_value : HasValue top false greatest 1
  pub greatest_small : greatest < 2 ^ 32

pub usual_reach : FactorReach usual_factor 126
unfolding le mul round
usual_reach = record {
  low = usual_factor;
  high = usual_factor;
  bottom = fin false 5404319552844595 (negsuc 53);
  top = fin false 63 (pos 1);
  low_positive = tt;
  high_positive = tt;
  bottom_positive = tt;
  top_positive = tt;
  least = tt;
  most = tt;
  bottom_is = refl;
  top_is = refl;
  top_value = (refl, refl);
  greatest_small = omega arith;
}

-- every factor that row 19 lets pass
pub allowed_reach : (factor : Float) → factor_fits factor ≡ true → FactorReach factor 420
unfolding mul round factor_fits of_bits
allowed_reach factor h =
    let both = and_parts (le least_factor factor) (le factor greatest_factor) h in
    record {
      low = least_factor;
      high = greatest_factor;
      bottom = fin false 1 (negsuc 2);
      top = fin false 105 (pos 2);
      low_positive = tt;
      high_positive = tt;
      bottom_positive = tt;
      top_positive = tt;
      least = float.T_from_true _ both.0;
      most = float.T_from_true _ both.1;
      bottom_is = refl;
      top_is = refl;
      top_value = (refl, refl);
      greatest_small = omega arith;
    }

module _ {factor : Float} {greatest : ℕ} (reach : FactorReach factor greatest) where
  pub factor_positive : T (positive factor)
  factor_positive = between reach.low factor reach.high reach.low_positive reach.high_positive reach.least reach.most

  -- a root from a quarter to 105 times the factor, and its ceiling
  module _ (q : Float) (q-positive : T (positive q)) (least : T (le (fin false 1 (negsuc 1)) q)) (most : T (le q (fin false 105 (pos 0)))) where
    abbrev across : Float
    across = mul binary64 q factor

    across_most : T (le across reach.top)
    across_most =
        subst (λ (z : Float). T (le across z)) reach.top_is
        (mul_mono binary64 q (fin false 105 (pos 0)) factor reach.high q-positive tt factor_positive reach.high_positive most reach.most)

    across_least : T (le reach.bottom across)
    across_least =
        subst (λ (z : Float). T (le z across)) reach.bottom_is
        (mul_mono binary64 (fin false 1 (negsuc 1)) q reach.low factor tt q-positive reach.low_positive factor_positive least reach.least)

    pub across_positive : T (positive across)
    across_positive = between reach.bottom across reach.top reach.bottom_positive reach.top_positive across_least across_most

    ceil_most : T (le (ceil_of across) reach.top)
    ceil_most = ceil_least across reach.top false greatest (mul-fits binary64 q factor) reach.top_value across_most

    ceil_positive : T (positive (ceil_of across))
    ceil_positive =
        between across (ceil_of across) reach.top across_positive reach.top_positive
        (ceil_not_below across (mul-fits binary64 q factor) (finite_not_nan across (positive-finite across across_positive))) ceil_most

-- a value above zero that is at most a small whole number lies in the range that the conversion asks for
converts_below : (x top : Float) (t : ℕ) → T (positive x) → T (positive top) → HasValue top false t 1 → t < 2 ^ 32 → T (le x top) → T (lt x (fin false 1 (pos 64)))
unfolding lt
converts_below nan top t p q v small h = absurd p
converts_below (inf s) top t p q v small h = absurd p
converts_below (fin true m e) top t p q v small h = absurd p
converts_below (fin false m e) top t p q v small h =
    let c : m * up e * 1 ≤ t * down e = values_of_le (fin false m e) top (m * up e) (down e) t 1 p q (refl, mul_comm (m * up e) (down e) ∙ mul_comm (down e) (m * up e)) v h in
    let d : t * down e ≤ 2 ^ 32 * down e = mul-le-mul_right (down e) (omega arith) in
    lt→ltb (m * up e * 1) (1 * 2 ^ 64 * down e) (omega (arith, down_pos e))

module _ {factor : Float} {greatest : ℕ} (reach : FactorReach factor greatest) (n : ℕ) (some : 1 ≤ n) (few : n ≤ greatest_count) where
  -- what the side is the conversion of
  abbrev pub side_float : Float
  side_float = ceil_of (side_across factor n)

  abbrev root_of_sixth : Float
  root_of_sixth = square_root binary64 (quotient n some few)

  positive_root : T (positive root_of_sixth)
  positive_root = root_positive (quotient n some few) (quotient_above n some few) (quotient_below n some few)

  least : T (le (fin false 1 (negsuc 1)) root_of_sixth)
  least = root_at_least (quotient n some few) (quotient_above n some few) (quotient_below n some few)

  most : T (le root_of_sixth (fin false 105 (pos 0)))
  most = root_at_most (quotient n some few) (quotient_above n some few) (quotient_below n some few)

  pub side_across_positive : T (positive (side_across factor n))
  side_across_positive = across_positive reach root_of_sixth positive_root least most

  pub side_float_lem : T (positive side_float) × T (le side_float reach.top)
  side_float_lem = (ceil_positive reach root_of_sixth positive_root least most, ceil_most reach root_of_sixth positive_root least most)

  -- the ceiling lies in the range that the conversion to an unsigned number asks for
  pub side_converts : T (lt (fin true 1 (pos 0)) side_float) × T (lt side_float (fin false 1 (pos 64)))
  side_converts = (above_minus_one side_float (is_true _ (positive_not_below side_float side_float_lem.0)), converts_below side_float reach.top greatest side_float_lem.0 reach.top_positive reach.top_value reach.greatest_small side_float_lem.1)

  pub side_within : 2 ≤ greatest → (2 ≤ side_of factor n) × (side_of factor n ≤ greatest)
  unfolding side_of
  side_within two =
      let top_is = to_unsigned_whole 64 reach.top greatest reach.top_value (omega (arith, reach.greatest_small)) in
      let most = to_unsigned_monotone 64 side_float reach.top side_float_lem.1 in
      (omega arith, omega arith)

pub side_bound : SideIsBounded
side_bound factor n h some few = side_within (allowed_reach factor h) n some few (omega arith)

pub usual_side_bound : UsualSideIsBounded
usual_side_bound n some few = side_within usual_reach n some few (omega arith)
