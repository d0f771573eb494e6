-- The side of a grid in whole numbers: for every count from 1 to 65,536 it is the least g, 2 at least, with 6 * count ≤ 25 * g². Each of its steps keeps the order, and at both ends of each side's counts it is worked out.
-- Assumes nothing.
use Rattle.std.proofs.Common.{◌≡◌, ℕ, ◌+◌, ◌-◌, ◌*◌, ◌/◌, ◌<◌, ◌≤◌, Bool, true, false, ◌&&◌, ◌||◌, T, eqb, ltb, leb, sym, refl, subst, inl, inr, le_trans, mul-le-mul, arith, le-ltb, lt-ltb, eq-eqb, ne_eqb, eqb-true}
use lib.Ieee.{Float, binary64, le, mul, div, of_int, to_unsigned, fits}
use lib.Ieee.Fits.{mul-fits}
use lib.Ieee.Positive.{num, den, den_pos, positive, positive-finite, own_value}
use Rattle.std.proofs.lemmas.Bool.{and_parts}
use Rattle.binary64.specs.Integral.{ceil_of, round_to_integral}
use Rattle.binary64.proofs.Integral.{integral_exact, ceil_not_below, ceil_least}
use Rattle.std.proofs.lemmas.Float as float
use Rattle.binary64.proofs.NotNan.{finite_not_nan}
use Rattle.binary64.proofs.SignedOrder.{positive_not_below}
use Rattle.binary64.proofs.Tests.{Tested, tested}
use Rattle.binary64.proofs.WholeNumbers.{to_unsigned_monotone}
use Rattle.rounding.proofs.Monotone.{mul_monotone}
use Rattle.sequences.specs.Range.{all_below}
use Rattle.sequences.proofs.Range.{all_below_at}
use Rattle.root.specs.Root.{square_root}
use Rattle.root.proofs.Monotone.{square_root_monotone}
use Rattle.mesh.specs.Rows.{greatest_count}
use Rattle.grid.specs.Settings.{usual_factor}
use Rattle.grid.specs.Cells.{side_of}
use Rattle.grid.specs.Bounds.{UsualSideIsLeast}
use Rattle.grid.proofs.SideBound.{quotient, quotient_grows, quotient_positive, quotient_above, quotient_below, root_at_most, root_at_least, root_positive, across_positive, usual_reach, usual_side_bound}

-- ---- the ceiling keeps the order
ceil_grows : (x y : Float) → T (fits binary64 x) → T (fits binary64 y) → T (positive y) → T (le x y) → T (le (ceil_of x) (ceil_of y))
ceil_grows x y fx fy py h =
    ceil_least x (ceil_of y) false _ fx (integral_exact _ y false (num y) (den y) fy (den_pos y) (own_value y py))
    (float.le_trans x y (ceil_of y) h (ceil_not_below y fy (finite_not_nan y (positive-finite y py))))

module _ (n k : ℕ) (some : 1 ≤ n) (grown : n ≤ k) (few : k ≤ greatest_count) where
  pub side_grows : side_of usual_factor n ≤ side_of usual_factor k
  unfolding side_of
  side_grows =
      let fw = le_trans grown few in
      let sv = le_trans some grown in
      let x = quotient n some fw in
      let y = quotient k sv few in
      let sixth = positive_not_below x (quotient_positive n some fw) in
      let ry = root_positive y (quotient_above k sv few) (quotient_below k sv few) in
      let ly = root_at_least y (quotient_above k sv few) (quotient_below k sv few) in
      let my = root_at_most y (quotient_above k sv few) (quotient_below k sv few) in
      let a = mul binary64 (square_root binary64 x) usual_factor in
      let b = mul binary64 (square_root binary64 y) usual_factor in
      let ab = mul_monotone binary64 (square_root binary64 x) (square_root binary64 y) usual_factor tt (square_root_monotone binary64 x y sixth (quotient_grows n k some grown few)) in
      let pb = across_positive usual_reach (square_root binary64 y) ry ly my in
      let c = to_unsigned_monotone 64 (ceil_of a) (ceil_of b) (ceil_grows a b (mul-fits binary64 (square_root binary64 x) usual_factor) (mul-fits binary64 (square_root binary64 y) usual_factor) pb ab) in
      omega arith

-- ---- the ends
-- the last count of the side g
abbrev last_count : ℕ → ℕ
last_count g = 25 * (g * g) / 6

abbrev ends_at : ℕ → Bool
ends_at g = eqb (side_of usual_factor (last_count g)) g && eqb (side_of usual_factor (last_count g + 1)) (g + 1)

-- the sides from 2 to 125, in parts: a single term takes only so many steps
part_1 : all_below (λ i. ends_at (i + 2)) 31 ≡ true
unfolding all_below side_of of_int div mul to_unsigned round_to_integral square_root
part_1 = refl

part_2 : all_below (λ i. ends_at (i + 33)) 31 ≡ true
unfolding all_below side_of of_int div mul to_unsigned round_to_integral square_root
part_2 = refl

part_3 : all_below (λ i. ends_at (i + 64)) 31 ≡ true
unfolding all_below side_of of_int div mul to_unsigned round_to_integral square_root
part_3 = refl

part_4 : all_below (λ i. ends_at (i + 95)) 31 ≡ true
unfolding all_below side_of of_int div mul to_unsigned round_to_integral square_root
part_4 = refl

in_part : (first g : ℕ) → all_below (λ i. ends_at (i + first)) 31 ≡ true → first ≤ g → g < first + 31 → ends_at g ≡ true
in_part first g h l m = subst (λ (k : ℕ). ends_at k ≡ true) (let z : g - first + first ≡ g = omega arith in z) (all_below_at (λ i. ends_at (i + first)) 31 (g - first) h (omega arith))

ends : (g : ℕ) → 2 ≤ g → g ≤ 125 → ends_at g ≡ true
ends g l m = go (tested 33 g) (tested 64 g) (tested 95 g)
  where
    go : Tested 33 g → Tested 64 g → Tested 95 g → ends_at g ≡ true
    go (inr a) b c = in_part 2 g part_1 l (omega (arith, a.0))
    go (inl a) (inr b) c = in_part 33 g part_2 a.0 (omega (arith, b.0))
    go (inl a) (inl b) (inr c) = in_part 64 g part_3 b.0 (omega (arith, c.0))
    go (inl a) (inl b) (inl c) = in_part 95 g part_4 c.0 (omega arith)

last_few : (g : ℕ) → g ≤ 125 → last_count g + 1 ≤ greatest_count
last_few g h = let s : g * g ≤ 125 * 125 = mul-le-mul h h in omega arith

module _ (n g : ℕ) (some : 1 ≤ n) (few : n ≤ greatest_count) (lower : 2 ≤ g) (upper : g ≤ 125) where
  at_most_side : 6 * n ≤ 25 * (g * g) → side_of usual_factor n ≤ g
  at_most_side h =
      let e = eqb-true (side_of usual_factor (last_count g)) g (and_parts (eqb (side_of usual_factor (last_count g)) g) (eqb (side_of usual_factor (last_count g + 1)) (g + 1)) (ends g lower upper)).0 in
      let z = side_grows n (last_count g) some (omega arith) (omega (arith, last_few g upper)) in
      omega arith

  above_side : 25 * (g * g) < 6 * n → g + 1 ≤ side_of usual_factor n
  above_side h =
      let e = eqb-true (side_of usual_factor (last_count g + 1)) (g + 1) (and_parts (eqb (side_of usual_factor (last_count g)) g) (eqb (side_of usual_factor (last_count g + 1)) (g + 1)) (ends g lower upper)).1 in
      let z = side_grows (last_count g + 1) n (omega arith) (omega arith) few in
      omega arith

-- The side is the least g, 2 at least, with 6 * n ≤ 25 * g².
pub side_least : UsualSideIsLeast
side_least n g some few lower upper = go (tested (6 * n) (25 * (g * g))) (tested g 2) (tested (6 * n) (25 * ((g - 1) * (g - 1))))
  where
    bounds : (2 ≤ side_of usual_factor n) × (side_of usual_factor n ≤ 126)
    bounds = usual_side_bound n some few

    at_most : 6 * n ≤ 25 * (g * g) → Tested g 125 → side_of usual_factor n ≤ g
    at_most h (inl l) = at_most_side n g some few lower l.0 h
    at_most h (inr l) = omega (arith, l.0, bounds.1)

    above : 25 * (g * g) < 6 * n → Tested g 125 → g + 1 ≤ side_of usual_factor n
    above h (inl l) = above_side n g some few lower l.0 h
    above h (inr l) =
        let last : g ≡ 126 = omega (arith, l.0) in
        absurd (let z : ⊥ = omega (arith, (rw last at h)) in z)

    go : Tested (6 * n) (25 * (g * g)) → Tested g 2 → Tested (6 * n) (25 * ((g - 1) * (g - 1)))
        → (leb (6 * n) (25 * (g * g)) && (eqb g 2 || ltb (25 * ((g - 1) * (g - 1))) (6 * n))) ≡ eqb g (side_of usual_factor n)
    go (inr more) t u = rw more.1 (sym (ne_eqb g (side_of usual_factor n) (λ e. absurd (let z : ⊥ = omega (arith, above more.0 (tested g 125)) in z))))
    go (inl less) (inl two) u =
        let is : g ≡ 2 = omega (arith, two.0) in
        rw (less.1, eq-eqb g 2 is) (sym (eq-eqb g (side_of usual_factor n) (omega (arith, at_most less.0 (tested g 125), bounds.0))))
    go (inl less) (inr more) (inr above-last) =
        let before = above_side n (g - 1) some few (omega (arith, more.0)) (omega arith) above-last.0 in
        rw (less.1, ne_eqb g 2 (λ e. absurd (let z : ⊥ = omega (arith, more.0) in z)), lt-ltb (25 * ((g - 1) * (g - 1))) (6 * n) above-last.0) (sym (eq-eqb g (side_of usual_factor n) (omega (arith, at_most less.0 (tested g 125), before, more.0))))
    go (inl less) (inr more) (inl in-last) =
        let before = at_most_side n (g - 1) some few (omega (arith, more.0)) (omega arith) in-last.0 in
        rw (less.1, ne_eqb g 2 (λ e. absurd (let z : ⊥ = omega (arith, more.0) in z)), le-ltb (25 * ((g - 1) * (g - 1))) (6 * n) in-last.0) (sym (ne_eqb g (side_of usual_factor n) (λ e. absurd (let z : ⊥ = omega (arith, before, more.0) in z))))
