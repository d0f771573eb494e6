-- Every position of a lattice is admissible, so that row 5 lets it pass: `position_admissible`. Before it is normalised a point of a face is a mean of the face's corners, weighted by whole numbers. Each step of the mean keeps the order, and that of three equal numbers ±1/4 or ±1 is exact;
-- so the mean lies, component by component, where the corners do: within ±1, and along one axis at 1/4 or more in magnitude. Assumes nothing.
use Rattle.std.proofs.Common.{◌≡◌, ℕ, zero, suc, ◌+◌, ◌-◌, ◌*◌, ◌≤◌, Bool, true, false, T, pos, sym, refl, ap, ◌∙◌, subst, inl, inr, mul_assoc, mul-le-mul, mul-one, mul-add, arith}
use lib.Ieee.{Float, fin, binary64, add, mul, div, neg, le, round}
use lib.Ieee.Exact.{HasValue}
use lib.Ieee.Order.{le_of_values}
use lib.Ieee.Scale.{finite, round_same}
use Rattle.std.proofs.lemmas.Bool.{and_parts, or_cases}
use Rattle.binary64.specs.Absolute.{abs}
use Rattle.binary64.specs.Convert.{whole}
use Rattle.binary64.proofs.Absolute.{abs_within, abs_from_above, abs_from_below}
use Rattle.std.proofs.lemmas.Float as float
use Rattle.binary64.proofs.NotNan.{value_finite}
use Rattle.binary64.proofs.SignedOrder.{signed_refl, unlike_plus, le_of_signed}
use Rattle.binary64.proofs.WholeNumbers.{whole_value, whole_positive}
use Rattle.rounding.proofs.Sum.{sum_same_sign}
use Rattle.rounding.proofs.Exact.{round_over_power, product_of_values, sum_of_values, quotient_of_values}
use Rattle.rounding.proofs.Between.{Between, between_mul, between_add, between_div}
use Rattle.vector.specs.Direction.{admissible}
use Rattle.vector.proofs.Extent.{Reaches, along_x, along_y, along_z, admissible_of_extent}
use Rattle.vector.proofs.Normalized.{admissible_normalised}
use Rattle.icosahedron.specs.Icosahedron.{corner_point}
use Rattle.lattice.specs.Lattice.{LatticePoint, mean_point, point_position}
use Rattle.lattice.specs.Appearances.{OnLattice}
use Rattle.lattice.specs.FaceAxes.{component, signed_quarter, signed_one, lies_between, corners_between, face_axis, on_one_side}
use Rattle.lattice.proofs.FaceAxes.{face_on_one_side, corners_within}

-- x is a whole number of quarters, ±multiple / 4, at most four
record Quarters (x : Float) : Type 0 where
  sign : Bool
  multiple : ℕ
  at_most_four : multiple ≤ 4
  value : HasValue x sign multiple 4

quarters_finite : (x : Float) → Quarters x → T (finite x)
quarters_finite x e = value_finite x e.sign e.multiple 4 e.value

-- "((a·P1 + b·P2) + c·P3)/n" along one axis
abbrev weighted_mean : ℕ → ℕ → ℕ → ℕ → Float → Float → Float → Float
weighted_mean a b c n p q r = div binary64 (add binary64 (add binary64 (mul binary64 p (whole a)) (mul binary64 q (whole b))) (mul binary64 r (whole c))) (whole n)

module _ (a b c n : ℕ) (some : 1 ≤ n) (few : n ≤ 80) (total : a + b + c ≡ n) where
  abbrev mean : Float → Float → Float → Float
  mean p q r = weighted_mean a b c n p q r

  -- ---- of three equal numbers of quarters it is that number, exactly
  module _ (x : Float) (e : Quarters x) where
    abbrev term : ℕ → Float
    term w = mul binary64 x (whole w)

    exact_quarters : (j : ℕ) → j ≤ 320 → HasValue (round binary64 e.sign j 4) e.sign j 4
    exact_quarters j h = round_over_power binary64 e.sign j 2 (omega arith) (omega arith)

    term_value : (w : ℕ) → w ≤ 80 → HasValue (term w) e.sign (e.multiple * w) 4
    term_value w h =
        let product : term w ≡ round binary64 e.sign (e.multiple * w) 4 =
        product_of_values binary64 x (whole w) e.sign e.multiple 4 false w 1 (omega arith) (omega arith) e.value (whole_value w (omega arith))
        ∙ ap (λ (t : Bool). round binary64 t (e.multiple * w) 4) (unlike_plus e.sign) in
        subst (λ (z : Float). HasValue z e.sign (e.multiple * w) 4) (sym product) (exact_quarters (e.multiple * w) (mul-le-mul e.at_most_four h))

    sum_value : (y z : Float) (i j : ℕ) → i + j ≤ 320 → HasValue y e.sign i 4 → HasValue z e.sign j 4 → HasValue (add binary64 y z) e.sign (i + j) 4
    sum_value y z i j h Y Z =
        subst (λ (v : Float). HasValue v e.sign (i + j) 4) (sym (sum_of_values binary64 y z e.sign i e.sign j 4 (omega arith) Y Z ∙ sum_same_sign binary64 e.sign e.sign i j 4 refl)) (exact_quarters (i + j) h)

    all_quarters : e.multiple * a + e.multiple * b + e.multiple * c ≡ e.multiple * n
    all_quarters = ap (λ (z : ℕ). z + e.multiple * c) (sym (mul-add e.multiple a b)) ∙ sym (mul-add e.multiple (a + b) c) ∙ ap (λ (z : ℕ). e.multiple * z) total

    two_value : HasValue (add binary64 (term a) (term b)) e.sign (e.multiple * a + e.multiple * b) 4
    two_value = sum_value (term a) (term b) (e.multiple * a) (e.multiple * b) (omega (arith, all_quarters, mul-le-mul e.at_most_four few)) (term_value a (omega arith)) (term_value b (omega arith))

    three_value : HasValue (add binary64 (add binary64 (term a) (term b)) (term c)) e.sign (e.multiple * a + e.multiple * b + e.multiple * c) 4
    three_value = sum_value (add binary64 (term a) (term b)) (term c) (e.multiple * a + e.multiple * b) (e.multiple * c) (omega (arith, all_quarters, mul-le-mul e.at_most_four few)) two_value (term_value c (omega arith))

    mean_value : HasValue (mean x x x) e.sign e.multiple 4
    mean_value =
        let quotient : mean x x x ≡ round binary64 e.sign e.multiple 4 =
        quotient_of_values binary64 (add binary64 (add binary64 (term a) (term b)) (term c)) (whole n) e.sign (e.multiple * a + e.multiple * b + e.multiple * c) 4 n 1 (omega arith) some (omega arith) three_value (whole_value n (omega arith))
        ∙ round_same binary64 e.sign ((e.multiple * a + e.multiple * b + e.multiple * c) * 1) (n * 4) e.multiple 4 (omega arith) (omega arith)
        (ap (λ (z : ℕ). z * 1 * 4) all_quarters ∙ ap (λ (z : ℕ). z * 4) (mul-one (e.multiple * n)) ∙ mul_assoc e.multiple n 4) in
        subst (λ (z : Float). HasValue z e.sign e.multiple 4) (sym quotient) (exact_quarters e.multiple (omega (arith, e.at_most_four)))

    term_finite : (w : ℕ) → w ≤ 80 → T (finite (term w))
    term_finite w h = value_finite (term w) e.sign (e.multiple * w) 4 (term_value w h)

    two_finite : T (finite (add binary64 (term a) (term b)))
    two_finite = value_finite (add binary64 (term a) (term b)) e.sign (e.multiple * a + e.multiple * b) 4 two_value

    three_finite : T (finite (add binary64 (add binary64 (term a) (term b)) (term c)))
    three_finite = value_finite (add binary64 (add binary64 (term a) (term b)) (term c)) e.sign (e.multiple * a + e.multiple * b + e.multiple * c) 4 three_value

    mean_finite : T (finite (mean x x x))
    mean_finite = value_finite (mean x x x) e.sign e.multiple 4 mean_value

    not_above_mean : T (le x (mean x x x))
    not_above_mean = le_of_signed x (mean x x x) e.sign e.multiple 4 e.sign e.multiple 4 (omega arith) (omega arith) e.value mean_value (signed_refl e.sign (e.multiple * 4))

    not_below_mean : T (le (mean x x x) x)
    not_below_mean = le_of_signed (mean x x x) x e.sign e.multiple 4 e.sign e.multiple 4 (omega arith) (omega arith) mean_value e.value (signed_refl e.sign (e.multiple * 4))

  -- ---- where three numbers lie between two such, so does their mean
  module _ (low high : Float) (l : Quarters low) (h : Quarters high) where
    term_between : (p : Float) (w : ℕ) → w ≤ 80 → Between low p high → Between (mul binary64 low (whole w)) (mul binary64 p (whole w)) (mul binary64 high (whole w))
    term_between p w few within =
        let weight = whole_value w (omega arith) in
        between_mul binary64 within (whole w) (value_finite (whole w) false w 1 weight) (le_of_values (fin false 0 (pos 0)) (whole w) 0 1 w 1 (omega arith) (omega arith) (refl, refl) weight (omega arith)) (term_finite low l w few) (term_finite high h w few)

    mean_between : (p q r : Float) → Between low p high → Between low q high → Between low r high → T (le low (mean p q r)) × T (le (mean p q r) high)
    mean_between p q r P Q R =
        let two = between_add binary64 (term_between p a (omega arith) P) (term_between q b (omega arith) Q) (two_finite low l) (two_finite high h) in
        let three = between_add binary64 two (term_between r c (omega arith) R) (three_finite low l) (three_finite high h) in
        let m = between_div binary64 three (whole n) (whole_positive n some (omega arith)) (mean_finite low l) (mean_finite high h) in (
          float.le_trans low (mean low low low) (mean p q r) (not_above_mean low l) m.not_below,
          float.le_trans (mean p q r) (mean high high high) high m.not_above (not_below_mean high h),
        )

-- ---- a point of the lattice before it is normalised
quarter : (s : Bool) → Quarters (signed_quarter s)
quarter s = record { sign = s; multiple = 1; at_most_four = omega arith; value = (refl, refl) }

one : (s : Bool) → Quarters (signed_one s)
one s = record { sign = s; multiple = 4; at_most_four = omega arith; value = (refl, refl) }

module _ (n : ℕ) (p : LatticePoint) (some : 1 ≤ n) (few : n ≤ 80) (on : OnLattice n p) where
  abbrev along : ℕ → Float
  along axis = component (mean_point n p) axis

  abbrev corner : ℕ → ℕ → Float
  corner axis place = component (corner_point p.face place) axis

  along_is : (axis : ℕ) → along axis ≡ weighted_mean p.a p.b (n - p.a - p.b) n (corner axis 0) (corner axis 1) (corner axis 2)
  along_is zero = refl
  along_is (suc zero) = refl
  along_is (suc (suc axis)) = refl

  -- it lies where the corners do
  along_between : (low high : Float) → Quarters low → Quarters high → (axis : ℕ) → corners_between low high p.face axis ≡ true → T (le low (along axis)) × T (le (along axis) high)
  unfolding corners_between
  along_between low high l h axis corners =
      let first = and_parts (lies_between low high (corner axis 0)) _ corners in
      let others = and_parts (lies_between low high (corner axis 1)) _ first.1 in
      rw (along_is axis)
      (mean_between p.a p.b (n - p.a - p.b) n some few (omega (arith, on.weights_within)) low high l h (corner axis 0) (corner axis 1) (corner axis 2)
      (within (corner axis 0) first.0) (within (corner axis 1) others.0) (within (corner axis 2) others.1))
    where
      within : (x : Float) → lies_between low high x ≡ true → Between low x high
      within x e =
          let ends = and_parts (le low x) (le x high) e in
          record { low_finite = quarters_finite low l; high_finite = quarters_finite high h; not_below = subst T (sym ends.0) tt; not_above = subst T (sym ends.1) tt }

  along_within : (axis : ℕ) → T (le (abs (along axis)) (signed_one false))
  unfolding neg
  along_within axis =
      let ends = along_between (signed_one true) (signed_one false) (one true) (one false) axis (corners_within p.face axis on.face_below) in
      abs_within (along axis) (signed_one false) ends.0 ends.1

  along_reaches : T (le (signed_quarter false) (abs (along (face_axis p.face))))
  unfolding neg on_one_side
  along_reaches =
      let axis = face_axis p.face in
      elim (or_cases (corners_between (signed_quarter false) (signed_one false) p.face axis) _ (face_on_one_side p.face on.face_below)) [
        | inl above ↦ abs_from_above (along axis) (signed_quarter false) (along_between (signed_quarter false) (signed_one false) (quarter false) (one false) axis above).0
        | inr below ↦ abs_from_below (along axis) (signed_quarter false) (along_between (signed_one true) (signed_quarter true) (one true) (quarter true) axis below).1
      ]

  mean_reaches : Reaches (signed_quarter false) (mean_point n p)
  mean_reaches = go (face_axis p.face) along_reaches
    where
      go : (axis : ℕ) → T (le (signed_quarter false) (abs (along axis))) → Reaches (signed_quarter false) (mean_point n p)
      go zero h = along_x h
      go (suc zero) h = along_y h
      go (suc (suc axis)) h = along_z h

  mean_admissible : T (admissible (mean_point n p))
  unfolding mul add le round
  mean_admissible =
      admissible_of_extent (mean_point n p) (signed_quarter false) (signed_one false) tt tt tt tt tt tt (record { x_within = along_within 0; y_within = along_within 1; z_within = along_within 2 }) mean_reaches

  pub position_admissible : T (admissible (point_position n p))
  unfolding point_position
  position_admissible = admissible_normalised (mean_point n p) mean_admissible
