-- Laws of the two sub-triangles of a rhombus: the corners and weights of the one that is meant, by the number 1 for up and 0 for down. Assumes nothing.
use Rattle.std.proofs.Common.{◌≡◌, ℕ, ◌+◌, ◌-◌, Bool, true, false, cond, List, [], ◌∷◌, slice_index_or, T, pos, refl, ap, add-zero}
use lib.Ieee.{Float, nan, fin, binary64, add, sub, mul, lt, fits, of_bits}
use Rattle.rounding.proofs.Neutral.{same_by_unit, difference_by_unit}
use Rattle.vector.specs.declared.Triple.{Triple}
use Rattle.binary64.specs.Constants.{one}
use Rattle.analytic.specs.declared.LatticeCoordinates.{LatticeCoordinates}
use Rattle.analytic.specs.SubTriangle.{lattice_coordinates, orientation_limit, sub_triangle}
use Rattle.analytic.specs.Location.{id_at, corner_ids}

abbrev triple_of : ℕ → ℕ → ℕ → Triple
triple_of first second third = record { first = first; second = second; third = third }

-- 1 for up and 0 for down, as a test is counted
abbrev pub count_of : Bool → ℕ
count_of true = 1
count_of false = 0

-- the two ids that both sub-triangles have, (i, j + 1) before (i + 1, j), taken in the order of the one that is meant
module _ (n : ℕ) (ids : List ℕ) (face i j : ℕ) (fu fv fw : Float) where
  abbrev id : ℕ → ℕ → ℕ
  id a b = id_at n ids face (lattice_coordinates a b)

  ordered : (up : Bool) → up ≡ lt (add binary64 (add binary64 fu fv) fw) orientation_limit
      → triple_of (slice_index_or (id i (j + 1) ∷ id (i + 1) j ∷ []) (count_of up) 0) (slice_index_or (id i (j + 1) ∷ id (i + 1) j ∷ []) (1 - count_of up) 0) (id (i + (1 - count_of up)) (j + (1 - count_of up))) ≡ corner_ids n ids face (sub_triangle i j fu fv fw)
  unfolding sub_triangle corner_ids
  ordered true e = rw (← e) (ap (λ (third : LatticeCoordinates). triple_of (id (i + 1) j) (id i (j + 1)) (id_at n ids face third)) same)
    where
      same : lattice_coordinates (i + 0) (j + 0) ≡ lattice_coordinates i j
      same = rw (add-zero i, add-zero j) refl
  ordered false e = rw (← e) refl

  pub ids_in_order : (up : Bool) (place beside_a beside_b third : ℕ) → up ≡ lt (add binary64 (add binary64 fu fv) fw) orientation_limit → place ≡ count_of up → beside_a ≡ id (i + 1) j → beside_b ≡ id i (j + 1) → third ≡ id (i + (1 - place)) (j + (1 - place))
      → triple_of (slice_index_or (beside_b ∷ beside_a ∷ []) place 0) (slice_index_or (beside_b ∷ beside_a ∷ []) (1 - place) 0) third ≡ corner_ids n ids face (sub_triangle i j fu fv fw)
  ids_in_order up place beside_a beside_b third is_up is_place is_a is_b is_third = rw (is_third, is_a, is_b, is_place) (ordered up is_up)

-- the weight of a corner: -1 * f + 1 is 1 - f, and 1 * f + -0 is f
abbrev factor_and_base : List (Float × Float)
factor_and_base = (fin true 1 (pos 0), fin false 1 (pos 0)) ∷ (fin false 1 (pos 0), fin true 0 (pos 0)) ∷ []

abbrev by_table : (Float × Float) → Float → Float
by_table t f = add binary64 t.1 (mul binary64 t.0 f)

pub weight_by_unit : (up : Bool) (f : Float) → T (fits binary64 f) → by_table (slice_index_or factor_and_base (count_of up) (nan, nan)) f ≡ cond up f (sub binary64 one f)
unfolding of_bits
weight_by_unit true f t = same_by_unit binary64 f t
weight_by_unit false f t = difference_by_unit binary64 (fin false 1 (pos 0)) f t
