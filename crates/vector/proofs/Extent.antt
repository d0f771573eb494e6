-- How far a vector reaches along the axes, and its squared length: where no component is above a bound in magnitude, it is at most three squares of the bound (`squared_length_at_most`), and where one is at least a bound, it is at least the square (`squared_length_at_least`), as each rounding on the way keeps the order. And back. Assumes nothing.
use mathlib.Core.Path.{◌≡◌, sym, subst, ◌∙◌}
use mathlib.Core.Logic.{◌⊎◌, inl, inr}
use mathlib.Core.Bool.{true, false, true≢false}
use lib.Dec.{T}
use lib.Ieee.{Float, binary64, add, mul, div, lt, le}
use lib.Ieee.Bits.{is_true}
use lib.Ieee.Fits.{and_i, mul-fits, add-fits}
use lib.Ieee.Positive.{positive, positive-finite}
use lib.Ieee.Scale.{finite}
use Rattle.std.proofs.lemmas.Float.{le_trans}
use Rattle.binary64.specs.Absolute.{abs}
use Rattle.binary64.proofs.Absolute.{abs_finite, abs_bounded_finite, abs_of_positive, abs_div}
use Rattle.binary64.proofs.FloatOrder.{le_not_lt, le_total}
use Rattle.binary64.proofs.NotNan.{Signed, finite_number, signed_finite, square_signed, add_signed}
use Rattle.binary64.proofs.SignedOrder.{positive_not_below}
use Rattle.rounding.proofs.Exact.{first_term_at_most, second_term_at_most}
use Rattle.rounding.proofs.Monotone.{add_monotone, div_monotone, div_antitone, square_monotone}
use Rattle.vector.specs.declared.Vector3.{Vector3}
use Rattle.vector.specs.Vector.{squared_length, vector_quotient}
use Rattle.vector.specs.Direction.{admissible, least_squared_length, greatest_squared_length}
use Rattle.vector.proofs.Admissible.{Finite, admissible_by_length}

-- no component is above `most` in magnitude
pub record Within (most : Float) (v : Vector3) : Type 0 where
  pub x_within : T (le (abs v.x) most)
  pub y_within : T (le (abs v.y) most)
  pub z_within : T (le (abs v.z) most)

-- a component is at least `least` in magnitude
pub data Reaches (least : Float) (v : Vector3) : Type 0 where
  along_x : T (le least (abs v.x)) → Reaches least v
  along_y : T (le least (abs v.y)) → Reaches least v
  along_z : T (le least (abs v.z)) → Reaches least v

within_finite : {most : Float} {v : Vector3} → T (finite most) → Within most v → Finite v
within_finite {most} {v} B h = record {
  x_finite = abs_bounded_finite v.x most B h.x_within;
  y_finite = abs_bounded_finite v.y most B h.y_within;
  z_finite = abs_bounded_finite v.z most B h.z_within;
}

-- ---- the squared length, by a bound of components
-- three squares of a bound, summed from the left
abbrev pub three_squares : Float → Float
three_squares b = add binary64 (add binary64 (mul binary64 b b) (mul binary64 b b)) (mul binary64 b b)

square_at_most : (x b : Float) → T (positive b) → T (le (abs x) b) → T (le (mul binary64 x x) (mul binary64 b b))
square_at_most x b B h =
    let b-finite = positive-finite b B in
    square_monotone binary64 x b (abs_bounded_finite x b b-finite h) b-finite (rw (abs_of_positive b B) h)

square_at_least : (x b : Float) → T (finite x) → T (positive b) → T (le b (abs x)) → T (le (mul binary64 b b) (mul binary64 x x))
square_at_least x b X B h = square_monotone binary64 b x (positive-finite b B) X (rw (abs_of_positive b B) h)

either : (b x : Float) → T (positive b) → T (finite x) → T (le b (abs x)) ⊎ T (le (abs x) b)
either b x B X = le_total b (abs x) (finite_number b (positive-finite b B)) (finite_number (abs x) (abs_finite x X))

module _ (v : Vector3) where
  abbrev xSquare : Float
  xSquare = mul binary64 v.x v.x

  abbrev ySquare : Float
  ySquare = mul binary64 v.y v.y

  abbrev zSquare : Float
  zSquare = mul binary64 v.z v.z

  module _ (f : Finite v) where
    x_signed : Signed false xSquare
    x_signed = square_signed binary64 v.x (finite_number v.x f.x_finite)

    y_signed : Signed false ySquare
    y_signed = square_signed binary64 v.y (finite_number v.y f.y_finite)

    z_signed : Signed false zSquare
    z_signed = square_signed binary64 v.z (finite_number v.z f.z_finite)

    xy_signed : Signed false (add binary64 xSquare ySquare)
    xy_signed = add_signed binary64 x_signed y_signed

  module _ (b : Float) (B : T (positive b)) where
    abbrev square : Float
    square = mul binary64 b b

    squared_length_at_most : T (finite square) → T (finite (add binary64 square square)) → Within b v → T (le (squared_length v) (three_squares b))
    squared_length_at_most one-finite two_finite h =
        let f = within_finite (positive-finite b B) h in
        let x = square_at_most v.x b B h.x_within in
        let y = square_at_most v.y b B h.y_within in
        let z = square_at_most v.z b B h.z_within in
        let xy =
        add_monotone binary64 xSquare square ySquare square (signed_finite square (x_signed f) one-finite x) one-finite (signed_finite square (y_signed f) one-finite y) one-finite x y in
        add_monotone binary64 (add binary64 xSquare ySquare) (add binary64 square square) zSquare square (signed_finite (add binary64 square square) (xy_signed f) two_finite xy) two_finite
        (signed_finite square (z_signed f) one-finite z) one-finite xy z

    squared_length_at_least : Finite v → Reaches b v → T (le square (squared_length v))
    squared_length_at_least f reaches = go reaches
      where
        xy_at_most : T (le (add binary64 xSquare ySquare) (squared_length v))
        xy_at_most = first_term_at_most binary64 (add-fits binary64 xSquare ySquare) (xy_signed f) (z_signed f)

        go : Reaches b v → T (le square (squared_length v))
        go (along_x t) =
            le_trans square xSquare (squared_length v) (square_at_least v.x b f.x_finite B t)
            (le_trans xSquare (add binary64 xSquare ySquare) (squared_length v) (first_term_at_most binary64 (mul-fits binary64 v.x v.x) (x_signed f) (y_signed f)) xy_at_most)
        go (along_y t) =
            le_trans square ySquare (squared_length v) (square_at_least v.y b f.y_finite B t)
            (le_trans ySquare (add binary64 xSquare ySquare) (squared_length v) (second_term_at_most binary64 (mul-fits binary64 v.y v.y) (x_signed f) (y_signed f)) xy_at_most)
        go (along_z t) =
            le_trans square zSquare (squared_length v) (square_at_least v.z b f.z_finite B t)
            (second_term_at_most binary64 (mul-fits binary64 v.z v.z) (xy_signed f) (z_signed f))

    -- ---- and back: a short vector has no long component, and a long one has a component that is not short
    pub within_of_squared_length : Finite v → lt (squared_length v) square ≡ true → Within b v
    within_of_squared_length f short = record { x_within = go v.x f.x_finite along_x; y_within = go v.y f.y_finite along_y; z_within = go v.z f.z_finite along_z }
      where
        too_long : Reaches b v → ⊥
        too_long reaches = true≢false (sym short ∙ le_not_lt (squared_length v) square (is_true _ (squared_length_at_least f reaches)))

        go : (x : Float) → T (finite x) → (T (le b (abs x)) → Reaches b v) → T (le (abs x) b)
        go x X reaches = elim (either b x B X) [ inl long ↦ absurd (too_long (reaches long)) | inr within ↦ within ]

    pub reaches_of_squared_length : T (finite square) → T (finite (add binary64 square square)) → Finite v → lt (three_squares b) (squared_length v) ≡ true → Reaches b v
    reaches_of_squared_length one-finite two_finite f long =
        elim (either b v.x B f.x_finite) [
          | inl x ↦ along_x x
          | inr x ↦ elim (either b v.y B f.y_finite) [
            | inl y ↦ along_y y
            | inr y ↦ elim (either b v.z B f.z_finite) [ inl z ↦ along_z z | inr z ↦ absurd (too_short (record { x_within = x; y_within = y; z_within = z })) ]
          ]
        ]
      where
        too_short : Within b v → ⊥
        too_short within = true≢false (sym long ∙ le_not_lt (three_squares b) (squared_length v) (is_true _ (squared_length_at_most one-finite two_finite within)))

  -- ---- rows 5 and 9
  pub admissible_of_extent : (least most : Float) → T (positive least) → T (positive most) → T (finite (mul binary64 most most)) → T (finite (add binary64 (mul binary64 most most) (mul binary64 most most)))
      → T (le least_squared_length (mul binary64 least least)) → T (le (three_squares most) greatest_squared_length) → Within most v → Reaches least v → T (admissible v)
  admissible_of_extent least most L M one-finite two_finite low high within reaches =
      subst T (admissible_by_length v)
      (and_i (le least_squared_length (squared_length v)) (le (squared_length v) greatest_squared_length)
      (le_trans least_squared_length (mul binary64 least least) (squared_length v) low (squared_length_at_least least L (within_finite (positive-finite most M) within) reaches))
      (le_trans (squared_length v) (three_squares most) greatest_squared_length (squared_length_at_most most M one-finite two_finite within) high))

-- ---- a vector divided by what lies between two bounds
quotient_at_most : (x most divisor low : Float) → T (positive most) → T (positive divisor) → T (positive low) → T (le low divisor) → T (le (abs x) most) → T (le (abs (div binary64 x divisor)) (div binary64 most low))
quotient_at_most x most divisor low M D L h within =
    let m-finite = positive-finite most M in
    let x_finite = abs_bounded_finite x most m-finite within in
    rw (abs_div binary64 x divisor x_finite D)
    (le_trans (div binary64 (abs x) divisor) (div binary64 most divisor) (div binary64 most low)
    (div_monotone binary64 (abs x) most divisor (abs_finite x x_finite) m-finite D within)
    (div_antitone binary64 most low divisor m-finite (positive_not_below most M) L D h))

quotient_at_least : (x least divisor high : Float) → T (finite x) → T (positive least) → T (positive divisor) → T (positive high) → T (le divisor high) → T (le least (abs x)) → T (le (div binary64 least high) (abs (div binary64 x divisor)))
quotient_at_least x least divisor high X L D H h reaches =
    let l-finite = positive-finite least L in
    rw (abs_div binary64 x divisor X D)
    (le_trans (div binary64 least high) (div binary64 least divisor) (div binary64 (abs x) divisor)
    (div_antitone binary64 least divisor high l-finite (positive_not_below least L) D H h)
    (div_monotone binary64 least (abs x) divisor l-finite (abs_finite x X) D reaches))

pub quotient_within : (v : Vector3) (most divisor low : Float) → T (positive most) → T (positive divisor) → T (positive low) → T (le low divisor) → Within most v → Within (div binary64 most low) (vector_quotient v divisor)
quotient_within v most divisor low M D L h within = record {
  x_within = quotient_at_most v.x most divisor low M D L h within.x_within;
  y_within = quotient_at_most v.y most divisor low M D L h within.y_within;
  z_within = quotient_at_most v.z most divisor low M D L h within.z_within;
}

pub quotient_reaches : (v : Vector3) (least divisor high : Float) → Finite v → T (positive least) → T (positive divisor) → T (positive high) → T (le divisor high) → Reaches least v → Reaches (div binary64 least high) (vector_quotient v divisor)
quotient_reaches v least divisor high f L D H h (along_x x) = along_x (quotient_at_least v.x least divisor high f.x_finite L D H h x)
quotient_reaches v least divisor high f L D H h (along_y y) = along_y (quotient_at_least v.y least divisor high f.y_finite L D H h y)
quotient_reaches v least divisor high f L D H h (along_z z) = along_z (quotient_at_least v.z least divisor high f.z_finite L D H h z)
