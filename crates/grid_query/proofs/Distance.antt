-- Laws of the squared distance. Assumes nothing.
use Rattle.std.proofs.Common.{◌≡◌, ℕ, ◌+◌, ◌*◌, ◌^◌, ◌<◌, ◌≤◌, true, false, T, pos, List, ◌⊎◌, inl, inr, true≢false, refl, sym, ap, ◌∙◌, subst, lt_irrefl, arith, le-ltb}
use Rattle.std.proofs.lemmas.Bool.{cases_Bool, cases_lt}
use lib.Ieee.{Float, Format, nan, fin, binary64, up, down, mul, add, lt, fits, to_bits, is_nan}
use lib.Ieee.Bits.{to_bits-lt}
use lib.Ieee.Fits.{add-fits}
use Rattle.binary64.specs.Minimum.{is_zero, minimum_number, below_or_negative_zero}
use Rattle.binary64.specs.TotalOrder.{rank_of, rank_of_bits}
use Rattle.binary64.proofs.MinimumRank.{second_by_rank}
use Rattle.binary64.proofs.Nan.{only_nan}
use Rattle.binary64.proofs.NotNan.{Signed, infinite, number, square_signed, add_signed}
use Rattle.binary64.proofs.TotalOrder.{rank_negative, rank_positive}
use Rattle.vector.specs.declared.Vector3.{Vector3}
use Rattle.vector.specs.Vector.{squared_length, vector_difference, normalized}
use Rattle.vector.specs.Direction.{admissible}
use Rattle.vector.proofs.Admissible.{admissible_parts}
use Rattle.vector.proofs.NotNan.{squared_length_not_nan, difference_not_nan, normalized_not_nan}
use Rattle.mesh.specs.Mesh.{position_of}
use Rattle.grid_query.specs.Nearest.{squared_distance}

pub squared_distance_fits : (positions : List Float) (direction : Vector3) (v : ℕ) → T (fits binary64 (squared_distance positions direction v))
unfolding squared_distance
squared_distance_fits positions direction v = add-fits binary64 _ _

-- the distance of one position, wherever it is stored
pub same_squared_distance : (positions positions₁ : List Float) (direction : Vector3) (v w : ℕ) → position_of positions₁ w ≡ position_of positions v
    → squared_distance positions₁ direction w ≡ squared_distance positions direction v
unfolding squared_distance
same_squared_distance positions positions₁ direction v w e = ap (λ (a : Vector3). squared_length (vector_difference direction a)) e

-- A direction that row 9 lets pass, normalised, is at a distance from a position that row 5 lets pass.
pub squared_distance_not_nan : (positions : List Float) (direction : Vector3) (v : ℕ) → admissible direction ≡ true → admissible (position_of positions v) ≡ true
    → is_nan (squared_distance positions (normalized direction) v) ≡ false
unfolding squared_distance
squared_distance_not_nan positions direction v h k =
    squared_length_not_nan (vector_difference (normalized direction) (position_of positions v))
    (difference_not_nan (normalized direction) (position_of positions v) (normalized_not_nan direction (subst T (sym h) tt)) (admissible_parts (position_of positions v) (subst T (sym k) tt)).components)

-- ---- its sign
-- a NaN, or of the sign +
abbrev NotNegative : Float → Type 0
NotNegative x = (x ≡ nan) ⊎ Signed false x

square_not_negative : (f : Format) (x : Float) → NotNegative (mul f x x)
unfolding mul
square_not_negative f x = elim (cases_Bool (is_nan x)) [ inl e ↦ inl (rw (only_nan x e) refl) | inr e ↦ inr (square_signed f x e) ]

add_not_negative : (f : Format) {x y : Float} → NotNegative x → NotNegative y → NotNegative (add f x y)
unfolding add
add_not_negative f (inl e) k = inl (rw e refl)
add_not_negative f (inr infinite) (inl e) = inl (rw e refl)
add_not_negative f (inr (number m d)) (inl e) = inl (rw e refl)
add_not_negative f (inr h) (inr k) = inr (add_signed f h k)

signed_number : (x : Float) → NotNegative x → is_nan x ≡ false → Signed false x
unfolding is_nan
signed_number x (inl e) h = absurd (true≢false (ap is_nan (sym e) ∙ h))
signed_number x (inr signed) h = signed

-- so its sign is +, whatever the direction and the position
squared_distance_signed : (positions : List Float) (direction : Vector3) (v : ℕ) → is_nan (squared_distance positions direction v) ≡ false → Signed false (squared_distance positions direction v)
unfolding squared_distance
squared_distance_signed positions direction v not-nan =
    signed_number (squared_distance positions direction v) (add_not_negative binary64 (add_not_negative binary64 (square_not_negative binary64 _) (square_not_negative binary64 _)) (square_not_negative binary64 _)) not-nan

-- ---- its rank is 2 ^ 63 above its bits
not_below_zero : {x : Float} → Signed false x → lt x (fin false 0 (pos 0)) ≡ false
unfolding lt
not_below_zero infinite = refl
not_below_zero (number m e) = le-ltb (m * up e * 1) (0 * 1 * down e) (omega arith)

no_negative_zero : {x : Float} → Signed false x → is_zero true x ≡ false
no_negative_zero infinite = refl
no_negative_zero (number m e) = refl

-- what is no −0 has no lesser rank than a number that it is not below
rank_not_below : (x y : Float) → T (fits binary64 x) → T (fits binary64 y) → is_zero true x ≡ false → is_nan y ≡ false → lt x y ≡ false → rank_of y ≤ rank_of x
unfolding minimum_number below_or_negative_zero
rank_not_below x y fx fy positive not-nan h = go (cases_lt (rank_of x) (rank_of y))
  where
    go : (rank_of x < rank_of y) ⊎ (rank_of y ≤ rank_of x) → rank_of y ≤ rank_of x
    go (inr le) = le
    go (inl l) =
        let same : x ≡ y = second_by_rank y x fy fx l ∙ rw (not-nan, h, positive) refl in
        absurd (lt_irrefl (rank_of y) (subst (λ (z : Float). rank_of z < rank_of y) same l))

zero_ranks : rank_of (fin false 0 (pos 0)) ≡ 2 ^ 63
unfolding rank_of rank_of_bits to_bits
zero_ranks = refl

signed_bits : (x : Float) → T (fits binary64 x) → Signed false x → to_bits binary64 x < 2 ^ 63
unfolding rank_of fits is_nan
signed_bits x held signed = elim (cases_lt (to_bits binary64 x) (2 ^ 63)) [
  | inl low ↦ low
  | inr high ↦
      let above = rank_not_below x (fin false 0 (pos 0)) held tt (no_negative_zero signed) refl (not_below_zero signed) in
      absurd (let z : ⊥ = omega (arith, to_bits-lt binary64 x held, rank_negative (to_bits binary64 x) high, zero_ranks, above) in z)
]

pub squared_distance_ranks : (positions : List Float) (direction : Vector3) (v : ℕ) → is_nan (squared_distance positions direction v) ≡ false
    → rank_of (squared_distance positions direction v) ≡ 2 ^ 63 + to_bits binary64 (squared_distance positions direction v)
unfolding rank_of
squared_distance_ranks positions direction v not-nan =
    rank_positive (to_bits binary64 (squared_distance positions direction v))
    (signed_bits (squared_distance positions direction v) (squared_distance_fits positions direction v) (squared_distance_signed positions direction v not-nan))
