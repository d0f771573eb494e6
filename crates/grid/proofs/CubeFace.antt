-- Laws of the dominant axis: magnitudes that keep a negative zero compare as absolute values do. Of the faces a point is in front of: at most `three_faces`. Assumes nothing.
use Rattle.std.proofs.Common.{◌≡◌, ℕ, zero, suc, ◌+◌, ◌*◌, ◌<◌, ◌≤◌, Bool, true, false, cond, ◌&&◌, ◌||◌, eqb, ltb, ◌⊎◌, ℤ, sym, refl, ap, ◌∙◌, inl, inr, mul-pos, zero-add, zero-mul, arith, le-ltb, lt-ltb, ne_eqb}
use mathlib.Core.Bool.{false≢true}
use lib.Ieee.{Float, nan, inf, fin, neg, lt, le, up, down, below, level, of_bits}
use lib.Ieee.Fits.{up_pos}
use Rattle.sequences.specs.Range.{sum_below}
use Rattle.binary64.specs.Absolute.{abs}
use Rattle.vector.specs.declared.Vector3.{Vector3}
use Rattle.binary64.specs.Constants.{positive_zero}
use Rattle.grid.specs.CubeFace.{face_projection}

-- ---- a comparison does not see the sign of a zero
zero_left : (t : Bool) (a b : ℕ) → a ≡ 0 → (below true a t b || level true a t b) ≡ (below false a t b || level false a t b)
zero_left false zero zero h = refl
zero_left false zero (suc b) h = ap (λ (k : ℕ). ltb 0 k || level true 0 false (suc b)) (zero-add (suc b))
zero_left true zero zero h = refl
zero_left true zero (suc b) h = ap (λ (t : Bool). t || level true 0 true (suc b)) (le-ltb (suc b) 0 (omega arith))
zero_left t (suc a) b h = absurd (let y : ⊥ = omega arith in y)

zero_right : (s : Bool) (a b : ℕ) → b ≡ 0 → (below s a true b || level s a true b) ≡ (below s a false b || level s a false b)
zero_right false zero zero h = refl
zero_right false (suc a) zero h =
    let no-equal : eqb (suc a) 0 ≡ false = ne_eqb (suc a) 0 (λ e. omega arith) in
    let no_less : ltb (suc a) 0 ≡ false = le-ltb (suc a) 0 (omega arith) in
    (λ i. no-equal i && no-equal i) ∙ sym (λ i. no_less i || (no-equal i && true))
zero_right true zero zero h = refl
zero_right true (suc a) zero h =
    let less : ltb 0 (suc a) ≡ true = lt-ltb 0 (suc a) (omega arith) in
    let same : ltb 0 (suc a + 0) ≡ true = lt-ltb 0 (suc a + 0) (omega arith) in
    (λ i. less i || level true (suc a) true 0) ∙ sym (λ i. same i || level true (suc a) false 0)
zero_right s a (suc b) h = absurd (let y : ⊥ = omega arith in y)

no_size : (u d : ℕ) → 0 * u * d ≡ 0
no_size u d = ap (λ (k : ℕ). k * d) (zero-mul u) ∙ zero-mul d

le_zero_left : (e : ℤ) (y : Float) → le (fin true 0 e) y ≡ le (fin false 0 e) y
unfolding le
le_zero_left e nan = refl
le_zero_left e (inf t) = refl
le_zero_left e (fin t n d) = zero_left t (0 * up e * down d) (n * up d * down e) (no_size (up e) (down d))

le_zero_right : (e : ℤ) (x : Float) → le x (fin true 0 e) ≡ le x (fin false 0 e)
unfolding le
le_zero_right e nan = refl
le_zero_right e (inf s) = refl
le_zero_right e (fin s m d) = zero_right s (m * up d * down e) (0 * up e * down d) (no_size (up e) (down d))

-- ---- a magnitude by a test is the absolute value, or a negative zero
abbrev pub magnitude_by_test : Float → Float
magnitude_by_test x = cond (lt x positive_zero) (neg x) x

abbrev Magnitude : Float → Type 0
Magnitude x = (magnitude_by_test x ≡ abs x) ⊎ ((e : ℤ) × (magnitude_by_test x ≡ fin true 0 e) × (abs x ≡ fin false 0 e))

magnitude_cases : (x : Float) → Magnitude x
unfolding abs lt neg of_bits
magnitude_cases nan = inl refl
magnitude_cases (inf false) = inl refl
magnitude_cases (inf true) = inl refl
magnitude_cases (fin false m e) =
    let test : ltb (m * up e * 1) (0 * 1 * down e) ≡ false = le-ltb (m * up e * 1) (0 * 1 * down e) (omega (arith, no_size 1 (down e))) in
    inl (rw test refl)
magnitude_cases (fin true zero e) =
    let test : ltb 0 (0 * up e * 1 + 0 * 1 * down e) ≡ false = le-ltb 0 (0 * up e * 1 + 0 * 1 * down e) (omega (arith, no_size (up e) 1, no_size 1 (down e))) in
    inr (e, rw test refl, refl)
magnitude_cases (fin true (suc m) e) =
    let size : 0 < suc m * up e = mul-pos {m = suc m} {n = up e} (omega arith) (up_pos e) in
    let test : ltb 0 (suc m * up e * 1 + 0 * 1 * down e) ≡ true = lt-ltb 0 (suc m * up e * 1 + 0 * 1 * down e) (omega arith) in
    inl (rw test refl)

left_alike : (x y : Float) → Magnitude x → le (magnitude_by_test x) y ≡ le (abs x) y
left_alike x y (inl e) = ap (λ (z : Float). le z y) e
left_alike x y (inr z) = ap (λ (k : Float). le k y) z.1 ∙ le_zero_left z.0 y ∙ ap (λ (k : Float). le k y) (sym z.2)

right_alike : (x y : Float) → Magnitude y → le x (magnitude_by_test y) ≡ le x (abs y)
right_alike x y (inl e) = ap (λ (z : Float). le x z) e
right_alike x y (inr z) = ap (λ (k : Float). le x k) z.1 ∙ le_zero_right z.0 x ∙ ap (λ (k : Float). le x k) (sym z.2)

pub magnitudes_compare : (x y : Float) → le (magnitude_by_test x) (magnitude_by_test y) ≡ le (abs x) (abs y)
magnitudes_compare x y = left_alike x (magnitude_by_test y) (magnitude_cases x) ∙ right_alike (abs x) y (magnitude_cases y)

-- ---- of two opposite faces a point is in front of one at most
-- of a number and its negation at most one is above 0
not_both : (x : Float) → lt positive_zero x ≡ true → lt positive_zero (neg x) ≡ false
unfolding lt neg of_bits
not_both nan h = absurd (false≢true h)
not_both (inf true) h = absurd (false≢true h)
not_both (inf false) h = refl
not_both (fin true m e) h = absurd (false≢true h)
not_both (fin false m e) h = refl

module _ (v : Vector3) (each : ℕ → ℕ) (most : ℕ) (few : (face : ℕ) → each face ≤ most) (none : (face : ℕ) → lt positive_zero (face_projection face v).d ≡ false → each face ≡ 0) where
  abbrev in_front : ℕ → Bool
  in_front face = lt positive_zero (face_projection face v).d

  opposite_most : (face other : ℕ) → (in_front face ≡ true → in_front other ≡ false) → each face + each other ≤ most
  opposite_most face other apart = go (in_front face) refl
    where
      go : (b : Bool) → in_front face ≡ b → each face + each other ≤ most
      go true e = omega (arith, few face, none other (apart e))
      go false e = omega (arith, few other, none face e)

  -- what is nothing behind a face, and on each at most so much, is at most three times that on all six
  pub three_faces : sum_below each 6 ≤ 3 * most
  unfolding sum_below face_projection
  three_faces = omega (arith, opposite_most 0 1 (not_both v.x), opposite_most 2 3 (not_both v.y), opposite_most 4 5 (not_both v.z))
