-- Laws of the faces' corners: below twelve, three different ones a face. Assumes nothing.
use Rattle.std.proofs.Common.{◌≡◌, ℕ, zero, suc, ◌+◌, ◌<◌, Bool, true, false, cond, not, ◌&&◌, ◌||◌, eqb, ltb, ◌≢◌, ◌⊎◌, sym, refl, ◌∙◌, inl, inr, arith, ltb-false, ltb-true, eq-eqb, ne_eqb, eqb-true}
use borrow.Author.Tests.{eqb-false, not-true}
use Rattle.std.proofs.lemmas.Bool.{and_parts, cases_Bool, or_cases, or_left, or_right, both_ways}
use Rattle.sequences.specs.Range.{all_below}
use Rattle.sequences.proofs.Range.{all_below_at}
use Rattle.icosahedron.specs.Icosahedron.{face_corner}
use Rattle.lattice.specs.Lattice.{weight_on}
use Rattle.lattice.specs.Appearances.{has_corner, has_counted}

-- ---- one computed test of the twenty faces
well_formed : ℕ → Bool
well_formed f =
    (ltb (face_corner f 0) 12 && (ltb (face_corner f 1) 12 && ltb (face_corner f 2) 12))
    && (not (eqb (face_corner f 0) (face_corner f 1)) && (not (eqb (face_corner f 0) (face_corner f 2)) && not (eqb (face_corner f 1) (face_corner f 2))))

all_well_formed : all_below well_formed 20 ≡ true
unfolding all_below well_formed face_corner
all_well_formed = refl

pub record DistinctCorners (f : ℕ) : Type 0 where
  pub below_0 : face_corner f 0 < 12
  pub below_1 : face_corner f 1 < 12
  pub below_2 : face_corner f 2 < 12
  pub differ_01 : face_corner f 0 ≢ face_corner f 1
  pub differ_02 : face_corner f 0 ≢ face_corner f 2
  pub differ_12 : face_corner f 1 ≢ face_corner f 2

-- a face has three different corners, each one of the twelve
pub corners_distinct : (f : ℕ) → f < 20 → DistinctCorners f
unfolding well_formed
corners_distinct f lt =
    let h : well_formed f ≡ true = all_below_at well_formed 20 f all_well_formed lt in
    let s = and_parts _ _ h in
    let b = and_parts _ _ s.0 in
    let c = and_parts _ _ b.1 in
    let d = and_parts _ _ s.1 in
    let e = and_parts _ _ d.1 in
    record {
      below_0 = ltb-true _ _ b.0;
      below_1 = ltb-true _ _ c.0;
      below_2 = ltb-true _ _ c.1;
      differ_01 = eqb-false _ _ (not-true _ d.0);
      differ_02 = eqb-false _ _ (not-true _ e.0);
      differ_12 = eqb-false _ _ (not-true _ e.1);
    }

-- ---- the three places of a face
-- a corner stands at one place
pub place_unique : (f s t : ℕ) → DistinctCorners f → s < 3 → t < 3 → face_corner f s ≡ face_corner f t → s ≡ t
place_unique f zero zero c ls lt e = refl
place_unique f zero (suc zero) c ls lt e = absurd (c.differ_01 e)
place_unique f zero (suc (suc zero)) c ls lt e = absurd (c.differ_02 e)
place_unique f zero (suc (suc (suc t))) c ls lt e = absurd (let z : ⊥ = omega arith in z)
place_unique f (suc zero) zero c ls lt e = absurd (c.differ_01 (sym e))
place_unique f (suc zero) (suc zero) c ls lt e = refl
place_unique f (suc zero) (suc (suc zero)) c ls lt e = absurd (c.differ_12 e)
place_unique f (suc zero) (suc (suc (suc t))) c ls lt e = absurd (let z : ⊥ = omega arith in z)
place_unique f (suc (suc zero)) zero c ls lt e = absurd (c.differ_02 (sym e))
place_unique f (suc (suc zero)) (suc zero) c ls lt e = absurd (c.differ_12 (sym e))
place_unique f (suc (suc zero)) (suc (suc zero)) c ls lt e = refl
place_unique f (suc (suc zero)) (suc (suc (suc t))) c ls lt e = absurd (let z : ⊥ = omega arith in z)
place_unique f (suc (suc (suc s))) t c ls lt e = absurd (let z : ⊥ = omega arith in z)

-- ---- a weight on a corner
pub weight_on_own : (corner weight k : ℕ) → corner ≡ k → weight_on corner weight k ≡ weight
weight_on_own corner weight k e = rw (eq-eqb corner k e) refl

pub weight_on_other : (corner weight k : ℕ) → corner ≢ k → weight_on corner weight k ≡ 0
weight_on_other corner weight k d = rw (ne_eqb corner k d) refl

pub weight_on_none : (corner k : ℕ) → weight_on corner 0 k ≡ 0
weight_on_none corner k = go (eqb corner k)
  where
    go : (here : Bool) → ◌≡◌ {A = ℕ} (cond here 0 0) 0
    go true = refl
    go false = refl

-- ---- a corner of a face
-- which of the three it is
pub data CornerOf (f k : ℕ) : Type 0 where
  at_0 : face_corner f 0 ≡ k → CornerOf f k
  at_1 : face_corner f 1 ≡ k → CornerOf f k
  at_2 : face_corner f 2 ≡ k → CornerOf f k

pub has_corner_lem : (f k : ℕ) → has_corner f k ≡ true → CornerOf f k
unfolding has_corner
has_corner_lem f k h = go (or_cases _ _ h)
  where
    rest : (eqb (face_corner f 1) k ≡ true) ⊎ (eqb (face_corner f 2) k ≡ true) → CornerOf f k
    rest (inl e) = at_1 (eqb-true _ _ e)
    rest (inr e) = at_2 (eqb-true _ _ e)

    go : (eqb (face_corner f 0) k ≡ true) ⊎ (eqb (face_corner f 1) k || eqb (face_corner f 2) k ≡ true) → CornerOf f k
    go (inl e) = at_0 (eqb-true _ _ e)
    go (inr e) = rest (or_cases _ _ e)

pub corner_has : (f k : ℕ) → CornerOf f k → has_corner f k ≡ true
unfolding has_corner
corner_has f k (at_0 e) = or_left (eqb (face_corner f 0) k) (eqb (face_corner f 1) k || eqb (face_corner f 2) k) (eq-eqb _ _ e)
corner_has f k (at_1 e) = or_right (eqb (face_corner f 0) k) (eqb (face_corner f 1) k || eqb (face_corner f 2) k) (or_left (eqb (face_corner f 1) k) (eqb (face_corner f 2) k) (eq-eqb _ _ e))
corner_has f k (at_2 e) = or_right (eqb (face_corner f 0) k) (eqb (face_corner f 1) k || eqb (face_corner f 2) k) (or_right (eqb (face_corner f 1) k) (eqb (face_corner f 2) k) (eq-eqb _ _ e))

-- a weight that stands on one of a face's corners is the sum of what stands on the three
pub weight_on_face : (f k weight : ℕ) → f < 20 → CornerOf f k
    → weight_on k weight (face_corner f 0) + weight_on k weight (face_corner f 1) + weight_on k weight (face_corner f 2) ≡ weight
weight_on_face f k weight lt h = go h (corners_distinct f lt)
  where
    go : CornerOf f k → DistinctCorners f → weight_on k weight (face_corner f 0) + weight_on k weight (face_corner f 1) + weight_on k weight (face_corner f 2) ≡ weight
    go (at_0 e) c =
        omega (
          arith,
          weight_on_own k weight (face_corner f 0) (sym e),
          weight_on_other k weight (face_corner f 1) (λ d. c.differ_01 (e ∙ d)),
          weight_on_other k weight (face_corner f 2) (λ d. c.differ_02 (e ∙ d)),
        )
    go (at_1 e) c =
        omega (
          arith,
          weight_on_own k weight (face_corner f 1) (sym e),
          weight_on_other k weight (face_corner f 0) (λ d. c.differ_01 (sym (e ∙ d))),
          weight_on_other k weight (face_corner f 2) (λ d. c.differ_12 (e ∙ d)),
        )
    go (at_2 e) c =
        omega (
          arith,
          weight_on_own k weight (face_corner f 2) (sym e),
          weight_on_other k weight (face_corner f 0) (λ d. c.differ_02 (sym (e ∙ d))),
          weight_on_other k weight (face_corner f 1) (λ d. c.differ_12 (sym (e ∙ d))),
        )

-- ---- a corner that counts where its weight is not zero
pub counted_cases : (f k weight : ℕ) → has_counted f (ltb 0 weight) k ≡ true → (weight ≡ 0) ⊎ CornerOf f k
unfolding has_counted
counted_cases f k weight h = go (cases_Bool (ltb 0 weight)) h
  where
    go : (ltb 0 weight ≡ true) ⊎ (ltb 0 weight ≡ false) → not (ltb 0 weight) || has_corner f k ≡ true → (weight ≡ 0) ⊎ CornerOf f k
    go (inl t) g = inr (has_corner_lem f k (rw t at g))
    go (inr e) g = inl (omega (arith, ltb-false 0 weight e))

-- and the other way round
pub corner_counted : (f k weight : ℕ) → (0 < weight → CornerOf f k) → has_counted f (ltb 0 weight) k ≡ true
unfolding has_counted
corner_counted f k weight h = go (cases_Bool (ltb 0 weight))
  where
    go : (ltb 0 weight ≡ true) ⊎ (ltb 0 weight ≡ false) → not (ltb 0 weight) || has_corner f k ≡ true
    go (inl t) = or_right (not (ltb 0 weight)) (has_corner f k) (corner_has f k (h (ltb-true 0 weight t)))
    go (inr e) = rw e refl

pub corner_or_not : (f k : ℕ) → CornerOf f k ⊎ (CornerOf f k → ⊥)
corner_or_not f k = go (cases_Bool (has_corner f k))
  where
    go : (has_corner f k ≡ true) ⊎ (has_corner f k ≡ false) → CornerOf f k ⊎ (CornerOf f k → ⊥)
    go (inl t) = inl (has_corner_lem f k t)
    go (inr e) = inr (λ c. both_ways (has_corner f k) e (corner_has f k c))
