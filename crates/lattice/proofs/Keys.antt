-- Laws of keys: two points are one vertex exactly where they have the same weight on each corner; the appearances of a vertex on other faces. Assumes nothing.
use Rattle.std.proofs.Common.{◌≡◌, ℕ, ◌+◌, ◌-◌, ◌<◌, ◌≤◌, true, false, eqb, ltb, ◌⊎◌, List, [], ◌∷◌, get_or, sym, refl, ap, ◌∙◌, inl, inr, arith, eq-eqb, eqb-true}
use Rattle.std.proofs.lemmas.Bool.{and_parts, and_from, both_ways, cases_lt}
use Rattle.sequences.specs.Equality.{same_numbers}
use Rattle.sequences.specs.Tabulate.{tabulate}
use Rattle.sequences.proofs.Tabulate.{tabulate_at, tabulate_extensional}
use Rattle.icosahedron.specs.Icosahedron.{face_corner}
use Rattle.lattice.specs.Lattice.{LatticePoint, point_at, weight_on, weight_at, key_of, same_vertex}
use Rattle.lattice.specs.Appearances.{OnLattice, has_counted, has_corners, lies_on, point_with, appearance_on}
use Rattle.lattice.proofs.Corners.{DistinctCorners, corners_distinct, CornerOf, at_0, at_1, at_2, weight_on_own, weight_on_other, weight_on_none, weight_on_face, counted_cases, corner_counted, corner_or_not}

-- ---- equal keys
pub same_numbers_equal : (l r : List ℕ) → same_numbers l r ≡ true → l ≡ r
unfolding same_numbers
same_numbers_equal [] [] h = refl
same_numbers_equal [] (y ∷ ys) h = absurd (both_ways false refl h)
same_numbers_equal (x ∷ xs) [] h = absurd (both_ways false refl h)
same_numbers_equal (x ∷ xs) (y ∷ ys) h =
    let s = and_parts (eqb x y) (same_numbers xs ys) h in rw (eqb-true x y s.0, same_numbers_equal xs ys s.1) refl

equal_same_numbers : (l : List ℕ) → same_numbers l l ≡ true
unfolding same_numbers
equal_same_numbers [] = refl
equal_same_numbers (x ∷ xs) = and_from (eqb x x) (same_numbers xs xs) (eq-eqb x x refl) (equal_same_numbers xs)

key_weights : (n : ℕ) (p : LatticePoint) → key_of n p ≡ tabulate 12 (weight_at n p)
unfolding key_of
key_weights n p = refl

-- two points have the same weight on each corner
abbrev pub SameWeights : ℕ → LatticePoint → LatticePoint → Type 0
SameWeights n p q = (k : ℕ) → weight_at n p k ≡ weight_at n q k

-- ---- a point's weights on its own face's corners, and elsewhere
module _ (n : ℕ) (p : LatticePoint) (on : OnLattice n p) where
  pub weight_first : weight_at n p (face_corner p.face 0) ≡ p.a
  unfolding weight_at
  weight_first =
      let c = corners_distinct p.face on.face_below in
      omega (
        arith,
        weight_on_own (face_corner p.face 0) p.a (face_corner p.face 0) refl,
        weight_on_other (face_corner p.face 1) p.b (face_corner p.face 0) (λ e. c.differ_01 (sym e)),
        weight_on_other (face_corner p.face 2) (n - p.a - p.b) (face_corner p.face 0) (λ e. c.differ_02 (sym e)),
      )

  pub weight_second : weight_at n p (face_corner p.face 1) ≡ p.b
  unfolding weight_at
  weight_second =
      let c = corners_distinct p.face on.face_below in
      omega (
        arith,
        weight_on_other (face_corner p.face 0) p.a (face_corner p.face 1) c.differ_01,
        weight_on_own (face_corner p.face 1) p.b (face_corner p.face 1) refl,
        weight_on_other (face_corner p.face 2) (n - p.a - p.b) (face_corner p.face 1) (λ e. c.differ_12 (sym e)),
      )

  pub weight_third : weight_at n p (face_corner p.face 2) ≡ n - p.a - p.b
  unfolding weight_at
  weight_third =
      let c = corners_distinct p.face on.face_below in
      omega (
        arith,
        weight_on_other (face_corner p.face 0) p.a (face_corner p.face 2) c.differ_02,
        weight_on_other (face_corner p.face 1) p.b (face_corner p.face 2) c.differ_12,
        weight_on_own (face_corner p.face 2) (n - p.a - p.b) (face_corner p.face 2) refl,
      )

  pub weight_elsewhere : (k : ℕ) → (CornerOf p.face k → ⊥) → weight_at n p k ≡ 0
  unfolding weight_at
  weight_elsewhere k none =
      omega (
        arith,
        weight_on_other (face_corner p.face 0) p.a k (λ e. none (at_0 e)),
        weight_on_other (face_corner p.face 1) p.b k (λ e. none (at_1 e)),
        weight_on_other (face_corner p.face 2) (n - p.a - p.b) k (λ e. none (at_2 e)),
      )

  -- a corner with weight is one of the face's
  pub weight_corner : (k : ℕ) → 0 < weight_at n p k → CornerOf p.face k
  weight_corner k some = go (corner_or_not p.face k)
    where
      go : CornerOf p.face k ⊎ (CornerOf p.face k → ⊥) → CornerOf p.face k
      go (inl c) = c
      go (inr none) = absurd (let e = weight_elsewhere k none in let z : ⊥ = omega arith in z)

  pub weight_beyond : (k : ℕ) → 12 ≤ k → weight_at n p k ≡ 0
  weight_beyond k le = weight_elsewhere k (λ h. go h (corners_distinct p.face on.face_below))
    where
      go : CornerOf p.face k → DistinctCorners p.face → ⊥
      go (at_0 e) c = omega (arith, c.below_0)
      go (at_1 e) c = omega (arith, c.below_1)
      go (at_2 e) c = omega (arith, c.below_2)

-- ---- "Equal keys are one vertex"
module _ (n : ℕ) (p q : LatticePoint) where
  pub same_vertex_weights : OnLattice n p → OnLattice n q → same_vertex n p q ≡ true → SameWeights n p q
  unfolding same_vertex
  same_vertex_weights onp onq h k = go (cases_lt k 12)
    where
      go : (k < 12) ⊎ (12 ≤ k) → weight_at n p k ≡ weight_at n q k
      go (inl lt) =
          sym (tabulate_at 12 (weight_at n p) k 0 lt)
          ∙ ap (λ (l : List ℕ). get_or l k 0) (sym (key_weights n p) ∙ same_numbers_equal (key_of n p) (key_of n q) h ∙ key_weights n q)
          ∙ tabulate_at 12 (weight_at n q) k 0 lt
      go (inr le) = weight_beyond n p onp k le ∙ sym (weight_beyond n q onq k le)

  pub weights_same_vertex : SameWeights n p q → same_vertex n p q ≡ true
  unfolding same_vertex
  weights_same_vertex h =
      ap (same_numbers (key_of n p)) (key_weights n q ∙ sym (tabulate_extensional 12 (weight_at n p) (weight_at n q) (λ k lt. h k)) ∙ sym (key_weights n p))
      ∙ equal_same_numbers (key_of n p)

-- on one face the weights tell the point
pub same_face_point : (n : ℕ) (p q : LatticePoint) → OnLattice n p → OnLattice n q → p.face ≡ q.face → SameWeights n p q → p ≡ q
same_face_point n p q onp onq face same =
    rw (
      face,
      sym (weight_first n p onp) ∙ same (face_corner p.face 0) ∙ ap (λ (f : ℕ). weight_at n q (face_corner f 0)) face ∙ weight_first n q onq,
      sym (weight_second n p onp) ∙ same (face_corner p.face 1) ∙ ap (λ (f : ℕ). weight_at n q (face_corner f 1)) face ∙ weight_second n q onq,
    )
    refl

-- ---- a point of a face with given weights
module _ (n f : ℕ) (weight : ℕ → ℕ) (below : f < 20)
    (sum : weight (face_corner f 0) + weight (face_corner f 1) + weight (face_corner f 2) ≡ n) where
  pub point_with_on_lattice : OnLattice n (point_with f weight)
  unfolding point_with
  point_with_on_lattice = record { face_below = below; weights_within = omega arith }

  pub point_with_weights : ((k : ℕ) → (CornerOf f k → ⊥) → weight k ≡ 0) → (k : ℕ) → weight_at n (point_with f weight) k ≡ weight k
  unfolding point_with
  point_with_weights none k = go (corner_or_not f k)
    where
      p : LatticePoint
      p = point_at f (weight (face_corner f 0)) (weight (face_corner f 1))

      on : OnLattice n p
      on = record { face_below = below; weights_within = omega arith }

      at : CornerOf f k → weight_at n p k ≡ weight k
      at (at_0 e) = rw (← e) (weight_first n p on)
      at (at_1 e) = rw (← e) (weight_second n p on)
      at (at_2 e) = rw (← e) (weight_third n p on ∙ (let z : n - weight (face_corner f 0) - weight (face_corner f 1) ≡ weight (face_corner f 2) = omega arith in z))

      go : CornerOf f k ⊎ (CornerOf f k → ⊥) → weight_at n p k ≡ weight k
      go (inl c) = at c
      go (inr no_corner) = weight_elsewhere n p on k no_corner ∙ sym (none k no_corner)

-- ---- the faces that a point lies on
pub record LiesOn (n f : ℕ) (p : LatticePoint) : Type 0 where
  pub first : (p.a ≡ 0) ⊎ CornerOf f (face_corner p.face 0)
  pub second : (p.b ≡ 0) ⊎ CornerOf f (face_corner p.face 1)
  pub third : (n - p.a - p.b ≡ 0) ⊎ CornerOf f (face_corner p.face 2)

pub lies_on_lem : (n f : ℕ) (p : LatticePoint) → lies_on n f p ≡ true → LiesOn n f p
unfolding lies_on has_corners
lies_on_lem n f p h =
    let s = and_parts (has_counted f (ltb 0 p.a) (face_corner p.face 0)) _ h in
    let t = and_parts (has_counted f (ltb 0 p.b) (face_corner p.face 1)) (has_counted f (ltb 0 (n - p.a - p.b)) (face_corner p.face 2)) s.1 in
    record { first = counted_cases f _ _ s.0; second = counted_cases f _ _ t.0; third = counted_cases f _ _ t.1 }

-- a weight on a corner of the face, or no weight
weight_spread : (f k weight : ℕ) → f < 20 → (weight ≡ 0) ⊎ CornerOf f k
    → weight_on k weight (face_corner f 0) + weight_on k weight (face_corner f 1) + weight_on k weight (face_corner f 2) ≡ weight
weight_spread f k weight lt (inl e) =
    rw e (omega (arith, weight_on_none k (face_corner f 0), weight_on_none k (face_corner f 1), weight_on_none k (face_corner f 2)))
weight_spread f k weight lt (inr c) = weight_on_face f k weight lt c

weight_missed : (f corner weight k : ℕ) → (weight ≡ 0) ⊎ CornerOf f corner → (CornerOf f k → ⊥) → weight_on corner weight k ≡ 0
weight_missed f corner weight k (inl e) none = rw e (weight_on_none corner k)
weight_missed f corner weight k (inr c) none = weight_on_other corner weight k (λ e. none (rw e at c))

module _ (n f : ℕ) (p : LatticePoint) (on : OnLattice n p) (below : f < 20) (h : LiesOn n f p) where
  pub face_weights_sum : weight_at n p (face_corner f 0) + weight_at n p (face_corner f 1) + weight_at n p (face_corner f 2) ≡ n
  unfolding weight_at
  face_weights_sum =
      omega (
        arith,
        on.weights_within,
        weight_spread f (face_corner p.face 0) p.a below h.first,
        weight_spread f (face_corner p.face 1) p.b below h.second,
        weight_spread f (face_corner p.face 2) (n - p.a - p.b) below h.third,
      )

  pub weight_off_face : (k : ℕ) → (CornerOf f k → ⊥) → weight_at n p k ≡ 0
  unfolding weight_at
  weight_off_face k none =
      omega (
        arith,
        weight_missed f (face_corner p.face 0) p.a k h.first none,
        weight_missed f (face_corner p.face 1) p.b k h.second none,
        weight_missed f (face_corner p.face 2) (n - p.a - p.b) k h.third none,
      )

  -- the vertex appears on the face, at the point with its weights
  pub appearance_on_lattice : OnLattice n (appearance_on n f p)
  appearance_on_lattice = point_with_on_lattice n f (weight_at n p) below face_weights_sum

  pub appearance_weights : SameWeights n (appearance_on n f p) p
  appearance_weights = point_with_weights n f (weight_at n p) below face_weights_sum weight_off_face

-- a point lies on each face on which its vertex appears
pub same_weights_lies_on : (n : ℕ) (p q : LatticePoint) → OnLattice n p → OnLattice n q → SameWeights n p q → lies_on n q.face p ≡ true
unfolding lies_on has_corners
same_weights_lies_on n p q onp onq same =
    and_from _ _ (corner_counted q.face _ _ (λ pos. has_it (face_corner p.face 0) (rw (weight_first n p onp) pos)))
    (and_from _ _ (corner_counted q.face _ _ (λ pos. has_it (face_corner p.face 1) (rw (weight_second n p onp) pos)))
    (corner_counted q.face _ _ (λ pos. has_it (face_corner p.face 2) (rw (weight_third n p onp) pos))))
  where
    has_it : (k : ℕ) → 0 < weight_at n p k → CornerOf q.face k
    has_it k pos = weight_corner n q onq k (rw (same k) at pos)
