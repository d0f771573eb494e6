-- Laws of steps as moves of one unit of weight: a vertex has a neighbour for each corner with weight and each other corner that a unit can go to. Assumes nothing.
use Rattle.std.proofs.Common.{◌≡◌, ℕ, zero, suc, ◌+◌, ◌-◌, ◌/◌, ◌%◌, ◌<◌, Bool, true, false, cond, not, ◌&&◌, eqb, ◌≢◌, ◌⊎◌, sym, refl, ap, ◌∙◌, subst, inl, inr, arith}
use Rattle.std.proofs.lemmas.Bool.{and_parts, and_from, cases_eq}
use Rattle.sequences.specs.Range.{some_below}
use Rattle.sequences.specs.Search.{first_below}
use Rattle.sequences.proofs.Range.{some_below_intro}
use Rattle.sequences.proofs.Search.{first_found}
use Rattle.icosahedron.specs.Icosahedron.{face_corner}
use Rattle.lattice.specs.Lattice.{LatticePoint, point_at, weight_at, weight_on}
use Rattle.lattice.specs.Appearances.{OnLattice, has_corner, has_corners, lies_on, by_support, point_with}
use Rattle.lattice.proofs.Corners.{DistinctCorners, corners_distinct, CornerOf, at_0, at_1, at_2, weight_on_own, weight_on_other, weight_on_face, has_corner_lem, corner_has, corner_or_not}
use Rattle.lattice.proofs.Keys.{SameWeights, weight_first, weight_second, weight_third, point_with_on_lattice, point_with_weights, LiesOn, lies_on_lem, face_weights_sum, weight_off_face, appearance_on_lattice, appearance_weights, same_weights_lies_on}
use Rattle.lattice.proofs.Neighbours.{Step, b_to_a, c_to_a, c_to_b, a_to_b, a_to_c, b_to_c, Adjacent}

-- ---- steps as moves
-- Some face has the corner beside those that count, so a unit of weight can go to it.
unfoldable pub is_reached : ℕ → ℕ → Bool → Bool → Bool → Bool
is_reached corner face first second third = some_below (λ other. has_corner other corner && has_corners other face first second third) 20

-- Whether the weight at a place, 0 to 2, is not zero.
unfoldable pub support_at : Bool → Bool → Bool → ℕ → Bool
support_at first second third zero = first
support_at first second third (suc zero) = second
support_at first second third (suc (suc place)) = third

-- The steps by number: 12·place + corner takes a unit of weight from the face's corner at the place to the corner.
unfoldable pub is_move : ℕ → ℕ → Bool → Bool → Bool → Bool
is_move move face first second third =
    support_at first second third (move / 12) && (not (eqb (face_corner face (move / 12)) (move % 12)) && is_reached (move % 12) face first second third)

-- Weights after one unit went from a corner to another.
unfoldable pub moved_weight : (ℕ → ℕ) → ℕ → ℕ → ℕ → ℕ
moved_weight weight from to corner = weight corner + weight_on to 1 corner - weight_on from 1 corner

-- The point that the step leads to, on the first face that has both.
unfoldable pub moved_point : ℕ → LatticePoint → ℕ → ℕ → LatticePoint
moved_point n p from to = point_with (first_below (λ face. has_corner face to && lies_on n face p) 20) (moved_weight (weight_at n p) from to)

-- ---- weights after a move
-- q has p's weights, but for a unit that went from a corner to another
pub record Moved (n : ℕ) (p q : LatticePoint) (from to : ℕ) : Type 0 where
  pub has_weight : 0 < weight_at n p from
  pub differ : from ≢ to
  pub reached : by_support (is_reached to) n p ≡ true
  pub weights : (k : ℕ) → weight_at n q k + weight_on from 1 k ≡ weight_at n p k + weight_on to 1 k

-- ---- from a step to a move
weight_stays : (corner x y k : ℕ) → x ≡ y → weight_on corner x k ≡ weight_on corner y k
weight_stays corner x y k e = ap (λ (z : ℕ). weight_on corner z k) e

weight_rises : (corner x y k : ℕ) → y ≡ suc x → weight_on corner y k ≡ weight_on corner x k + weight_on corner 1 k
weight_rises corner x y k e = weight_stays corner y (suc x) k e ∙ go (eqb corner k)
  where
    go : (here : Bool) → cond here (suc x) 0 ≡ cond here x 0 + cond here 1 0
    go true = omega arith
    go false = refl

record UnitMoved (n face a b a₁ b₁ : ℕ) : Type 0 where
  from : ℕ
  to : ℕ
  has_weight : 0 < weight_at n (point_at face a b) from
  differ : from ≢ to
  is_corner_lem : CornerOf face to
  weights : (k : ℕ) → weight_at n (point_at face a₁ b₁) k + weight_on from 1 k ≡ weight_at n (point_at face a b) k + weight_on to 1 k

step_move : (n face a b a₁ b₁ : ℕ) → OnLattice n (point_at face a b) → OnLattice n (point_at face a₁ b₁) → Step a b a₁ b₁ → UnitMoved n face a b a₁ b₁
unfolding weight_at
step_move n face a b a₁ b₁ on on₁ (b_to_a e d) = record {
  from = face_corner face 1;
  to = face_corner face 0;
  has_weight = rw (weight_second n (point_at face a b) on) (omega (arith, on.weights_within, on₁.weights_within));
  differ = λ z. (corners_distinct face on.face_below).differ_01 (sym z);
  is_corner_lem = at_0 refl;
  weights = λ k.
      omega (
        arith,
        weight_rises (face_corner face 0) a a₁ k (let z : a₁ ≡ suc a = omega (arith, on.weights_within, on₁.weights_within) in z),
        weight_rises (face_corner face 1) b₁ b k (let z : b ≡ suc b₁ = omega (arith, on.weights_within, on₁.weights_within) in z),
        weight_stays (face_corner face 2) (n - a - b) (n - a₁ - b₁) k (let z : n - a - b ≡ n - a₁ - b₁ = omega (arith, on.weights_within, on₁.weights_within) in z),
      );
}
step_move n face a b a₁ b₁ on on₁ (c_to_a e d) = record {
  from = face_corner face 2;
  to = face_corner face 0;
  has_weight = rw (weight_third n (point_at face a b) on) (omega (arith, on.weights_within, on₁.weights_within));
  differ = λ z. (corners_distinct face on.face_below).differ_02 (sym z);
  is_corner_lem = at_0 refl;
  weights = λ k.
      omega (
        arith,
        weight_rises (face_corner face 0) a a₁ k (let z : a₁ ≡ suc a = omega (arith, on.weights_within, on₁.weights_within) in z),
        weight_stays (face_corner face 1) b b₁ k (let z : b ≡ b₁ = omega (arith, on.weights_within, on₁.weights_within) in z),
        weight_rises (face_corner face 2) (n - a₁ - b₁) (n - a - b) k (let z : n - a - b ≡ suc (n - a₁ - b₁) = omega (arith, on.weights_within, on₁.weights_within) in z),
      );
}
step_move n face a b a₁ b₁ on on₁ (c_to_b e d) = record {
  from = face_corner face 2;
  to = face_corner face 1;
  has_weight = rw (weight_third n (point_at face a b) on) (omega (arith, on.weights_within, on₁.weights_within));
  differ = λ z. (corners_distinct face on.face_below).differ_12 (sym z);
  is_corner_lem = at_1 refl;
  weights = λ k.
      omega (
        arith,
        weight_stays (face_corner face 0) a a₁ k (let z : a ≡ a₁ = omega (arith, on.weights_within, on₁.weights_within) in z),
        weight_rises (face_corner face 1) b b₁ k (let z : b₁ ≡ suc b = omega (arith, on.weights_within, on₁.weights_within) in z),
        weight_rises (face_corner face 2) (n - a₁ - b₁) (n - a - b) k (let z : n - a - b ≡ suc (n - a₁ - b₁) = omega (arith, on.weights_within, on₁.weights_within) in z),
      );
}
step_move n face a b a₁ b₁ on on₁ (a_to_b e d) = record {
  from = face_corner face 0;
  to = face_corner face 1;
  has_weight = rw (weight_first n (point_at face a b) on) (omega (arith, on.weights_within, on₁.weights_within));
  differ = (corners_distinct face on.face_below).differ_01;
  is_corner_lem = at_1 refl;
  weights = λ k.
      omega (
        arith,
        weight_rises (face_corner face 0) a₁ a k (let z : a ≡ suc a₁ = omega (arith, on.weights_within, on₁.weights_within) in z),
        weight_rises (face_corner face 1) b b₁ k (let z : b₁ ≡ suc b = omega (arith, on.weights_within, on₁.weights_within) in z),
        weight_stays (face_corner face 2) (n - a - b) (n - a₁ - b₁) k (let z : n - a - b ≡ n - a₁ - b₁ = omega (arith, on.weights_within, on₁.weights_within) in z),
      );
}
step_move n face a b a₁ b₁ on on₁ (a_to_c e d) = record {
  from = face_corner face 0;
  to = face_corner face 2;
  has_weight = rw (weight_first n (point_at face a b) on) (omega (arith, on.weights_within, on₁.weights_within));
  differ = (corners_distinct face on.face_below).differ_02;
  is_corner_lem = at_2 refl;
  weights = λ k.
      omega (
        arith,
        weight_rises (face_corner face 0) a₁ a k (let z : a ≡ suc a₁ = omega (arith, on.weights_within, on₁.weights_within) in z),
        weight_stays (face_corner face 1) b b₁ k (let z : b ≡ b₁ = omega (arith, on.weights_within, on₁.weights_within) in z),
        weight_rises (face_corner face 2) (n - a - b) (n - a₁ - b₁) k (let z : n - a₁ - b₁ ≡ suc (n - a - b) = omega (arith, on.weights_within, on₁.weights_within) in z),
      );
}
step_move n face a b a₁ b₁ on on₁ (b_to_c e d) = record {
  from = face_corner face 1;
  to = face_corner face 2;
  has_weight = rw (weight_second n (point_at face a b) on) (omega (arith, on.weights_within, on₁.weights_within));
  differ = (corners_distinct face on.face_below).differ_12;
  is_corner_lem = at_2 refl;
  weights = λ k.
      omega (
        arith,
        weight_stays (face_corner face 0) a a₁ k (let z : a ≡ a₁ = omega (arith, on.weights_within, on₁.weights_within) in z),
        weight_rises (face_corner face 1) b₁ b k (let z : b ≡ suc b₁ = omega (arith, on.weights_within, on₁.weights_within) in z),
        weight_rises (face_corner face 2) (n - a - b) (n - a₁ - b₁) k (let z : n - a₁ - b₁ ≡ suc (n - a - b) = omega (arith, on.weights_within, on₁.weights_within) in z),
      );
}

-- a neighbour is reached by a move
pub adjacent_moved : (n : ℕ) (p q : LatticePoint) → OnLattice n p → Adjacent n p q → (from : ℕ) × (to : ℕ) × Moved n p q from to
unfolding is_reached lies_on
adjacent_moved n p q on t =
    let m = step_move n t.face t.a t.b t.a₁ t.b₁ t.from_on_lattice t.to_on_lattice t.step in (
      m.from,
      m.to,
      record {
        has_weight = rw (t.from_same m.from) at m.has_weight;
        differ = m.differ;
        reached =
            some_below_intro _ 20 t.face t.from_on_lattice.face_below
            (and_from _ _ (corner_has t.face m.to m.is_corner_lem) (same_weights_lies_on n p (point_at t.face t.a t.b) on t.from_on_lattice (λ k. sym (t.from_same k))));
        weights = λ k. let e = m.weights k in let f = t.from_same k in let g = t.to_same k in omega arith;
      },
    )

-- ---- from a move to a step
module _ (face from to : ℕ) (c : DistinctCorners face) (w w₁ : ℕ → ℕ) (moved : (k : ℕ) → w₁ k + weight_on from 1 k ≡ w k + weight_on to 1 k) (differ : from ≢ to) where
  move_step : CornerOf face from → CornerOf face to → Step (w (face_corner face 0)) (w (face_corner face 1)) (w₁ (face_corner face 0)) (w₁ (face_corner face 1))
  move_step (at_0 e) (at_0 d) = absurd (differ (sym e ∙ d))
  move_step (at_0 e) (at_1 d) =
      let from-a = weight_on_own from 1 (face_corner face 0) (sym e) in
      let from-b = weight_on_other from 1 (face_corner face 1) (λ z. c.differ_01 (e ∙ z)) in
      let to-a = weight_on_other to 1 (face_corner face 0) (λ z. c.differ_01 (sym (d ∙ z))) in
      let to-b = weight_on_own to 1 (face_corner face 1) (sym d) in
      let at_a = moved (face_corner face 0) in
      let at_b = moved (face_corner face 1) in
      a_to_b (omega arith) (omega arith)
  move_step (at_0 e) (at_2 d) =
      let from-a = weight_on_own from 1 (face_corner face 0) (sym e) in
      let from-b = weight_on_other from 1 (face_corner face 1) (λ z. c.differ_01 (e ∙ z)) in
      let to-a = weight_on_other to 1 (face_corner face 0) (λ z. c.differ_02 (sym (d ∙ z))) in
      let to-b = weight_on_other to 1 (face_corner face 1) (λ z. c.differ_12 (sym (d ∙ z))) in
      let at_a = moved (face_corner face 0) in
      let at_b = moved (face_corner face 1) in
      a_to_c (omega arith) (omega arith)
  move_step (at_1 e) (at_0 d) =
      let from-a = weight_on_other from 1 (face_corner face 0) (λ z. c.differ_01 (sym (e ∙ z))) in
      let from-b = weight_on_own from 1 (face_corner face 1) (sym e) in
      let to-a = weight_on_own to 1 (face_corner face 0) (sym d) in
      let to-b = weight_on_other to 1 (face_corner face 1) (λ z. c.differ_01 (d ∙ z)) in
      let at_a = moved (face_corner face 0) in
      let at_b = moved (face_corner face 1) in
      b_to_a (omega arith) (omega arith)
  move_step (at_1 e) (at_1 d) = absurd (differ (sym e ∙ d))
  move_step (at_1 e) (at_2 d) =
      let from-a = weight_on_other from 1 (face_corner face 0) (λ z. c.differ_01 (sym (e ∙ z))) in
      let from-b = weight_on_own from 1 (face_corner face 1) (sym e) in
      let to-a = weight_on_other to 1 (face_corner face 0) (λ z. c.differ_02 (sym (d ∙ z))) in
      let to-b = weight_on_other to 1 (face_corner face 1) (λ z. c.differ_12 (sym (d ∙ z))) in
      let at_a = moved (face_corner face 0) in
      let at_b = moved (face_corner face 1) in
      b_to_c (omega arith) (omega arith)
  move_step (at_2 e) (at_0 d) =
      let from-a = weight_on_other from 1 (face_corner face 0) (λ z. c.differ_02 (sym (e ∙ z))) in
      let from-b = weight_on_other from 1 (face_corner face 1) (λ z. c.differ_12 (sym (e ∙ z))) in
      let to-a = weight_on_own to 1 (face_corner face 0) (sym d) in
      let to-b = weight_on_other to 1 (face_corner face 1) (λ z. c.differ_01 (d ∙ z)) in
      let at_a = moved (face_corner face 0) in
      let at_b = moved (face_corner face 1) in
      c_to_a (omega arith) (omega arith)
  move_step (at_2 e) (at_1 d) =
      let from-a = weight_on_other from 1 (face_corner face 0) (λ z. c.differ_02 (sym (e ∙ z))) in
      let from-b = weight_on_other from 1 (face_corner face 1) (λ z. c.differ_12 (sym (e ∙ z))) in
      let to-a = weight_on_other to 1 (face_corner face 0) (λ z. c.differ_01 (sym (d ∙ z))) in
      let to-b = weight_on_own to 1 (face_corner face 1) (sym d) in
      let at_a = moved (face_corner face 0) in
      let at_b = moved (face_corner face 1) in
      c_to_b (omega arith) (omega arith)
  move_step (at_2 e) (at_2 d) = absurd (differ (sym e ∙ d))

module _ (n : ℕ) (p : LatticePoint) (from to : ℕ) (on : OnLattice n p) (has_weight : 0 < weight_at n p from) (differ : from ≢ to) (reached : by_support (is_reached to) n p ≡ true) where
  face_of_move : ℕ
  face_of_move = first_below (λ face. has_corner face to && lies_on n face p) 20

  face_found : (face_of_move < 20) × (has_corner face_of_move to && lies_on n face_of_move p ≡ true)
  unfolding face_of_move is_reached lies_on
  face_found = first_found (λ face. has_corner face to && lies_on n face p) 20 reached

  face_lies : LiesOn n face_of_move p
  face_lies = lies_on_lem n face_of_move p (and_parts (has_corner face_of_move to) (lies_on n face_of_move p) face_found.1).1

  to_corner : CornerOf face_of_move to
  to_corner = has_corner_lem face_of_move to (and_parts (has_corner face_of_move to) (lies_on n face_of_move p) face_found.1).0

  from_corner_lem : CornerOf face_of_move from
  from_corner_lem = go (corner_or_not face_of_move from)
    where
      go : CornerOf face_of_move from ⊎ (CornerOf face_of_move from → ⊥) → CornerOf face_of_move from
      go (inl c) = c
      go (inr none) = absurd (let e = weight_off_face n face_of_move p on face_found.0 face_lies from none in let z : ⊥ = omega arith in z)

  moved_weight_lem : (k : ℕ) → moved_weight (weight_at n p) from to k + weight_on from 1 k ≡ weight_at n p k + weight_on to 1 k
  unfolding moved_weight
  moved_weight_lem k = go (cases_eq from k)
    where
      go : (from ≡ k) ⊎ (from ≢ k) → weight_at n p k + weight_on to 1 k - weight_on from 1 k + weight_on from 1 k ≡ weight_at n p k + weight_on to 1 k
      go (inl e) = let u = weight_on_own from 1 k e in let w : 0 < weight_at n p k = rw e at has_weight in omega arith
      go (inr d) = let u = weight_on_other from 1 k d in omega arith

  moved_sum :
      moved_weight (weight_at n p) from to (face_corner face_of_move 0) + moved_weight (weight_at n p) from to (face_corner face_of_move 1)
      + moved_weight (weight_at n p) from to (face_corner face_of_move 2) ≡ n
  moved_sum =
      omega (
        arith,
        face_weights_sum n face_of_move p on face_found.0 face_lies,
        weight_on_face face_of_move from 1 face_found.0 from_corner_lem,
        weight_on_face face_of_move to 1 face_found.0 to_corner,
        moved_weight_lem (face_corner face_of_move 0),
        moved_weight_lem (face_corner face_of_move 1),
        moved_weight_lem (face_corner face_of_move 2),
      )

  moved_off : (k : ℕ) → (CornerOf face_of_move k → ⊥) → moved_weight (weight_at n p) from to k ≡ 0
  moved_off k none =
      omega (
        arith,
        moved_weight_lem k,
        weight_off_face n face_of_move p on face_found.0 face_lies k none,
        weight_on_other to 1 k (λ e. none (subst (CornerOf face_of_move) e to_corner)),
      )

  pub moved_on_lattice : OnLattice n (moved_point n p from to)
  unfolding moved_point face_of_move
  moved_on_lattice = point_with_on_lattice n face_of_move (moved_weight (weight_at n p) from to) face_found.0 moved_sum

  pub moved_weights : (k : ℕ) → weight_at n (moved_point n p from to) k ≡ moved_weight (weight_at n p) from to k
  unfolding moved_point face_of_move
  moved_weights = point_with_weights n face_of_move (moved_weight (weight_at n p) from to) face_found.0 moved_sum moved_off

  pub moved_point_lem : Moved n p (moved_point n p from to) from to
  moved_point_lem = record { has_weight = has_weight; differ = differ; reached = reached; weights = λ k. let e = moved_weights k in let f = moved_weight_lem k in omega arith }

  pub moved_adjacent : Adjacent n p (moved_point n p from to)
  unfolding moved_point face_of_move point_with
  moved_adjacent = record {
    face = face_of_move;
    a = weight_at n p (face_corner face_of_move 0);
    b = weight_at n p (face_corner face_of_move 1);
    a₁ = moved_weight (weight_at n p) from to (face_corner face_of_move 0);
    b₁ = moved_weight (weight_at n p) from to (face_corner face_of_move 1);
    from_on_lattice = appearance_on_lattice n face_of_move p on face_found.0 face_lies;
    to_on_lattice = moved_on_lattice;
    step = move_step face_of_move from to (corners_distinct face_of_move face_found.0) (weight_at n p) (moved_weight (weight_at n p) from to) moved_weight_lem differ from_corner_lem to_corner;
    from_same = appearance_weights n face_of_move p on face_found.0 face_lies;
    to_same = λ k. refl;
  }

-- ---- a move is known by where it leads
pub move_unique : (n : ℕ) (p q q₁ : LatticePoint) (from to from₁ to₁ : ℕ) → Moved n p q from to → Moved n p q₁ from₁ to₁ → SameWeights n q q₁ → (from ≡ from₁) × (to ≡ to₁)
move_unique n p q q₁ from to from₁ to₁ m m₁ same = (sym (from_same (cases_eq from₁ from)), sym (to_same (cases_eq to₁ to)))
  where
    from_same : (from₁ ≡ from) ⊎ (from₁ ≢ from) → from₁ ≡ from
    from_same (inl e) = e
    from_same (inr d) =
        absurd
        (let own = weight_on_own from 1 from refl in
        let other = weight_on_other from₁ 1 from d in
        let other-to = weight_on_other to 1 from (λ e. m.differ (sym e)) in
        let w = m.weights from in let w₁ = m₁.weights from in let s = same from in let z : ⊥ = omega (arith, m.has_weight) in z)

    to_same : (to₁ ≡ to) ⊎ (to₁ ≢ to) → to₁ ≡ to
    to_same (inl e) = e
    to_same (inr d) =
        absurd
        (let own = weight_on_own to 1 to refl in
        let other = weight_on_other to₁ 1 to d in
        let other_from = weight_on_other from 1 to m.differ in
        let w = m.weights to in let w₁ = m₁.weights to in let s = same to in let z : ⊥ = omega arith in z)

-- two points that the same move leads to are one vertex
pub moved_same : (n : ℕ) (p q q₁ : LatticePoint) (from to : ℕ) → Moved n p q from to → Moved n p q₁ from to → SameWeights n q q₁
moved_same n p q q₁ from to m m₁ k = let w = m.weights k in let w₁ = m₁.weights k in omega arith
