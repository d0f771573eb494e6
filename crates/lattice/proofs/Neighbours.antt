-- Laws of steps and of neighbouring vertices, and that the lattice's lists are mutual, without the own vertex and without repeats. Assumes nothing.
use Rattle.std.proofs.Common.{◌≡◌, ℕ, suc, ◌+◌, ◌-◌, ◌*◌, ◌<◌, true, ◌&&◌, ◌||◌, eqb, ◌⊎◌, length, get_or, sym, refl, ap, ◌∙◌, inl, inr, arith, eq-eqb, eqb-true}
use mathlib.Core.List.{Memᴰ}
use lib.Ieee.{nan}
use Rattle.std.proofs.lemmas.Bool.{and_parts, and_from, or_cases, or_left, or_right}
use Rattle.sequences.specs.Ascending.{Ascending}
use Rattle.sequences.proofs.Range.{some_below_at, some_below_intro}
use Rattle.sequences.proofs.Starts.{concatenate_even_length, concatenate_even_at, concatenate_part}
use Rattle.sequences.proofs.Ascending.{ascending_distinct}
use Rattle.sequences.proofs.Filter.{filter_range_member, member_filter_range, filter_range_ascending}
use Rattle.vector.specs.Vector.{vector, coordinates}
use Rattle.mesh.specs.Mesh.{count, position_of, neighbours}
use Rattle.mesh.specs.Adjacency.{Mutual, NoOwnVertex, NoRepeat}
use Rattle.lattice.specs.Lattice.{LatticePoint, point_at, same_vertex, weight_at, lattice_vertices, id_of, point_position, is_step_up, is_step, are_neighbours, lattice_list, lattice_mesh}
use Rattle.lattice.specs.Appearances.{OnLattice}
use Rattle.lattice.proofs.Keys.{SameWeights, same_vertex_weights, weights_same_vertex, same_face_point}
use Rattle.lattice.proofs.Vertices.{vertex_at, vertex_on_lattice, id_of_vertex, id_same, has_id}

-- ---- "the six steps that keep a + b + c", each by the weight that falls and the weight that rises
pub data Step (a b a₁ b₁ : ℕ) : Type 0 where
  b_to_a : a₁ ≡ suc a → suc b₁ ≡ b → Step a b a₁ b₁
  c_to_a : a₁ ≡ suc a → b₁ ≡ b → Step a b a₁ b₁
  c_to_b : a₁ ≡ a → b₁ ≡ suc b → Step a b a₁ b₁
  a_to_b : a ≡ suc a₁ → suc b ≡ b₁ → Step a b a₁ b₁
  a_to_c : a ≡ suc a₁ → b ≡ b₁ → Step a b a₁ b₁
  b_to_c : a ≡ a₁ → b ≡ suc b₁ → Step a b a₁ b₁

both_equal : (p q r s : ℕ) → eqb p q && eqb r s ≡ true → (p ≡ q) × (r ≡ s)
both_equal p q r s h = let t = and_parts (eqb p q) (eqb r s) h in (eqb-true p q t.0, eqb-true r s t.1)

equal_both : (p q r s : ℕ) → p ≡ q → r ≡ s → eqb p q && eqb r s ≡ true
equal_both p q r s e d = and_from (eqb p q) (eqb r s) (eq-eqb p q e) (eq-eqb r s d)

step_up : (a b a₁ b₁ : ℕ) → is_step_up a b a₁ b₁ ≡ true
    → ((a₁ ≡ suc a) × (suc b₁ ≡ b)) ⊎ (((a₁ ≡ suc a) × (b₁ ≡ b)) ⊎ ((a₁ ≡ a) × (b₁ ≡ suc b)))
unfolding is_step_up
step_up a b a₁ b₁ h = go (or_cases (eqb a₁ (suc a) && eqb (suc b₁) b) _ h)
  where
    rest : (eqb a₁ (suc a) && eqb b₁ b ≡ true) ⊎ (eqb a₁ a && eqb b₁ (suc b) ≡ true) → ((a₁ ≡ suc a) × (suc b₁ ≡ b)) ⊎ (((a₁ ≡ suc a) × (b₁ ≡ b)) ⊎ ((a₁ ≡ a) × (b₁ ≡ suc b)))
    rest (inl e) = inr (inl (both_equal _ _ _ _ e))
    rest (inr e) = inr (inr (both_equal _ _ _ _ e))

    go : (eqb a₁ (suc a) && eqb (suc b₁) b ≡ true) ⊎ ((eqb a₁ (suc a) && eqb b₁ b) || (eqb a₁ a && eqb b₁ (suc b)) ≡ true)
        → ((a₁ ≡ suc a) × (suc b₁ ≡ b)) ⊎ (((a₁ ≡ suc a) × (b₁ ≡ b)) ⊎ ((a₁ ≡ a) × (b₁ ≡ suc b)))
    go (inl e) = inl (both_equal _ _ _ _ e)
    go (inr e) = rest (or_cases (eqb a₁ (suc a) && eqb b₁ b) (eqb a₁ a && eqb b₁ (suc b)) e)

-- the test passes exactly at these six
pub is_step_lem : (a b a₁ b₁ : ℕ) → is_step a b a₁ b₁ ≡ true → Step a b a₁ b₁
unfolding is_step
is_step_lem a b a₁ b₁ h = go (or_cases (is_step_up a b a₁ b₁) (is_step_up a₁ b₁ a b) h)
  where
    up : ((a₁ ≡ suc a) × (suc b₁ ≡ b)) ⊎ (((a₁ ≡ suc a) × (b₁ ≡ b)) ⊎ ((a₁ ≡ a) × (b₁ ≡ suc b))) → Step a b a₁ b₁
    up (inl e) = b_to_a e.0 e.1
    up (inr (inl e)) = c_to_a e.0 e.1
    up (inr (inr e)) = c_to_b e.0 e.1

    down : ((a ≡ suc a₁) × (suc b ≡ b₁)) ⊎ (((a ≡ suc a₁) × (b ≡ b₁)) ⊎ ((a ≡ a₁) × (b ≡ suc b₁))) → Step a b a₁ b₁
    down (inl e) = a_to_b e.0 e.1
    down (inr (inl e)) = a_to_c e.0 e.1
    down (inr (inr e)) = b_to_c e.0 e.1

    go : (is_step_up a b a₁ b₁ ≡ true) ⊎ (is_step_up a₁ b₁ a b ≡ true) → Step a b a₁ b₁
    go (inl e) = up (step_up a b a₁ b₁ e)
    go (inr e) = down (step_up a₁ b₁ a b e)

up_b_to_a : (a b a₁ b₁ : ℕ) → a₁ ≡ suc a → suc b₁ ≡ b → is_step_up a b a₁ b₁ ≡ true
unfolding is_step_up
up_b_to_a a b a₁ b₁ e d = or_left (eqb a₁ (suc a) && eqb (suc b₁) b) _ (equal_both _ _ _ _ e d)

up_c_to_a : (a b a₁ b₁ : ℕ) → a₁ ≡ suc a → b₁ ≡ b → is_step_up a b a₁ b₁ ≡ true
unfolding is_step_up
up_c_to_a a b a₁ b₁ e d =
    or_right (eqb a₁ (suc a) && eqb (suc b₁) b) ((eqb a₁ (suc a) && eqb b₁ b) || (eqb a₁ a && eqb b₁ (suc b)))
    (or_left (eqb a₁ (suc a) && eqb b₁ b) (eqb a₁ a && eqb b₁ (suc b)) (equal_both _ _ _ _ e d))

up_c_to_b : (a b a₁ b₁ : ℕ) → a₁ ≡ a → b₁ ≡ suc b → is_step_up a b a₁ b₁ ≡ true
unfolding is_step_up
up_c_to_b a b a₁ b₁ e d =
    or_right (eqb a₁ (suc a) && eqb (suc b₁) b) ((eqb a₁ (suc a) && eqb b₁ b) || (eqb a₁ a && eqb b₁ (suc b)))
    (or_right (eqb a₁ (suc a) && eqb b₁ b) (eqb a₁ a && eqb b₁ (suc b)) (equal_both _ _ _ _ e d))

pub step_is : (a b a₁ b₁ : ℕ) → Step a b a₁ b₁ → is_step a b a₁ b₁ ≡ true
unfolding is_step
step_is a b a₁ b₁ (b_to_a e d) = or_left _ _ (up_b_to_a a b a₁ b₁ e d)
step_is a b a₁ b₁ (c_to_a e d) = or_left _ _ (up_c_to_a a b a₁ b₁ e d)
step_is a b a₁ b₁ (c_to_b e d) = or_left _ _ (up_c_to_b a b a₁ b₁ e d)
step_is a b a₁ b₁ (a_to_b e d) = or_right (is_step_up a b a₁ b₁) _ (up_b_to_a a₁ b₁ a b e d)
step_is a b a₁ b₁ (a_to_c e d) = or_right (is_step_up a b a₁ b₁) _ (up_c_to_a a₁ b₁ a b e d)
step_is a b a₁ b₁ (b_to_c e d) = or_right (is_step_up a b a₁ b₁) _ (up_c_to_b a₁ b₁ a b e d)

step_back : (a b a₁ b₁ : ℕ) → Step a b a₁ b₁ → Step a₁ b₁ a b
step_back a b a₁ b₁ (b_to_a e d) = a_to_b e d
step_back a b a₁ b₁ (c_to_a e d) = a_to_c e d
step_back a b a₁ b₁ (c_to_b e d) = b_to_c e d
step_back a b a₁ b₁ (a_to_b e d) = b_to_a e d
step_back a b a₁ b₁ (a_to_c e d) = c_to_a e d
step_back a b a₁ b₁ (b_to_c e d) = c_to_b e d

step_moves : (a b a₁ b₁ : ℕ) → Step a b a₁ b₁ → a ≡ a₁ → b ≡ b₁ → ⊥
step_moves a b a₁ b₁ (b_to_a e d) ea eb = omega arith
step_moves a b a₁ b₁ (c_to_a e d) ea eb = omega arith
step_moves a b a₁ b₁ (c_to_b e d) ea eb = omega arith
step_moves a b a₁ b₁ (a_to_b e d) ea eb = omega arith
step_moves a b a₁ b₁ (a_to_c e d) ea eb = omega arith
step_moves a b a₁ b₁ (b_to_c e d) ea eb = omega arith

-- ---- the two points by which vertices are neighbours
pub record Adjacent (n : ℕ) (p q : LatticePoint) : Type 0 where
  pub face : ℕ
  pub a : ℕ
  pub b : ℕ
  pub a₁ : ℕ
  pub b₁ : ℕ
  pub from_on_lattice : OnLattice n (point_at face a b)
  pub to_on_lattice : OnLattice n (point_at face a₁ b₁)
  pub step : Step a b a₁ b₁
  pub from_same : SameWeights n (point_at face a b) p
  pub to_same : SameWeights n (point_at face a₁ b₁) q

-- the test for neighbours passes exactly where there are such points
pub neighbours_adjacent : (n : ℕ) (p q : LatticePoint) → OnLattice n p → OnLattice n q → are_neighbours n p q ≡ true → Adjacent n p q
unfolding are_neighbours
neighbours_adjacent n p q onp onq h =
    let f = some_below_at _ 20 h in
    let a = some_below_at _ (suc n) f.2 in
    let b = some_below_at _ (suc (n - a.0)) a.2 in
    let a₁ = some_below_at _ (suc n) b.2 in
    let b₁ = some_below_at _ (suc (n - a₁.0)) a₁.2 in
    let on-from : OnLattice n (point_at f.0 a.0 b.0) = record { face_below = f.1; weights_within = omega (arith, a.1, b.1) } in
    let on-to : OnLattice n (point_at f.0 a₁.0 b₁.0) = record { face_below = f.1; weights_within = omega (arith, a₁.1, b₁.1) } in
    let s = and_parts (is_step a.0 b.0 a₁.0 b₁.0) _ b₁.2 in
    let t = and_parts (same_vertex n (point_at f.0 a.0 b.0) p) _ s.1 in
    record {
      face = f.0;
      a = a.0;
      b = b.0;
      a₁ = a₁.0;
      b₁ = b₁.0;
      from_on_lattice = on-from;
      to_on_lattice = on-to;
      step = is_step_lem a.0 b.0 a₁.0 b₁.0 s.0;
      from_same = same_vertex_weights n _ p on-from onp t.0;
      to_same = same_vertex_weights n _ q on-to onq t.1;
    }

pub adjacent_neighbours : (n : ℕ) (p q : LatticePoint) → Adjacent n p q → are_neighbours n p q ≡ true
unfolding are_neighbours
adjacent_neighbours n p q t =
    some_below_intro _ 20 t.face t.from_on_lattice.face_below
    (some_below_intro _ (suc n) t.a (omega (arith, t.from_on_lattice.weights_within))
    (some_below_intro _ (suc (n - t.a)) t.b (omega (arith, t.from_on_lattice.weights_within))
    (some_below_intro _ (suc n) t.a₁ (omega (arith, t.to_on_lattice.weights_within))
    (some_below_intro _ (suc (n - t.a₁)) t.b₁ (omega (arith, t.to_on_lattice.weights_within))
    (and_from _ _ (step_is t.a t.b t.a₁ t.b₁ t.step)
    (and_from _ _ (weights_same_vertex n _ p t.from_same) (weights_same_vertex n _ q t.to_same)))))))

adjacent_back : (n : ℕ) (p q : LatticePoint) → Adjacent n p q → Adjacent n q p
adjacent_back n p q t = record {
  face = t.face;
  a = t.a₁;
  b = t.b₁;
  a₁ = t.a;
  b₁ = t.b;
  from_on_lattice = t.to_on_lattice;
  to_on_lattice = t.from_on_lattice;
  step = step_back t.a t.b t.a₁ t.b₁ t.step;
  from_same = t.to_same;
  to_same = t.from_same;
}

-- any point of the vertex q serves
pub adjacent_to : (n : ℕ) (p q r : LatticePoint) → Adjacent n p q → SameWeights n q r → Adjacent n p r
adjacent_to n p q r t same = record {
  face = t.face;
  a = t.a;
  b = t.b;
  a₁ = t.a₁;
  b₁ = t.b₁;
  from_on_lattice = t.from_on_lattice;
  to_on_lattice = t.to_on_lattice;
  step = t.step;
  from_same = t.from_same;
  to_same = λ k. t.to_same k ∙ same k;
}

-- a step leads to another vertex
adjacent_other : (n : ℕ) (p q : LatticePoint) → Adjacent n p q → SameWeights n p q → ⊥
adjacent_other n p q t same =
    let e : point_at t.face t.a t.b ≡ point_at t.face t.a₁ t.b₁ =
    same_face_point n _ _ t.from_on_lattice t.to_on_lattice refl (λ k. t.from_same k ∙ same k ∙ sym (t.to_same k)) in
    step_moves t.a t.b t.a₁ t.b₁ t.step (ap (λ (p : LatticePoint). p.a) e) (ap (λ (p : LatticePoint). p.b) e)

-- ---- the neighbour lists
pub list_member : (n v u : ℕ) → v < length (lattice_vertices n) → Memᴰ u (lattice_list n v) → (u < length (lattice_vertices n)) × Adjacent n (vertex_at n v) (vertex_at n u)
unfolding lattice_list
list_member n v u lt m =
    let r = filter_range_member _ _ u m in (r.0, neighbours_adjacent n _ _ (vertex_on_lattice n v lt) (vertex_on_lattice n u r.0) r.1)

-- and the other way round
pub member_list : (n v u : ℕ) → u < length (lattice_vertices n) → Adjacent n (vertex_at n v) (vertex_at n u) → Memᴰ u (lattice_list n v)
unfolding lattice_list
member_list n v u lt t = member_filter_range _ _ u lt (adjacent_neighbours n _ _ t)

-- "ascending"
pub list_ascending : (n v : ℕ) → Ascending (lattice_list n v)
unfolding lattice_list
list_ascending n v = filter_range_ascending _ _

-- u stands in v's list exactly where, on some face, a point with the id v is a step from a point with the id u
pub record ListedBy (n v u : ℕ) : Type 0 where
  pub face : ℕ
  pub a : ℕ
  pub b : ℕ
  pub a₁ : ℕ
  pub b₁ : ℕ
  pub from_on_lattice : OnLattice n (point_at face a b)
  pub to_on_lattice : OnLattice n (point_at face a₁ b₁)
  pub step : Step a b a₁ b₁
  pub from_id : id_of n (point_at face a b) ≡ v
  pub to_id : id_of n (point_at face a₁ b₁) ≡ u

-- a member is so listed
pub list_member_by : (n v u : ℕ) → v < length (lattice_vertices n) → Memᴰ u (lattice_list n v) → ListedBy n v u
list_member_by n v u lt m =
    let r = list_member n v u lt m in
    let t = r.1 in
    record {
      face = t.face;
      a = t.a;
      b = t.b;
      a₁ = t.a₁;
      b₁ = t.b₁;
      from_on_lattice = t.from_on_lattice;
      to_on_lattice = t.to_on_lattice;
      step = t.step;
      from_id = id_same n _ (vertex_at n v) t.from_same ∙ id_of_vertex n v lt;
      to_id = id_same n _ (vertex_at n u) t.to_same ∙ id_of_vertex n u r.0;
    }

-- and the other way round
pub by_list_member : (n v u : ℕ) → ListedBy n v u → Memᴰ u (lattice_list n v)
by_list_member n v u t =
    let from = has_id n _ t.from_on_lattice in
    let to = has_id n _ t.to_on_lattice in
    member_list n v u (rw t.to_id at to.below)
    (record {
      face = t.face;
      a = t.a;
      b = t.b;
      a₁ = t.a₁;
      b₁ = t.b₁;
      from_on_lattice = t.from_on_lattice;
      to_on_lattice = t.to_on_lattice;
      step = t.step;
      from_same = λ k. sym (from.same_weights k) ∙ ap (λ (w : ℕ). weight_at n (vertex_at n w) k) t.from_id;
      to_same = λ k. sym (to.same_weights k) ∙ ap (λ (w : ℕ). weight_at n (vertex_at n w) k) t.to_id;
    })

-- ---- the mesh has them
pub length_positions : (n : ℕ) → length (lattice_mesh n).positions ≡ length (lattice_vertices n) * 3
unfolding lattice_mesh
length_positions n =
    concatenate_even_length (length (lattice_vertices n)) 3 (λ v. coordinates (point_position n (vertex_at n v))) (λ v lt. refl)

-- the mesh counts the vertices
pub mesh_count : (n : ℕ) → count (lattice_mesh n) ≡ length (lattice_vertices n)
mesh_count n = rw (length_positions n) (omega arith)

-- has their positions
pub position_at : (n v : ℕ) → v < length (lattice_vertices n) → (k : ℕ) → k < 3 → get_or (lattice_mesh n).positions (v * 3 + k) nan ≡ get_or (coordinates (point_position n (vertex_at n v))) k nan
unfolding lattice_mesh
position_at n v lt k lk = concatenate_even_at (length (lattice_vertices n)) 3 (λ v. coordinates (point_position n (vertex_at n v))) (λ v lt. refl) v k nan lt lk

pub mesh_position : (n v : ℕ) → v < count (lattice_mesh n) → position_of (lattice_mesh n).positions v ≡ point_position n (vertex_at n v)
unfolding position_of
mesh_position n v lt = λ i. vector (first i) (position_at n v below 1 (omega arith) i) (position_at n v below 2 (omega arith) i)
  where
    below : v < length (lattice_vertices n)
    below = rw (mesh_count n) at lt

    first : get_or (lattice_mesh n).positions (v * 3) nan ≡ (point_position n (vertex_at n v)).x
    first = ap (λ (k : ℕ). get_or (lattice_mesh n).positions k nan) (let z : v * 3 ≡ v * 3 + 0 = omega arith in z) ∙ position_at n v below 0 (omega arith)

-- and has their lists
pub mesh_list : (n v : ℕ) → v < count (lattice_mesh n) → neighbours (lattice_mesh n) v ≡ lattice_list n v
unfolding neighbours lattice_mesh
mesh_list n v lt = concatenate_part (length (lattice_vertices n)) (lattice_list n) v (rw (mesh_count n) at lt)

list_mutual : (n v w : ℕ) → v < count (lattice_mesh n) → w < count (lattice_mesh n) → Memᴰ w (neighbours (lattice_mesh n) v) → Memᴰ v (neighbours (lattice_mesh n) w)
list_mutual n v w lv lw m =
    let r = list_member n v w (rw (mesh_count n) at lv) (rw (mesh_list n v lv) at m) in
    rw (mesh_list n w lw) (member_list n w v (rw (mesh_count n) at lv) (adjacent_back n _ _ r.1))

-- "v' stands in v's list exactly when v stands in that of v'"
pub lattice_mutual : (n : ℕ) → Mutual (lattice_mesh n)
lattice_mutual n v w lv lw = (list_mutual n v w lv lw, list_mutual n w v lw lv)

-- a step leads away, so no vertex is its own neighbour
pub lattice_no_own_vertex : (n : ℕ) → NoOwnVertex (lattice_mesh n)
lattice_no_own_vertex n v lv m = adjacent_other n _ _ (list_member n v v (rw (mesh_count n) at lv) (rw (mesh_list n v lv) at m)).1 (λ k. refl)

-- an ascending list has no repeat
pub lattice_no_repeat : (n : ℕ) → NoRepeat (lattice_mesh n)
lattice_no_repeat n v lv = rw (mesh_list n v lv) (ascending_distinct (lattice_list n v) (list_ascending n v))
