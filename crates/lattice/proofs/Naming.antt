-- Laws of namings, of the points in their order and of the six steps, as a program looks them up. Assumes nothing.
use Rattle.std.proofs.Common.{◌≡◌, ℕ, zero, suc, ◌+◌, ◌-◌, ◌*◌, ◌/◌, ◌%◌, ◌<◌, ◌≤◌, Bool, true, false, cond, eqb, ltb, ◌≢◌, ◌⊎◌, List, length, get_or, take, sym, refl, ap, ◌∙◌, subst, inl, inr, add-mul, add-one, arith, get_or-take, le-ltb, lt-ltb, eq-eqb, ne_eqb}
use Rattle.std.proofs.lemmas.Bool.{cases_Bool, cases_lt, cases_eq}
use Rattle.sequences.specs.Starts.{start_of}
use Rattle.sequences.proofs.Tabulate.{length_tabulate}
use Rattle.sequences.proofs.Starts.{start_suc, start_zero, length_concatenate}
use Rattle.sequences.proofs.Range.{last_or_below}
use Rattle.icosahedron.specs.Icosahedron.{face_corner}
use Rattle.icosahedron.specs.Slots.{slot_of, slots_per_face}
use Rattle.icosahedron.proofs.Slots.{slots_per_face_le}
use Rattle.lattice.specs.Lattice.{LatticePoint, point_at, lattice_points, lattice_vertices, id_of, id_table}
use Rattle.lattice.specs.Appearances.{OnLattice, is_first_appearance}
use Rattle.lattice.specs.Shared.{corner_at, edge_at, first_corner, other_edge, firsts_before}
use Rattle.lattice.specs.Naming.{place_of, corner_naming, edge_naming, naming}
use Rattle.lattice.specs.Lent.{HoldsIdTable}
use Rattle.lattice.proofs.Corners.{corners_distinct, place_unique}
use Rattle.lattice.proofs.Points.{row_points}
use Rattle.lattice.proofs.Vertices.{vertex_at, id_below, id_same, earlier_appearance}
use Rattle.lattice.proofs.PointKinds.{corner_on_lattice, edge_on_lattice}
use Rattle.lattice.proofs.SharedFaces.{FirstCornerFace, OtherEdgeFace, interior_first, corner_first_face, corner_id, edge_other_face, edge_id}
use Rattle.lattice.proofs.Order.{point_number, firsts_before_suc, first_id, first_vertex_at}
use Rattle.lattice.proofs.Slots.{id_table_at, row_start, point_place, place_earlier, length_points, length_face_points}

-- ---- the order of the places: a row's points, its face's rows and the faces one behind another
pub place_first : (n : ℕ) → place_of n (point_at 0 0 0) ≡ 0
unfolding place_of
place_first n = let e = row_start n 0 0 0 (omega arith) in let z = start_zero (row_points n 0) in omega arith

pub place_next : (n face a b : ℕ) → place_of n (point_at face a (b + 1)) ≡ place_of n (point_at face a b) + 1
unfolding place_of slot_of
place_next n face a b = omega arith

-- the places of a row end where those of the next begin
pub place_next_row : (n face a b : ℕ) → a ≤ n → b ≡ n - a + 1 → place_of n (point_at face a b) ≡ place_of n (point_at face (a + 1) 0)
unfolding place_of
place_next_row n face a b le end =
    let e = row_start n face a b (omega arith) in
    let f = row_start n face (a + 1) 0 (omega arith) in
    let s : start_of (row_points n face) (a + 1) ≡ start_of (row_points n face) a + length (row_points n face a) = ap (start_of (row_points n face)) (add-one a) ∙ start_suc (row_points n face) a in
    let r = length_tabulate (suc (n - a)) (λ b. point_at face a b) in
    omega arith

-- and those of a face where those of the next begin
pub place_next_face : (n face a : ℕ) → a ≡ n + 1 → place_of n (point_at face a 0) ≡ place_of n (point_at (face + 1) 0 0)
unfolding place_of
place_next_face n face a end =
    let e = row_start n face a 0 (omega arith) in
    let f = row_start n (face + 1) 0 0 (omega arith) in
    let z = start_zero (row_points n (face + 1)) in
    let all : start_of (row_points n face) a ≡ slots_per_face n = ap (start_of (row_points n face)) (end ∙ add-one n) ∙ sym (length_concatenate (suc n) (row_points n face)) ∙ length_face_points n face in
    let m : (face + 1) * slots_per_face n ≡ face * slots_per_face n + slots_per_face n = simp add-mul (omega arith) in
    omega arith

pub place_last : (n face : ℕ) → face ≡ 20 → place_of n (point_at face 0 0) ≡ 20 * slots_per_face n
unfolding place_of
place_last n face end = let f = row_start n face 0 0 (omega arith) in let z = start_zero (row_points n face) in let m : face * slots_per_face n ≡ 20 * slots_per_face n = ap (λ (k : ℕ). k * slots_per_face n) end in omega arith

-- a point of the face that a loop's index names
pub point_on_face : {q : LatticePoint} {face index a b : ℕ} → face ≡ index → q ≡ point_at face a b → q ≡ point_at index a b
point_on_face e h = rw (← e) h

pub place_limit : (n : ℕ) (p : LatticePoint) → n ≤ 80 → OnLattice n p → place_of n p < 66420
unfolding place_of
place_limit n p le on =
    let before = place_earlier n p.face 20 p.a p.b on.face_below on.weights_within in
    let s = slots_per_face_le n le in
    omega arith

pub place_below : (n : ℕ) (p : LatticePoint) → OnLattice n p → place_of n p < 20 * slots_per_face n
unfolding place_of
place_below n p on = place_earlier n p.face 20 p.a p.b on.face_below on.weights_within

-- ---- the point at a place of the order
module _ {n : ℕ} {p : LatticePoint} {place : ℕ} (on : OnLattice n p) (here : place ≡ place_of n p) where
  pub at_point : point_number n place ≡ p
  unfolding place_of
  at_point = ap (point_number n) here ∙ point_place n p.face p.a p.b (point_at 0 0 0) on.face_below on.weights_within

  place_listed : place < length (lattice_points n)
  place_listed = rw (length_points n, here) (place_below n p on)

-- ---- a vertex's first appearance by the tables
pub record Names (n : ℕ) (q p : LatticePoint) : Type 0 where
  pub on_lattice : OnLattice n q
  pub same_id : id_of n q ≡ id_of n p
  pub place_at_most : place_of n q ≤ place_of n p
  -- a point is new exactly where it is named itself
  pub new_where_own : is_first_appearance n p ≡ eqb (place_of n q) (place_of n p)

names_own : (n : ℕ) (q p : LatticePoint) → OnLattice n p → q ≡ p → is_first_appearance n p ≡ true → Names n q p
names_own n q p on e h = rw e (record { on_lattice = on; same_id = refl; place_at_most = omega arith; new_where_own = h ∙ sym (eq-eqb (place_of n p) (place_of n p) refl) })

names_earlier : (n : ℕ) (q p : LatticePoint) → OnLattice n q → id_of n q ≡ id_of n p → q.face < p.face → is_first_appearance n p ≡ false → Names n q p
unfolding place_of
names_earlier n q p on e lt h =
    let before = place_earlier n q.face p.face q.a q.b lt on.weights_within in
    record { on_lattice = on; same_id = e; place_at_most = omega arith; new_where_own = h ∙ sym (ne_eqb (place_of n q) (place_of n p) (λ z. let y : ⊥ = omega arith in y)) }

corner_face : (n f s : ℕ) → (corner_at n f s).face ≡ f
unfolding corner_at
corner_face n f zero = refl
corner_face n f (suc zero) = refl
corner_face n f (suc (suc s)) = refl

edge_face : (n f s w : ℕ) → (edge_at n f s w).face ≡ f
unfolding edge_at
edge_face n f zero w = refl
edge_face n f (suc zero) w = refl
edge_face n f (suc (suc s)) w = refl

corner_names : (n f s : ℕ) → 1 ≤ n → f < 20 → s < 3 → Names n (corner_naming n f s) (corner_at n f s)
unfolding corner_naming
corner_names n f s le fb sb = go (cases_eq (first_corner f s / 3) f)
  where
    r : FirstCornerFace f s
    r = corner_first_face f s fb sb

    go : (first_corner f s / 3 ≡ f) ⊎ (first_corner f s / 3 ≢ f) → Names n (corner_at n (first_corner f s / 3) (first_corner f s % 3)) (corner_at n f s)
    go (inl e) =
        let place : first_corner f s % 3 ≡ s = place_unique f (first_corner f s % 3) s (corners_distinct f fb) (omega arith) sb (ap (λ (g : ℕ). face_corner g (first_corner f s % 3)) (sym e) ∙ r.same_corner) in
        names_own n _ _ (corner_on_lattice n f fb s) (rw (e, place) refl) (r.new_where_first n le ∙ eq-eqb _ _ e)
    go (inr d) =
        names_earlier n _ _ (corner_on_lattice n (first_corner f s / 3) (omega (arith, r.face_at_most)) (first_corner f s % 3)) (sym (corner_id n f s le fb sb))
        (rw (corner_face n (first_corner f s / 3) (first_corner f s % 3), corner_face n f s) (omega (arith, r.face_at_most))) (r.new_where_first n le ∙ ne_eqb _ _ d)

edge_names : (n f s w : ℕ) → f < 20 → s < 3 → 0 < w → w < n → Names n (edge_naming n f s w) (edge_at n f s w)
unfolding edge_naming
edge_names n f s w fb sb pos lt = go (cases_lt f (other_edge f s / 3))
  where
    r : OtherEdgeFace f s
    r = edge_other_face f s fb sb

    go : (f < other_edge f s / 3) ⊎ (other_edge f s / 3 ≤ f)
        → Names n (cond (ltb f (other_edge f s / 3)) (edge_at n f s w) (edge_at n (other_edge f s / 3) (other_edge f s % 3) (n - w))) (edge_at n f s w)
    go (inl l) = rw (lt-ltb _ _ l) (names_own n _ _ (edge_on_lattice n f fb s w (omega arith)) refl (r.new_where_first n w pos lt ∙ lt-ltb _ _ l))
    go (inr ge) =
        let differs = r.face_differs in
        rw (le-ltb _ _ ge)
        (names_earlier n _ _ (edge_on_lattice n (other_edge f s / 3) r.face_below (other_edge f s % 3) (n - w) (omega arith)) (sym (edge_id n f s w fb sb (omega arith)))
        (rw (edge_face n (other_edge f s / 3) (other_edge f s % 3) (n - w), edge_face n f s w) (omega arith)) (r.new_where_first n w pos lt ∙ le-ltb _ _ ge))

point_is : (p : LatticePoint) (a b : ℕ) → p.a ≡ a → p.b ≡ b → point_at p.face a b ≡ p
point_is p a b e d = rw (← e, ← d) refl

-- the naming that a program finds is one
pub naming_names : (n : ℕ) (p : LatticePoint) → 1 ≤ n → OnLattice n p → Names n (naming n p) p
unfolding naming corner_at edge_at
naming_names n p le on = go (cases_eq p.a 0) (cases_eq p.b 0) (cases_eq (p.a + p.b) n)
  where
    within : p.a + p.b ≤ n
    within = on.weights_within

    go : (p.a ≡ 0) ⊎ (p.a ≢ 0) → (p.b ≡ 0) ⊎ (p.b ≢ 0) → (p.a + p.b ≡ n) ⊎ (p.a + p.b ≢ n) → Names n (naming n p) p
    go (inl a) (inl b) c = rw (eq-eqb _ 0 a, eq-eqb _ 0 b) (subst (Names n (corner_naming n p.face 2)) (point_is p 0 0 a b) (corner_names n p.face 2 le on.face_below (omega arith)))
    go (inl a) (inr b) (inl c) = rw (eq-eqb _ 0 a, ne_eqb _ 0 b, eq-eqb _ _ c) (subst (Names n (corner_naming n p.face 1)) (point_is p 0 n a (omega arith)) (corner_names n p.face 1 le on.face_below (omega arith)))
    go (inl a) (inr b) (inr c) = rw (eq-eqb _ 0 a, ne_eqb _ 0 b, ne_eqb _ _ c) (subst (Names n (edge_naming n p.face 0 p.b)) (point_is p 0 p.b a refl) (edge_names n p.face 0 p.b on.face_below (omega arith) (omega arith) (omega arith)))
    go (inr a) (inl b) (inl c) = rw (ne_eqb _ 0 a, eq-eqb _ 0 b, eq-eqb _ _ c) (subst (Names n (corner_naming n p.face 0)) (point_is p n 0 (omega arith) b) (corner_names n p.face 0 le on.face_below (omega arith)))
    go (inr a) (inl b) (inr c) = rw (ne_eqb _ 0 a, eq-eqb _ 0 b, ne_eqb _ _ c) (subst (Names n (edge_naming n p.face 1 (n - p.a))) (point_is p (n - (n - p.a)) 0 (omega arith) b) (edge_names n p.face 1 (n - p.a) on.face_below (omega arith) (omega arith) (omega arith)))
    go (inr a) (inr b) (inl c) = rw (ne_eqb _ 0 a, ne_eqb _ 0 b, eq-eqb _ _ c) (subst (Names n (edge_naming n p.face 2 p.a)) (point_is p p.a (n - p.a) refl (omega arith)) (edge_names n p.face 2 p.a on.face_below (omega arith) (omega arith) (omega arith)))
    go (inr a) (inr b) (inr c) = rw (ne_eqb _ 0 a, ne_eqb _ 0 b, ne_eqb _ _ c) (names_own n p p on refl (interior_first n p on.face_below (omega arith) (omega arith) (omega arith)))

pub point_at_place : (n : ℕ) (p : LatticePoint) → OnLattice n p → point_number n (place_of n p) ≡ p
unfolding place_of
point_at_place n p on = point_place n p.face p.a p.b (point_at 0 0 0) on.face_below on.weights_within

place_before : (n : ℕ) (q p : LatticePoint) → OnLattice n q → q.face < p.face → place_of n q < place_of n p
unfolding place_of
place_before n q p on lt = let before = place_earlier n q.face p.face q.a q.b lt on.weights_within in omega arith

firsts_before_monotone : (n j k : ℕ) → j ≤ k → k ≤ length (lattice_points n) → firsts_before n j ≤ firsts_before n k
firsts_before_monotone n j zero le lk = rw (let z : j ≡ 0 = omega arith in z) (omega arith)
firsts_before_monotone n j (suc k) le lk = go (last_or_below j (suc k) (omega arith)) (λ lt. firsts_before_monotone n j k lt (omega arith))
  where
    go : (j ≡ suc k) ⊎ (j < suc k) → (j ≤ k → firsts_before n j ≤ firsts_before n k) → firsts_before n j ≤ firsts_before n (suc k)
    go (inl e) h = rw e (omega arith)
    go (inr lt) h = let g = h (omega arith) in let s = firsts_before_suc n k lk in omega arith

-- ---- the id table, place by place
module _ {n : ℕ} {p : LatticePoint} {place next : ℕ} (lo : 1 ≤ n) (on : OnLattice n p) (here : place ≡ place_of n p) (counted : next ≡ firsts_before n place) where
  id_here : get_or (id_table n) place 0 ≡ id_of n p
  unfolding place_of
  id_here = ap (λ (k : ℕ). get_or (id_table n) k 0) here ∙ id_table_at n p.face p.a p.b on.face_below on.weights_within

  counted_after : (b : Bool) → is_first_appearance n p ≡ b → firsts_before n (place + 1) ≡ next + cond b 1 0
  counted_after b h =
      ap (firsts_before n) (add-one place) ∙ firsts_before_suc n place (place_listed on here)
      ∙ (rw (at_point on here, h) (ap (λ (k : ℕ). k + cond b 1 0) (sym counted)))

  pub record Named (next-after : ℕ) (id : ℕ) : Type 0 where
    pub is_id : id ≡ get_or (id_table n) place 0
    pub counts : next-after ≡ firsts_before n (place + 1)
    pub below : id < length (lattice_vertices n)

  first_has_next : is_first_appearance n p ≡ true → id_of n p ≡ next
  first_has_next h = ap (id_of n) (sym (at_point on here)) ∙ first_id n place (place_listed on here) (ap (is_first_appearance n) (at_point on here) ∙ h) ∙ sym counted

  -- a first appearance has the next id
  pub named_first : is_first_appearance n p ≡ true → Named (next + 1) next
  named_first h = record {
    is_id = sym (id_here ∙ first_has_next h);
    counts = sym (counted_after true h);
    below = rw (sym (first_has_next h)) (id_below n p on);
  }

  -- a point that is its own naming is new
  pub named_own : (named : ℕ) → named ≡ place_of n (naming n p) → named ≡ place → Named (next + 1) next
  named_own named found e = named_first ((naming_names n p lo on).new_where_own ∙ eq-eqb _ _ (sym found ∙ e ∙ here))

  -- any other has the id of its naming, which stands before it
  pub record NamedBefore (named : ℕ) : Type 0 where
    pub is_before : named < place
    pub is_id : get_or (id_table n) named 0 ≡ get_or (id_table n) place 0
    pub counts : next ≡ firsts_before n (place + 1)

  pub named_before : (named : ℕ) → named ≡ place_of n (naming n p) → named ≢ place → NamedBefore named
  unfolding place_of
  named_before named found d =
      let names = naming_names n p lo on in
      let q = naming n p in
      let differs : place_of n q ≢ place_of n p = λ e. d (found ∙ e ∙ sym here) in
      let at_most = names.place_at_most in
      record {
        is_before = omega (arith, here, found);
        is_id = ap (λ (k : ℕ). get_or (id_table n) k 0) found ∙ id_table_at n q.face q.a q.b names.on_lattice.face_below names.on_lattice.weights_within ∙ names.same_id ∙ sym id_here;
        counts = sym (counted_after false (names.new_where_own ∙ ne_eqb _ _ differs) ∙ (let z : next + 0 ≡ next = omega arith in z));
      }

  -- a point that is no first appearance has an id that was given before
  not_first_before : is_first_appearance n p ≡ false → id_of n p < next
  not_first_before h =
      let q = earlier_appearance n p on h in
      let f = q.first.point in
      let onf = q.first.on_lattice in
      let before : place_of n f < place = (let l = place_before n f p onf q.is_earlier in omega (arith, here)) in
      let listed : place_of n f < length (lattice_points n) = rw (length_points n) (place_below n f onf) in
      let point : point_number n (place_of n f) ≡ f = point_at_place n f onf in
      let id : id_of n p ≡ firsts_before n (place_of n f) =
      sym (id_same n f p q.first.same_weights) ∙ ap (id_of n) (sym point) ∙ first_id n (place_of n f) listed (ap (is_first_appearance n) point ∙ q.first.is_first) in
      let one : firsts_before n (suc (place_of n f)) ≡ firsts_before n (place_of n f) + 1 =
      firsts_before_suc n (place_of n f) listed ∙ (rw (point, q.first.is_first) refl) in
      let grows = firsts_before_monotone n (suc (place_of n f)) place (omega arith) (omega (arith, place_listed on here)) in
      omega (arith, counted)

  -- so a point with the next id is the next vertex
  pub record NewVertex : Type 0 where
    pub is_vertex : vertex_at n next ≡ p
    pub below : next < length (lattice_vertices n)
    pub counts : next + 1 ≡ firsts_before n (place + 1)

  pub new_vertex : get_or (id_table n) place 0 ≡ next → NewVertex
  new_vertex e = go (cases_Bool (is_first_appearance n p))
    where
      go : (is_first_appearance n p ≡ true) ⊎ (is_first_appearance n p ≡ false) → NewVertex
      go (inl t) =
          let named = named_first t in
          record {
            is_vertex = ap (vertex_at n) counted ∙ first_vertex_at n place (place_listed on here) (ap (is_first_appearance n) (at_point on here) ∙ t) ∙ at_point on here;
            below = named.below;
            counts = named.counts;
          }
      go (inr f) = absurd (let b = not_first_before f in let h = id_here in let z : ⊥ = omega arith in z)

  -- and a point with another id is none
  pub known_vertex : get_or (id_table n) place 0 ≢ next → next ≡ firsts_before n (place + 1)
  known_vertex d = go (cases_Bool (is_first_appearance n p))
    where
      go : (is_first_appearance n p ≡ true) ⊎ (is_first_appearance n p ≡ false) → next ≡ firsts_before n (place + 1)
      go (inl t) = absurd (d (id_here ∙ first_has_next t))
      go (inr f) = sym (counted_after false f ∙ (let z : next + 0 ≡ next = omega arith in z))

-- ---- what a filled id table holds at a point's place
pub table_read : (n : ℕ) (ids : List ℕ) (p : LatticePoint) (place : ℕ) → take (20 * slots_per_face n) ids ≡ id_table n → OnLattice n p → place ≡ place_of n p → get_or ids place 0 ≡ id_of n p
unfolding place_of
table_read n ids p place tabled on e =
    ap (λ (k : ℕ). get_or ids k 0) e ∙ sym (get_or-take (20 * slots_per_face n) ids (place_of n p) 0 (place_below n p on)) ∙ ap (λ (l : List ℕ). get_or l (place_of n p) 0) tabled
    ∙ id_table_at n p.face p.a p.b on.face_below on.weights_within

-- a table of the point's own lattice
pub held_ids : (ids : List ℕ) {n own : ℕ} → own ≡ n → HoldsIdTable n ids → HoldsIdTable own ids
held_ids ids e h = rw e h
