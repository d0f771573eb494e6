-- Laws of a loop that writes positions and list starts, vertex by vertex, and of the lengths of lists by a point's weights. Assumes nothing.
use Rattle.std.proofs.Common.{◌≡◌, ℕ, suc, ◌+◌, ◌-◌, ◌*◌, ◌<◌, ◌≤◌, Bool, true, false, ◌||◌, cond, ltb, eqb, ◌≢◌, ◌⊎◌, inl, inr, eq-eqb, ne_eqb, List, length, get_or, take, set, sym, refl, ap, ◌∙◌, subst, add-one, arith, get_or-take, ltb-false, le-ltb, lt-ltb}
use lib.Ieee.{Float, nan}
use Rattle.std.proofs.lemmas.Bool.{cases_eq}
use Rattle.sequences.specs.Tabulate.{overwrite, Overwritten}
use Rattle.sequences.specs.Starts.{start_of}
use Rattle.sequences.proofs.Tabulate.{overwritten_none, overwritten_set, overwritten_all}
use Rattle.sequences.proofs.Starts.{start_zero, start_suc, length_starts, starts_at}
use Rattle.vector.specs.declared.Vector3.{Vector3}
use Rattle.lattice.specs.Lattice.{LatticePoint, lattice_vertices, lattice_list, lattice_mesh, point_position}
use Rattle.lattice.specs.Appearances.{is_single, is_corner}
use Rattle.icosahedron.specs.Slots.{IsFrequency, slots_per_face}
use Rattle.lattice.specs.Lattice.{id_table}
use Rattle.lattice.specs.Appearances.{OnLattice}
use Rattle.lattice.specs.Shared.{firsts_before}
use Rattle.lattice.specs.Naming.{place_of}
use Rattle.lattice.specs.Lent.{HoldsIdTable}
use Rattle.lattice.proofs.Vertices.{vertex_at}
use Rattle.lattice.proofs.Order.{firsts_before_all}
use Rattle.lattice.proofs.Slots.{length_points}
use Rattle.lattice.proofs.Rows.{vertex_count_bounds}
use Rattle.lattice.proofs.Naming.{place_below, NewVertex, new_vertex, known_vertex}
use Rattle.lattice.proofs.Neighbours.{length_positions, position_at}
use Rattle.lattice.proofs.ListLengths.{lattice_list_length, lattice_list_start}

-- ---- corners by their weights
module _ (n : ℕ) (p : LatticePoint) (lo : 1 ≤ n) (within : p.a + p.b ≤ n) where
  corner_first_weight : p.a ≡ n → is_corner n p ≡ true
  unfolding is_corner is_single
  corner_first_weight e = rw (lt-ltb 0 p.a (omega arith), le-ltb 0 p.b (omega arith), le-ltb 0 (n - p.a - p.b) (omega arith)) refl

  corner_second_weight : p.b ≡ n → is_corner n p ≡ true
  unfolding is_corner is_single
  corner_second_weight e = rw (le-ltb 0 p.a (omega arith), lt-ltb 0 p.b (omega arith), le-ltb 0 (n - p.a - p.b) (omega arith)) refl

  corner_third_weight : p.a + p.b ≡ 0 → is_corner n p ≡ true
  unfolding is_corner is_single
  corner_third_weight e = rw (le-ltb 0 p.a (omega arith), le-ltb 0 p.b (omega arith), lt-ltb 0 (n - p.a - p.b) (omega arith)) refl

  no_corner : p.a ≢ n → p.b ≢ n → p.a + p.b ≢ 0 → is_corner n p ≡ false
  unfolding is_corner is_single
  no_corner a b c = go (ltb 0 p.a) refl (ltb 0 p.b) refl (ltb 0 (n - p.a - p.b)) refl
    where
      go : (x : Bool) → ltb 0 p.a ≡ x → (y : Bool) → ltb 0 p.b ≡ y → (z : Bool) → ltb 0 (n - p.a - p.b) ≡ z → is_single x y z ≡ false
      go true ea true eb z ec = refl
      go true ea false eb true ec = refl
      go true ea false eb false ec = absurd (let u = ltb-false 0 p.b eb in let v = ltb-false 0 (n - p.a - p.b) ec in let w : ⊥ = omega arith in w)
      go false ea true eb true ec = refl
      go false ea true eb false ec = absurd (let u = ltb-false 0 p.a ea in let v = ltb-false 0 (n - p.a - p.b) ec in let w : ⊥ = omega arith in w)
      go false ea false eb z ec = absurd (let u = ltb-false 0 p.a ea in let v = ltb-false 0 p.b eb in let w : ⊥ = omega arith in w)

  -- a point is a corner where one weight is n
  pub corner_by_weights : is_corner n p ≡ (eqb p.a n || (eqb p.b n || eqb (p.a + p.b) 0))
  corner_by_weights = go (cases_eq p.a n) (cases_eq p.b n) (cases_eq (p.a + p.b) 0)
    where
      go : (p.a ≡ n) ⊎ (p.a ≢ n) → (p.b ≡ n) ⊎ (p.b ≢ n) → (p.a + p.b ≡ 0) ⊎ (p.a + p.b ≢ 0) → is_corner n p ≡ (eqb p.a n || (eqb p.b n || eqb (p.a + p.b) 0))
      go (inl a) b c = rw (corner_first_weight a, eq-eqb p.a n a) refl
      go (inr a) (inl b) c = rw (corner_second_weight b, ne_eqb p.a n a, eq-eqb p.b n b) refl
      go (inr a) (inr b) (inl c) = rw (corner_third_weight c, ne_eqb p.a n a, ne_eqb p.b n b, eq-eqb (p.a + p.b) 0 c) refl
      go (inr a) (inr b) (inr c) = rw (no_corner a b c, ne_eqb p.a n a, ne_eqb p.b n b, ne_eqb (p.a + p.b) 0 c) refl

pub five_or_six : (b : Bool) → ◌≤◌ (cond b 5 6) 6
five_or_six true = omega arith
five_or_six false = omega arith

-- ---- what the mesh holds at a vertex
start_here : (n v : ℕ) → v ≤ length (lattice_vertices n) → get_or (lattice_mesh n).starts v 0 ≡ start_of (lattice_list n) v
unfolding lattice_mesh
start_here n v le = starts_at (length (lattice_vertices n)) (lattice_list n) v le

pub length_mesh_starts : (n : ℕ) → length (lattice_mesh n).starts ≡ suc (length (lattice_vertices n))
unfolding lattice_mesh
length_mesh_starts n = length_starts (length (lattice_vertices n)) (lattice_list n)

-- ---- the vertices that have been written
pub record VerticesFilled (n : ℕ) (positions₀ : List Float) (starts₀ : List ℕ) (positions : List Float) (starts : List ℕ) (vertex start : ℕ) : Type 0 where
  pub start_is : start ≡ start_of (lattice_list n) vertex
  pub positions_so_far : Overwritten (lattice_mesh n).positions positions₀ positions (vertex * 3) nan
  pub starts_so_far : Overwritten (lattice_mesh n).starts starts₀ starts vertex 0

pub no_vertices_yet : {n : ℕ} {positions₀ : List Float} {starts₀ : List ℕ} → VerticesFilled n positions₀ starts₀ positions₀ starts₀ 0 0
no_vertices_yet {n} = record { start_is = sym (start_zero (lattice_list n)); positions_so_far = overwritten_none; starts_so_far = overwritten_none }

overwritten_three : {new old now : List Float} (v : ℕ) {d x y z : Float} → suc v * 3 ≤ length old → x ≡ get_or new (v * 3) d → y ≡ get_or new (v * 3 + 1) d → z ≡ get_or new (v * 3 + 2) d
    → Overwritten new old now (v * 3) d → Overwritten new old (set (set (set now (v * 3) x) (v * 3 + 1) y) (v * 3 + 2) z) ((v + 1) * 3) d
overwritten_three {new} {old} {now} v {d} {x} {y} {z} room ex ey ez o =
    let one = overwritten_set (omega arith) ex o in
    let two : Overwritten new old (set (set now (v * 3) x) (v * 3 + 1) y) (v * 3 + 2) d = subst (λ (k : ℕ). Overwritten new old (set (set now (v * 3) x) (v * 3 + 1) y) k d) (let q : v * 3 + 1 + 1 ≡ v * 3 + 2 = omega arith in q) (overwritten_set (omega arith) ey one) in
    subst (λ (k : ℕ). Overwritten new old (set (set (set now (v * 3) x) (v * 3 + 1) y) (v * 3 + 2) z) k d) (let q : v * 3 + 2 + 1 ≡ (v + 1) * 3 = omega arith in q) (overwritten_set (omega arith) ez two)

module _ {n : ℕ} {positions₀ : List Float} {starts₀ : List ℕ} {positions : List Float} {starts : List ℕ} {vertex start : ℕ}
    (room-positions : length (lattice_mesh n).positions ≤ length positions₀) (room_starts : length (lattice_mesh n).starts ≤ length starts₀)
    (h : VerticesFilled n positions₀ starts₀ positions starts vertex start) where
  -- the next vertex's position and start are written
  pub vertices_next : {p : LatticePoint} {v : Vector3} {entries : ℕ} → 1 ≤ n → vertex < length (lattice_vertices n) → vertex_at n vertex ≡ p → v ≡ point_position n p → entries ≡ cond (is_corner n p) 5 6
      → VerticesFilled n positions₀ starts₀ (set (set (set positions (vertex * 3) v.x) (vertex * 3 + 1) v.y) (vertex * 3 + 2) v.z) (set starts vertex start) (vertex + 1) (start + entries)
  vertices_next {p} {v} {entries} lo lt is_vertex is-position is-length = record {
    start_is =
        sym (ap (start_of (lattice_list n)) (add-one vertex) ∙ start_suc (lattice_list n) vertex
        ∙ (let a = h.start_is in let b : length (lattice_list n vertex) ≡ entries = lattice_list_length n vertex lo lt ∙ ap (λ (q : LatticePoint). cond (is_corner n q) 5 6) is_vertex ∙ sym is-length in
        let z : start_of (lattice_list n) vertex + length (lattice_list n vertex) ≡ start + entries = omega arith in z));
    positions_so_far =
        overwritten_three vertex (let e = length_positions n in omega arith)
        (ap (λ (w : Vector3). w.x) same ∙ sym (ap (λ (k : ℕ). get_or (lattice_mesh n).positions k nan) (let z : vertex * 3 ≡ vertex * 3 + 0 = omega arith in z) ∙ position_at n vertex lt 0 (omega arith)))
        (ap (λ (w : Vector3). w.y) same ∙ sym (position_at n vertex lt 1 (omega arith)))
        (ap (λ (w : Vector3). w.z) same ∙ sym (position_at n vertex lt 2 (omega arith))) h.positions_so_far;
    starts_so_far = overwritten_set (let e = length_mesh_starts n in omega arith) (h.start_is ∙ sym (start_here n vertex (omega arith))) h.starts_so_far;
  }
    where
      same : v ≡ point_position n (vertex_at n vertex)
      same = is-position ∙ ap (point_position n) (sym is_vertex)

  pub start_room : vertex ≤ length (lattice_vertices n) → vertex < length starts
  start_room le = let e = length_mesh_starts n in omega (arith, h.starts_so_far.same_length)

  pub position_room : vertex < length (lattice_vertices n) → vertex * 3 + 2 < length positions
  position_room lt = let e = length_positions n in omega (arith, h.positions_so_far.same_length)

  -- behind the last vertex the total is written
  pub vertices_all : vertex ≡ length (lattice_vertices n) → (positions ≡ overwrite (lattice_mesh n).positions positions₀) × (set starts vertex start ≡ overwrite (lattice_mesh n).starts starts₀)
  vertices_all e = (
    overwritten_all (length_positions n ∙ ap (λ (k : ℕ). k * 3) (sym e)) (let d = length_positions n in omega arith) h.positions_so_far,
    overwritten_all (length_mesh_starts n ∙ (let z : suc (length (lattice_vertices n)) ≡ vertex + 1 = omega arith in z)) (let d = length_mesh_starts n in omega arith)
        (overwritten_set (let d = length_mesh_starts n in omega arith) (h.start_is ∙ sym (start_here n vertex (omega arith))) h.starts_so_far),
  )

-- a start is at most six for each vertex before it
pub start_bound : {n : ℕ} {positions₀ : List Float} {starts₀ : List ℕ} {positions : List Float} {starts : List ℕ} {vertex start : ℕ} → VerticesFilled n positions₀ starts₀ positions starts vertex start
    → 1 ≤ n → vertex ≤ length (lattice_vertices n) → start ≤ 6 * vertex
start_bound {n} {vertex} h lo le = let e = lattice_list_start n vertex lo le in omega (arith, h.start_is)

-- ---- a turn of the loop
module _ {n : ℕ} {positions₀ : List Float} {starts₀ : List ℕ} {positions : List Float} {starts : List ℕ} {vertex start place : ℕ} {p : LatticePoint} (ids : List ℕ) (range : IsFrequency n)
    (holds : HoldsIdTable n ids) (on : OnLattice n p) (here : place ≡ place_of n p) (counted : vertex ≡ firsts_before n place) (h : VerticesFilled n positions₀ starts₀ positions starts vertex start) where
  pub id_read_room : place < length ids
  id_read_room = omega (arith, here, place_below n p on, holds.0)

  tabled : get_or ids place 0 ≡ get_or (id_table n) place 0
  tabled =
      sym (get_or-take (20 * slots_per_face n) ids place 0 (let b = place_below n p on in omega (arith, here))) ∙ ap (λ (l : List ℕ). get_or l place 0) holds.1

  -- a point with another id is no new vertex
  pub vertex_known : get_or ids place 0 ≢ vertex → vertex ≡ firsts_before n (place + 1)
  vertex_known d = known_vertex range.0 on here counted (λ e. d (tabled ∙ e))

  module _ (next : get_or ids place 0 ≡ vertex) where
    new : NewVertex range.0 on here counted
    new = new_vertex range.0 on here counted (sym tabled ∙ next)

    pub vertex_below : vertex < length (lattice_vertices n)
    vertex_below = new.below

    pub vertex_counted : vertex + 1 ≡ firsts_before n (place + 1)
    vertex_counted = new.counts

    -- the list starts stay below u32's limit
    pub vertex_limits : (start ≤ 6 * vertex) × (vertex < 64002)
    vertex_limits = (start_bound h range.0 (let b = new.below in omega arith), omega (arith, new.below, (vertex_count_bounds n range.0 range.1).1))

    pub vertex_written : {v : Vector3} {entries : ℕ} → length (lattice_mesh n).positions ≤ length positions₀ → length (lattice_mesh n).starts ≤ length starts₀ → v ≡ point_position n p → entries ≡ cond (is_corner n p) 5 6
        → VerticesFilled n positions₀ starts₀ (set (set (set positions (vertex * 3) v.x) (vertex * 3 + 1) v.y) (vertex * 3 + 2) v.z) (set starts vertex start) (vertex + 1) (start + entries)
    vertex_written room-positions room_starts position entries = vertices_next room-positions room_starts h range.0 new.below new.is_vertex position entries

-- behind the last point all vertices are written
pub vertices_counted : (n : ℕ) {vertex place : ℕ} → place ≡ 20 * slots_per_face n → vertex ≡ firsts_before n place → vertex ≡ length (lattice_vertices n)
vertices_counted n e counted = counted ∙ ap (firsts_before n) (e ∙ sym (length_points n)) ∙ firsts_before_all n

-- what filled starts hold at a vertex
pub starts_read : (n : ℕ) (starts : List ℕ) (v : ℕ) → take (length (lattice_mesh n).starts) starts ≡ (lattice_mesh n).starts → v ≤ length (lattice_vertices n) → get_or starts v 0 ≡ start_of (lattice_list n) v
starts_read n starts v filled_lattice le =
    sym (get_or-take (length (lattice_mesh n).starts) starts v 0 (let z = length_mesh_starts n in omega arith)) ∙ ap (λ (l : List ℕ). get_or l v 0) filled_lattice ∙ start_here n v le
