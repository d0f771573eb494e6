-- The count of a lattice's vertices, 10n² + 2, of its twelve corners, and of its points. Assumes nothing.
use Rattle.std.proofs.Common.{◌≡◌, ℕ, zero, suc, ◌+◌, ◌-◌, ◌*◌, ◌≤◌, Bool, true, false, cond, ◌&&◌, ltb, List, length, refl, ap, ◌∙◌, not-suc-le-zero, mul_comm, add-mul, mul-suc, mul-add, arith, le-ltb, lt-ltb}
use Rattle.sequences.specs.Range.{sum_below, some_below}
use Rattle.sequences.specs.Starts.{start_of}
use Rattle.sequences.specs.Filter.{filter}
use Rattle.sequences.proofs.Range.{sum_extensional, sum_add, sum_multiple}
use Rattle.sequences.proofs.Starts.{length_concatenate}
use Rattle.sequences.proofs.Relations.{filter_concatenate, length_filter_tabulate, filter_filter}
use Rattle.icosahedron.specs.Icosahedron.{face_corner}
use Rattle.lattice.specs.Lattice.{LatticePoint, point_at, lattice_points, lattice_vertices}
use Rattle.lattice.specs.Appearances.{has_corner, has_counted, has_corners, by_support, is_new, is_first_appearance, is_single, is_corner}
use Rattle.lattice.proofs.Points.{row_points, face_points, points_by_face}
use Rattle.lattice.proofs.Vertices.{vertices_first}

-- (m − 1) + (m − 2) + .. , j of them: the interior points of a face's rows 1 to j
interior : ℕ → ℕ → ℕ
interior m zero = 0
interior m (suc j) = interior m j + (m - suc j)

-- j·m − j(j + 1)/2 of them
interior_step : (s d j m : ℕ) → 2 * s + j * j + j ≡ 2 * (j * m) → d + suc j ≡ m → 2 * (s + d) + suc j * suc j + suc j ≡ 2 * (suc j * m)
interior_step s d j m e f = simp (mul-add, mul-suc, mul_comm) (omega arith)

interior_closed : (m j : ℕ) → j ≤ m → 2 * interior m j + j * j + j ≡ 2 * (j * m)
unfolding interior
interior_closed m zero le = omega arith
interior_closed m (suc j) le = interior_step (interior m j) (m - suc j) j m (interior_closed m j (omega arith)) (omega arith)

-- ---- a sum over a face's points of a quantity that goes by the support
module _ (g : Bool → Bool → Bool → ℕ) where
  -- the row with the first weight a, n − a = rest
  row_sum : Bool → ℕ → ℕ
  row_sum x rest = sum_below (λ b. g x (ltb 0 b) (ltb 0 (rest - b))) (suc rest)

  row_begins : (x : Bool) (k j : ℕ) → j ≤ k → sum_below (λ b. g x (ltb 0 b) (ltb 0 (suc k - b))) (suc j) ≡ g x false true + j * g x true true
  unfolding sum_below
  row_begins x k zero le = rw (lt-ltb 0 (suc k - 0) (omega arith), le-ltb 0 0 (omega arith)) (omega arith)
  row_begins x k (suc j) le =
      let e = row_begins x k j (omega arith) in
      let s = ap (g x (ltb 0 (suc j))) (lt-ltb 0 (suc k - suc j) (omega arith)) in
      let t = ap (λ (y : Bool). g x y true) (lt-ltb 0 (suc j) (omega arith)) in
      omega arith

  row_end : (x : Bool) → row_sum x 0 ≡ g x false false
  unfolding sum_below row_sum
  row_end x = rw (le-ltb 0 0 (omega arith), le-ltb 0 (0 - 0) (omega arith)) (omega arith)

  row_sum_lem : (x : Bool) (k : ℕ) → row_sum x (suc k) ≡ g x false true + k * g x true true + g x true false
  unfolding sum_below row_sum
  row_sum_lem x k =
      let e = row_begins x k k (omega arith) in
      let s = ap (g x (ltb 0 (suc k))) (le-ltb 0 (suc k - suc k) (omega arith)) in
      let t = ap (λ (y : Bool). g x y false) (lt-ltb 0 (suc k) (omega arith)) in
      omega arith

  rows_begin : (m j : ℕ) → j ≤ m
      → sum_below (λ a. row_sum (ltb 0 a) (suc m - a)) (suc j) ≡ row_sum false (suc m) + j * (g true false true + g true true false) + interior m j * g true true true
  unfolding sum_below interior
  rows_begin m zero le = rw (le-ltb 0 0 (omega arith)) (let s = ap (row_sum false) (let z : suc m - 0 ≡ suc m = omega arith in z) in omega arith)
  rows_begin m (suc j) le =
      let e = rows_begin m j (omega arith) in
      let s = ap (λ (y : Bool). row_sum y (suc m - suc j)) (lt-ltb 0 (suc j) (omega arith)) in
      let t = ap (row_sum true) (let z : suc m - suc j ≡ suc (m - suc j) = omega arith in z) in
      let r = row_sum_lem true (m - suc j) in
      let d = add-mul (interior m j) (m - suc j) (g true true true) in
      omega arith

  -- corners, edge points and interior points of a face
  face_sum : (m : ℕ)
      → sum_below (λ a. row_sum (ltb 0 a) (suc m - a)) (suc (suc m))
      ≡ (g false false true + g false true false + g true false false) + m * (g false true true + g true false true + g true true false) + interior m m * g true true true
  unfolding sum_below
  face_sum m =
      let e = rows_begin m m (omega arith) in
      let s = ap (λ (y : Bool). row_sum y (suc m - suc m)) (lt-ltb 0 (suc m) (omega arith)) in
      let t = ap (row_sum true) (let z : suc m - suc m ≡ 0 = omega arith in z) in
      let u = row_end true in
      let r = row_sum_lem false m in
      let d = mul-add m (g false true true) (g true false true + g true true false) in
      let d₁ = mul-add m (g false true true + g true false true) (g true true false) in
      let d₂ = mul-add m (g false true true) (g true false true) in
      let d₃ = mul-add m (g true false true) (g true true false) in
      omega arith

-- ---- the points that pass a test of their face and support
module _ (test : ℕ → Bool → Bool → Bool → Bool) where
  passes : ℕ → Bool → Bool → Bool → ℕ
  passes face x y z = cond (test face x y z) 1 0

  -- on a face, those at its corners, those on its edges for each place, and those inside for each place
  corners_passing : ℕ → ℕ
  corners_passing face = passes face false false true + passes face false true false + passes face true false false

  edges_passing : ℕ → ℕ
  edges_passing face = passes face false true true + passes face true false true + passes face true true false

  inside_passing : ℕ → ℕ
  inside_passing face = passes face true true true

  face_count : (m face : ℕ) → length (filter (by_support test (suc m)) (face_points (suc m) face)) ≡ corners_passing face + m * edges_passing face + interior m m * inside_passing face
  unfolding corners_passing edges_passing inside_passing passes row_sum start_of
  face_count m face =
      ap length (filter_concatenate (by_support test (suc m)) (suc (suc m)) (row_points (suc m) face))
      ∙ length_concatenate (suc (suc m)) (λ a. filter (by_support test (suc m)) (row_points (suc m) face a))
      ∙ sum_extensional _ _ (suc (suc m)) (λ a lt. length_filter_tabulate (by_support test (suc m)) (suc (suc m - a)) (λ b. point_at face a b))
      ∙ face_sum (passes face) m

  support_count : (m : ℕ)
      → length (filter (by_support test (suc m)) (lattice_points (suc m))) ≡ sum_below corners_passing 20 + m * sum_below edges_passing 20 + interior m m * sum_below inside_passing 20
  unfolding start_of
  support_count m =
      ap (λ (l : List LatticePoint). length (filter (by_support test (suc m)) l)) (points_by_face (suc m))
      ∙ ap length (filter_concatenate (by_support test (suc m)) 20 (face_points (suc m)))
      ∙ length_concatenate 20 (λ face. filter (by_support test (suc m)) (face_points (suc m) face))
      ∙ sum_extensional _ _ 20 (λ face lt. face_count m face)
      ∙ sum_add (λ face. corners_passing face + m * edges_passing face) (λ face. interior m m * inside_passing face) 20
      ∙ (let e = sum_add corners_passing (λ face. m * edges_passing face) 20 in
      let s = sum_multiple m edges_passing 20 in let t = sum_multiple (interior m m) inside_passing 20 in omega arith)

-- ---- "10n² + 2 vertices"
count_closed : (m s : ℕ) → 2 * s + m * m + m ≡ 2 * (m * m) → 12 + m * 30 + s * 20 ≡ 10 * (suc m * suc m) + 2
count_closed m s e = simp (mul-add, mul-suc, mul_comm) (omega arith)

-- each of the 12 corners and 30 edges is new on one face, and so is the inside of each face
new_corners : sum_below (corners_passing is_new) 20 ≡ 12
unfolding sum_below corners_passing passes is_new some_below has_corners has_counted has_corner face_corner
new_corners = refl

new_edges : sum_below (edges_passing is_new) 20 ≡ 30
unfolding sum_below edges_passing passes is_new some_below has_corners has_counted has_corner face_corner
new_edges = refl

new_insides : sum_below (inside_passing is_new) 20 ≡ 20
unfolding sum_below inside_passing passes is_new some_below has_corners has_counted has_corner face_corner
new_insides = refl

first_count : (m : ℕ) → length (filter (is_first_appearance (suc m)) (lattice_points (suc m))) ≡ 10 * (suc m * suc m) + 2
unfolding is_first_appearance
first_count m =
    support_count is_new m
    ∙ (rw (new_corners, new_edges, new_insides) (count_closed m (interior m m) (interior_closed m m (omega arith))))

-- "Counts: 10n² + 2 vertices"
pub lattice_vertex_count_lem : (n : ℕ) → 1 ≤ n → length (lattice_vertices n) ≡ 10 * (n * n) + 2
lattice_vertex_count_lem zero le = absurd (not-suc-le-zero le)
lattice_vertex_count_lem (suc m) le = ap length (vertices_first (suc m)) ∙ first_count m

-- ---- "twelve vertices": the corners
is_new_corner : ℕ → Bool → Bool → Bool → Bool
is_new_corner face first second third = is_new face first second third && is_single first second third

corner_corners : sum_below (corners_passing is_new_corner) 20 ≡ 12
unfolding sum_below corners_passing passes is_new_corner is_single is_new some_below has_corners has_counted has_corner face_corner
corner_corners = refl

corner_edges : sum_below (edges_passing is_new_corner) 20 ≡ 0
unfolding sum_below edges_passing passes is_new_corner is_single is_new some_below has_corners has_counted has_corner face_corner
corner_edges = refl

corner_insides : sum_below (inside_passing is_new_corner) 20 ≡ 0
unfolding sum_below inside_passing passes is_new_corner is_single is_new some_below has_corners has_counted has_corner face_corner
corner_insides = refl

first_corner_count : (m : ℕ) → length (filter (λ p. is_first_appearance (suc m) p && is_corner (suc m) p) (lattice_points (suc m))) ≡ 12
unfolding is_first_appearance is_corner is_new_corner
first_corner_count m = support_count is_new_corner m ∙ (rw (corner_corners, corner_edges, corner_insides) (omega arith))

-- "twelve vertices have five neighbours": those at the corners
pub lattice_corner_count : (n : ℕ) → 1 ≤ n → length (filter (is_corner n) (lattice_vertices n)) ≡ 12
lattice_corner_count zero le = absurd (not-suc-le-zero le)
lattice_corner_count (suc m) le =
    ap (λ (l : List LatticePoint). length (filter (is_corner (suc m)) l)) (vertices_first (suc m))
    ∙ ap length (filter_filter (is_corner (suc m)) (is_first_appearance (suc m)) (lattice_points (suc m)))
    ∙ first_corner_count m
