-- The lengths of neighbour lists: five at the twelve corners and six elsewhere, 60n² entries in all. Assumes nothing.
use Rattle.std.proofs.Common.{◌≡◌, ℕ, zero, suc, ◌+◌, ◌-◌, ◌*◌, ◌/◌, ◌%◌, ◌<◌, ◌≤◌, Bool, true, false, cond, not, ◌&&◌, ◌||◌, eqb, ltb, ◌≢◌, ◌⊎◌, List, map, length, sym, refl, ap, ◌∙◌, inl, inr, arith, ltb-false, ltb-true, lt-ltb, ne_eqb, eqb-true}
use mathlib.Core.List.Memᴰ
use mathlib.Core.List.{Memᴰ}
use lib.ListN.{length-map}
use borrow.Author.Tests.{eqb-false, not-true}
use Rattle.std.proofs.lemmas.Bool.{cases_Bool, and_parts, and_from, or_left, or_right, both_ways}
use Rattle.sequences.specs.Range.{all_below, some_below, sum_below}
use Rattle.sequences.specs.Tabulate.{tabulate}
use Rattle.sequences.specs.Starts.{start_of}
use Rattle.sequences.specs.Filter.{filter, filter_range}
use Rattle.sequences.specs.Ascending.{Distinct, SameMembers}
use Rattle.sequences.proofs.Range.{sum_extensional, all_below_at, some_below_at}
use Rattle.sequences.proofs.Tabulate.{tabulate_elements}
use Rattle.sequences.proofs.Starts.{length_concatenate}
use Rattle.sequences.proofs.Ascending.{ascending_distinct, distinct_map}
use Rattle.sequences.proofs.Filter.{filter_range_member, member_filter_range, filter_range_ascending}
use Rattle.sequences.proofs.Relations.{length_filter_tabulate, distinct_length}
use Rattle.icosahedron.specs.Icosahedron.{face_corner}
use Rattle.lattice.specs.Lattice.{LatticePoint, point_at, weight_at, lattice_vertices, id_of, lattice_list, lattice_mesh}
use Rattle.lattice.specs.Appearances.{OnLattice, has_corner, has_counted, has_corners, by_support, is_single, is_corner}
use Rattle.lattice.proofs.Corners.{DistinctCorners, corners_distinct, place_unique, CornerOf, at_0, at_1, at_2, has_corner_lem}
use Rattle.lattice.proofs.Keys.{weight_first, weight_second, weight_third, weight_corner}
use Rattle.lattice.proofs.Vertices.{vertex_at, vertex_on_lattice, id_of_vertex, id_same, has_id, id_injective}
use Rattle.lattice.proofs.Counts.{lattice_vertex_count_lem, lattice_corner_count}
use Rattle.lattice.proofs.Neighbours.{adjacent_to, list_member, member_list, list_ascending}
use Rattle.lattice.proofs.Moves.{is_reached, support_at, is_move, moved_point, Moved, adjacent_moved, moved_on_lattice, moved_point_lem, moved_adjacent, move_unique, moved_same}

-- ---- the three places of a face
-- the support at a place is that of the weight on the corner there
support_weight : (n : ℕ) (p : LatticePoint) → OnLattice n p → (s : ℕ) → s < 3
    → support_at (ltb 0 p.a) (ltb 0 p.b) (ltb 0 (n - p.a - p.b)) s ≡ ltb 0 (weight_at n p (face_corner p.face s))
unfolding support_at
support_weight n p on zero lt = ap (ltb 0) (sym (weight_first n p on))
support_weight n p on (suc zero) lt = ap (ltb 0) (sym (weight_second n p on))
support_weight n p on (suc (suc zero)) lt = ap (ltb 0) (sym (weight_third n p on))
support_weight n p on (suc (suc (suc s))) lt = absurd (let z : ⊥ = omega arith in z)

-- ---- the neighbours of a point by the numbers of the moves
module _ (n : ℕ) (p : LatticePoint) (on : OnLattice n p) where
  from_corner : ℕ → ℕ
  from_corner move = face_corner p.face (move / 12)

  moves : List ℕ
  moves = filter_range (λ move. by_support (is_move move) n p) 36

  target_id : ℕ → ℕ
  target_id move = id_of n (moved_point n p (from_corner move) (move % 12))

  record Move (move : ℕ) : Type 0 where
    below : move < 36
    has_weight : 0 < weight_at n p (from_corner move)
    differ : from_corner move ≢ move % 12
    reached : by_support (is_reached (move % 12)) n p ≡ true

  move_of : (move : ℕ) → Memᴰ move moves → Move move
  unfolding moves is_move from_corner
  move_of move m =
      let r = filter_range_member _ 36 move m in
      let s = and_parts (support_at (ltb 0 p.a) (ltb 0 p.b) (ltb 0 (n - p.a - p.b)) (move / 12)) _ r.1 in
      let t = and_parts (not (eqb (face_corner p.face (move / 12)) (move % 12))) _ s.1 in
      record {
        below = r.0;
        has_weight = ltb-true 0 _ (sym (support_weight n p on (move / 12) (omega (arith, r.0))) ∙ s.0);
        differ = eqb-false _ _ (not-true _ t.0);
        reached = t.1;
      }

  target_moved : (move : ℕ) → Move move → Moved n p (moved_point n p (from_corner move) (move % 12)) (from_corner move) (move % 12)
  target_moved move m = moved_point_lem n p (from_corner move) (move % 12) on m.has_weight m.differ m.reached

  target_on_lattice : (move : ℕ) → Move move → OnLattice n (moved_point n p (from_corner move) (move % 12))
  target_on_lattice move m = moved_on_lattice n p (from_corner move) (move % 12) on m.has_weight m.differ m.reached

  targets_distinct : Distinct (map target_id moves)
  unfolding moves target_id from_corner
  targets_distinct = distinct_map target_id moves (λ x y mx my e. go x y (move_of x mx) (move_of y my) e) (ascending_distinct moves (filter_range_ascending _ 36))
    where
      go : (x y : ℕ) → Move x → Move y → target_id x ≡ target_id y → x ≡ y
      go x y mx my e =
          let same = id_injective n _ _ (target_on_lattice x mx) (target_on_lattice y my) e in
          let u = move_unique n p _ _ (from_corner x) (x % 12) (from_corner y) (y % 12) (target_moved x mx) (target_moved y my) same in
          let place : x / 12 ≡ y / 12 = place_unique p.face (x / 12) (y / 12) (corners_distinct p.face on.face_below) (omega (arith, mx.below)) (omega (arith, my.below)) u.0 in
          omega (arith, u.1)

  -- each move of a unit has its number
  move_number : (q : LatticePoint) (from to : ℕ) → Moved n p q from to → (move : ℕ) × Memᴰ move moves × (from_corner move ≡ from) × (move % 12 ≡ to)
  unfolding moves is_move is_reached from_corner
  move_number q from to m = go (weight_corner n p on from m.has_weight)
    where
      to_below : to < 12
      to_below = corner_below (some_below_at _ 20 m.reached)
        where
          bounded : (f : ℕ) → DistinctCorners f → CornerOf f to → to < 12
          bounded f c (at_0 e) = omega (arith, c.below_0)
          bounded f c (at_1 e) = omega (arith, c.below_1)
          bounded f c (at_2 e) = omega (arith, c.below_2)

          corner_below : (f : ℕ) × (f < 20) × (has_corner f to && has_corners f p.face (ltb 0 p.a) (ltb 0 p.b) (ltb 0 (n - p.a - p.b)) ≡ true) → to < 12
          corner_below r = bounded r.0 (corners_distinct r.0 r.1) (has_corner_lem r.0 to (and_parts _ _ r.2).0)

      numbered : (s : ℕ) → s < 3 → face_corner p.face s ≡ from → (move : ℕ) × Memᴰ move moves × (from_corner move ≡ from) × (move % 12 ≡ to)
      numbered s lt e =
          let move : ℕ = s * 12 + to in
          let place : (s * 12 + to) / 12 ≡ s = omega (arith, to_below) in
          let rest : (s * 12 + to) % 12 ≡ to = omega (arith, to_below) in
          let from_is : face_corner p.face ((s * 12 + to) / 12) ≡ from = ap (face_corner p.face) place ∙ e in (
            s * 12 + to,
            member_filter_range _ 36 (s * 12 + to) (omega (arith, to_below))
                (and_from _ _ (ap (support_at (ltb 0 p.a) (ltb 0 p.b) (ltb 0 (n - p.a - p.b))) place ∙ support_weight n p on s lt ∙ lt-ltb 0 (weight_at n p (face_corner p.face s)) (rw e m.has_weight))
                (and_from _ _ (ap not (ne_eqb _ _ (λ z. m.differ (sym from_is ∙ z ∙ rest)))) (rw rest m.reached))),
            from_is,
            rest,
          )

      go : CornerOf p.face from → (move : ℕ) × Memᴰ move moves × (from_corner move ≡ from) × (move % 12 ≡ to)
      go (at_0 e) = numbered 0 (omega arith) e
      go (at_1 e) = numbered 1 (omega arith) e
      go (at_2 e) = numbered 2 (omega arith) e

-- ---- the list of a vertex has one id for each move
module _ (n v : ℕ) (lt : v < length (lattice_vertices n)) where
  abbrev here : LatticePoint
  here = vertex_at n v

  on : OnLattice n here
  on = vertex_on_lattice n v lt

  targets_listed : SameMembers (map (target_id n here on) (moves n here on)) (lattice_list n v)
  unfolding target_id from_corner
  targets_listed = record { forth = forth; back = back }
    where
      forth : (u : ℕ) → Memᴰ u (map (target_id n here on) (moves n here on)) → Memᴰ u (lattice_list n v)
      forth u m =
          let r = Memᴰ.of_map (target_id n here on) (moves n here on) m in
          let t = move_of n here on r.0 r.1 in
          let q = target_on_lattice n here on r.0 t in
          let id = has_id n _ q in
          Memᴰ.cast (sym r.2)
          (member_list n v _ id.below (adjacent_to n here _ _ (moved_adjacent n here _ _ on t.has_weight t.differ t.reached) (λ k. sym (id.same_weights k))))

      back : (u : ℕ) → Memᴰ u (lattice_list n v) → Memᴰ u (map (target_id n here on) (moves n here on))
      back u m =
          let r = list_member n v u lt m in
          let t = adjacent_moved n here (vertex_at n u) on r.1 in
          let number = move_number n here on (vertex_at n u) t.0 t.1 t.2 in
          let move = move_of n here on number.0 number.1 in
          let led : Moved n here (vertex_at n u) (from_corner n here on number.0) (number.0 % 12) = rw (number.2, number.3) t.2 in
          let same = moved_same n here _ (vertex_at n u) _ _ (target_moved n here on number.0 move) led in
          Memᴰ.cast (sym (id_of_vertex n u r.0) ∙ sym (id_same n _ (vertex_at n u) same)) (Memᴰ.map (target_id n here on) number.1)

  list_length_moves : length (lattice_list n v) ≡ length (moves n here on)
  list_length_moves =
      sym (distinct_length (map (target_id n here on) (moves n here on)) (lattice_list n v) (targets_distinct n here on) (list_ascending n v) targets_listed)
      ∙ length-map (moves n here on) (target_id n here on)

-- ---- how many moves there are, by the face and the support
move_count : ℕ → Bool → Bool → Bool → ℕ
move_count face first second third = length (filter_range (λ move. is_move move face first second third) 36)

expected_count : Bool → Bool → Bool → ℕ
expected_count first second third = cond (is_single first second third) 5 6

has_expected : Bool → Bool → Bool → ℕ → Bool
has_expected first second third face = eqb (move_count face first second third) (expected_count first second third)

all_expected : Bool → Bool → Bool → Bool
all_expected first second third = all_below (has_expected first second third) 20

-- a computed test of the twenty faces for each support: inside, three edges, three corners
inside_expected : all_expected true true true ≡ true
unfolding all_expected has_expected expected_count all_below move_count filter_range filter tabulate is_move support_at is_reached is_single some_below has_corners has_counted has_corner face_corner
inside_expected = refl

edges_expected : all_expected true true false && (all_expected true false true && all_expected false true true) ≡ true
unfolding all_expected has_expected expected_count all_below move_count filter_range filter tabulate is_move support_at is_reached is_single some_below has_corners has_counted has_corner face_corner
edges_expected = refl

corners_expected : all_expected true false false && (all_expected false true false && all_expected false false true) ≡ true
unfolding all_expected has_expected expected_count all_below move_count filter_range filter tabulate is_move support_at is_reached is_single some_below has_corners has_counted has_corner face_corner
corners_expected = refl

all_expected_lem : (first second third : Bool) → first || (second || third) ≡ true → all_expected first second third ≡ true
all_expected_lem true true true some = inside_expected
all_expected_lem true true false some = (and_parts (all_expected true true false) _ edges_expected).0
all_expected_lem true false true some = (and_parts (all_expected true false true) _ (and_parts (all_expected true true false) _ edges_expected).1).0
all_expected_lem false true true some = (and_parts (all_expected true false true) _ (and_parts (all_expected true true false) _ edges_expected).1).1
all_expected_lem true false false some = (and_parts (all_expected true false false) _ corners_expected).0
all_expected_lem false true false some = (and_parts (all_expected false true false) _ (and_parts (all_expected true false false) _ corners_expected).1).0
all_expected_lem false false true some = (and_parts (all_expected false true false) _ (and_parts (all_expected true false false) _ corners_expected).1).1
all_expected_lem false false false some = absurd (both_ways false refl some)

move_count_lem : (face : ℕ) (first second third : Bool) → face < 20 → first || (second || third) ≡ true → move_count face first second third ≡ expected_count first second third
unfolding all_expected has_expected
move_count_lem face first second third lt some = eqb-true _ _ (all_below_at (has_expected first second third) 20 face (all_expected_lem first second third some) lt)

-- a point has a weight that is not zero
some_weight : (n : ℕ) (p : LatticePoint) → 1 ≤ n → ltb 0 p.a || (ltb 0 p.b || ltb 0 (n - p.a - p.b)) ≡ true
some_weight n p le = go (cases_Bool (ltb 0 p.a)) (cases_Bool (ltb 0 p.b))
  where
    go : (ltb 0 p.a ≡ true) ⊎ (ltb 0 p.a ≡ false) → (ltb 0 p.b ≡ true) ⊎ (ltb 0 p.b ≡ false) → ltb 0 p.a || (ltb 0 p.b || ltb 0 (n - p.a - p.b)) ≡ true
    go (inl t) y = or_left (ltb 0 p.a) _ t
    go (inr f) (inl t) = or_right (ltb 0 p.a) _ (or_left (ltb 0 p.b) _ t)
    go (inr f) (inr g) =
        let a = ltb-false 0 p.a f in
        let b = ltb-false 0 p.b g in
        or_right (ltb 0 p.a) _ (or_right (ltb 0 p.b) _ (lt-ltb 0 (n - p.a - p.b) (omega arith)))

-- "twelve vertices have five neighbours, all others six"
pub lattice_list_length : (n v : ℕ) → 1 ≤ n → v < length (lattice_vertices n) → length (lattice_list n v) ≡ cond (is_corner n (vertex_at n v)) 5 6
unfolding is_corner expected_count move_count moves
lattice_list_length n v le lt =
    list_length_moves n v lt ∙ move_count_lem (vertex_at n v).face _ _ _ (vertex_on_lattice n v lt).face_below (some_weight n (vertex_at n v) le)

-- ---- "60n² entries"
corners_sum : (n : ℕ) → 1 ≤ n → sum_below (λ v. cond (is_corner n (vertex_at n v)) 1 0) (length (lattice_vertices n)) ≡ 12
corners_sum n le =
    sym (length_filter_tabulate (is_corner n) (length (lattice_vertices n)) (vertex_at n))
    ∙ ap (λ (l : List LatticePoint). length (filter (is_corner n) l)) (tabulate_elements (lattice_vertices n) (point_at 0 0 0))
    ∙ lattice_corner_count n le

sum_six : (test : ℕ → Bool) (n : ℕ) → sum_below (λ v. cond (test v) 5 6) n + sum_below (λ v. cond (test v) 1 0) n ≡ 6 * n
unfolding sum_below
sum_six test zero = refl
sum_six test (suc n) = let e = sum_six test n in let s = one (test n) in omega arith
  where
    one : (b : Bool) → ◌≡◌ {A = ℕ} (cond b 5 6 + cond b 1 0) 6
    one true = refl
    one false = refl

-- where the list of v starts: six entries for each vertex before it, but for the corners among them
pub lattice_list_start : (n v : ℕ) → 1 ≤ n → v ≤ length (lattice_vertices n) → start_of (lattice_list n) v + sum_below (λ u. cond (is_corner n (vertex_at n u)) 1 0) v ≡ 6 * v
unfolding start_of
lattice_list_start n v le lt =
    ap (λ (s : ℕ). s + sum_below (λ u. cond (is_corner n (vertex_at n u)) 1 0) v)
    (sum_extensional (λ u. length (lattice_list n u)) (λ u. cond (is_corner n (vertex_at n u)) 5 6) v (λ u lu. lattice_list_length n u le (omega arith)))
    ∙ sum_six (λ u. is_corner n (vertex_at n u)) v

-- "60n² entries"
pub lattice_entry_count : (n : ℕ) → 1 ≤ n → length (lattice_mesh n).entries ≡ 60 * (n * n)
unfolding lattice_mesh
lattice_entry_count n le =
    length_concatenate (length (lattice_vertices n)) (lattice_list n)
    ∙ (let six = lattice_list_start n (length (lattice_vertices n)) le (omega arith) in
    let twelve = corners_sum n le in let count = lattice_vertex_count_lem n le in omega arith)
