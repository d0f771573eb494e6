-- Laws of vertices and ids: the vertices are the points that lie on no earlier face; an id is the place of the vertex, and below the count. Assumes nothing.
use Rattle.std.proofs.Common.{◌≡◌, ℕ, zero, suc, ◌+◌, ◌<◌, ◌≤◌, true, false, cond, not, eqb, ◌⊎◌, List, [], ◌∷◌, ◌++◌, length, get_or, sym, refl, ap, ◌∙◌, inl, inr, append_assoc, append-nil, not-suc-le-zero, arith, length-append, eq-eqb, ne_eqb}
use mathlib.Core.List.Memᴰ
use mathlib.Core.List.{Memᴰ}
use lib.Seq.{get_or-append_seam}
use borrow.Author.Tests.{not-true, not-false}
use Rattle.std.proofs.lemmas.Bool.{cases_Bool, both_ways, cases_lt}
use Rattle.sequences.specs.Range.{some_below}
use Rattle.sequences.specs.Ascending.{Pairwise}
use Rattle.sequences.specs.Filter.{filter}
use Rattle.sequences.specs.Search.{first_below}
use Rattle.sequences.proofs.Range.{some_below_at, some_below_none}
use Rattle.sequences.proofs.Tabulate.{get_d_member, member_get_d}
use Rattle.sequences.proofs.Ascending.{pairwise_weaken}
use Rattle.sequences.proofs.Filter.{filter_member, member_filter, filter_true, filter_false, filter_append, pairwise_filter}
use Rattle.sequences.proofs.Search.{first_below_lem, first_found}
use Rattle.sequences.proofs.Relations.{pairwise_across, pairwise_right}
use Rattle.lattice.specs.Lattice.{LatticePoint, point_at, lattice_points, weight_at, key_of, same_vertex, first_place_from, first_appearances, lattice_vertices, id_of}
use Rattle.lattice.specs.Appearances.{OnLattice, lies_on, point_with, appearance_on, is_new, is_first_appearance}
use Rattle.lattice.proofs.Keys.{SameWeights, same_numbers_equal, same_vertex_weights, weights_same_vertex, same_face_point, lies_on_lem, appearance_on_lattice, appearance_weights, same_weights_lies_on}
use Rattle.lattice.proofs.Points.{point_on_lattice, on_lattice_point, Precedes, points_in_order}

-- ---- first appearances
is_first_lies_on : (n : ℕ) (p : LatticePoint) → is_first_appearance n p ≡ not (some_below (λ f. lies_on n f p) p.face)
unfolding is_first_appearance is_new lies_on
is_first_lies_on n p = refl

-- a first appearance lies on no earlier face
pub first_alone : (n : ℕ) (p : LatticePoint) → is_first_appearance n p ≡ true → (f : ℕ) → f < p.face → lies_on n f p ≡ false
first_alone n p h f lt = some_below_none (λ f. lies_on n f p) p.face f (not-true _ (sym (is_first_lies_on n p) ∙ h)) lt

-- one vertex lies on the same faces at each of its points
pub same_weights_faces : (n : ℕ) (p q : LatticePoint) → OnLattice n p → OnLattice n q → SameWeights n p q → (f : ℕ) → f < 20 → lies_on n f p ≡ true → lies_on n f q ≡ true
unfolding point_with
same_weights_faces n p q onp onq same f lt h =
    let l = lies_on_lem n f p h in
    same_weights_lies_on n q (appearance_on n f p) onq (appearance_on_lattice n f p onp lt l) (λ k. sym (same k) ∙ sym (appearance_weights n f p onp lt l k))

-- a point that is no first appearance has one, on an earlier face
pub record FirstAppearance (n : ℕ) (p : LatticePoint) : Type 0 where
  pub point : LatticePoint
  pub on_lattice : OnLattice n point
  pub is_first : is_first_appearance n point ≡ true
  pub same_weights : SameWeights n point p

pub record EarlierAppearance (n : ℕ) (p : LatticePoint) : Type 0 where
  pub first : FirstAppearance n p
  pub is_earlier : first.point.face < p.face

-- on the first face that it lies on
pub earlier_appearance : (n : ℕ) (p : LatticePoint) → OnLattice n p → is_first_appearance n p ≡ false → EarlierAppearance n p
unfolding point_with
earlier_appearance n p on h = record {
  first = record { point = q; on_lattice = on_q; is_first = is_first_lies_on n q ∙ ap not (none_earlier (cases_Bool _)); same_weights = same };
  is_earlier = found.0;
}
  where
    f : ℕ
    f = first_below (λ f. lies_on n f p) p.face

    found : (f < p.face) × (lies_on n f p ≡ true)
    found = first_found (λ f. lies_on n f p) p.face (not-false _ (sym (is_first_lies_on n p) ∙ h))

    face_below : f < 20
    face_below = omega (arith, found.0, on.face_below)

    q : LatticePoint
    q = appearance_on n f p

    on_q : OnLattice n q
    on_q = appearance_on_lattice n f p on face_below (lies_on_lem n f p found.1)

    same : SameWeights n q p
    same = appearance_weights n f p on face_below (lies_on_lem n f p found.1)

    none_earlier : (some_below (λ g. lies_on n g q) f ≡ true) ⊎ (some_below (λ g. lies_on n g q) f ≡ false) → some_below (λ g. lies_on n g q) f ≡ false
    none_earlier (inl t) =
        let r = some_below_at (λ g. lies_on n g q) f t in
        absurd
        (both_ways (lies_on n r.0 p) ((first_below_lem (λ g. lies_on n g p) p.face).none_before r.0 r.1)
        (same_weights_faces n q p on_q on same r.0 (omega (arith, r.1, face_below)) r.2))
    none_earlier (inr none) = none

-- each point has a first appearance
pub first_appearance : (n : ℕ) (p : LatticePoint) → OnLattice n p → FirstAppearance n p
first_appearance n p on = go (cases_Bool (is_first_appearance n p))
  where
    go : (is_first_appearance n p ≡ true) ⊎ (is_first_appearance n p ≡ false) → FirstAppearance n p
    go (inl t) = record { point = p; on_lattice = on; is_first = t; same_weights = λ k. refl }
    go (inr f) = (earlier_appearance n p on f).first

-- no point before a first appearance is the same vertex
abbrev Apart : ℕ → LatticePoint → LatticePoint → Type 0
Apart n q p = is_first_appearance n p ≡ true → same_vertex n q p ≡ false

points_apart : (n : ℕ) → Pairwise (Apart n) (lattice_points n)
points_apart n =
    pairwise_weaken Precedes (Apart n) (lattice_points n)
    (λ q p mq mp before first. go q p (point_on_lattice n q mq) (point_on_lattice n p mp) before first (cases_Bool (same_vertex n q p))) (points_in_order n)
  where
    go : (q p : LatticePoint) → OnLattice n q → OnLattice n p → Precedes q p → is_first_appearance n p ≡ true → (same_vertex n q p ≡ true) ⊎ (same_vertex n q p ≡ false) → same_vertex n q p ≡ false
    go q p onq onp before first (inr f) = f
    go q p onq onp before first (inl t) = absurd (which (cases_lt q.face p.face))
      where
        same : SameWeights n q p
        same = same_vertex_weights n q p onq onp t

        which : (q.face < p.face) ⊎ (p.face ≤ q.face) → ⊥
        which (inl lt) = both_ways (lies_on n q.face p) (first_alone n p first q.face lt) (same_weights_lies_on n p q onp onq (λ k. sym (same k)))
        which (inr le) = before.points_differ (same_face_point n q p onq onp (omega (arith, le, before.faces_ascend)) same)

-- ---- the place of the first that is the same vertex
place_none : (n k : ℕ) (l : List LatticePoint) (p : LatticePoint) → ((q : LatticePoint) → Memᴰ q l → same_vertex n q p ≡ false) → first_place_from n k l p ≡ k + length l
unfolding first_place_from
place_none n k [] p h = omega arith
place_none n k (x ∷ l) p h = rw (h x (Memᴰ.head refl)) (place_none n (suc k) l p (λ q m. h q (Memᴰ.tail m)) ∙ (let z : suc k + length l ≡ k + suc (length l) = omega arith in z))

place_some : (n k : ℕ) (l : List LatticePoint) (p q : LatticePoint) → Memᴰ q l → same_vertex n q p ≡ true → first_place_from n k l p < k + length l
unfolding first_place_from
place_some n k [] p q m h = elim m [ ]
place_some n k (x ∷ l) p q m h = go (cases_Bool (same_vertex n x p)) (Memᴰ.cases_cons m) (λ ml. place_some n (suc k) l p q ml h)
  where
    rest : (q ≡ x) ⊎ Memᴰ q l → same_vertex n x p ≡ false → (Memᴰ q l → first_place_from n (suc k) l p < suc k + length l) → first_place_from n (suc k) l p < k + suc (length l)
    rest (inl e) f below = absurd (both_ways (same_vertex n x p) f (ap (λ (z : LatticePoint). same_vertex n z p) (sym e) ∙ h))
    rest (inr ml) f below = omega (arith, below ml)

    go : (same_vertex n x p ≡ true) ⊎ (same_vertex n x p ≡ false) → (q ≡ x) ⊎ Memᴰ q l → (Memᴰ q l → first_place_from n (suc k) l p < suc k + length l)
        → cond (same_vertex n x p) k (first_place_from n (suc k) l p) < k + suc (length l)
    go (inl t) c below = rw t (omega arith)
    go (inr f) c below = rw f (rest c f below)

-- ---- the vertices
filter_keeps : (n : ℕ) (p : LatticePoint) (r : List LatticePoint) → is_first_appearance n p ≡ true → filter (is_first_appearance n) (p ∷ r) ≡ p ∷ filter (is_first_appearance n) r
unfolding filter
filter_keeps n p r h = rw h refl

appearances_filter : (n : ℕ) (l r : List LatticePoint) → lattice_points n ≡ l ++ r → first_appearances n (filter (is_first_appearance n) l) r ≡ filter (is_first_appearance n) (lattice_points n)
unfolding first_appearances
appearances_filter n l [] e = ap (filter (is_first_appearance n)) (sym (append-nil l) ∙ sym e)
appearances_filter n l (p ∷ r) e =
    ap (λ (met : List LatticePoint). first_appearances n met r) (step (cases_Bool (is_first_appearance n p)))
    ∙ appearances_filter n (l ++ (p ∷ [])) r (e ∙ sym (append_assoc l (p ∷ []) r))
  where
    met : List LatticePoint
    met = filter (is_first_appearance n) l

    on : OnLattice n p
    on = point_on_lattice n p (rw e (here l))
      where
        here : (l : List LatticePoint) → Memᴰ p (l ++ (p ∷ r))
        here [] = Memᴰ.head refl
        here (x ∷ l) = Memᴰ.tail (here l)

    met_before : (q : LatticePoint) → OnLattice n q → q.face < p.face → Memᴰ q l
    met_before q onq lt = go (Memᴰ.append_cases l (rw e at (on_lattice_point n q onq)))
      where
        after : (q ≡ p) ⊎ Memᴰ q r → ⊥
        after (inl same) = let d : q.face ≡ p.face = ap (λ (z : LatticePoint). z.face) same in omega arith
        after (inr m) = let o = (pairwise_right Precedes l (p ∷ r) (rw e at (points_in_order n))).0 q m in omega (arith, o.faces_ascend)

        go : Memᴰ q l ⊎ Memᴰ q (p ∷ r) → Memᴰ q l
        go (inl m) = m
        go (inr m) = absurd (after (Memᴰ.cases_cons m))

    step : (is_first_appearance n p ≡ true) ⊎ (is_first_appearance n p ≡ false) → cond (eqb (first_place_from n 0 met p) (length met)) (met ++ (p ∷ [])) met ≡ filter (is_first_appearance n) (l ++ (p ∷ []))
    step (inl t) =
        let none = place_none n 0 met p (λ q m. pairwise_across (Apart n) l (p ∷ r) q p (rw e at (points_apart n)) (filter_member (is_first_appearance n) l q m).0 (Memᴰ.head refl) t) in
        let z : first_place_from n 0 met p ≡ length met = omega arith in
        rw (eq-eqb _ _ z) (sym (filter_true (is_first_appearance n) l p t))
    step (inr f) =
        let q = earlier_appearance n p on f in
        let first = q.first in
        let is-met = member_filter (is_first_appearance n) l first.point (met_before first.point first.on_lattice q.is_earlier) first.is_first in
        let some = place_some n 0 met p first.point is-met (weights_same_vertex n first.point p first.same_weights) in
        rw (ne_eqb (first_place_from n 0 met p) (length met) (λ z. let y : ⊥ = omega arith in y)) (sym (filter_false (is_first_appearance n) l p f))

-- "ids follow first appearance"
pub vertices_first : (n : ℕ) → lattice_vertices n ≡ filter (is_first_appearance n) (lattice_points n)
unfolding lattice_vertices filter
vertices_first n = appearances_filter n [] (lattice_points n) refl

-- a vertex is a point of the lattice and a first appearance, and the other way round
pub vertex_first : (n : ℕ) (p : LatticePoint) → Memᴰ p (lattice_vertices n) → OnLattice n p × (is_first_appearance n p ≡ true)
vertex_first n p m = let r = filter_member (is_first_appearance n) (lattice_points n) p (rw (vertices_first n) at m) in (point_on_lattice n p r.0, r.1)

pub first_vertex : (n : ℕ) (p : LatticePoint) → OnLattice n p → is_first_appearance n p ≡ true → Memᴰ p (lattice_vertices n)
first_vertex n p on h = rw (vertices_first n) (member_filter (is_first_appearance n) (lattice_points n) p (on_lattice_point n p on) h)

-- the vertex v, as the point where it first appears
abbrev pub vertex_at : ℕ → ℕ → LatticePoint
vertex_at n v = get_or (lattice_vertices n) v (point_at 0 0 0)

pub vertex_on_lattice : (n v : ℕ) → v < length (lattice_vertices n) → OnLattice n (vertex_at n v)
vertex_on_lattice n v lt = (vertex_first n (vertex_at n v) (get_d_member (lattice_vertices n) v (point_at 0 0 0) lt)).0

-- no two of the vertices are one
pub vertices_apart : (n : ℕ) → Pairwise (λ q p. same_vertex n q p ≡ false) (lattice_vertices n)
vertices_apart n =
    rw (vertices_first n)
    (pairwise_weaken (Apart n) (λ q p. same_vertex n q p ≡ false) (filter (is_first_appearance n) (lattice_points n))
    (λ q p mq mp apart. apart (filter_member (is_first_appearance n) (lattice_points n) p mp).1) (pairwise_filter (Apart n) (is_first_appearance n) (lattice_points n) (points_apart n)))

-- ---- ids
place_at : (n k : ℕ) (l : List LatticePoint) (v : ℕ) (d : LatticePoint) → Pairwise (λ q p. same_vertex n q p ≡ false) l → v < length l → first_place_from n k l (get_or l v d) ≡ k + v
unfolding first_place_from
place_at n k [] v d apart lt = absurd (not-suc-le-zero lt)
place_at n k (x ∷ l) zero d apart lt = rw (weights_same_vertex n x x (λ i. refl)) (let z : k ≡ k + 0 = omega arith in z)
place_at n k (x ∷ l) (suc v) d apart lt =
    rw (apart.0 (get_or l v d) (get_d_member l v d (omega (arith, lt))))
    (place_at n (suc k) l v d apart.1 (omega (arith, lt)) ∙ (let z : suc k + v ≡ k + suc v = omega arith in z))

place_same : (n k : ℕ) (l : List LatticePoint) (p q : LatticePoint) → key_of n p ≡ key_of n q → first_place_from n k l p ≡ first_place_from n k l q
unfolding first_place_from same_vertex
place_same n k [] p q e = refl
place_same n k (x ∷ l) p q e = rw (e, place_same n (suc k) l p q e) refl

-- the id of the v-th vertex is v
pub id_of_vertex : (n v : ℕ) → v < length (lattice_vertices n) → id_of n (vertex_at n v) ≡ v
unfolding id_of
id_of_vertex n v lt = place_at n 0 (lattice_vertices n) v (point_at 0 0 0) (vertices_apart n) lt ∙ (let z : 0 + v ≡ v = omega arith in z)

-- one vertex has one id
pub id_same : (n : ℕ) (p q : LatticePoint) → SameWeights n p q → id_of n p ≡ id_of n q
unfolding id_of same_vertex
id_same n p q same = place_same n 0 (lattice_vertices n) p q (same_numbers_equal (key_of n p) (key_of n q) (weights_same_vertex n p q same))

-- the vertex that a point's id stands for
pub record HasId (n : ℕ) (p : LatticePoint) : Type 0 where
  pub below : id_of n p < length (lattice_vertices n)
  pub same_weights : SameWeights n (vertex_at n (id_of n p)) p

-- each point of the lattice has one
pub has_id : (n : ℕ) (p : LatticePoint) → OnLattice n p → HasId n p
has_id n p on =
    let first = first_appearance n p on in
    let place = member_get_d first.point (lattice_vertices n) (point_at 0 0 0) (first_vertex n first.point first.on_lattice first.is_first) in
    let id : id_of n p ≡ place.0 = sym (id_same n first.point p first.same_weights) ∙ ap (id_of n) (sym place.2) ∙ id_of_vertex n place.0 place.1 in
    record { below = rw id place.1; same_weights = rw (id, place.2) first.same_weights }

-- every id is below the vertex count
pub id_below : (n : ℕ) (p : LatticePoint) → OnLattice n p → id_of n p < length (lattice_vertices n)
id_below n p on = (has_id n p on).below

-- different vertices have different ids
pub id_injective : (n : ℕ) (p q : LatticePoint) → OnLattice n p → OnLattice n q → id_of n p ≡ id_of n q → SameWeights n p q
id_injective n p q onp onq e k = sym ((has_id n p onp).same_weights k) ∙ ap (λ (v : ℕ). weight_at n (vertex_at n v) k) e ∙ (has_id n q onq).same_weights k

-- the id of a first appearance is the number of first appearances before it
pub id_first : (n : ℕ) (l r : List LatticePoint) (p : LatticePoint) → lattice_points n ≡ l ++ (p ∷ r) → is_first_appearance n p ≡ true → id_of n p ≡ length (filter (is_first_appearance n) l)
id_first n l r p e h = ap (id_of n) (sym at) ∙ id_of_vertex n (length (filter (is_first_appearance n) l)) below
  where
    split : lattice_vertices n ≡ filter (is_first_appearance n) l ++ filter (is_first_appearance n) (p ∷ r)
    split = vertices_first n ∙ ap (filter (is_first_appearance n)) e ∙ filter_append (is_first_appearance n) l (p ∷ r)

    head : filter (is_first_appearance n) (p ∷ r) ≡ p ∷ filter (is_first_appearance n) r
    head = filter_keeps n p r h

    at : vertex_at n (length (filter (is_first_appearance n) l)) ≡ p
    at = rw (split, head) (get_or-append_seam (filter (is_first_appearance n) l) p (filter (is_first_appearance n) r) (point_at 0 0 0))

    below : length (filter (is_first_appearance n) l) < length (lattice_vertices n)
    below = rw (split, head, length-append) (omega arith)
