-- Laws of ids as a program that goes through the points in order meets them: a first appearance has the number of those before it. Assumes nothing.
use Rattle.std.proofs.Common.{◌≡◌, ℕ, suc, ◌+◌, ◌<◌, Bool, true, false, cond, List, [], ◌∷◌, ◌++◌, length, get_or, take, drop, sym, refl, ap, ◌∙◌, length-append, take-append-drop, drop-cons, take-suc}
use lib.Seq.{take-length}
use Rattle.sequences.specs.Filter.{filter}
use Rattle.sequences.proofs.Tabulate.{get_d_member, member_get_d}
use Rattle.sequences.proofs.Filter.{filter_append}
use Rattle.lattice.specs.Lattice.{LatticePoint, point_at, lattice_points, lattice_vertices, id_of}
use Rattle.lattice.specs.Appearances.{OnLattice, is_first_appearance}
use Rattle.lattice.specs.Shared.{firsts_before}
use Rattle.lattice.proofs.Points.{point_on_lattice}
use Rattle.lattice.proofs.Vertices.{vertices_first, first_vertex, vertex_at, id_of_vertex, id_first}

-- ---- the points met so far
module _ (n : ℕ) where
  pub firsts_before_none : firsts_before n 0 ≡ 0
  unfolding firsts_before filter
  firsts_before_none = refl

  pub firsts_before_all : firsts_before n (length (lattice_points n)) ≡ length (lattice_vertices n)
  unfolding firsts_before
  firsts_before_all = ap (λ (l : List LatticePoint). length (filter (is_first_appearance n) l)) (take-length (lattice_points n)) ∙ ap length (sym (vertices_first n))

  -- the point at a place of the order
  abbrev pub point_number : ℕ → LatticePoint
  point_number k = get_or (lattice_points n) k (point_at 0 0 0)

  pub firsts_before_suc : (k : ℕ) → k < length (lattice_points n) → firsts_before n (suc k) ≡ firsts_before n k + cond (is_first_appearance n (point_number k)) 1 0
  unfolding firsts_before filter
  firsts_before_suc k lt =
      ap (λ (l : List LatticePoint). length (filter (is_first_appearance n) l)) (take-suc (lattice_points n) k (point_at 0 0 0) lt)
      ∙ ap length (filter_append (is_first_appearance n) (take k (lattice_points n)) (point_number k ∷ []))
      ∙ length-append (filter (is_first_appearance n) (take k (lattice_points n))) (filter (is_first_appearance n) (point_number k ∷ []))
      ∙ ap (λ (m : ℕ). length (filter (is_first_appearance n) (take k (lattice_points n))) + m) (one (is_first_appearance n (point_number k)))
    where
      one : (b : Bool) → length (cond b (point_number k ∷ []) []) ≡ cond b 1 0
      one true = refl
      one false = refl

  points_split : (k : ℕ) → k < length (lattice_points n) → lattice_points n ≡ take k (lattice_points n) ++ (point_number k ∷ drop (suc k) (lattice_points n))
  points_split k lt = sym (take-append-drop k (lattice_points n)) ∙ ap (λ (l : List LatticePoint). take k (lattice_points n) ++ l) (drop-cons (lattice_points n) k (point_at 0 0 0) lt)

  -- a first appearance has the next id
  pub first_id : (k : ℕ) → k < length (lattice_points n) → is_first_appearance n (point_number k) ≡ true → id_of n (point_number k) ≡ firsts_before n k
  unfolding firsts_before
  first_id k lt h = id_first n (take k (lattice_points n)) (drop (suc k) (lattice_points n)) (point_number k) (points_split k lt) h

  -- and stands there among the vertices
  pub first_vertex_at : (k : ℕ) → k < length (lattice_points n) → is_first_appearance n (point_number k) ≡ true → vertex_at n (firsts_before n k) ≡ point_number k
  first_vertex_at k lt h = go (member_get_d (point_number k) (lattice_vertices n) (point_at 0 0 0) (first_vertex n (point_number k) on h))
    where
      on : OnLattice n (point_number k)
      on = point_on_lattice n (point_number k) (get_d_member (lattice_points n) k (point_at 0 0 0) lt)

      go : (v : ℕ) × (v < length (lattice_vertices n)) × (vertex_at n v ≡ point_number k) → vertex_at n (firsts_before n k) ≡ point_number k
      go r = ap (vertex_at n) (sym (first_id k lt h) ∙ ap (id_of n) (sym r.2) ∙ id_of_vertex n r.0 r.1) ∙ r.2
