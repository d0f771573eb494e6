-- The lattice of frequency n. Definitions only.
use Rattle.std.specs.Prelude.{ℕ, suc, ◌+◌, ◌-◌, Bool, true, cond, ◌&&◌, ◌||◌, List, [], ◌∷◌, ◌++◌, map, length, ◌==◌, nat_le, slice_index_or, Float, Ok, Err}
use Rattle.sequences.specs.Range.{some_below}
use Rattle.sequences.specs.Tabulate.{tabulate, overwrite}
use Rattle.sequences.specs.Starts.{concatenate, starts_of}
use Rattle.sequences.specs.Filter.{filter_range}
use Rattle.sequences.specs.Equality.{same_numbers}
use Rattle.refusal.specs.declared.Refusal.TheVariants.{Room}
use Rattle.refusal.specs.Refusal.{Verdict, row, answer}
use Rattle.binary64.specs.Convert.{whole}
use Rattle.vector.specs.declared.Vector3.{Vector3}
use Rattle.vector.specs.Vector.{coordinates, vector_sum, vector_multiple, vector_quotient, normalized}
use Rattle.icosahedron.specs.Icosahedron.{face_corner, corner_point}
use Rattle.icosahedron.specs.Slots.{frequency_row}
use Rattle.mesh.specs.Mesh.{Mesh}

-- A point of a master face: a on the first corner, b on the second, n − a − b on the third.
pub record LatticePoint : Type 0 where
  pub face : ℕ
  pub a : ℕ
  pub b : ℕ

abbrev pub point_at : ℕ → ℕ → ℕ → LatticePoint
point_at face a b = record { face = face; a = a; b = b }

-- "Order: master faces 0 to 19; a from 0 to n; b from 0 to n − a; c = n − a − b." Within a face this is the order of the slots.
unfoldable pub lattice_points : ℕ → List LatticePoint
lattice_points n = concatenate 20 (λ face. concatenate (suc n) (λ a. tabulate (suc (n - a)) (λ b. point_at face a b)))

-- "A point's key is its corners with nonzero weight, a on the first corner, b on the second, c on the third": the weight on each of the twelve corners, 0 on those that do not count.
abbrev pub weight_on : ℕ → ℕ → ℕ → ℕ
weight_on corner weight other = cond (corner == other) weight 0

unfoldable pub weight_at : ℕ → LatticePoint → ℕ → ℕ
weight_at n p corner =
    weight_on (face_corner p.face 0) p.a corner + weight_on (face_corner p.face 1) p.b corner
    + weight_on (face_corner p.face 2) (n - p.a - p.b) corner

unfoldable pub key_of : ℕ → LatticePoint → List ℕ
key_of n p = tabulate 12 (weight_at n p)

-- "Equal keys are one vertex".
unfoldable pub same_vertex : ℕ → LatticePoint → LatticePoint → Bool
same_vertex n p q = same_numbers (key_of n p) (key_of n q)

-- The place of the first point that is one vertex with p, counted from k; the length, so counted, where none is.
unfoldable pub first_place_from : ℕ → ℕ → List LatticePoint → LatticePoint → ℕ
first_place_from n k [] p = k
first_place_from n k (q ∷ qs) p = cond (same_vertex n q p) k (first_place_from n (suc k) qs p)

-- "ids follow first appearance": the points that are a new vertex when they appear, behind those met before.
unfoldable pub first_appearances : ℕ → List LatticePoint → List LatticePoint → List LatticePoint
first_appearances n met [] = met
first_appearances n met (p ∷ ps) = first_appearances n (cond (first_place_from n 0 met p == length met) (met ++ (p ∷ [])) met) ps

-- The vertices by their first appearances: the vertex v is the v-th.
unfoldable pub lattice_vertices : ℕ → List LatticePoint
lattice_vertices n = first_appearances n [] (lattice_points n)

-- The id of a point's vertex.
unfoldable pub id_of : ℕ → LatticePoint → ℕ
id_of n p = first_place_from n 0 (lattice_vertices n) p

-- "((a·P1 + b·P2) + c·P3)/n": the mean of the face's corners by their weights.
abbrev pub mean_point : ℕ → LatticePoint → Vector3
mean_point n p =
    vector_quotient
    (vector_sum (vector_sum (vector_multiple (corner_point p.face 0) (whole p.a)) (vector_multiple (corner_point p.face 1) (whole p.b)))
    (vector_multiple (corner_point p.face 2) (whole (n - p.a - p.b))))
    (whole n)

-- "the position is that appearance's ((a·P1 + b·P2) + c·P3)/n, normalised"
unfoldable pub point_position : ℕ → LatticePoint → Vector3
point_position n p = normalized (mean_point n p)

-- One more a and one less b, one more a and one less c, one more b and one less c: three of the six steps that keep a + b + c.
unfoldable pub is_step_up : ℕ → ℕ → ℕ → ℕ → Bool
is_step_up a b a₁ b₁ = (a₁ == suc a && suc b₁ == b) || ((a₁ == suc a && b₁ == b) || (a₁ == a && b₁ == suc b))

-- "the six steps that keep a + b + c": one of the three, or the way back of one.
unfoldable pub is_step : ℕ → ℕ → ℕ → ℕ → Bool
is_step a b a₁ b₁ = is_step_up a b a₁ b₁ || is_step_up a₁ b₁ a b

-- On some face, a point of p's vertex is one step from a point of q's vertex.
unfoldable pub are_neighbours : ℕ → LatticePoint → LatticePoint → Bool
are_neighbours n p q =
    some_below (λ face.
    some_below (λ a.
    some_below (λ b.
    some_below (λ a₁.
    some_below (λ b₁.
    is_step a b a₁ b₁ && (same_vertex n (point_at face a b) p && same_vertex n (point_at face a₁ b₁) q))
    (suc (n - a₁))) (suc n)) (suc (n - a))) (suc n)) 20

-- "Neighbours: the six steps that keep a + b + c, over all faces, ascending."
unfoldable pub lattice_list : ℕ → ℕ → List ℕ
lattice_list n v =
    let vertices = lattice_vertices n in
    filter_range (λ u. are_neighbours n (slice_index_or vertices v (point_at 0 0 0)) (slice_index_or vertices u (point_at 0 0 0))) (length vertices)

unfoldable pub lattice_mesh : ℕ → Mesh
lattice_mesh n =
    let vertices = lattice_vertices n in
    record {
      positions = concatenate (length vertices) (λ v. coordinates (point_position n (slice_index_or vertices v (point_at 0 0 0))));
      starts = starts_of (length vertices) (lattice_list n);
      entries = concatenate (length vertices) (lattice_list n);
    }

-- "An id table (u16) is the twenty faces' slots, (n + 1)(n + 2)/2 each, one face behind another."
unfoldable pub id_table : ℕ → List ℕ
id_table n = map (id_of n) (lattice_points n)

-- ---- the whole outcome of a call

-- The slices lent, and as the call leaves them.
pub record LatticeSlices : Type 0 where
  pub positions : List Float
  pub starts : List ℕ
  pub entries : List ℕ
  pub ids : List ℕ

abbrev pub lattice_slices : List Float → List ℕ → List ℕ → List ℕ → LatticeSlices
lattice_slices positions starts entries ids = record { positions = positions; starts = starts; entries = entries; ids = ids }

-- Row 8 refuses "any slice too short".
unfoldable pub lattice_slices_fit : ℕ → LatticeSlices → Bool
lattice_slices_fit n lent =
    let mesh = lattice_mesh n in
    nat_le (length mesh.positions) (length lent.positions) && (nat_le (length mesh.starts) (length lent.starts)
    && (nat_le (length mesh.entries) (length lent.entries) && nat_le (length (id_table n)) (length lent.ids)))

-- The answer, the slices at exit, and the mark that the mesh's lists ascend.
pub record LatticeOutcome : Type 0 where
  pub answered : Verdict
  pub slices : LatticeSlices
  pub mark : Bool

abbrev pub lattice_outcome : Verdict → List Float → List ℕ → List ℕ → Bool → List ℕ → LatticeOutcome
lattice_outcome verdict positions starts entries mark ids = record { answered = verdict; slices = lattice_slices positions starts entries ids; mark = mark }

-- "surplus is untouched"
unfoldable pub filled_lattice : ℕ → LatticeSlices → LatticeSlices
filled_lattice n lent =
    let mesh = lattice_mesh n in
    record {
      positions = overwrite mesh.positions lent.positions;
      starts = overwrite mesh.starts lent.starts;
      entries = overwrite mesh.entries lent.entries;
      ids = overwrite (id_table n) lent.ids;
    }

-- Rows 1, 8.
abbrev pub geometry_rows : ℕ → LatticeSlices → Verdict
geometry_rows n lent = frequency_row n (row (lattice_slices_fit n lent) Room (Ok tt))

-- The whole outcome: an accepted call fills the slices and sets the mark, and a refused one leaves both as they were.
unfoldable pub lattice_geometry : ℕ → LatticeSlices → Bool → LatticeOutcome
lattice_geometry n lent mark =
    answer (geometry_rows n lent) (λ reason. record { answered = Err reason; slices = lent; mark = mark })
    (record { answered = Ok tt; slices = filled_lattice n lent; mark = true })
