-- The analytic queries, whole. Definitions only.
use Rattle.std.specs.Prelude.{ℕ, ◌+◌, ◌*◌, Bool, cond, ◌&&◌, List, length, nat_le, nat_lt, slice_index, Result, Ok, Err}
use Rattle.refusal.specs.declared.Refusal.{Refusal}
use Rattle.refusal.specs.declared.Refusal.TheVariants.{Id, Room}
use Rattle.refusal.specs.Refusal.{Verdict, row, answer}
use Rattle.binary64.specs.TotalOrder.{rank_of}
use Rattle.vector.specs.declared.Vector3.{Vector3}
use Rattle.vector.specs.Direction.{direction_row}
use Rattle.icosahedron.specs.Slots.{frequency_row, slots_per_face, lattice_vertex_count}
use Rattle.vector.specs.declared.Triple.{Triple}
use Rattle.vector.specs.declared.Weights.{Weights}
use Rattle.analytic.specs.declared.LatticeCoordinates.{LatticeCoordinates}
use Rattle.analytic.specs.declared.Located.{Located}
use Rattle.master_face.specs.MasterFace.{master_face_of}
use Rattle.analytic.specs.FaceChoice.{signs_of, outside_first, flag_sum, flag_row, mapped_face}
use Rattle.analytic.specs.SubTriangle.{SubTriangle, sub_triangle_on, clamped_slot}

-- the id of a lattice point of a face: "the twenty faces' slots, (n + 1)(n + 2)/2 each, one face behind another"
unfoldable pub id_at : ℕ → List ℕ → ℕ → LatticeCoordinates → ℕ
id_at n ids face q = slice_index ids (face * slots_per_face n + clamped_slot n q)

unfoldable pub corner_ids : ℕ → List ℕ → ℕ → SubTriangle → Triple
corner_ids n ids face t = record { first = id_at n ids face t.corners.first; second = id_at n ids face t.corners.second; third = id_at n ids face t.corners.third }

-- row 4 lets pass ids below the vertex count
unfoldable pub triple_below : ℕ → Triple → Bool
triple_below count t = nat_lt t.first count && nat_lt t.second count && nat_lt t.third count

abbrev pub triple_located : Triple → Weights → Located
triple_located triple weights = record { triple = triple; weights = weights }

-- the answer on a face: row 4, then the triple and its weights
unfoldable pub locate_on : ℕ → List ℕ → ℕ → Vector3 → Result Located Refusal
locate_on n ids face p =
    let t = sub_triangle_on n (master_face_of face) p in
    let triple = corner_ids n ids face t in
    answer (row (triple_below (lattice_vertex_count n) triple) Id (Ok tt)) Err (Ok (triple_located triple t.weights))

-- "An analytic query checks the frequency, the id table's length (8), the direction, 10, then the three ids that it reads (4)." The rows before the last:
unfoldable pub query_rows : ℕ → List ℕ → Vector3 → Verdict
query_rows n ids p =
    frequency_row n (row (nat_le (20 * slots_per_face n) (length ids)) Room (direction_row p (flag_row (outside_first p) (Ok tt))))

unfoldable pub analytic_locate : ℕ → List ℕ → Vector3 → Result Located Refusal
analytic_locate n ids p = answer (query_rows n ids p) Err (locate_on n ids (mapped_face (signs_of p) (flag_sum (outside_first p))) p)

-- "Nearest is the last corner of greatest weight in total order."
unfoldable pub last_greatest : Triple → Weights → ℕ
last_greatest t w =
    cond (nat_le (rank_of w.u) (rank_of w.w) && nat_le (rank_of w.v) (rank_of w.w)) t.third
    (cond (nat_le (rank_of w.u) (rank_of w.v)) t.second t.first)

unfoldable pub corner_of : Result Located Refusal → Result ℕ Refusal
corner_of (Err reason) = Err reason
corner_of (Ok l) = Ok (last_greatest l.triple l.weights)

unfoldable pub analytic_nearest : ℕ → List ℕ → Vector3 → Result ℕ Refusal
analytic_nearest n ids p = corner_of (analytic_locate n ids p)
