-- Positions and starts point by point.
use Rattle.std.proofs.Common.{◌≡◌, ℕ, ◌<◌, cond, sym, refl, ◌∙◌, arith}
use Rattle.icosahedron.specs.declared.frequency.Frequency.{Frequency}
use Rattle.vector.specs.declared.Vector3.{Vector3}
use Rattle.lattice.specs.declared.face_points.FacePoint.{FacePoint}
use Rattle.lattice.specs.Lattice.{LatticePoint, point_at, point_position}
use Rattle.lattice.specs.Appearances.{OnLattice, is_corner}
use Rattle.lattice.specs.Naming.{point_of}
use Rattle.lattice.proofs.Order.{firsts_before_none}
use Rattle.lattice.proofs.Rows.{vertex_count_bounds}
use Rattle.lattice.proofs.Naming.{point_on_face, place_first, place_next, place_next_row, place_next_face, place_last, place_limit}
use Rattle.lattice.proofs.VertexFill.{five_or_six, no_vertices_yet, id_read_room, vertex_known, vertex_below, vertex_counted, vertex_limits, vertex_written, vertices_counted, vertices_all, start_room, position_room}
use Rattle.lattice.proofs.vertex_positions.fill_vertices.Goals as goal
use Rattle.lattice.proofs.vertex_positions.fill_vertices.Goals.{In-loop-b, then-table-place, else-table-place}

-- what is found at the program's point is found at the loop's
position_here : {frequency : Frequency} {point : LatticePoint} {v : Vector3} (p : FacePoint) → p.frequency ≡ frequency → point_of p ≡ point → v ≡ point_position p.frequency.n (point_of p) → v ≡ point_position frequency.n point
position_here p f e is = is ∙ rw (e, f) refl

count_here : {frequency : Frequency} {point : LatticePoint} {count : ℕ} (p : FacePoint) → p.frequency ≡ frequency → point_of p ≡ point → count ≡ cond (is_corner p.frequency.n (point_of p)) 5 6 → count ≡ cond (is_corner frequency.n point) 5 6
count_here p f e is = is ∙ rw (e, f) refl

on_lattice : (c : In-loop-b) → OnLattice c.args.table.frequency.n (point_at c.loop-index.index c.loop-a.a c.loop-b.b)
on_lattice c = record { face_below = c.loop-index-test.true; weights_within = omega (arith, c.loop-a-test.true, c.loop-b-test.true) }

place_small : (c : In-loop-b) → c.loop-b.place < 66420
place_small c = omega (arith, c.loop-b.invariant.0, place_limit c.args.table.frequency.n (point_at c.loop-index.index c.loop-a.a c.loop-b.b) c.args.table.frequency.in_range.1 (on_lattice c))

pub loop-index-init : goal.loop-index-init
loop-index-init c = (sym (place_first c.args.table.frequency.n), sym (firsts_before_none c.args.table.frequency.n), no_vertices_yet)

pub loop-a-preserved : goal.loop-a-preserved
loop-a-preserved c = (
  c.loop-b.invariant.0
      ∙ place_next_row c.args.table.frequency.n c.loop-index.index c.loop-a.a c.loop-b.b (omega (arith, c.loop-a-test.true)) (omega (arith, c.loop-b-test.false, c.loop-b.auto.b-end)),
  c.loop-b.invariant.1,
  c.loop-b.invariant.2,
)

pub loop-index-preserved : goal.loop-index-preserved
loop-index-preserved c = (
  c.loop-a.invariant.0 ∙ place_next_face c.args.table.frequency.n c.loop-index.index c.loop-a.a (omega (arith, c.loop-a-test.false, c.loop-a.auto.a-end)),
  c.loop-a.invariant.1,
  c.loop-a.invariant.2,
)

pub offset_bounds-table-place : goal.offset_bounds-table-place
offset_bounds-table-place c = record { fits = omega (arith, place_small (goal.at.offset_bounds-table-place c).In-loop-b) }

pub overflow_add-place : goal.overflow_add-place
overflow_add-place c = record { fits = omega (arith, place_small (goal.at.overflow_add-place c).In-loop-b) }

pub bounds-table-place : goal.bounds-table-place
bounds-table-place c = id_read_room {p = (point_at c.loop-index.index c.loop-a.a c.loop-b.b)} c.args.table.ids.now c.args.table.frequency.in_range c.args.table.filled (on_lattice (goal.at.bounds-table-place c).In-loop-b) c.loop-b.invariant.0 c.loop-b.invariant.1 c.loop-b.invariant.2

pub put_position-requires : goal.put_position-requires
put_position-requires c = position_room c.requires.positions c.requires.starts c.loop-b.invariant.2 (vertex_below {p = (point_at c.loop-index.index c.loop-a.a c.loop-b.b)} c.args.table.ids.now c.args.table.frequency.in_range c.args.table.filled (on_lattice (goal.at.put_position-requires c).In-loop-b) c.loop-b.invariant.0 c.loop-b.invariant.1 c.loop-b.invariant.2 c.if-table-place.true)

pub bounds-starts-vertex : goal.bounds-starts-vertex
bounds-starts-vertex c = start_room c.requires.positions c.requires.starts c.loop-b.invariant.2 (let b = vertex_below {p = (point_at c.loop-index.index c.loop-a.a c.loop-b.b)} c.args.table.ids.now c.args.table.frequency.in_range c.args.table.filled (on_lattice (goal.at.bounds-starts-vertex c).In-loop-b) c.loop-b.invariant.0 c.loop-b.invariant.1 c.loop-b.invariant.2 c.if-table-place.true in omega arith)

pub overflow_add-start : goal.overflow_add-start
overflow_add-start c =
    let limits = vertex_limits {p = (point_at c.loop-index.index c.loop-a.a c.loop-b.b)} c.args.table.ids.now c.args.table.frequency.in_range c.args.table.filled (on_lattice (goal.at.overflow_add-start c).In-loop-b) c.loop-b.invariant.0 c.loop-b.invariant.1 c.loop-b.invariant.2 c.if-table-place.true in
    record {
      fits = omega (arith, limits.0, limits.1, c.neighbour_count-start.ensures, five_or_six (is_corner c.new-p.result.frequency.n (point_of c.new-p.result)));
    }

pub loop-b-preserved : goal.loop-b-preserved
loop-b-preserved c = (
  rw c.loop-b.invariant.0 (sym (place_next c.args.table.frequency.n c.loop-index.index c.loop-a.a c.loop-b.b)),
  elim c.if-table-place.branch [ then-table-place w ↦ w.vertex-is ∙ vertex_counted {p = (point_at c.loop-index.index c.loop-a.a c.loop-b.b)} c.args.table.ids.now c.args.table.frequency.in_range c.args.table.filled (on_lattice (goal.at.loop-b-preserved c).In-loop-b) c.loop-b.invariant.0 c.loop-b.invariant.1 c.loop-b.invariant.2 w.if-table-place.true | else-table-place w ↦ w.vertex-is ∙ vertex_known {p = (point_at c.loop-index.index c.loop-a.a c.loop-b.b)} c.args.table.ids.now c.args.table.frequency.in_range c.args.table.filled (on_lattice (goal.at.loop-b-preserved c).In-loop-b) c.loop-b.invariant.0 c.loop-b.invariant.1 c.loop-b.invariant.2 w.if-table-place.false ],
  elim c.if-table-place.branch [
    | then-table-place w ↦
        rw (w.positions-is, w.put_position.ensures, w.starts-is, w.vertex-is, w.start-is)
        (vertex_written {p = (point_at c.loop-index.index c.loop-a.a c.loop-b.b)} c.args.table.ids.now c.args.table.frequency.in_range c.args.table.filled (on_lattice (goal.at.loop-b-preserved c).In-loop-b) c.loop-b.invariant.0 c.loop-b.invariant.1 c.loop-b.invariant.2 w.if-table-place.true c.requires.positions c.requires.starts (position_here w.new-p.result w.new-p.ensures.frequency (point_on_face c.new-face.ensures w.new-p.ensures.point) w.position_of.ensures)
        (count_here w.new-p.result w.new-p.ensures.frequency (point_on_face c.new-face.ensures w.new-p.ensures.point) w.neighbour_count-start.ensures))
    | else-table-place w ↦ rw (w.positions-is, w.starts-is, w.vertex-is, w.start-is) c.loop-b.invariant.2
  ],
)

pub offset_bounds-starts-vertex-2 : goal.offset_bounds-starts-vertex-2
offset_bounds-starts-vertex-2 c = record { fits = omega (arith, vertices_counted c.args.table.frequency.n (c.loop-index.invariant.0 ∙ place_last c.args.table.frequency.n c.loop-index.index (omega (arith, c.loop-index-test.false, c.loop-index.auto.index-end))) c.loop-index.invariant.1, (vertex_count_bounds c.args.table.frequency.n c.args.table.frequency.in_range.0 c.args.table.frequency.in_range.1).1) }

pub bounds-starts-vertex-2 : goal.bounds-starts-vertex-2
bounds-starts-vertex-2 c = start_room c.requires.positions c.requires.starts c.loop-index.invariant.2 (let e = vertices_counted c.args.table.frequency.n (c.loop-index.invariant.0 ∙ place_last c.args.table.frequency.n c.loop-index.index (omega (arith, c.loop-index-test.false, c.loop-index.auto.index-end))) c.loop-index.invariant.1 in omega arith)

pub returns-clause-positions : goal.returns-clause-positions
returns-clause-positions c = (vertices_all c.requires.positions c.requires.starts c.loop-index.invariant.2 (vertices_counted c.args.table.frequency.n (c.loop-index.invariant.0 ∙ place_last c.args.table.frequency.n c.loop-index.index (omega (arith, c.loop-index-test.false, c.loop-index.auto.index-end))) c.loop-index.invariant.1)).0

pub returns-clause-starts : goal.returns-clause-starts
returns-clause-starts c = (vertices_all c.requires.positions c.requires.starts c.loop-index.invariant.2 (vertices_counted c.args.table.frequency.n (c.loop-index.invariant.0 ∙ place_last c.args.table.frequency.n c.loop-index.index (omega (arith, c.loop-index-test.false, c.loop-index.auto.index-end))) c.loop-index.invariant.1)).1
