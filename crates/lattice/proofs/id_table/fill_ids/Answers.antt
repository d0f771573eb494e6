-- The ids point by point.
use Rattle.std.proofs.Common.{◌≡◌, ℕ, ◌<◌, sym, refl, ◌∙◌, arith}
use Rattle.icosahedron.specs.declared.frequency.Frequency.{Frequency}
use Rattle.lattice.specs.declared.face_points.FacePoint.{FacePoint}
use Rattle.lattice.specs.Lattice.{LatticePoint, point_at}
use Rattle.lattice.specs.Appearances.{OnLattice}
use Rattle.lattice.specs.Naming.{point_of, place_of, naming}
use Rattle.lattice.proofs.Naming.{point_on_face, place_first, place_next, place_next_row, place_next_face, place_last, place_limit}
use Rattle.lattice.proofs.IdFill.{no_ids_yet, ids_all, id_room, new_id_small, ids_new, named_earlier, ids_known}
use Rattle.lattice.proofs.id_table.fill_ids.Goals as goal
use Rattle.lattice.proofs.id_table.fill_ids.Goals.{In-loop-b, After-place-named, then-named-place, else-named-place}

-- where the place that was found stands
found : {frequency : Frequency} {point : LatticePoint} {place : ℕ} (p q : FacePoint) → p.frequency ≡ frequency → point_of p ≡ point → q.frequency ≡ p.frequency → point_of q ≡ naming p.frequency.n (point_of p)
    → place ≡ place_of q.frequency.n (point_of q) → place ≡ place_of frequency.n (naming frequency.n point)
found p q pf pp qf qp e = e ∙ rw (qp, qf, pp, pf) refl

on_lattice : (c : In-loop-b) → OnLattice c.args.frequency.n (point_at c.loop-index.index c.loop-a.a c.loop-b.b)
on_lattice c = record { face_below = c.loop-index-test.true; weights_within = omega (arith, c.loop-a-test.true, c.loop-b-test.true) }

place_small : (c : In-loop-b) → c.loop-b.place < 66420
place_small c = omega (arith, c.loop-b.invariant.0, place_limit c.args.frequency.n (point_at c.loop-index.index c.loop-a.a c.loop-b.b) c.args.frequency.in_range.1 (on_lattice c))

named_is : (c : After-place-named) → c.place-named.result ≡ place_of c.args.frequency.n (naming c.args.frequency.n (point_at c.loop-index.index c.loop-a.a c.loop-b.b))
named_is c = found c.new.result c.naming.result c.new.ensures.frequency (point_on_face c.new-face.ensures c.new.ensures.point) c.naming.ensures.frequency c.naming.ensures.point c.place-named.ensures

pub loop-index-init : goal.loop-index-init
loop-index-init c = (sym (place_first c.args.frequency.n), no_ids_yet)

pub loop-a-preserved : goal.loop-a-preserved
loop-a-preserved c = (
  c.loop-b.invariant.0
      ∙ place_next_row c.args.frequency.n c.loop-index.index c.loop-a.a c.loop-b.b (omega (arith, c.loop-a-test.true)) (omega (arith, c.loop-b-test.false, c.loop-b.auto.b-end)),
  c.loop-b.invariant.1,
)

pub loop-index-preserved : goal.loop-index-preserved
loop-index-preserved c = (
  c.loop-a.invariant.0 ∙ place_next_face c.args.frequency.n c.loop-index.index c.loop-a.a (omega (arith, c.loop-a-test.false, c.loop-a.auto.a-end)),
  c.loop-a.invariant.1,
)

pub returns : goal.returns
returns c = ids_all c.requires (c.loop-index.invariant.0 ∙ place_last c.args.frequency.n c.loop-index.index (omega (arith, c.loop-index-test.false, c.loop-index.auto.index-end))) c.loop-index.invariant.1

pub overflow_cast-ids : goal.overflow_cast-ids
overflow_cast-ids c = record { fits = omega (arith, new_id_small {p = (point_at c.loop-index.index c.loop-a.a c.loop-b.b)} c.args.frequency.in_range c.requires (on_lattice (goal.at.overflow_cast-ids c).In-loop-b) c.loop-b.invariant.0 c.loop-b.invariant.1 c.place-named.result (named_is (goal.at.overflow_cast-ids c).After-place-named) c.if-named-place.true) }

pub overflow_add-next : goal.overflow_add-next
overflow_add-next c = record { fits = omega (arith, new_id_small {p = (point_at c.loop-index.index c.loop-a.a c.loop-b.b)} c.args.frequency.in_range c.requires (on_lattice (goal.at.overflow_add-next c).In-loop-b) c.loop-b.invariant.0 c.loop-b.invariant.1 c.place-named.result (named_is (goal.at.overflow_add-next c).After-place-named) c.if-named-place.true) }

pub offset_bounds-ids-place : goal.offset_bounds-ids-place
offset_bounds-ids-place c = record { fits = omega (arith, place_small (goal.at.offset_bounds-ids-place c).In-loop-b) }

pub offset_bounds-ids-place-else-named-place : goal.offset_bounds-ids-place-else-named-place
offset_bounds-ids-place-else-named-place c = record { fits = omega (arith, place_small (goal.at.offset_bounds-ids-place-else-named-place c).In-loop-b) }

pub overflow_add-place : goal.overflow_add-place
overflow_add-place c = record { fits = omega (arith, place_small (goal.at.overflow_add-place c).In-loop-b) }

pub bounds-ids-place : goal.bounds-ids-place
bounds-ids-place c = id_room {p = (point_at c.loop-index.index c.loop-a.a c.loop-b.b)} c.args.frequency.in_range c.requires (on_lattice (goal.at.bounds-ids-place c).In-loop-b) c.loop-b.invariant.0 c.loop-b.invariant.1

pub bounds-ids-place-else-named-place : goal.bounds-ids-place-else-named-place
bounds-ids-place-else-named-place c = id_room {p = (point_at c.loop-index.index c.loop-a.a c.loop-b.b)} c.args.frequency.in_range c.requires (on_lattice (goal.at.bounds-ids-place-else-named-place c).In-loop-b) c.loop-b.invariant.0 c.loop-b.invariant.1

pub offset_bounds-ids-named : goal.offset_bounds-ids-named
offset_bounds-ids-named c = record { fits = omega (arith, named_earlier {p = (point_at c.loop-index.index c.loop-a.a c.loop-b.b)} c.args.frequency.in_range c.requires (on_lattice (goal.at.offset_bounds-ids-named c).In-loop-b) c.loop-b.invariant.0 c.loop-b.invariant.1 c.place-named.result (named_is (goal.at.offset_bounds-ids-named c).After-place-named) c.if-named-place.false, place_small (goal.at.offset_bounds-ids-named c).In-loop-b) }

pub bounds-ids-named : goal.bounds-ids-named
bounds-ids-named c = omega (arith, named_earlier {p = (point_at c.loop-index.index c.loop-a.a c.loop-b.b)} c.args.frequency.in_range c.requires (on_lattice (goal.at.bounds-ids-named c).In-loop-b) c.loop-b.invariant.0 c.loop-b.invariant.1 c.place-named.result (named_is (goal.at.bounds-ids-named c).After-place-named) c.if-named-place.false, id_room {p = (point_at c.loop-index.index c.loop-a.a c.loop-b.b)} c.args.frequency.in_range c.requires (on_lattice (goal.at.bounds-ids-named c).In-loop-b) c.loop-b.invariant.0 c.loop-b.invariant.1)

pub loop-b-preserved : goal.loop-b-preserved
loop-b-preserved c = (
  rw c.loop-b.invariant.0 (sym (place_next c.args.frequency.n c.loop-index.index c.loop-a.a c.loop-b.b)),
  elim c.if-named-place.branch [
    | then-named-place w ↦ rw (w.ids-is, w.next-is) (ids_new {p = (point_at c.loop-index.index c.loop-a.a c.loop-b.b)} c.args.frequency.in_range c.requires (on_lattice (goal.at.loop-b-preserved c).In-loop-b) c.loop-b.invariant.0 c.loop-b.invariant.1 c.place-named.result (named_is (goal.at.loop-b-preserved c).After-place-named) w.if-named-place.true)
    | else-named-place w ↦ rw (w.ids-is, w.next-is) (ids_known {p = (point_at c.loop-index.index c.loop-a.a c.loop-b.b)} c.args.frequency.in_range c.requires (on_lattice (goal.at.loop-b-preserved c).In-loop-b) c.loop-b.invariant.0 c.loop-b.invariant.1 c.place-named.result (named_is (goal.at.loop-b-preserved c).After-place-named) w.if-named-place.false)
  ],
)
