-- The place of a point is below twenty times the slots of a face, where the table holds its id.
use Rattle.std.proofs.Common.{arith}
use Rattle.lattice.specs.Naming.{point_of}
use Rattle.lattice.proofs.Naming.{place_limit, place_below, table_read, held_ids}
use Rattle.lattice.proofs.id_table.TablePoint.id.Goals as goal

pub offset_bounds-self-place : goal.offset_bounds-self-place
offset_bounds-self-place c =
    let p = c.args.self.point in
    record { fits = rw c.place.ensures (omega (arith, place_limit p.frequency.n (point_of p) p.frequency.in_range.1 p.on_lattice)) }

pub bounds-self-place : goal.bounds-self-place
bounds-self-place c =
    let p = c.args.self.point in
    omega (arith, c.place.ensures, place_below p.frequency.n (point_of p) p.on_lattice, (held_ids c.args.self.table.ids.now c.args.self.of_lattice c.args.self.table.filled).0)

pub returns : goal.returns
returns c =
    let p = c.args.self.point in
    table_read p.frequency.n c.args.self.table.ids.now (point_of p) c.place.result (held_ids c.args.self.table.ids.now c.args.self.of_lattice c.args.self.table.filled).1 p.on_lattice c.place.ensures
