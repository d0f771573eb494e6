-- `bracket_list::put_mesh` meets its contract: the walk, and the lines. Assumes nothing.
use Rattle.std.proofs.Common.{length, sym, ap, ◌∙◌, arith}
use Rattle.std.proofs.Math.Seq.{length-take-le}
use Rattle.lattice.specs.Lattice.{lattice_mesh}
use Rattle.bracket_list.proofs.Written.{written_then, written_as}
use Rattle.bracket_list.proofs.Listing.{few, entries_few, lattice_walkable, head_is, reach_few, walk_is, mesh_pieces, mesh_size}
use Rattle.bracket_list.proofs.put_mesh.Goals as goal

pub slice_bounds-order-end : goal.slice_bounds-order-end
slice_bounds-order-end c = omega (arith, few c.args.rows.now.of_lattice)

pub slice_bounds-breadth_first-end : goal.slice_bounds-breadth_first-end
slice_bounds-breadth_first-end c = sym (length-take-le _ _ (omega (arith, few c.args.rows.now.of_lattice)))

pub breadth_first-reach-requires : goal.breadth_first-reach-requires
breadth_first-reach-requires c =
    lattice_walkable c.args.rows.now.of_lattice (length-take-le _ _ (omega (arith, few c.args.rows.now.of_lattice)) ∙ c.count-vertices.ensures) (omega arith)

pub overflow_cast-vertices : goal.overflow_cast-vertices
overflow_cast-vertices c = omega (arith, few c.args.rows.now.of_lattice)

pub overflow_cast-rows : goal.overflow_cast-rows
overflow_cast-rows c = omega (arith, entries_few c.args.rows.now.of_lattice)

pub put_head-requires : goal.put_head-requires
put_head-requires c =
    let rows = c.args.rows.now in
    let head = ap length (head_is rows.of_lattice c.count-vertices.result c.count-vertices.ensures) in
    record { room = omega (arith, mesh_size rows.frequency (lattice_mesh rows.frequency)) }

pub put_vertices-requires : goal.put_vertices-requires
put_vertices-requires c =
    let rows = c.args.rows.now in
    let head = ap length (head_is rows.of_lattice c.count-vertices.result c.count-vertices.ensures) in
    record { room = omega (arith, mesh_size rows.frequency (lattice_mesh rows.frequency)) }

pub slice_bounds-queue-end : goal.slice_bounds-queue-end
slice_bounds-queue-end c =
    let rows = c.args.rows.now.of_lattice in
    omega (arith, reach_few rows (length-take-le _ _ (omega (arith, few rows)) ∙ c.count-vertices.ensures) c.breadth_first-reach.ensures, c.breadth_first-reach.auto.queue)

pub slice_bounds-put_walk-end : goal.slice_bounds-put_walk-end
slice_bounds-put_walk-end c =
    let rows = c.args.rows.now.of_lattice in
    sym (length-take-le _ _ (omega (arith, reach_few rows (length-take-le _ _ (omega (arith, few rows)) ∙ c.count-vertices.ensures) c.breadth_first-reach.ensures, c.breadth_first-reach.auto.queue)))

pub put_walk-requires : goal.put_walk-requires
put_walk-requires c =
    let rows = c.args.rows.now in
    let head = ap length (head_is rows.of_lattice c.count-vertices.result c.count-vertices.ensures) in
    let walk = ap length (walk_is rows.of_lattice (length-take-le _ _ (omega (arith, few rows.of_lattice)) ∙ c.count-vertices.ensures) c.breadth_first-reach.ensures) in
    record { room = omega (arith, mesh_size rows.frequency (lattice_mesh rows.frequency)) }

pub returns : goal.returns
returns c =
    let rows = c.args.rows.now in
    let head = written_as (head_is rows.of_lattice c.count-vertices.result c.count-vertices.ensures) c.put_head.ensures in
    let walk = written_as (walk_is rows.of_lattice (length-take-le _ _ (omega (arith, few rows.of_lattice)) ∙ c.count-vertices.ensures) c.breadth_first-reach.ensures) c.put_walk.ensures in
    written_as (mesh_pieces rows.frequency (lattice_mesh rows.frequency)) (written_then (written_then head c.put_vertices.ensures) walk)
