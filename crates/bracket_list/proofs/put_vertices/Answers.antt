-- `bracket_list::put_vertices` meets its contract: after v turns the lines of the first v vertices are written. Assumes nothing.
use Rattle.std.proofs.Common.{add-one, sym, arith}
use Rattle.mesh.specs.Mesh.{count, neighbours}
use Rattle.lattice.specs.Lattice.{lattice_mesh}
use Rattle.bracket_list.proofs.Written.{written_none, written_then, written_as}
use Rattle.bracket_list.proofs.Lines.{vertices_none, vertices_suc, vertices_room}
use Rattle.bracket_list.proofs.Listing.{few}
use Rattle.bracket_list.proofs.put_vertices.Goals as goal

pub loop-v-init : goal.loop-v-init
loop-v-init c = written_as (sym (vertices_none (neighbours (lattice_mesh c.args.rows.now.frequency)))) (written_none c.args.lines.now)

pub overflow_cast-v : goal.overflow_cast-v
overflow_cast-v c = omega (arith, few c.args.rows.now.of_lattice)

pub put_vertex-requires : goal.put_vertex-requires
put_vertex-requires c =
    let m = lattice_mesh c.args.rows.now.frequency in
    record { room = rw c.neighbours.ensures (omega (arith, vertices_room (neighbours m) c.loop-v.v (count m) (omega arith))) }

pub loop-v-preserved : goal.loop-v-preserved
loop-v-preserved c =
    let lists = neighbours (lattice_mesh c.args.rows.now.frequency) in
    written_as (sym (rw (add-one c.loop-v.v) (vertices_suc lists c.loop-v.v))) (written_then c.loop-v.invariant (rw c.neighbours.ensures at c.put_vertex.ensures))
