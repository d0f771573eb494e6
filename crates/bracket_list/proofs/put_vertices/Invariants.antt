-- In `bracket_list::put_vertices`, after v turns the lines of the first v vertices are written.
use Rattle.mesh.specs.Mesh.{neighbours}
use Rattle.lattice.specs.Lattice.{lattice_mesh}
use Rattle.bracket_list.specs.LatticeList.{vertex_lines}
use Rattle.bracket_list.specs.Output.{Written}
use Rattle.bracket_list.proofs.put_vertices.Given as goal

abbrev pub invariant-loop-v : goal.invariant-loop-v
invariant-loop-v l =
    Written l.fn.lines (vertex_lines l.v (neighbours (lattice_mesh l.rows.frequency))) l.lines
