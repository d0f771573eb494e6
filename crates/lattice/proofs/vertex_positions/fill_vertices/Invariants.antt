-- Before each point the vertices that first appear before it are written.
use Rattle.std.proofs.Common.{◌≡◌}
use Rattle.lattice.specs.Lattice.{point_at}
use Rattle.lattice.specs.Shared.{firsts_before}
use Rattle.lattice.specs.Naming.{place_of}
use Rattle.lattice.proofs.VertexFill.{VerticesFilled}
use Rattle.lattice.proofs.vertex_positions.fill_vertices.Given as goal

abbrev pub invariant-loop-index : goal.invariant-loop-index
invariant-loop-index l =
    (l.place ≡ place_of l.n (point_at l.index 0 0)) × (l.vertex ≡ firsts_before l.n l.place) × VerticesFilled l.n l.fn.positions l.fn.starts l.positions l.starts l.vertex l.start

abbrev pub invariant-loop-a : goal.invariant-loop-a
invariant-loop-a l =
    (l.place ≡ place_of l.n (point_at l.index l.a 0)) × (l.vertex ≡ firsts_before l.n l.place) × VerticesFilled l.n l.fn.positions l.fn.starts l.positions l.starts l.vertex l.start

abbrev pub invariant-loop-b : goal.invariant-loop-b
invariant-loop-b l =
    (l.place ≡ place_of l.n (point_at l.index l.a l.b)) × (l.vertex ≡ firsts_before l.n l.place) × VerticesFilled l.n l.fn.positions l.fn.starts l.positions l.starts l.vertex l.start
