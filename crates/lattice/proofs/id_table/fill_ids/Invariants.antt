-- Before each point the ids of the points before it are written.
use Rattle.std.proofs.Common.{◌≡◌}
use Rattle.lattice.specs.Lattice.{point_at}
use Rattle.lattice.specs.Naming.{place_of}
use Rattle.lattice.proofs.IdFill.{IdsFilled}
use Rattle.lattice.proofs.id_table.fill_ids.Given as goal

abbrev pub invariant-loop-index : goal.invariant-loop-index
invariant-loop-index l = (l.place ≡ place_of l.n (point_at l.index 0 0)) × IdsFilled l.n l.fn.ids l.ids l.place l.next

abbrev pub invariant-loop-a : goal.invariant-loop-a
invariant-loop-a l = (l.place ≡ place_of l.n (point_at l.index l.a 0)) × IdsFilled l.n l.fn.ids l.ids l.place l.next

abbrev pub invariant-loop-b : goal.invariant-loop-b
invariant-loop-b l = (l.place ≡ place_of l.n (point_at l.index l.a l.b)) × IdsFilled l.n l.fn.ids l.ids l.place l.next
