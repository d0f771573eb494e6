-- The table's entries have the numbers of the definition's.
use Rattle.lattice.specs.Shared.{other_edges, other_edge}
use Rattle.lattice.proofs.Tables.{table_at}
use Rattle.lattice.proofs.shared_points.other_edge.Goals as goal

pub returns : goal.returns
unfolding other_edge
returns c = rw (c.new.ensures, ← c.place.ensures.place) (table_at other_edges c.args.face.index c.place.result c.args.face.in_range c.place.ensures.below)
