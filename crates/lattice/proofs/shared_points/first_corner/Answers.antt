-- The table's entries have the numbers of the definition's.
use Rattle.lattice.specs.Shared.{first_corners, first_corner}
use Rattle.lattice.proofs.Tables.{table_at}
use Rattle.lattice.proofs.shared_points.first_corner.Goals as goal

pub returns : goal.returns
unfolding first_corner
returns c = rw (c.new.ensures, ← c.place.ensures.place) (table_at first_corners c.args.face.index c.place.result c.args.face.in_range c.place.ensures.below)
