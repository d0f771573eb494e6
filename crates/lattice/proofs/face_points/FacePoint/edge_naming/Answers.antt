-- The edge's point as the table names it.
use Rattle.std.proofs.Common.{lt-ltb, le-ltb}
use Rattle.lattice.specs.Naming.{edge_naming}
use Rattle.lattice.proofs.Tables.{face_of_number, place_of_number}
use Rattle.lattice.proofs.face_points.FacePoint.edge_naming.Goals as goal

pub returns-then-self-other : goal.returns-then-self-other
unfolding edge_naming
returns-then-self-other c = record { frequency = c.on_edge.ensures.frequency; point = rw (face_of_number c.other_edge-place.result.0.index c.other_edge-place.result.1 c.other_edge-place.ensures, lt-ltb _ _ c.if-self-other.true) c.on_edge.ensures.point }

pub returns-else-self-other : goal.returns-else-self-other
unfolding edge_naming
returns-else-self-other c = record { frequency = c.on_edge-else-self-other.ensures.frequency; point = rw (face_of_number c.other_edge-place.result.0.index c.other_edge-place.result.1 c.other_edge-place.ensures, place_of_number c.other_edge-place.result.0.index c.other_edge-place.result.1 c.other_edge-place.ensures, le-ltb _ _ c.if-self-other.false) c.on_edge-else-self-other.ensures.point }
