-- The corner as the table names it.
use Rattle.lattice.specs.Naming.{corner_naming}
use Rattle.lattice.proofs.Tables.{face_of_number, place_of_number}
use Rattle.lattice.proofs.face_points.FacePoint.corner_naming.Goals as goal

pub returns : goal.returns
unfolding corner_naming
returns c = record { frequency = c.on_corner.ensures.frequency; point = rw (face_of_number c.first_corner-place.result.0.index c.first_corner-place.result.1 c.first_corner-place.ensures, place_of_number c.first_corner-place.result.0.index c.first_corner-place.result.1 c.first_corner-place.ensures) c.on_corner.ensures.point }
