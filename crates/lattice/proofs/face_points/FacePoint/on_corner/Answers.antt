-- By the corner.
use Rattle.lattice.specs.Shared.{corner_at}
use Rattle.lattice.proofs.face_points.FacePoint.on_corner.Goals as goal

pub returns-in-A : goal.returns-in-A
unfolding corner_at
returns-in-A c = record { frequency = c.new.ensures.frequency; point = rw c.in-A.is c.new.ensures.point }

pub returns-in-B : goal.returns-in-B
unfolding corner_at
returns-in-B c = record { frequency = c.new-in-B.ensures.frequency; point = rw c.in-B.is c.new-in-B.ensures.point }

pub returns-in-C : goal.returns-in-C
unfolding corner_at
returns-in-C c = record { frequency = c.new-in-C.ensures.frequency; point = rw c.in-C.is c.new-in-C.ensures.point }
