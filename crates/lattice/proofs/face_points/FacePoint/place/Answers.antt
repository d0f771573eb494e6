-- A place is below twenty times the slots of a face, so it fits.
use Rattle.std.proofs.Common.{arith}
use Rattle.lattice.specs.Naming.{point_of, place_of}
use Rattle.lattice.proofs.Naming.{place_limit}
use Rattle.lattice.proofs.face_points.FacePoint.place.Goals as goal

pub overflow_mul-result : goal.overflow_mul-result
unfolding place_of
overflow_mul-result c =
    record { fits = rw c.slots_per_face.ensures (omega (arith, place_limit c.args.self.frequency.n (point_of c.args.self) c.args.self.frequency.in_range.1 c.args.self.on_lattice)) }

pub overflow_add-result : goal.overflow_add-result
unfolding place_of
overflow_add-result c =
    record { fits = rw (c.slots_per_face.ensures, c.tri_index.ensures) (omega (arith, place_limit c.args.self.frequency.n (point_of c.args.self) c.args.self.frequency.in_range.1 c.args.self.on_lattice)) }

pub returns : goal.returns
unfolding place_of
returns c = rw (c.tri_index.ensures, c.slots_per_face.ensures)
