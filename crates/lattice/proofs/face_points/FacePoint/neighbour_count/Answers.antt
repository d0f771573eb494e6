-- Five where one weight is n.
use Rattle.std.proofs.Common.{refl}
use Rattle.lattice.specs.Naming.{point_of}
use Rattle.lattice.proofs.VertexFill.{corner_by_weights}
use Rattle.lattice.proofs.face_points.FacePoint.neighbour_count.Goals as goal

pub returns-then-self-n : goal.returns-then-self-n
returns-then-self-n c =
    rw (corner_by_weights c.args.self.frequency.n (point_of c.args.self) c.args.self.frequency.in_range.0 c.args.self.on_lattice.weights_within, c.if-self-n.true) refl

pub returns-else-self-n : goal.returns-else-self-n
returns-else-self-n c =
    rw (corner_by_weights c.args.self.frequency.n (point_of c.args.self) c.args.self.frequency.in_range.0 c.args.self.on_lattice.weights_within, c.if-self-n.false) refl
