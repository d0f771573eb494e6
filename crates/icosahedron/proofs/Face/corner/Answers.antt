-- The table has a row for each face; the definition has them one behind another.
use Rattle.icosahedron.specs.Icosahedron.{face_vertices, face_corner}
use Rattle.icosahedron.proofs.Faces.{by_three_at}
use Rattle.icosahedron.proofs.Face.corner.Goals as goal

pub returns : goal.returns
unfolding face_corner
returns c = rw (← c.place.ensures.place) (by_three_at face_vertices c.args.self.index c.place.result c.args.self.in_range c.place.ensures.below)
