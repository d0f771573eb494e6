-- The mean of the corners by their weights, each operation as the definition has it.
use Rattle.lattice.specs.Lattice.{point_position}
use Rattle.lattice.specs.Inside.{face_corners}
use Rattle.lattice.proofs.vertex_positions.position_of.Goals as goal

pub returns : goal.returns
unfolding point_position face_corners
returns c =
    rw (c.normalize.ensures, c.div-mean.ensures, c.nearest_u64_to_f64.ensures, c.add-2.ensures, c.mul-3.ensures, c.nearest_u64_to_f64-c.ensures, c.add.ensures, c.mul-2.ensures, c.nearest_u64_to_f64-b.ensures, c.mul.ensures, c.nearest_u64_to_f64-a.ensures, c.requires)
