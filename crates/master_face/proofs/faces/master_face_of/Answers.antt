-- `master_face::faces::master_face_of` meets its contract: each face is worked out by the definition, and the numbers are the same. Assumes nothing.
use Rattle.std.proofs.Common.{◌≡◌, ◌<◌, ℕ, List, get_or, map, refl, arith}
use Rattle.std.specs.List.{range_with_len}
use Rattle.std.proofs.lemmas.List.FromFn.{get_or-map-range_with_len}
use Rattle.std.specs.Float.Ieee.{of_bits, add, sub, mul, div}
use Rattle.root.specs.Root.{square_root}
use Rattle.icosahedron.specs.Icosahedron.{icosahedron_point, face_corner}
use Rattle.master_face.specs.declared.MasterFace.{MasterFace}
use Rattle.master_face.specs.MasterFace.{gram_of, edge_planes_of, master_face, master_face_of}
use Rattle.master_face.proofs.faces.master_face_of.Goals as goal

-- a list that holds the twenty faces in their order has each at its index
of_table : (faces : List MasterFace) (i : ℕ) (d : MasterFace) → i < 20 → faces ≡ map master_face_of (range_with_len 0 20) → get_or faces i d ≡ master_face_of i
of_table faces i d h e = rw e (get_or-map-range_with_len master_face_of 0 20 i i d h (omega arith))

pub returns : goal.returns
unfolding master_face_of master_face gram_of edge_planes_of icosahedron_point face_corner square_root add sub mul div of_bits
returns c = of_table _ c.args.face.index _ c.args.face.in_range refl
