-- The choice of a master face. Definitions only.
use Rattle.std.specs.Prelude.{ℕ, ◌+◌, Bool, true, false, cond, List, [], ◌∷◌, nat_le, slice_index, Result, Ok, Err}
use Rattle.binary64.specs.Constants.{positive_zero}
use Rattle.refusal.specs.declared.Refusal.{Refusal}
use Rattle.refusal.specs.declared.Refusal.TheVariants.{Flags}
use Rattle.refusal.specs.Refusal.{Verdict, row, answer}
use Rattle.vector.specs.declared.Vector3.{Vector3}
use Rattle.vector.specs.Vector.{vector_sum}
use Rattle.icosahedron.specs.declared.Face.{Face}
use Rattle.icosahedron.specs.Icosahedron.{icosahedron_point}
use Rattle.analytic.specs.declared.Signs.{Signs}
use Rattle.master_face.specs.declared.Three.{Three}
use Rattle.master_face.specs.MasterFace.{master_face_of, below_plane, outside_of}

-- `FACE_MAPPING` of the source (000): three symmetry signs give four faces, in the order of its lines.
abbrev pub mapped_faces : Bool → Bool → Bool → List ℕ
mapped_faces true true true = 18 ∷ 19 ∷ 12 ∷ 17 ∷ []
mapped_faces true true false = 13 ∷ 14 ∷ 4 ∷ 12 ∷ []
mapped_faces true false true = 10 ∷ 9 ∷ 17 ∷ 11 ∷ []
mapped_faces true false false = 3 ∷ 2 ∷ 11 ∷ 4 ∷ []
mapped_faces false true true = 15 ∷ 16 ∷ 6 ∷ 19 ∷ []
mapped_faces false true false = 5 ∷ 6 ∷ 0 ∷ 14 ∷ []
mapped_faces false false true = 8 ∷ 7 ∷ 16 ∷ 9 ∷ []
mapped_faces false false false = 1 ∷ 0 ∷ 7 ∷ 2 ∷ []

unfoldable pub mapped_face : Signs → ℕ → ℕ
mapped_face s k = slice_index (mapped_faces s.i s.j s.k) k

-- what a flag adds
abbrev pub flag_weight : Bool → ℕ → ℕ
flag_weight flag weight = cond flag weight 0

-- The flags weigh 1, 2 and 3.
unfoldable pub flag_sum : Three Bool → ℕ
flag_sum o = flag_weight o.first 1 + flag_weight o.second 2 + flag_weight o.third 3

-- Row 10 refuses "flag sum above 3".
abbrev pub flags_fit : Three Bool → Bool
flags_fit o = nat_le (flag_sum o) 3

-- Row 10, and then the next rows.
abbrev pub flag_row : Three Bool → Verdict → Verdict
flag_row o next = row (flags_fit o) Flags next

-- the index of a face that was chosen, or the refusal
abbrev pub face_index : Result Face Refusal → Result ℕ Refusal
face_index (Ok face) = Ok face.index
face_index (Err reason) = Err reason

-- "and the sum picks from `FACE_MAPPING`."
unfoldable pub choose_face : Signs → Three Bool → Result ℕ Refusal
choose_face s o = answer (flag_row o (Ok tt)) Err (Ok (mapped_face s (flag_sum o)))

-- `symmetry_planes` of the source, `pts[2] + pts[7]`, `pts[3] + pts[4]`, `pts[0] + pts[1]`, and the signs of p there
unfoldable pub signs_of : Vector3 → Signs
signs_of p = record {
  i = below_plane p (vector_sum (icosahedron_point 2) (icosahedron_point 7)) positive_zero;
  j = below_plane p (vector_sum (icosahedron_point 3) (icosahedron_point 4)) positive_zero;
  k = below_plane p (vector_sum (icosahedron_point 0) (icosahedron_point 1)) positive_zero;
}

-- `master_face` of the source: p is held against the side planes of its signs' first face
unfoldable pub outside_first : Vector3 → Three Bool
outside_first p = outside_of (master_face_of (mapped_face (signs_of p) 0)) p

unfoldable pub face_choice_of : Vector3 → Result ℕ Refusal
face_choice_of p = choose_face (signs_of p) (outside_first p)
