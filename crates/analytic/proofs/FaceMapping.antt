-- Laws of the choice of a face: the flat table holds the source's lines, and every face is one of the twenty. Assumes nothing.
use Rattle.std.proofs.Common.{◌≡◌, ℕ, ◌+◌, ◌<◌, Bool, true, false, List, [], ◌∷◌, get_or, refl, ap, arith}
use Rattle.icosahedron.proofs.Faces.{entries_below_lem}
use Rattle.analytic.specs.declared.Signs.{Signs}
use Rattle.analytic.specs.FaceChoice.{flag_weight, mapped_faces, mapped_face}

-- the source's table, one list for each arrangement of signs: i, j and k weigh 4, 2 and 1
abbrev pub face_mapping : List (List ℕ)
face_mapping =
    (1 ∷ 0 ∷ 7 ∷ 2 ∷ []) ∷ (8 ∷ 7 ∷ 16 ∷ 9 ∷ []) ∷ (5 ∷ 6 ∷ 0 ∷ 14 ∷ []) ∷ (15 ∷ 16 ∷ 6 ∷ 19 ∷ []) ∷
    (3 ∷ 2 ∷ 11 ∷ 4 ∷ []) ∷ (10 ∷ 9 ∷ 17 ∷ 11 ∷ []) ∷ (13 ∷ 14 ∷ 4 ∷ 12 ∷ []) ∷ (18 ∷ 19 ∷ 12 ∷ 17 ∷ []) ∷ []

abbrev pub arrangement : Signs → ℕ
arrangement s = flag_weight s.i 4 + flag_weight s.j 2 + flag_weight s.k 1

mapped_at : (i j k : Bool) → get_or face_mapping (flag_weight i 4 + flag_weight j 2 + flag_weight k 1) [] ≡ mapped_faces i j k
mapped_at true true true = refl
mapped_at true true false = refl
mapped_at true false true = refl
mapped_at true false false = refl
mapped_at false true true = refl
mapped_at false true false = refl
mapped_at false false true = refl
mapped_at false false false = refl

pub table_mapped_face : (s : Signs) (side : ℕ) → get_or (get_or face_mapping (arrangement s) []) side 0 ≡ mapped_face s side
unfolding mapped_face
table_mapped_face s side = ap (λ (faces : List ℕ). get_or faces side 0) (mapped_at s.i s.j s.k)

all_mapped_below : (i j k : Bool) (side : ℕ) → get_or (mapped_faces i j k) side 0 < 20
all_mapped_below true true true side = entries_below_lem 20 (mapped_faces true true true) (omega arith) tt side
all_mapped_below true true false side = entries_below_lem 20 (mapped_faces true true false) (omega arith) tt side
all_mapped_below true false true side = entries_below_lem 20 (mapped_faces true false true) (omega arith) tt side
all_mapped_below true false false side = entries_below_lem 20 (mapped_faces true false false) (omega arith) tt side
all_mapped_below false true true side = entries_below_lem 20 (mapped_faces false true true) (omega arith) tt side
all_mapped_below false true false side = entries_below_lem 20 (mapped_faces false true false) (omega arith) tt side
all_mapped_below false false true side = entries_below_lem 20 (mapped_faces false false true) (omega arith) tt side
all_mapped_below false false false side = entries_below_lem 20 (mapped_faces false false false) (omega arith) tt side

-- Every chosen face is one of the twenty.
pub mapped_face_below : (s : Signs) (side : ℕ) → mapped_face s side < 20
unfolding mapped_face
mapped_face_below s side = all_mapped_below s.i s.j s.k side
