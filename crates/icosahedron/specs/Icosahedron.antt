-- The twelve points and twenty master faces of the icosahedron. Definitions only.
use Rattle.std.specs.Prelude.{ℕ, ◌+◌, ◌*◌, List, [], ◌∷◌, map, get_or, Float}
use Rattle.std.specs.Float.{nan, binary64}
use Rattle.std.specs.Float.Ieee.{of_bits}
use Rattle.vector.specs.declared.Vector3.{Vector3}
use Rattle.vector.specs.Vector.{vector}

-- The twelve points are constants: the bits that `icosahedron_points` of the source printed once. x, y and z of each point.
abbrev pub coordinate_bits : List ℕ
coordinate_bits =
    0x0000000000000000 ∷ 0x0000000000000000 ∷ 0x3ff0000000000000 ∷
    0x3fec9f25c5bfedd9 ∷ 0x0000000000000000 ∷ 0x3fdc9f25c5bfeddb ∷
    0x3fd1b06d1d200914 ∷ 0x3feb38880b4603e4 ∷ 0x3fdc9f25c5bfeddb ∷
    0xbfe727c9716ffb75 ∷ 0x3fe0d2ca0da1530e ∷ 0x3fdc9f25c5bfeddb ∷
    0xbfe727c9716ffb77 ∷ 0xbfe0d2ca0da1530c ∷ 0x3fdc9f25c5bfeddb ∷
    0x3fd1b06d1d200910 ∷ 0xbfeb38880b4603e5 ∷ 0x3fdc9f25c5bfeddb ∷
    0x3fe727c9716ffb76 ∷ 0x3fe0d2ca0da1530d ∷ 0xbfdc9f25c5bfedd9 ∷
    0xbfd1b06d1d200912 ∷ 0x3feb38880b4603e5 ∷ 0xbfdc9f25c5bfedd9 ∷
    0xbfec9f25c5bfedd9 ∷ 0x3c9f924f9f58fd97 ∷ 0xbfdc9f25c5bfedd9 ∷
    0xbfd1b06d1d200915 ∷ 0xbfeb38880b4603e4 ∷ 0xbfdc9f25c5bfedd9 ∷
    0x3fe727c9716ffb75 ∷ 0xbfe0d2ca0da1530f ∷ 0xbfdc9f25c5bfedd9 ∷
    0x0000000000000000 ∷ 0x0000000000000000 ∷ 0xbff0000000000000 ∷
    []

-- A list of coordinates as vectors, three coordinates each.
abbrev pub vectors : List Float → List Vector3
vectors (x ∷ (y ∷ (z ∷ rest))) = vector x y z ∷ vectors rest
vectors (x ∷ (y ∷ [])) = []
vectors (x ∷ []) = []
vectors [] = []

unfoldable pub icosahedron_point : ℕ → Vector3
icosahedron_point index = get_or (vectors (map (of_bits binary64) coordinate_bits)) index (vector nan nan nan)

-- `FACE_VERTICES` of the source (000): three points a face, top 0 to 4, middle 5 to 14, bottom 15 to 19.
abbrev pub face_vertices : List ℕ
face_vertices =
    0 ∷ 1 ∷ 2 ∷ 0 ∷ 2 ∷ 3 ∷ 0 ∷ 3 ∷ 4 ∷ 0 ∷ 4 ∷ 5 ∷ 0 ∷ 5 ∷ 1 ∷
    6 ∷ 2 ∷ 1 ∷ 2 ∷ 6 ∷ 7 ∷ 7 ∷ 3 ∷ 2 ∷ 3 ∷ 7 ∷ 8 ∷ 8 ∷ 4 ∷ 3 ∷
    4 ∷ 8 ∷ 9 ∷ 9 ∷ 5 ∷ 4 ∷ 5 ∷ 9 ∷ 10 ∷ 10 ∷ 1 ∷ 5 ∷ 1 ∷ 10 ∷ 6 ∷
    11 ∷ 7 ∷ 6 ∷ 11 ∷ 8 ∷ 7 ∷ 11 ∷ 9 ∷ 8 ∷ 11 ∷ 10 ∷ 9 ∷ 11 ∷ 6 ∷ 10 ∷
    []

-- Which of the twelve points stands at a corner, 0 to 2, of a face, 0 to 19.
unfoldable pub face_corner : ℕ → ℕ → ℕ
face_corner face corner = get_or face_vertices (face * 3 + corner) 0

abbrev pub corner_point : ℕ → ℕ → Vector3
corner_point face corner = icosahedron_point (face_corner face corner)
