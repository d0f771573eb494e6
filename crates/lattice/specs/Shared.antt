-- Points that faces share, by the face that has them first: what a program that goes through the faces in order looks up, since ids follow the first appearance. Definitions only.
use Rattle.std.specs.Prelude.{ℕ, zero, suc, ◌+◌, ◌-◌, ◌*◌, List, [], ◌∷◌, length, take, slice_index}
use Rattle.sequences.specs.Filter.{filter}
use Rattle.lattice.specs.Lattice.{LatticePoint, point_at, lattice_points}
use Rattle.lattice.specs.Appearances.{is_first_appearance}

-- A face's corners stand at the places 0 to 2, one after another around the face.
unfoldable pub next_place : ℕ → ℕ
next_place zero = 1
next_place (suc zero) = 2
next_place (suc (suc place)) = 0

-- The point with all weight on the corner at a place.
unfoldable pub corner_at : ℕ → ℕ → ℕ → LatticePoint
corner_at n face zero = point_at face n 0
corner_at n face (suc zero) = point_at face 0 n
corner_at n face (suc (suc place)) = point_at face 0 0

-- A point of the edge opposite to a place: `weight` on the next place, the rest on the one after it.
unfoldable pub edge_at : ℕ → ℕ → ℕ → ℕ → LatticePoint
edge_at n face zero weight = point_at face 0 weight
edge_at n face (suc zero) weight = point_at face (n - weight) 0
edge_at n face (suc (suc place)) weight = point_at face weight (n - weight)

-- For each corner, 3·face + place: the number of that form where `FACE_VERTICES` first names it.
abbrev pub first_corners : List ℕ
first_corners =
    0 ∷ 1 ∷ 2 ∷ 0 ∷ 2 ∷ 5 ∷ 0 ∷ 5 ∷ 8 ∷ 0 ∷ 8 ∷ 11 ∷ 0 ∷ 11 ∷ 1 ∷
    15 ∷ 2 ∷ 1 ∷ 2 ∷ 15 ∷ 20 ∷ 20 ∷ 5 ∷ 2 ∷ 5 ∷ 20 ∷ 26 ∷ 26 ∷ 8 ∷ 5 ∷
    8 ∷ 26 ∷ 32 ∷ 32 ∷ 11 ∷ 8 ∷ 11 ∷ 32 ∷ 38 ∷ 38 ∷ 1 ∷ 11 ∷ 1 ∷ 38 ∷ 15 ∷
    45 ∷ 20 ∷ 15 ∷ 45 ∷ 26 ∷ 20 ∷ 45 ∷ 32 ∷ 26 ∷ 45 ∷ 38 ∷ 32 ∷ 45 ∷ 15 ∷ 38 ∷
    []

unfoldable pub first_corner : ℕ → ℕ → ℕ
first_corner face place = slice_index first_corners (face * 3 + place)

-- For each edge, 3·face + opposite place: the number of that form on the other face that has it. The two faces run along it in opposite directions.
abbrev pub other_edges : List ℕ
other_edges =
    15 ∷ 5 ∷ 13 ∷ 21 ∷ 8 ∷ 1 ∷ 27 ∷ 11 ∷ 4 ∷ 33 ∷ 14 ∷ 7 ∷ 39 ∷ 2 ∷ 10 ∷
    0 ∷ 43 ∷ 20 ∷ 45 ∷ 22 ∷ 17 ∷ 3 ∷ 19 ∷ 26 ∷ 48 ∷ 28 ∷ 23 ∷ 6 ∷ 25 ∷ 32 ∷
    51 ∷ 34 ∷ 29 ∷ 9 ∷ 31 ∷ 38 ∷ 54 ∷ 40 ∷ 35 ∷ 12 ∷ 37 ∷ 44 ∷ 57 ∷ 16 ∷ 41 ∷
    18 ∷ 59 ∷ 49 ∷ 24 ∷ 47 ∷ 52 ∷ 30 ∷ 50 ∷ 55 ∷ 36 ∷ 53 ∷ 58 ∷ 42 ∷ 56 ∷ 46 ∷
    []

unfoldable pub other_edge : ℕ → ℕ → ℕ
other_edge face place = slice_index other_edges (face * 3 + place)

-- How many of the first k points are first appearances: the next vertex's id when k points were met.
unfoldable pub firsts_before : ℕ → ℕ → ℕ
firsts_before n k = length (filter (is_first_appearance n) (take k (lattice_points n)))
