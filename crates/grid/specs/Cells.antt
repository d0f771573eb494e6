-- The side of a grid, and the cells that a vertex is placed in (document 01, "Cube grid"). Definitions only.
use Rattle.std.specs.Prelude.{ℕ, suc, ◌+◌, ◌*◌, ◌/◌, ◌%◌, max, Bool, ◌&&◌, ℤ, pos, negsuc, nat_le, Float}
use Rattle.std.specs.Float.{binary64}
use Rattle.std.specs.Float.Ieee.{mul, div, lt, to_unsigned}
use Rattle.binary64.specs.Integral.{ceil_of}
use Rattle.binary64.specs.Convert.{to_i64, whole}
use Rattle.fused.specs.Fused.{fused_multiply_add}
use Rattle.binary64.specs.Constants.{half}
use Rattle.root.specs.Root.{square_root}
use Rattle.vector.specs.declared.Vector3.{Vector3}
use Rattle.binary64.specs.Constants.{positive_zero}
use Rattle.grid.specs.CubeFace.{face_projection}

-- "Side g = the ceiling of root(count/6)·1.2, at least 2", where W-210 lets "the builder take its factor" for 1.2. Quotient, root and product are each rounded once, to nearest, ties to even (IEEE 754-2019, 4.3.1); the ceiling is exact (IEEE 754-2019, 5.9).
abbrev pub side_across : Float → ℕ → Float
side_across factor n = mul binary64 (square_root binary64 (div binary64 (whole n) (whole 6))) factor

unfoldable pub side_of : Float → ℕ → ℕ
side_of factor n = max 2 (to_unsigned 64 (ceil_of (side_across factor n)))

abbrev pub cell_count : ℕ → ℕ
cell_count g = 6 * (g * g)

-- "(fused(u/d, 0.5, 0.5))·g", where u lies across a face of g cells, counted in cells. Quotient, fused operation and product are each rounded once, to nearest, ties to even (IEEE 754-2019, 4.3.1).
unfoldable pub across_cells : ℕ → Float → Float → Float
across_cells g u d = mul binary64 (fused_multiply_add binary64 (div binary64 u d) half half) (whole g)

-- The whole number z and the cell c are at most `margin` apart. Over whole numbers: a conversion held at an end of the signed range is near no cell.
unfoldable pub near : ℕ → ℤ → ℕ → Bool
near margin (pos k) c = nat_le k (c + margin) && nat_le c (k + margin)
near margin (negsuc k) c = nat_le (suc k + c) margin

-- "its 3 by 3 surroundings": the rows at most a margin from one are so many at most, and as many columns.
abbrev pub breadth : ℕ → ℕ
breadth margin = 2 * margin + 1

-- "A vertex is placed on each face with d > 0: (fused(u/d, 0.5, 0.5))·g converted, likewise w, then its 3 by 3 surroundings inside the face": 3 by 3 with the margin 1, the own cell alone with 0 (W-210). The conversion is toward zero (IEEE 754-2019, 5.8).
-- "Cell: face·g·g + ci·g + cj."
unfoldable pub placed_in : ℕ → ℕ → ℕ → Vector3 → Bool
placed_in margin g cell v =
    let p = face_projection (cell / (g * g)) v in
    lt positive_zero p.d && (near margin (to_i64 (across_cells g p.u p.d)) (cell % (g * g) / g) && near margin (to_i64 (across_cells g p.w p.d)) (cell % g))

-- The cells of a vertex, at most: those of three faces, as of two opposite ones at most one has d > 0.
abbrev pub cells_of_vertex : ℕ → ℕ
cells_of_vertex margin = 3 * (breadth margin * breadth margin)
