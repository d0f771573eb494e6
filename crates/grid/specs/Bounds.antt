-- How large a grid becomes, by which tests its side is known, and what a wider margin adds. Definitions only.
use Rattle.std.specs.Prelude.{◌≡◌, ℕ, ◌-◌, ◌*◌, ◌≤◌, ◌&&◌, ◌||◌, ◌==◌, IsTrue, List, length, nat_le, nat_lt, Float}
use Rattle.std.specs.Float.Ieee.{le, lt}
use Rattle.sequences.specs.Ascending.{is_member}
use Rattle.binary64.specs.Convert.{whole}
use Rattle.mesh.specs.Mesh.{Mesh, count, vertex_count}
use Rattle.mesh.specs.Rows.{greatest_count}
use Rattle.grid.specs.declared.settings.Settings.{Settings}
use Rattle.grid.specs.Settings.{settings_with, usual_factor, factor_fits}
use Rattle.grid.specs.Cells.{side_across, side_of, cells_of_vertex}
use Rattle.grid.specs.Held.{held_conversions}
use Rattle.grid.specs.Grid.{ids_in, grid_of}
use Rattle.grid.specs.Passes.{greatest_side}

-- For every factor from 0.5 to 4.0 and every count of vertices from 1 to 65,536 the side is from 2 to 420.
abbrev pub SideIsBounded : Type 0
SideIsBounded = (factor : Float) (n : ℕ) → IsTrue (factor_fits factor) → 1 ≤ n → n ≤ greatest_count
    → (2 ≤ side_of factor n) × (side_of factor n ≤ greatest_side)

-- With the factor 1.2 it is 126 at most.
abbrev pub UsualSideIsBounded : Type 0
UsualSideIsBounded = (n : ℕ) → 1 ≤ n → n ≤ greatest_count → (2 ≤ side_of usual_factor n) × (side_of usual_factor n ≤ 126)

-- For every mesh and every pair, all cells together hold at most 3 · (2 · margin + 1)² ids a vertex: those of three faces, as of two opposite ones a vertex lies in front of one at most.
abbrev pub CellIdsAreBounded : Type 0
CellIdsAreBounded = (m : Mesh) (settings : Settings) → length (grid_of m settings).cell_ids ≤ count m * cells_of_vertex settings.margin

-- On each of these faces a vertex has two conversions: six at most are held at an end of the signed range.
abbrev pub HeldAreBounded : Type 0
HeldAreBounded = (positions : List Float) (g : ℕ) → held_conversions positions g ≤ vertex_count positions * 6

-- With a wider margin a cell keeps its ids.
abbrev pub WiderMarginKeepsIds : Type 0
WiderMarginKeepsIds = (m : Mesh) (factor : Float) (margin wider cell v : ℕ) → margin ≤ wider
    → IsTrue (is_member v (ids_in m (settings_with factor margin) cell)) → IsTrue (is_member v (ids_in m (settings_with factor wider) cell))

-- With the factor 1.2 the side is the least g, 2 at least, with 6 · n ≤ 25 · g²: two comparisons of whole numbers tell it, and no root is taken.
abbrev pub UsualSideIsLeast : Type 0
UsualSideIsLeast = (n g : ℕ) → 1 ≤ n → n ≤ greatest_count → 2 ≤ g → g ≤ 126
    → (nat_le (6 * n) (25 * (g * g)) && (g == 2 || nat_lt (25 * ((g - 1) * (g - 1))) (6 * n))) ≡ (g == side_of usual_factor n)

-- With any factor from 0.5 to 4.0 two comparisons of doubles tell it, and no ceiling is taken.
abbrev pub SideIsBetween : Type 0
SideIsBetween = (factor : Float) (n g : ℕ) → IsTrue (factor_fits factor) → 1 ≤ n → n ≤ greatest_count → 2 ≤ g → g ≤ greatest_side
    → (le (side_across factor n) (whole g) && (g == 2 || lt (whole (g - 1)) (side_across factor n))) ≡ (g == side_of factor n)
