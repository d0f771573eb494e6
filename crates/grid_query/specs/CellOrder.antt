-- Cells that never run backwards (W-213). Definitions only.
use Rattle.std.specs.Prelude.{ℕ, ◌^◌, ◌<◌, ◌≤◌, T, IsTrue, Float}
use Rattle.std.specs.Float.Ieee.{le}
use Rattle.std.specs.Float.Ieee.Positive.{positive}
use Rattle.std.specs.Float.Ieee.Scale.{finite}
use Rattle.mesh.specs.Rows.{greatest_count}
use Rattle.grid.specs.CubeFace.{projected}
use Rattle.grid.specs.Settings.{factor_fits}
use Rattle.grid.specs.Cells.{side_of}
use Rattle.grid_query.specs.Cell.{ci_of, cj_of}

-- "in a query's steps after normalising, on one cube face, for any finite u, w and d with d above 0, of unit length or not, a larger u with the same w and d never gives a lower ci". `positive` is finite and above 0; u' may equal u, as −0 and +0 do (IEEE 754-2019, 5.11).
abbrev pub CiFollows : ℕ → Type 0
CiFollows g = (u u' w d : Float) → T (finite u) → T (finite u') → T (finite w) → T (positive d) → T (le u u')
    → ci_of g (projected u w d) ≤ ci_of g (projected u' w d)

-- The same of w and cj.
abbrev pub CjFollows : ℕ → Type 0
CjFollows g = (u w w' d : Float) → T (finite u) → T (finite w) → T (finite w') → T (positive d) → T (le w w')
    → cj_of g (projected u w d) ≤ cj_of g (projected u w' d)

-- "for every grid side": every g up to 2 ^ 53, as far as doubles count without a gap. A grid's is from 2 to 420 (`side_bound`).
abbrev pub CiNeverFalls : Type 0
CiNeverFalls = (g : ℕ) → 0 < g → g ≤ 2 ^ 53 → CiFollows g

abbrev pub CjNeverFalls : Type 0
CjNeverFalls = (g : ℕ) → 0 < g → g ≤ 2 ^ 53 → CjFollows g

-- Of every grid that can be built, by its factor and its count of vertices.
abbrev pub GridCellsFollow : Type 0
GridCellsFollow = (factor : Float) (n : ℕ) → IsTrue (factor_fits factor) → 1 ≤ n → n ≤ greatest_count → CiFollows (side_of factor n) × CjFollows (side_of factor n)
