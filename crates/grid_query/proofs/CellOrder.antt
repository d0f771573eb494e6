-- Cells never run backwards: on one face of the cube, with d above zero and kept, a larger u never gives a lower ci, `ci_never_falls`, nor a larger w a lower cj, `cj_never_falls`. Every side of a grid is among those they speak of: `grid_cells_follow`.
-- Each step keeps the order: the quotient, the fused multiply-add, the product, the clamp and the conversion. A quotient or a product that overflows to an infinity or is subnormal is a case of the same laws. Assumes nothing.
use Rattle.std.proofs.Common.{ℕ, ◌^◌, ◌<◌, ◌≤◌, T, arith}
use lib.Ieee.{Float, binary64, le, of_bits}
use lib.Ieee.Positive.{positive}
use lib.Ieee.Scale.{finite}
use Rattle.binary64.specs.Convert.{whole}
use Rattle.binary64.proofs.WholeNumbers.{whole_positive}
use Rattle.rounding.proofs.Monotone.{div_monotone, mul_monotone}
use Rattle.binary64.specs.Constants.{half}
use Rattle.fused.proofs.Monotone.{fused_monotone_first}
use Rattle.grid.specs.Cells.{across_cells, side_of}
use Rattle.grid.proofs.SideBound.{side_bound}
use Rattle.grid_query.specs.Cell.{clamped_cell}
use Rattle.grid_query.specs.CellOrder.{CiNeverFalls, CjNeverFalls, GridCellsFollow}
use Rattle.grid_query.proofs.Clamp.{clamped_monotone}

-- counted in cells
across_monotone : (g : ℕ) (u u' d : Float) → 0 < g → g ≤ 2 ^ 53 → T (finite u) → T (finite u') → T (positive d) → T (le u u') → T (le (across_cells g u d) (across_cells g u' d))
unfolding across_cells of_bits
across_monotone g u u' d some few U U' D h = mul_monotone binary64 _ _ (whole g) (whole_positive g some few) (fused_monotone_first binary64 _ _ half half tt tt (div_monotone binary64 u u' d U U' D h))

cell_follows : (g : ℕ) (u u' d : Float) → 0 < g → g ≤ 2 ^ 53 → T (finite u) → T (finite u') → T (positive d) → T (le u u') → clamped_cell g (across_cells g u d) ≤ clamped_cell g (across_cells g u' d)
cell_follows g u u' d some few U U' D h = clamped_monotone g (across_cells g u d) (across_cells g u' d) few (across_monotone g u u' d some few U U' D h)

pub ci_never_falls : CiNeverFalls
ci_never_falls g some few u u' w d U U' W D h = cell_follows g u u' d some few U U' D h

pub cj_never_falls : CjNeverFalls
cj_never_falls g some few u w w' d U W W' D h = cell_follows g w w' d some few W W' D h

-- every factor that is allowed and every count
pub grid_cells_follow : GridCellsFollow
grid_cells_follow factor n allowed some few =
    let side = side_bound factor n allowed some few in
    (ci_never_falls (side_of factor n) (omega arith) (omega arith), cj_never_falls (side_of factor n) (omega arith) (omega arith))
