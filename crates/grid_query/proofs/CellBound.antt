-- A direction's cell is one of the grid's. Assumes nothing.
use Rattle.std.proofs.Common.{◌≡◌, ℕ, ◌+◌, ◌*◌, ◌<◌, ◌≤◌, Bool, true, false, cond, ◌&&◌, mul-le-mul_right, arith, lit≤}
use lib.Ieee.{Float, lt, le}
use Rattle.binary64.specs.Absolute.{abs}
use Rattle.vector.specs.declared.Vector3.{Vector3}
use Rattle.grid.specs.Passes.{greatest_side}
use Rattle.binary64.specs.Constants.{positive_zero}
use Rattle.grid.specs.CubeFace.{face_projection, dominant_face}
use Rattle.grid.specs.Cells.{across_cells}
use Rattle.grid_query.specs.Cell.{clamped_cell, cell_of}
use Rattle.grid_query.specs.Told.{DirectionHasCell}
use Rattle.grid_query.proofs.Clamp.{clamped_below}

face_of_six : (x y : Bool) (positive-x positive-y positive-z : Bool)
    → cond x (cond positive-x 0 1) (cond y (cond positive-y 2 3) (cond positive-z 4 5)) ≤ 5
face_of_six true y true b c = lit≤ tt
face_of_six true y false b c = lit≤ tt
face_of_six false true a true c = lit≤ tt
face_of_six false true a false c = lit≤ tt
face_of_six false false a b true = lit≤ tt
face_of_six false false a b false = lit≤ tt

pub face_at_most : (v : Vector3) → dominant_face v ≤ 5
unfolding dominant_face
face_at_most v =
    face_of_six (le (abs v.y) (abs v.x) && le (abs v.z) (abs v.x)) (le (abs v.z) (abs v.y))
    (lt positive_zero v.x) (lt positive_zero v.y) (lt positive_zero v.z)

-- the face, the row and the column are there
pub cell_fits : (g : ℕ) (direction : Vector3) (x y : Float) (face ci cj : ℕ) → 0 < g → g ≤ greatest_side
    → face ≡ dominant_face direction → ci ≡ clamped_cell g x → cj ≡ clamped_cell g y → (face < 6) × (ci < g) × (cj < g)
cell_fits g direction x y face ci cj p h f i j =
    let k : face ≤ 5 = rw f (face_at_most direction) in
    (omega (arith, k), rw i (clamped_below g x p (omega arith)), rw j (clamped_below g y p (omega arith)))

pub cell_below : DirectionHasCell
unfolding cell_of
cell_below g direction p h =
    let face = dominant_face direction in
    let shown = face_projection face direction in
    let f = face_at_most direction in
    let i = clamped_below g (across_cells g shown.u shown.d) p h in
    let j = clamped_below g (across_cells g shown.w shown.d) p h in
    let rows : clamped_cell g (across_cells g shown.u shown.d) * g + g ≤ g * g = (let r = mul-le-mul_right g i in omega arith) in
    let faces : face * (g * g) ≤ 5 * (g * g) = mul-le-mul_right (g * g) f in
    omega arith
