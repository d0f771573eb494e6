-- `grid::cube_face::dominant_face` meets its contract. Assumes nothing.
use Rattle.std.proofs.Common.{◌≡◌, ℕ, cond, ◌&&◌, ◌∙◌}
use lib.Ieee.{Float, le}
use Rattle.vector.specs.declared.Vector3.{Vector3}
use Rattle.grid.specs.CubeFace.{dominant_face, side_of_axis}
use Rattle.grid.proofs.CubeFace.{magnitude_by_test, magnitudes_compare}
use Rattle.grid.proofs.cube_face.dominant_face.Goals.{After-side_of_axis-on_z}
use Rattle.grid.proofs.cube_face.dominant_face.Goals as goal

-- the choice, by the magnitudes that the code has in hand
abbrev chosen : Vector3 → Float → Float → Float → ℕ
chosen v along_x along_y along_z =
    cond (le along_y along_x && le along_z along_x) (side_of_axis v.x 0 1) (cond (le along_z along_y) (side_of_axis v.y 2 3) (side_of_axis v.z 4 5))

chosen_is : (v : Vector3) (along_x along_y along_z : Float) → along_x ≡ magnitude_by_test v.x → along_y ≡ magnitude_by_test v.y → along_z ≡ magnitude_by_test v.z
    → chosen v along_x along_y along_z ≡ dominant_face v
unfolding dominant_face
chosen_is v along_x along_y along_z p q r =
    (λ i. chosen v (p i) (q i) (r i))
    ∙ (λ i. cond (magnitudes_compare v.y v.x i && magnitudes_compare v.z v.x i) (side_of_axis v.x 0 1) (cond (magnitudes_compare v.z v.y i) (side_of_axis v.y 2 3) (side_of_axis v.z 4 5)))

-- at the place after the calls
at : (c : After-side_of_axis-on_z) → chosen c.args.v c.magnitude-along_x.result c.magnitude-along_y.result c.magnitude-along_z.result ≡ dominant_face c.args.v
at c = chosen_is _ _ _ _ c.magnitude-along_x.ensures c.magnitude-along_y.ensures c.magnitude-along_z.ensures

pub returns-then-along_y-along_x : goal.returns-then-along_y-along_x
returns-then-along_y-along_x c = (rw (c.side_of_axis-on_x.ensures, c.if-along_y-along_x.true)) ∙ at (goal.at.returns-then-along_y-along_x c).After-side_of_axis-on_z

pub returns-then-along_z-along_y : goal.returns-then-along_z-along_y
returns-then-along_z-along_y c = (rw (c.side_of_axis-on_y.ensures, c.if-along_y-along_x.false, c.if-along_z-along_y.true)) ∙ at (goal.at.returns-then-along_z-along_y c).After-side_of_axis-on_z

pub returns-else-along_z-along_y : goal.returns-else-along_z-along_y
returns-else-along_z-along_y c = (rw (c.side_of_axis-on_z.ensures, c.if-along_y-along_x.false, c.if-along_z-along_y.false)) ∙ at (goal.at.returns-else-along_z-along_y c).After-side_of_axis-on_z
