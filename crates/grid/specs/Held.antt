-- How many conversions of the builder are held at an end of the signed range (W-207): "The grid builder adds the count of its conversions held at an end." Definitions only.
use Rattle.std.specs.Prelude.{ℕ, ◌+◌, cond, List, Float}
use Rattle.std.specs.Float.Ieee.{lt}
use Rattle.sequences.specs.Range.{sum_below}
use Rattle.binary64.specs.declared.Conversion.{Conversion}
use Rattle.binary64.specs.declared.Conversion.TheVariants.{Kept, Cut, Held, NotANumber}
use Rattle.binary64.specs.Convert.{conversion_of}
use Rattle.vector.specs.declared.Vector3.{Vector3}
use Rattle.mesh.specs.Mesh.{vertex_count, position_of}
use Rattle.binary64.specs.Constants.{positive_zero}
use Rattle.grid.specs.CubeFace.{face_projection}
use Rattle.grid.specs.Cells.{across_cells}

abbrev pub held_one : Conversion → ℕ
held_one Kept = 0
held_one Cut = 0
held_one Held = 1
held_one NotANumber = 0

-- Of a vertex's conversions on a face: "A vertex is placed on each face with d > 0: (fused(u/d, 0.5, 0.5))·g converted, likewise w".
unfoldable pub held_on : ℕ → Vector3 → ℕ → ℕ
held_on g v face =
    let p = face_projection face v in
    cond (lt positive_zero p.d) (held_one (conversion_of (across_cells g p.u p.d)) + held_one (conversion_of (across_cells g p.w p.d))) 0

-- Of a vertex's conversions on all six faces.
unfoldable pub held_at : List Float → ℕ → ℕ → ℕ
held_at positions g v = sum_below (held_on g (position_of positions v)) 6

-- Of all conversions, each counted once.
unfoldable pub held_conversions : List Float → ℕ → ℕ
held_conversions positions g = sum_below (held_at positions g) (vertex_count positions)
