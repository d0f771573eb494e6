-- What is proved of every vector. Definitions only.
use Rattle.std.specs.Prelude.{◌≡◌, ◌&&◌}
use Rattle.std.specs.Float.Ieee.{le}
use Rattle.vector.specs.declared.Vector3.{Vector3}
use Rattle.vector.specs.Vector.{squared_length, normalized}
use Rattle.vector.specs.Direction.{IsAdmissible, admissible, least_squared_length, greatest_squared_length}

-- The squared length decides alone: where a component is not finite, it is a NaN or infinite.
abbrev pub DecidedByLength : Type 0
DecidedByLength = (v : Vector3) → admissible v ≡ (le least_squared_length (squared_length v) && le (squared_length v) greatest_squared_length)

-- An admissible vector is admissible again when it is normalised.
abbrev pub StaysAdmissible : Type 0
StaysAdmissible = (v : Vector3) → IsAdmissible v → IsAdmissible (normalized v)
