-- The corners of a triangle: their ids, and their weights at a point. Definitions only.
use Rattle.std.specs.Prelude.{ℕ, Float}
use Rattle.vector.specs.declared.Triple.{Triple}
use Rattle.vector.specs.declared.Weights.{Weights}

abbrev pub triple_of : ℕ → ℕ → ℕ → Triple
triple_of first second third = record { first = first; second = second; third = third }

abbrev pub weights : Float → Float → Float → Weights
weights u v w = record { u = u; v = v; w = w }
