-- What `Direction::new` answers. Definitions only.
use Rattle.std.specs.Prelude.{Result, Ok, Err}
use Rattle.refusal.specs.declared.Refusal.{Refusal}
use Rattle.vector.specs.declared.Vector3.{Vector3}
use Rattle.vector.specs.declared.direction.Direction.{Direction}

-- The vector of a direction that passed, or the refusal.
abbrev pub vector_of : Result Direction Refusal → Result Vector3 Refusal
vector_of (Ok direction) = Ok direction.vector
vector_of (Err reason) = Err reason
