-- A direction that was built has its vector's code, and a refusal its own. Assumes nothing.
use mathlib.Core.Path.{◌≡◌, refl, ap, ◌∙◌}
use Rattle.std.specs.Prelude.{Result, Ok, Err}
use Rattle.refusal.specs.declared.Refusal.{Refusal}
use Rattle.vector.specs.declared.direction.Direction.{Direction}
use Rattle.vector.specs.Accepted.{vector_of}
use Rattle.c_api.specs.Code.{refusal_code}
use Rattle.c_api.proofs.vectors.koshirga_direction.Goals as goal

code_of_vector : (built : Result Direction Refusal) → refusal_code built ≡ refusal_code (vector_of built)
code_of_vector (Ok direction) = refl
code_of_vector (Err reason) = refl

pub returns : goal.returns
returns c = c.refusal_code.ensures ∙ code_of_vector c.new.result ∙ ap refusal_code c.new.ensures
