-- The laws of admissible vectors. Assumes nothing.
use lib.Ieee.Bits.{is_true}
use Rattle.std.proofs.Common.{sym}
use Rattle.std.proofs.lemmas.Float.{T_from_true}
use Rattle.vector.specs.Direction.{admissible}
use Rattle.vector.proofs.Admissible.{admissible_by_length}
use Rattle.vector.proofs.Normalized.{admissible_normalised}
use Rattle.vector.proofs.laws.admissible_vectors.Goals as goal

pub returns-clause-by_length : goal.returns-clause-by_length
returns-clause-by_length c v = sym (admissible_by_length v)

pub returns-clause-normalized : goal.returns-clause-normalized
returns-clause-normalized c v passes = is_true _ (admissible_normalised v (T_from_true (admissible v) passes))
