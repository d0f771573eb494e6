-- The invariant of `mesh::is_permutation`'s loop: the marked ids are those met.
use Rattle.std.proofs.Common.{◌≡◌, ℕ, length, get_or, false}
use Rattle.sequences.specs.Permutation.{Marks}
use Rattle.mesh.proofs.is_permutation.Given as goal

abbrev pub invariant-loop-id : goal.invariant-loop-id
invariant-loop-id l = (length l.marked ≡ 65536) × Marks l.count l.permutation (λ (x : ℕ). get_or l.marked x false) l.id-index
