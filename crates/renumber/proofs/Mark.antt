-- What a renumbering does to the mark: an accepted one sets it, and rightly (`renumbering_truthful`); nothing else depends on it (`renumbering_same`). Assumes nothing.
use native.Mathlib.Omega.{arith}
use mathlib.Core.Path.{◌≡◌, refl}
use mathlib.Core.Bool.{Bool, true}
use mathlib.Core.List.{List}
use lib.Ieee.{Float}
use Rattle.std.specs.Prelude.{Ok}
use Rattle.refusal.proofs.Rows.{then_passed, answers_relate}
use Rattle.mesh.specs.Mesh.{Mesh, count}
use Rattle.mesh.specs.Rows.{adjacency_rows}
use Rattle.mesh.specs.Mark.{lists_ascend, Truthful}
use Rattle.mesh.proofs.Facts.{adjacency_facts}
use Rattle.mesh.proofs.Mark.{lists_ascend_lem, mark_truthful}
use Rattle.renumber.specs.Renumber.{Call, longest_length, call_rows, RenumberOutcome, renumber_rows, renumbered_mesh, apply_vertex_permutation}
use Rattle.renumber.specs.Laws.{AlikeButMark}
use Rattle.renumber.proofs.RenumberedMesh.{renumbered_count, renumbered_ascends}
use Rattle.renumber.proofs.Calls.{accepted_permutation}

module _ (m : Mesh) (values : List Float) (call : Call) where
  accepted_ascend : renumber_rows m values call ≡ Ok tt → lists_ascend (renumbered_mesh call.permutation m) ≡ true
  unfolding renumber_rows
  accepted_ascend h =
      let rows = then_passed (adjacency_rows m) (call_rows (count m) (longest_length m values) call) h in
      let permutes = accepted_permutation (count m) (longest_length m values) call rows.1 in
      let same = renumbered_count m (adjacency_facts m rows.0) permutes in
      lists_ascend_lem (renumbered_mesh call.permutation m) (λ i lt. renumbered_ascends m permutes i (omega arith))

  pub renumbering_truthful : (mark : Bool) → Truthful m mark → Truthful (apply_vertex_permutation m mark values call).mesh (apply_vertex_permutation m mark values call).mark
  unfolding apply_vertex_permutation
  renumbering_truthful mark before =
      mark_truthful (λ (o : RenumberOutcome). o.mesh) (λ (o : RenumberOutcome). o.mark) (renumber_rows m values call) _ _ (λ reason. before) (λ rows marked. accepted_ascend rows)

  pub renumbering_same : (mark other : Bool) → AlikeButMark (apply_vertex_permutation m mark values call) (apply_vertex_permutation m other values call)
  unfolding apply_vertex_permutation
  renumbering_same mark other =
      answers_relate AlikeButMark (renumber_rows m values call) _ _ _ _ (λ reason. record { verdict = refl; mesh = refl; values = refl }) (record { verdict = refl; mesh = refl; values = refl })
