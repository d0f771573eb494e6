-- What an accepted renumbering tells: `renumbered_below`. The vertex count is as it was, and every entry that it leaves is below it. Assumes nothing.
use mathlib.Core.Path.{◌≡◌}
use mathlib.Core.Bool.{Bool}
use mathlib.Core.List.{List}
use lib.Ieee.{Float}
use Rattle.std.specs.Prelude.{Ok}
use Rattle.refusal.proofs.Rows.{refused_not_passed, then_passed, answer_passed}
use Rattle.mesh.specs.Mesh.{Mesh, count}
use Rattle.mesh.specs.Rows.{adjacency_rows}
use Rattle.mesh.proofs.Facts.{adjacency_facts}
use Rattle.renumber.specs.Laws.{RenumberedFacts}
use Rattle.renumber.specs.Renumber.{Call, RenumberOutcome, longest_length, call_rows, renumber_rows, apply_vertex_permutation}
use Rattle.renumber.proofs.RenumberedMesh.{renumbered_count, renumbered_adjacency}
use Rattle.renumber.proofs.Calls.{accepted_permutation, accepted_mesh}

passed_rows : (m : Mesh) (mark : Bool) (values : List Float) (call : Call) → (apply_vertex_permutation m mark values call).answered ≡ Ok tt → renumber_rows m values call ≡ Ok tt
unfolding apply_vertex_permutation
passed_rows m mark values call h = answer_passed (λ (o : RenumberOutcome). o.answered ≡ Ok tt) (renumber_rows m values call) _ _ h refused_not_passed

-- every accepted renumbering
pub renumbered_below : (m : Mesh) (mark : Bool) (values : List Float) (call : Call) → (apply_vertex_permutation m mark values call).answered ≡ Ok tt → RenumberedFacts (count m) (apply_vertex_permutation m mark values call).mesh
unfolding renumber_rows
renumbered_below m mark values call h =
    let passed = passed_rows m mark values call h in
    let rows = then_passed (adjacency_rows m) (call_rows (count m) (longest_length m values) call) passed in
    let facts = adjacency_facts m rows.0 in
    let permutes = accepted_permutation (count m) (longest_length m values) call rows.1 in
    rw (accepted_mesh m mark values call passed) (record {
      same_count = renumbered_count m facts permutes;
      entries_below = λ i lt. rw (renumbered_count m facts permutes) at ((renumbered_adjacency m facts permutes).ids_below_lem i lt);
    })
