-- `c_api::meshes::koshirga_vertices_within` meets its contract: the mesh that the rows let pass is the one that was lent, and a refusal of theirs is the call's. Assumes nothing.
use Rattle.std.proofs.Common.{◌∙◌, length, sym, ap}
use Rattle.mesh.specs.Mesh.{Mesh, mesh_of}
use Rattle.mesh.proofs.Made.{checked_made, checked_refused}
use Rattle.steps.specs.Outcomes.{vertices_within}
use Rattle.steps.proofs.Outcome.{within_refused}
use Rattle.c_api.specs.Lent.{within_left_of}
use Rattle.c_api.proofs.meshes.koshirga_vertices_within.Goals as goal

pub returns-in-Ok-clause-answered : goal.returns-in-Ok-clause-answered
returns-in-Ok-clause-answered c =
    let made = checked_made (mesh_of c.args.positions.now c.args.starts.now c.args.entries.now) _ (sym c.new.ensures ∙ c.in-Ok.is) in
    let outcome = c.vertices_within.ensures.answered ∙ ap (λ (m : Mesh). vertices_within m c.args.vertex c.args.steps (length c.args.order.now) c.args.list.now) made.0 in
    rw c.into.ensures (ap within_left_of outcome)

pub returns-in-Err-clause-answered : goal.returns-in-Err-clause-answered
returns-in-Err-clause-answered c =
    rw c.from.ensures (ap within_left_of (within_refused (mesh_of c.args.positions.now c.args.starts.now c.args.entries.now) _ _ _ _ _ (checked_refused _ _ (sym c.new.ensures ∙ c.in-Err.is))))
