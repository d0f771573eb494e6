-- `c_api::meshes::koshirga_steps_between` meets its contract: the mesh that the rows let pass is the one that was lent, and a refusal of theirs is the call's. Assumes nothing.
use Rattle.std.proofs.Common.{◌∙◌, length, sym, ap}
use Rattle.mesh.specs.Mesh.{Mesh, mesh_of}
use Rattle.mesh.proofs.Made.{checked_made, checked_refused}
use Rattle.steps.specs.Outcomes.{steps_between}
use Rattle.steps.proofs.Outcome.{steps_refused}
use Rattle.c_api.specs.Code.{steps_answer}
use Rattle.c_api.proofs.meshes.koshirga_steps_between.Goals as goal

pub returns-in-Ok-clause-answered : goal.returns-in-Ok-clause-answered
returns-in-Ok-clause-answered c =
    let made = checked_made (mesh_of c.args.positions.now c.args.starts.now c.args.entries.now) _ (sym c.new.ensures ∙ c.in-Ok.is) in
    c.into.ensures ∙ ap steps_answer (c.steps_between.ensures.answered ∙ ap (λ (m : Mesh). steps_between m c.args.from c.args.to (length c.args.order.now) (length c.args.queue.now)) made.0)

pub returns-in-Err-clause-answered : goal.returns-in-Err-clause-answered
returns-in-Err-clause-answered c =
    c.from.ensures ∙ ap steps_answer (steps_refused (mesh_of c.args.positions.now c.args.starts.now c.args.entries.now) _ _ _ _ _ (checked_refused _ _ (sym c.new.ensures ∙ c.in-Err.is)))
