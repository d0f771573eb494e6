-- `c_api::meshes::koshirga_walk_islands` meets its contract: the mesh that the rows let pass is the one that was lent, and a refusal of theirs is the call's. Assumes nothing.
use Rattle.std.proofs.Common.{◌∙◌, sym, ap, rules}
use Rattle.mesh.specs.Mesh.{Mesh, mesh_of}
use Rattle.mesh.proofs.Made.{checked_made, checked_refused}
use Rattle.islands.specs.Outcomes.{walk_islands}
use Rattle.islands.proofs.Outcome.{islands_refused}
use Rattle.c_api.specs.Lent.{islands_left_of}
use Rattle.c_api.proofs.meshes.koshirga_walk_islands.Goals as goal

pub returns-in-Ok : goal.returns-in-Ok
returns-in-Ok c =
    let made = checked_made (mesh_of c.args.positions.now c.args.starts.now c.args.entries.now) _ (sym c.new.ensures ∙ c.in-Ok.is) in
    let outcome = c.walk_islands.ensures.outcome ∙ ap (λ (m : Mesh). walk_islands m c.args.order.now c.args.queue.now c.args.island_starts.now) made.0 in
    search (rules, c.into.ensures, ap islands_left_of outcome)

pub returns-in-Err : goal.returns-in-Err
returns-in-Err c =
    rw c.from.ensures (ap islands_left_of (islands_refused (mesh_of c.args.positions.now c.args.starts.now c.args.entries.now) _ _ _ _ (checked_refused _ _ (sym c.new.ensures ∙ c.in-Err.is))))
