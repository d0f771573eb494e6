-- `analytic::slot_ids::SlotIds::corner_ids` meets its contract. Assumes nothing.
use Rattle.analytic.proofs.Halves.{ids_in_order}
use Rattle.analytic.proofs.slot_ids.SlotIds.corner_ids.Goals as goal

pub returns : goal.returns
returns c =
    let t = c.args.rhombus in
    ids_in_order c.args.self.now.frequency.n c.args.self.now.ids.now c.args.face.index t.least.a t.least.b t.fractions.u t.fractions.v t.fractions.w
    c.points_up.result _ _ _ _ c.points_up.ensures c.from-up.ensures c.id_at-beside_a.ensures c.id_at-beside_b.ensures c.id_at.ensures
