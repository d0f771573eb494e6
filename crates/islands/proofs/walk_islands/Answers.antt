-- `islands::walk_islands` meets its contract: room, and all islands. Assumes nothing.
use Rattle.std.proofs.Common.{◌∙◌, arith, inl, inr}
use lib.Seq.{length-take-le}
use Rattle.mesh.proofs.Facts.{adjacency_facts, entries_limited}
use Rattle.walk.proofs.Outcome.{mesh_walkable}
use Rattle.islands.proofs.Outcome.{islands_short, islands_made}
use Rattle.islands.proofs.walk_islands.Goals.{then-numbering-count-via-then-numbering-count, then-numbering-count-via-else-numbering-count+then-numbering-count-2, then-numbering-count-via-else-numbering-count+else-numbering-count-2+then-numbering-count-3}
use Rattle.islands.proofs.walk_islands.Goals as goal

pub returns-then-numbering-count-clause-outcome : goal.returns-then-numbering-count-clause-outcome
returns-then-numbering-count-clause-outcome c =
    let counted = c.count-count.ensures.counted in
    islands_short c.args.mesh.now _ _ _ c.count-count.ensures.rows (elim c.then-numbering-count.branch [
      | then-numbering-count-via-then-numbering-count w ↦ inl (omega (arith, counted, w.if-numbering-count.true))
      | then-numbering-count-via-else-numbering-count+then-numbering-count-2 w ↦ inr (inl (omega (arith, counted, w.if-numbering-count-2.true)))
      | then-numbering-count-via-else-numbering-count+else-numbering-count-2+then-numbering-count-3 w ↦ inr (inr (omega (arith, counted, w.if-numbering-count-3.true)))
    ])

pub number_islands-requires-clause-walkable : goal.number_islands-requires-clause-walkable
number_islands-requires-clause-walkable c =
    let counted = c.count-count.ensures.counted in
    mesh_walkable c.args.mesh.now c.count-count.ensures.rows (length-take-le c.count-count.result c.args.numbering.now.order.now c.if-numbering-count.false ∙ counted) (omega (arith, counted, c.if-numbering-count-2.false))

pub number_islands-requires-clause-few_entries : goal.number_islands-requires-clause-few_entries
number_islands-requires-clause-few_entries c = let facts = adjacency_facts c.args.mesh.now c.count-count.ensures.rows in omega (arith, facts.few, entries_limited c.args.mesh.now facts)

pub returns-clause-outcome : goal.returns-clause-outcome
returns-clause-outcome c =
    let counted = c.count-count.ensures.counted in
    rw counted (islands_made c.args.mesh.now
    (record { rows = c.count-count.ensures.rows; order_room = omega (arith, counted, c.if-numbering-count.false); queue_room = omega (arith, counted, c.if-numbering-count-2.false); starts_room = omega (arith, counted, c.if-numbering-count-3.false) })
    (rw (length-take-le c.count-count.result c.args.numbering.now.order.now c.if-numbering-count.false ∙ counted) at c.number_islands.ensures))
