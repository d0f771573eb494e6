use Rattle.std.proofs.Common.{◌+◌, sym}
use Rattle.mesh.proofs.IdsBelow.{ids_below_at}
use Rattle.grid_query.proofs.Scan.{behind_first, all_behind, scan_first, scan_nearer, scan_farther, scan_foreign, scan_end}
use Rattle.grid_query.proofs.Query.nearest_by_rank.Goals as goal
use Rattle.grid_query.proofs.Query.nearest_by_rank.Goals.{then-next_rank-least, else-next_rank-least}

pub returns-then-not-ids_below : goal.returns-then-not-ids_below
returns-then-not-ids_below c = scan_foreign _ _ _ (rw c.vertex_count.ensures at (sym c.if-not-ids_below.ensures))

pub squared_distance-distance-requires : goal.squared_distance-distance-requires
squared_distance-distance-requires c = ids_below_at _ _ 0 (rw c.vertex_count.ensures at (sym c.if-not-ids_below.ensures)) c.requires.some

pub loop-next-init : goal.loop-next-init
loop-next-init c = scan_first _ _ _ _ _ c.requires.some c.squared_distance-distance.ensures c.rank-least.ensures

pub squared_distance-next_distance-requires : goal.squared_distance-next_distance-requires
squared_distance-next_distance-requires c =
    let next = behind_first c.args.ids.now c.loop-next.next-index c.loop-next-test.true in
    rw next.0 (ids_below_at _ _ (c.loop-next.next-index + 1) (rw c.vertex_count.ensures at (sym c.if-not-ids_below.ensures)) next.1)

pub loop-next-preserved : goal.loop-next-preserved
loop-next-preserved c =
    let next = behind_first c.args.ids.now c.loop-next.next-index c.loop-next-test.true in
    let at = rw next.0 at c.squared_distance-next_distance.ensures in
    elim c.if-next_rank-least.branch [
      | then-next_rank-least w ↦ rw (w.id-is, w.distance-is, w.least-is, next.0) (scan_nearer _ _ _ _ _ _ _ _ _ c.loop-next.invariant next.1 at c.rank-next_rank.ensures w.if-next_rank-least.true)
      | else-next_rank-least w ↦ rw (w.id-is, w.distance-is, w.least-is) (scan_farther _ _ _ _ _ _ _ _ _ c.loop-next.invariant next.1 at c.rank-next_rank.ensures w.if-next_rank-least.false)
    ]

pub returns : goal.returns
returns c = scan_end _ _ _ _ _ _ _ c.loop-next.invariant (all_behind c.args.ids.now c.loop-next.next-index c.loop-next-test.false) (rw c.vertex_count.ensures at (sym c.if-not-ids_below.ensures))
