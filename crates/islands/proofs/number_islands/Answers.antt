-- `islands::number_islands` meets its contract: each id is tried, and one without a number begins an island. Assumes nothing.
use Rattle.std.proofs.Common.{ℕ, suc, ◌≡◌, ◌∙◌, length, arith, refl, sym, ap, rules, add-one}
use Rattle.sequences.specs.Tabulate.{overwrite}
use Rattle.sequences.proofs.Starts.{part_start}
use Rattle.mesh.specs.Mesh.{neighbours}
use Rattle.walk.proofs.Queue.{holding_none, holding_at_most, holding_again}
use Rattle.walk.proofs.Order.{order_of_none}
use Rattle.walk.proofs.Continued.{walkable_below}
use Rattle.islands.specs.Islands.{islands_below, islands_of}
use Rattle.islands.proofs.Numbered.{all_numbered}
use Rattle.islands.proofs.Behind.{tried_old, island_entered, islands_read_at_most}
use Rattle.islands.proofs.number_islands.Goals.{then-order-root, else-order-root}
use Rattle.islands.proofs.number_islands.Goals as goal

pub overflow_cast-island_starts : goal.overflow_cast-island_starts
overflow_cast-island_starts c = omega (arith, holding_at_most c.loop-root.invariant.holds, c.requires.walkable.few)

pub loop-root-init : goal.loop-root-init
unfolding islands_below overwrite
loop-root-init c =
    let cleared = c.fill.ensures.after (search rules) ∙ sym (order_of_none (length c.args.order.now)) in
    record { holds = holding_none cleared; entries_agree = refl; counted = refl; few = omega arith; starts_written = refl }

pub walk_island-reach-requires-clause-held : goal.walk_island-reach-requires-clause-held
walk_island-reach-requires-clause-held c = holding_again c.loop-root.invariant.holds

pub overflow_add-read : goal.overflow_add-read
unfolding neighbours
overflow_add-read c =
    let i = c.loop-root.invariant in
    let lists = neighbours c.args.mesh.now in
    let n = length c.args.order.now in
    let entered = island_entered lists c.loop-root.root i.holds c.requires.walkable.few (omega arith) c.if-order-root.true i.entries_agree i.starts_written (omega (arith, i.counted, i.few, c.requires.room)) c.walk_island-reach.ensures in
    let most = islands_read_at_most lists (walkable_below c.requires.walkable) (suc c.loop-root.root) (omega arith) in
    let all = part_start n c.args.mesh.now.starts c.args.mesh.now.entries c.requires.walkable.rows n (omega arith) in
    omega (arith, entered.entries_agree, c.requires.few_entries)

pub loop-root-preserved : goal.loop-root-preserved
loop-root-preserved c =
    let i = c.loop-root.invariant in
    let lists = neighbours c.args.mesh.now in
    elim c.if-order-root.branch [
      | then-order-root w ↦
          let entered = island_entered lists c.loop-root.root i.holds c.requires.walkable.few (omega arith) w.if-order-root.true i.entries_agree i.starts_written (omega (arith, i.counted, i.few, c.requires.room)) w.walk_island-reach.ensures in
          rw (add-one c.loop-root.root, w.order-is, w.queue-is, w.reached-is, w.read-is, w.islands-is, w.island_starts-is) (record {
            holds = entered.holds;
            entries_agree = entered.entries_agree;
            counted = omega (arith, entered.counted, i.counted);
            few = omega (arith, i.few);
            starts_written = rw i.counted entered.starts_written;
          })
      | else-order-root w ↦
          let same = tried_old lists c.loop-root.root i.holds c.requires.walkable.few (omega arith) w.if-order-root.false in
          rw (add-one c.loop-root.root, w.order-is, w.queue-is, w.reached-is, w.read-is, w.islands-is, w.island_starts-is, same) (record {
            holds = i.holds;
            entries_agree = i.entries_agree;
            counted = i.counted;
            few = omega (arith, i.few);
            starts_written = i.starts_written;
          })
    ]

pub overflow_cast-result-2 : goal.overflow_cast-result-2
unfolding neighbours
overflow_cast-result-2 c =
    let n = length c.args.order.now in
    let most = islands_read_at_most (neighbours c.args.mesh.now) (walkable_below c.requires.walkable) c.loop-root.root (omega (arith, c.loop-root.auto)) in
    let all = part_start n c.args.mesh.now.starts c.args.mesh.now.entries c.requires.walkable.rows n (omega arith) in
    omega (arith, c.loop-root.invariant.entries_agree, c.requires.few_entries)

pub returns : goal.returns
unfolding islands_of neighbours
returns c =
    let i = c.loop-root.invariant in
    let lists = neighbours c.args.mesh.now in
    let n = length c.args.order.now in
    let all : c.loop-root.root ≡ n = omega (arith, c.loop-root.auto) in
    let whole = all_numbered lists (walkable_below c.requires.walkable) in
    let reached : c.loop-root.reached ≡ n = sym i.holds.size ∙ ap (λ (k : ℕ). length (islands_below lists n k).visit.queue) all ∙ whole in
    record {
      holds = rw (all, reached) at i.holds;
      entries_agree = rw all at i.entries_agree;
      counted = rw all at i.counted;
      starts_written = rw all at i.starts_written;
    }
