-- `walk::continue_walk` meets its contract: each turn reads the list of one vertex. Assumes nothing.
use Rattle.std.proofs.Common.{ℕ, suc, ◌+◌, ◌-◌, ◌≤◌, ◌<◌, ◌≡◌, true, false, length, take, arith, refl, ap, subst}
use mathlib.Core.Bool.{◌&&◌}
use lib.Dec.{ltb}
use lib.ListN.{get_or}
use mathlib.Core.List.{List, Memᴰ}
use Rattle.std.proofs.lemmas.Bool.{and_parts, ltb-true}
use Rattle.std.proofs.lemmas.Bool.Decides.{nat_tests}
use Rattle.sequences.specs.Starts.{part}
use Rattle.walk.specs.Walk.{begun, continued}
use Rattle.walk.specs.Buffers.{Holding}
use Rattle.walk.proofs.Queue.{holding_at_most, holding_again, holding_then, holding_order_length, entered_longer}
use Rattle.walk.proofs.Continued.{Turn, turn_at, walkable_below, continued_end}
use Rattle.walk.proofs.continue_walk.Goals.{In-loop-head}
use Rattle.walk.proofs.continue_walk.Goals as goal

-- another place is left: it holds an id and lies below the limit
goes_on : (head count limit : ℕ) → (ltb head count && ltb head limit) ≡ true → (head < count) × (head < limit)
goes_on head count limit e = let parts = and_parts _ _ e in (ltb-true _ _ parts.0, ltb-true _ _ parts.1)

-- none is
ended : (head count limit : ℕ) → (ltb head count && ltb head limit) ≡ false → head < limit → count ≤ head
ended head count limit e lt = grind (arith, nat_tests)

test : (c : In-loop-head) → (c.loop-head.head < c.loop-head.count) × (c.loop-head.head < c.args.limit)
test c = goes_on _ _ _ c.loop-head-test.true

turn : (c : In-loop-head) → Turn (length c.args.order.now) (take c.args.reached c.args.queue.now) c.args.from (c.loop-head.head - c.args.from) c.args.starts.now c.args.entries.now (get_or c.loop-head.queue c.loop-head.head 0) c.loop-head.read
turn c = turn_at c.requires.walkable c.requires.held.once (omega arith) c.loop-head.invariant.holds (test c).0 c.loop-head.invariant.entries_agree

pub loop-head-init : goal.loop-head-init
unfolding continued
loop-head-init c =
    let e : c.args.from - c.args.from ≡ 0 = omega arith in
    rw e (record { started = omega arith; passed = c.requires.from_reached; allowed = c.requires.from_limit; within = holding_at_most c.requires.held; holds = c.requires.held; entries_agree = refl })

pub list_of-list-requires : goal.list_of-list-requires
list_of-list-requires c = (turn (goal.at.list_of-list-requires c).In-loop-head).listed

pub enter_list-count-requires-clause-held : goal.enter_list-count-requires-clause-held
enter_list-count-requires-clause-held c = holding_again c.loop-head.invariant.holds

pub enter_list-count-requires-clause-ids : goal.enter_list-count-requires-clause-ids
enter_list-count-requires-clause-ids c =
    let here = turn (goal.at.enter_list-count-requires-clause-ids c).In-loop-head in
    λ v m. omega (arith, holding_order_length c.loop-head.invariant.holds, walkable_below c.requires.walkable _ here.vertex_below v (subst (λ (list : List ℕ). Memᴰ v list) c.list_of-list.ensures m))

pub overflow_add-read : goal.overflow_add-read
overflow_add-read c = omega (arith, (turn (goal.at.overflow_add-read c).In-loop-head).read_within, ap length c.list_of-list.ensures)

pub loop-head-preserved : goal.loop-head-preserved
loop-head-preserved c =
    let here = turn (goal.at.loop-head-preserved c).In-loop-head in
    let further = test (goal.at.loop-head-preserved c).In-loop-head in
    let lists = part c.args.starts.now c.args.entries.now in
    let visit = continued lists (begun (take c.args.reached c.args.queue.now)) c.args.from in
    let k = c.loop-head.head - c.args.from in
    let list = lists (get_or c.loop-head.queue c.loop-head.head 0) in
    let place : c.loop-head.head + 1 - c.args.from ≡ suc k = omega arith in
    let next : Holding (length c.args.order.now) (visit (suc k)).queue c.args.queue.now c.enter_list-count.result c.enter_list-count.new.order c.enter_list-count.new.queue =
    rw here.queue_next (holding_then c.loop-head.invariant.holds list (rw c.list_of-list.ensures at c.enter_list-count.ensures)) in
    let longer = entered_longer (visit k).queue list in
    rw place (record {
      started = omega arith;
      passed = omega (arith, longer, next.size, ap length here.queue_next, c.loop-head.invariant.holds.size);
      allowed = omega arith;
      within = holding_at_most next;
      holds = next;
      entries_agree = rw c.list_of-list.ensures here.read_next;
    })

pub returns : goal.returns
returns c =
    let k = c.loop-head.head - c.args.from in
    let whole = continued_end (part c.args.starts.now c.args.entries.now) (begun (take c.args.reached c.args.queue.now)) c.args.from k (c.args.limit - c.args.from) (omega arith)
    (λ lt. let stop = ended c.loop-head.head c.loop-head.count c.args.limit c.loop-head-test.false (omega arith) in omega (arith, c.loop-head.invariant.holds.size)) in
    record {
      holds = rw whole c.loop-head.invariant.holds;
      entries_agree = rw whole c.loop-head.invariant.entries_agree;
    }
