-- `steps::search` meets its contract: each turn reads one list, as far as the target, and is at the level that it says. Assumes nothing.
use Rattle.std.proofs.Common.{ℕ, suc, ◌+◌, ◌^◌, ◌<◌, ◌≡◌, ◌∙◌, [], ◌∷◌, length, arith, refl, sym, ap, subst, add-one}
use lib.ListN.{get_or}
use mathlib.Core.List.{List, Memᴰ}
use Rattle.sequences.specs.Starts.{part}
use Rattle.mesh.specs.Mesh.{neighbours}
use Rattle.walk.specs.Walk.{begun, continued}
use Rattle.walk.proofs.Queue.{holding_at, holding_at_most, holding_again, holding_order_length}
use Rattle.walk.proofs.Continued.{Turn, turn_at, walkable_below, one_id}
use Rattle.steps.specs.Steps.{within_steps, first_place}
use Rattle.steps.proofs.Levels.{nearer, level}
use Rattle.steps.proofs.Whole.{found_place, no_place, first_place_below, met, missed}
use Rattle.steps.proofs.Turns.{next_turn}
use Rattle.steps.proofs.search.Goals.{In-loop-head}
use Rattle.steps.proofs.search.Goals as goal

-- the list that is read in this turn
abbrev list_of_turn : (c : In-loop-head) → List ℕ
list_of_turn c = part c.args.mesh.now.starts c.args.mesh.now.entries (get_or c.loop-head.queue c.loop-head.head 0)

turn : (c : In-loop-head) → Turn (length c.args.order.now) (c.args.from ∷ []) 0 c.loop-head.head c.args.mesh.now.starts c.args.mesh.now.entries (get_or c.loop-head.queue c.loop-head.head 0) c.loop-head.read
unfolding neighbours
turn c = turn_at c.requires.walkable (one_id c.args.from c.requires.there) (omega arith) c.loop-head.invariant.holds c.loop-head-test.true c.loop-head.invariant.entries_agree

pub loop-head-init : goal.loop-head-init
unfolding continued within_steps nearer neighbours
loop-head-init c = record {
  passed = omega arith;
  within = c.requires.walkable.some;
  holds = c.begin_walk.ensures;
  entries_agree = refl;
  absent = λ i lt m. let y : ⊥ = omega arith in y;
  few = omega arith;
  nearer_left = omega arith;
  ends = refl;
  at_level = λ lt. omega arith;
}

pub neighbours-list-requires : goal.neighbours-list-requires
unfolding neighbours
neighbours-list-requires c = omega (arith, (turn (goal.at.neighbours-list-requires c).In-loop-head).vertex_below, c.requires.places)

-- the target is met: its place, and that what has been read fits
pub record Hit (c : goal.In-Some) : Type 0 where
  pub place : c.in-Some.place ≡ first_place c.args.target (list_of_turn (goal.at.returns-in-Some c).In-loop-head)
  pub member : Memᴰ c.args.target (list_of_turn (goal.at.returns-in-Some c).In-loop-head)
  pub read_fits : c.loop-head.read + c.in-Some.place < length c.args.mesh.now.entries
  pub entries_few : length c.args.mesh.now.entries < 2 ^ 32

hit : (c : goal.In-Some) → Hit c
unfolding neighbours
hit c =
    let here = turn (goal.at.returns-in-Some c).In-loop-head in
    let r = found_place c.args.target (list_of_turn (goal.at.returns-in-Some c).In-loop-head) c.in-Some.place (sym (rw c.neighbours-list.ensures at c.place_in.ensures) ∙ c.in-Some.is) in
    let below = first_place_below c.args.target (list_of_turn (goal.at.returns-in-Some c).In-loop-head) r.1 in
    record { place = r.0; member = r.1; read_fits = omega (arith, here.read_within); entries_few = c.requires.few_entries }

pub overflow_add-result : goal.overflow_add-result
unfolding neighbours
overflow_add-result c = omega (arith, c.loop-head.invariant.few, c.requires.walkable.few)

pub overflow_cast-result : goal.overflow_cast-result
unfolding neighbours
overflow_cast-result c = omega (arith, c.loop-head.invariant.few, c.requires.walkable.few)

pub overflow_add-result-in-Some : goal.overflow_add-result-in-Some
unfolding neighbours
overflow_add-result-in-Some c = omega (arith, hit c)

pub overflow_add-result-in-Some-2 : goal.overflow_add-result-in-Some-2
unfolding neighbours
overflow_add-result-in-Some-2 c = omega (arith, hit c)

pub overflow_cast-result-in-Some : goal.overflow_cast-result-in-Some
unfolding neighbours
overflow_cast-result-in-Some c = omega (arith, hit c)

pub returns-in-Some : goal.returns-in-Some
unfolding neighbours
returns-in-Some c =
    let h = hit c in
    let i = c.loop-head.invariant in
    let lists = part c.args.mesh.now.starts c.args.mesh.now.entries in
    let visit = continued lists (begun (c.args.from ∷ [])) 0 c.loop-head.head in
    let same : get_or visit.queue c.loop-head.head 0 ≡ get_or c.loop-head.queue c.loop-head.head 0 = sym (holding_at i.holds c.loop-head.head c.loop-head-test.true) in
    let m = met lists c.args.from c.requires.there (walkable_below c.requires.walkable) c.args.target c.loop-head.head c.requires.other i.absent (omega arith)
    c.loop-head.level i.nearer_left (omega (arith, i.ends, i.at_level c.loop-head-test.true)) (subst (λ (x : ℕ). Memᴰ c.args.target (lists x)) (sym same) h.member) in
    rw (add-one c.loop-head.level, add-one (c.loop-head.read + c.in-Some.place)) (sym (rw (same, ← i.entries_agree, ← h.place) at m))

pub enter_list-reached-requires-clause-held : goal.enter_list-reached-requires-clause-held
unfolding neighbours
enter_list-reached-requires-clause-held c = holding_again c.loop-head.invariant.holds

pub enter_list-reached-requires-clause-ids : goal.enter_list-reached-requires-clause-ids
unfolding neighbours
enter_list-reached-requires-clause-ids c =
    let here = turn (goal.at.enter_list-reached-requires-clause-ids c).In-loop-head in
    λ v m. omega (arith, holding_order_length c.loop-head.invariant.holds, walkable_below c.requires.walkable _ here.vertex_below v (subst (λ (list : List ℕ). Memᴰ v list) c.neighbours-list.ensures m))

pub overflow_add-read : goal.overflow_add-read
unfolding neighbours
overflow_add-read c = omega (arith, (turn (goal.at.overflow_add-read c).In-loop-head).read_within, ap length c.neighbours-list.ensures)

pub overflow_add-level : goal.overflow_add-level
unfolding neighbours
overflow_add-level c = omega (arith, c.loop-head.invariant.few, c.requires.walkable.few)

pub loop-head-preserved-then-head-level_end : goal.loop-head-preserved-then-head-level_end
unfolding nearer neighbours
loop-head-preserved-then-head-level_end c =
    let place = (goal.at.loop-head-preserved-then-head-level_end c).In-loop-head in
    let i = c.loop-head.invariant in
    let read = rw c.neighbours-list.ensures at c.enter_list-reached.ensures in
    let missing : Memᴰ c.args.target (list_of_turn place) → ⊥ = no_place c.args.target (list_of_turn place) (sym (rw c.neighbours-list.ensures at c.place_in.ensures) ∙ c.in_default.is) in
    let after = next_turn (turn place) i.holds c.loop-head-test.true i.absent read missing in
    let lists = part c.args.mesh.now.starts c.args.mesh.now.entries in
    let e : suc c.loop-head.head ≡ nearer lists c.args.from (suc c.loop-head.level) = omega (arith, i.ends, c.if-head-level_end.true) in
    let found = (rw e at after.holds.size) in
    rw (add-one c.loop-head.head, add-one c.loop-head.level) (record {
      passed = after.passed;
      within = holding_at_most after.holds;
      holds = after.holds;
      entries_agree = rw c.neighbours-list.ensures after.entries_agree;
      absent = after.absent;
      few = omega (arith, i.few);
      nearer_left = omega (arith, e);
      ends = sym found ∙ ap length (level lists c.args.from (suc c.loop-head.level));
      at_level = λ lt. lt;
    })

pub loop-head-preserved : goal.loop-head-preserved
unfolding neighbours
loop-head-preserved c =
    let place = (goal.at.loop-head-preserved c).In-loop-head in
    let i = c.loop-head.invariant in
    let read = rw c.neighbours-list.ensures at c.enter_list-reached.ensures in
    let missing : Memᴰ c.args.target (list_of_turn place) → ⊥ = no_place c.args.target (list_of_turn place) (sym (rw c.neighbours-list.ensures at c.place_in.ensures) ∙ c.in_default.is) in
    let after = next_turn (turn place) i.holds c.loop-head-test.true i.absent read missing in
    rw (add-one c.loop-head.head) (record {
      passed = after.passed;
      within = holding_at_most after.holds;
      holds = after.holds;
      entries_agree = rw c.neighbours-list.ensures after.entries_agree;
      absent = after.absent;
      few = omega (arith, i.few);
      nearer_left = omega (arith, i.nearer_left);
      ends = i.ends;
      at_level = λ lt. omega (arith, i.at_level c.loop-head-test.true, c.if-head-level_end.false);
    })

pub returns : goal.returns
unfolding neighbours
returns c = sym (missed (part c.args.mesh.now.starts c.args.mesh.now.entries) c.args.from c.requires.there (walkable_below c.requires.walkable) c.args.target c.loop-head.head c.requires.other c.loop-head.invariant.absent (omega (arith, c.loop-head.invariant.passed)) (omega (arith, c.loop-head.invariant.holds.size)))
