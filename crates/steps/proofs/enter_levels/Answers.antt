-- `steps::enter_levels` meets its contract: each turn enters one level, and behind an empty one there is none. Assumes nothing.
use Rattle.std.proofs.Common.{ℕ, ◌≤◌, ◌<◌, ◌≡◌, true, false, arith, refl, sym, add-one}
use mathlib.Core.Bool.{◌&&◌}
use lib.Dec.{ltb}
use Rattle.std.proofs.lemmas.Bool.Decides.{nat_tests}
use Rattle.mesh.specs.Mesh.{neighbours}
use Rattle.walk.proofs.Queue.{holding_again}
use Rattle.steps.specs.Steps.{within_steps}
use Rattle.steps.proofs.Levels.{nearer, level_entered, within_end}
use Rattle.steps.proofs.enter_levels.Goals as goal

goes_on : (level steps begin reached : ℕ) → (ltb level steps && ltb begin reached) ≡ true → level < steps
goes_on level steps begin reached e = grind (arith, nat_tests)

-- no level is left to enter, or the last one was empty
ended : (level steps begin reached : ℕ) → (ltb level steps && ltb begin reached) ≡ false → level < steps → reached ≤ begin
ended level steps begin reached e lt = grind (arith, nat_tests)

pub loop-level-init : goal.loop-level-init
unfolding within_steps nearer
loop-level-init c = record { allowed = omega arith; begins = refl; holds = c.begin_walk.ensures }

pub continue_walk-reached-requires-clause-held : goal.continue_walk-reached-requires-clause-held
continue_walk-reached-requires-clause-held c = holding_again c.loop-level.invariant.holds

pub loop-level-preserved : goal.loop-level-preserved
unfolding nearer neighbours
loop-level-preserved c =
    rw add-one (record {
      allowed = goes_on _ _ _ _ c.loop-level-test.true;
      begins = sym c.loop-level.invariant.holds.size;
      holds = level_entered c.args.vertex c.loop-level.level c.loop-level.invariant.begins c.loop-level.invariant.holds (rw (c.starts.ensures, c.entries.ensures) at c.continue_walk-reached.ensures);
    })

pub returns : goal.returns
returns c =
    let i = c.loop-level.invariant in
    let last : c.loop-level.level < c.args.steps → c.loop-level.reached ≤ c.loop-level.begin = λ lt. ended c.loop-level.level c.args.steps c.loop-level.begin c.loop-level.reached c.loop-level-test.false lt in
    rw (within_end (neighbours c.args.mesh.now) c.args.vertex c.loop-level.level c.args.steps i.allowed (λ lt. let r = last lt in omega (arith, i.begins, i.holds.size))) i.holds
