-- `islands::walk_island` meets its contract: the root enters, and the walk goes on from its place. Assumes nothing.
use Rattle.std.proofs.Common.{arith}
use lib.ListN.{length-set}
use Rattle.mesh.specs.Mesh.{neighbours}
use Rattle.walk.proofs.Queue.{holding_room, holding_at_most, holding_behind, holding_again}
use Rattle.walk.proofs.Continued.{walkable_below}
use Rattle.islands.proofs.Behind.{island_continued}
use Rattle.islands.proofs.walk_island.Goals as goal

pub overflow_cast-order : goal.overflow_cast-order
overflow_cast-order c = omega (arith, holding_room c.requires.held c.requires.walkable.few c.args.root c.requires.there c.requires.unnumbered, c.requires.walkable.few)

pub bounds-queue-reached : goal.bounds-queue-reached
bounds-queue-reached c = omega (arith, holding_room c.requires.held c.requires.walkable.few c.args.root c.requires.there c.requires.unnumbered, c.requires.walkable.room)

pub continue_walk-requires-clause-held : goal.continue_walk-requires-clause-held
continue_walk-requires-clause-held c = holding_again (holding_behind c.requires.held c.requires.walkable.few c.args.root c.requires.there c.requires.walkable.room c.requires.unnumbered)

pub continue_walk-requires-clause-from_limit : goal.continue_walk-requires-clause-from_limit
continue_walk-requires-clause-from_limit c = omega (arith, length-set c.args.order.now c.args.root c.args.reached, holding_room c.requires.held c.requires.walkable.few c.args.root c.requires.there c.requires.unnumbered)

pub returns : goal.returns
unfolding neighbours
returns c = island_continued (walkable_below c.requires.walkable) (holding_behind c.requires.held c.requires.walkable.few c.args.root c.requires.there c.requires.walkable.room c.requires.unnumbered) (holding_at_most c.requires.held) (rw (c.starts.ensures, c.entries.ensures) at c.continue_walk.ensures)
