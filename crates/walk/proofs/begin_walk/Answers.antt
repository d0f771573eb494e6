-- `walk::begin_walk` meets its contract: no id is numbered, then the vertex enters. Assumes nothing.
use Rattle.std.proofs.Common.{◌∙◌, length, sym, rules}
use Rattle.walk.proofs.Queue.{holding_first}
use Rattle.walk.proofs.Order.{order_of_none}
use Rattle.walk.proofs.begin_walk.Goals as goal

pub returns : goal.returns
returns c = holding_first c.args.vertex c.requires.there c.requires.few c.requires.room (c.fill.ensures.after (search rules) ∙ sym (order_of_none (length c.args.order.now)))
