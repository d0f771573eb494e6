use Rattle.root.proofs.Operands.{negative_root, own_root}
use Rattle.root.proofs.special_root.Goals as goal

pub returns-then-x : goal.returns-then-x
returns-then-x c = negative_root c.args.x c.if-x.true

pub returns-else-x : goal.returns-else-x
returns-else-x c = own_root c.args.x c.requires c.if-x.false
