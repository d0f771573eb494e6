use Rattle.sequences.proofs.Cases.{worked_lists_hold}
use Rattle.sequences.proofs.worked_lists.Goals as goal

pub returns : goal.returns
returns c = worked_lists_hold
