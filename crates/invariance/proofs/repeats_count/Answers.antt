use Rattle.invariance.proofs.Repeats as repeats
use Rattle.invariance.proofs.repeats_count.Goals as goal

pub returns : goal.returns
returns c = repeats.repeats_count
