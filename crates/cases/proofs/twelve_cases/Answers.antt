use Rattle.cases.proofs.Table.{all_hold}
use Rattle.cases.proofs.twelve_cases.Goals as goal

pub returns : goal.returns
returns c = all_hold
