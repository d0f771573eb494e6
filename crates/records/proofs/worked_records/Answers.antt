use Rattle.records.proofs.Cases.{worked_records_hold}
use Rattle.records.proofs.worked_records.Goals as goal

pub returns : goal.returns
returns c = worked_records_hold
