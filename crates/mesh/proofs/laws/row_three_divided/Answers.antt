use Rattle.mesh.proofs.Refusals.{same_verdict, same_accepted}
use Rattle.mesh.proofs.laws.row_three_divided.Goals as goal

pub returns-clause-verdict : goal.returns-clause-verdict
returns-clause-verdict c = same_verdict

pub returns-clause-accepted : goal.returns-clause-accepted
returns-clause-accepted c = same_accepted
