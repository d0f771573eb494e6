-- `steps::laws::path_decides`: the walk reaches what a path leads to. Assumes nothing.
use Rattle.steps.proofs.Calls.{refused_without_path, answered_by_path, equal_ends_at_once}
use Rattle.steps.proofs.laws.path_decides.Goals as goal

pub returns-clause-refused : goal.returns-clause-refused
returns-clause-refused c = refused_without_path

pub returns-clause-answered : goal.returns-clause-answered
returns-clause-answered c = answered_by_path

pub returns-clause-equal_ends : goal.returns-clause-equal_ends
returns-clause-equal_ends c = equal_ends_at_once
