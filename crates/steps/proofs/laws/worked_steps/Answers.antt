-- `steps::laws::worked_steps`: by evaluation. Assumes nothing.
use Rattle.steps.proofs.Cases.{worked_cases}
use Rattle.steps.proofs.laws.worked_steps.Goals as goal

pub returns-clause-lattice : goal.returns-clause-lattice
returns-clause-lattice c = worked_cases.0

pub returns-clause-row : goal.returns-clause-row
returns-clause-row c = worked_cases.1

pub returns-clause-falling : goal.returns-clause-falling
returns-clause-falling c = worked_cases.2

pub returns-clause-lists : goal.returns-clause-lists
returns-clause-lists c = worked_cases.3
