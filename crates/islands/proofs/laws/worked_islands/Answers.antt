-- `islands::laws::worked_islands`: by evaluation. Assumes nothing.
use Rattle.islands.proofs.Cases.{worked_islands}
use Rattle.islands.proofs.laws.worked_islands.Goals as goal

pub returns-clause-mutual_lists : goal.returns-clause-mutual_lists
returns-clause-mutual_lists c = worked_islands.0

pub returns-clause-one_way : goal.returns-clause-one_way
returns-clause-one_way c = worked_islands.1

pub returns-clause-refused : goal.returns-clause-refused
returns-clause-refused c = worked_islands.2
