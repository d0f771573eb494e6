-- `packing::laws::earlier_grid_stays`: under one call, and under a list of them. Assumes nothing.
use Rattle.packing.proofs.Stays.{earlier_stays, each_stands}
use Rattle.packing.proofs.laws.earlier_grid_stays.Goals as goal

pub returns-clause-call : goal.returns-clause-call
returns-clause-call c = earlier_stays

pub returns-clause-list : goal.returns-clause-list
returns-clause-list c = each_stands
