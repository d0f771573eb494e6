-- `packing::laws::rest_stays`: after an accepted call, and after a refused one. Assumes nothing.
use Rattle.packing.proofs.Stays.{accepted_leaves, refused_leaves}
use Rattle.packing.proofs.laws.rest_stays.Goals as goal

pub returns-clause-accepted : goal.returns-clause-accepted
returns-clause-accepted c = accepted_leaves

pub returns-clause-refused : goal.returns-clause-refused
returns-clause-refused c = refused_leaves
