-- `islands::laws::islands_accept`: by what its rows found. Assumes nothing.
use Rattle.islands.proofs.Theorems.{checked_is_accepted, never_unreached, refused_leaves_slices}
use Rattle.islands.proofs.laws.islands_accept.Goals as goal

pub returns-clause-accepted : goal.returns-clause-accepted
returns-clause-accepted c = checked_is_accepted

pub returns-clause-never : goal.returns-clause-never
returns-clause-never c = never_unreached

pub returns-clause-refused : goal.returns-clause-refused
returns-clause-refused c = refused_leaves_slices
