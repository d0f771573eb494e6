-- `steps::laws::list_is_front`: by the levels of the walk. Assumes nothing.
use Rattle.steps.proofs.Calls.{list_is_front, every_number_passes, refused_leaves_list}
use Rattle.steps.proofs.laws.list_is_front.Goals as goal

pub returns-clause-front : goal.returns-clause-front
returns-clause-front c = list_is_front

pub returns-clause-accepted : goal.returns-clause-accepted
returns-clause-accepted c = every_number_passes

pub returns-clause-refused : goal.returns-clause-refused
returns-clause-refused c = refused_leaves_list
