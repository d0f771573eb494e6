use Rattle.renumber.proofs.Mark.{renumbering_truthful, renumbering_same}
use Rattle.renumber.proofs.Refusals.{renumber_index}
use Rattle.renumber.proofs.laws.mark_by_renumbering.Goals as goal

pub returns-clause-truthful : goal.returns-clause-truthful
returns-clause-truthful c = λ m mark values call. renumbering_truthful m values call mark

pub returns-clause-nothing_depends : goal.returns-clause-nothing_depends
returns-clause-nothing_depends c = λ m mark other values call. renumbering_same m values call mark other

pub returns-clause-index : goal.returns-clause-index
returns-clause-index c = λ m mark values call. renumber_index m mark values call
