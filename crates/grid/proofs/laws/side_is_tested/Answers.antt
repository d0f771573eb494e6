-- `grid::laws::side_is_tested`: with the factor 1.2, and with any other. Assumes nothing.
use Rattle.grid.proofs.SideLeast.{side_least}
use Rattle.grid.proofs.SideTested.{side_between}
use Rattle.grid.proofs.laws.side_is_tested.Goals as goal

pub returns-clause-usual : goal.returns-clause-usual
returns-clause-usual c = side_least

pub returns-clause-any : goal.returns-clause-any
returns-clause-any c factor n g allowed some few low high = side_between factor allowed n some few g low high
