-- `grid_query::laws::cells_never_run_backwards`: each step of a query keeps the order. Assumes nothing.
use Rattle.grid_query.proofs.CellOrder.{ci_never_falls, cj_never_falls, grid_cells_follow}
use Rattle.grid_query.proofs.laws.cells_never_run_backwards.Goals as goal

pub returns-clause-ci : goal.returns-clause-ci
returns-clause-ci c = ci_never_falls

pub returns-clause-cj : goal.returns-clause-cj
returns-clause-cj c = cj_never_falls

pub returns-clause-every_grid : goal.returns-clause-every_grid
returns-clause-every_grid c = grid_cells_follow
