use Rattle.grid_query.proofs.Parts.{part_runs_past, part_passes, part_taken}
use Rattle.grid_query.proofs.part.Goals as goal

pub returns-then-end-values-clause-refused : goal.returns-then-end-values-clause-refused
returns-then-end-values-clause-refused g c = part_runs_past g.row.WIDTH c.args.starts.now c.args.values.now c.args.i c.if-end-start.false c.if-end-values.true

pub returns-clause-read : goal.returns-clause-read
returns-clause-read g c = part_taken g.row.WIDTH c.args.starts.now c.args.values.now c.args.i

pub returns-clause-passed : goal.returns-clause-passed
returns-clause-passed g c = part_passes g.row.WIDTH c.args.starts.now c.args.values.now c.args.i c.if-end-start.false c.if-end-values.false
