use Rattle.std.proofs.Common.{◌+◌}
use Rattle.grid_query.proofs.Scan.{Read}
use Rattle.grid_query.proofs.Query.nearest_in_cell.Given as goal

-- the items behind the first, so that the place among the candidates is one more
abbrev pub invariant-loop-next : goal.invariant-loop-next
invariant-loop-next l = Read l.self.positions.now l.self.direction l.candidates (l.next-index + 1) l.id l.least
