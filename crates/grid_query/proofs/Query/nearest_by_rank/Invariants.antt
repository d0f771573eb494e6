use Rattle.std.proofs.Common.{◌+◌}
use Rattle.grid_query.proofs.Scan.{Scanned}
use Rattle.grid_query.proofs.Query.nearest_by_rank.Given as goal

-- the items behind the first, so that the place among the candidates is one more
abbrev pub invariant-loop-next : goal.invariant-loop-next
invariant-loop-next l = Scanned l.self.positions.now l.self.direction l.ids (l.next-index + 1) l.id l.distance l.least
