use Rattle.std.proofs.Common.{◌≡◌, drop}
use Rattle.std.specs.Prelude.{None}
use Rattle.grid_query.specs.Cell.{in_triples}
use Rattle.grid_query.specs.Locate.{kept_of}
use Rattle.grid_query.proofs.Query.kept_triangle.Given as goal

abbrev pub invariant-loop-first : goal.invariant-loop-first
invariant-loop-first l =
    kept_of l.self.positions.now l.self.direction l.kept (drop l.first-index l.first-items) ≡ kept_of l.self.positions.now l.self.direction None (in_triples l.triples)
