-- What is left of the list decides.
use Rattle.std.proofs.Common.{◌≡◌, map}
use Rattle.records.specs.Lists.{expected_each}
use Rattle.records.proofs.Readings.{rest_expected}
use Rattle.records.proofs.reader.Reader.expect_list.Given as goal

abbrev pub invariant-loop-x : goal.invariant-loop-x
invariant-loop-x g l = let word_of = g.T.Element.word_of in rest_expected word_of l.list l.x-index l.self ≡ expected_each (map word_of l.list) l.initial.self
