-- The places up to `x-index` are read.
use Rattle.records.proofs.Readings.{ReadSoFar}
use Rattle.records.proofs.reader.Reader.take_list.Given as goal

abbrev pub invariant-loop-x : goal.invariant-loop-x
invariant-loop-x g l = ReadSoFar g.T.Element.MOST g.T.Element.of_word l.initial.self l.list l.x-index l.self
