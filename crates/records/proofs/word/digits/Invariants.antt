-- The digits before `rest` are passed.
use Rattle.std.proofs.Common.{length}
use Rattle.records.proofs.Digits.{Passed}
use Rattle.records.proofs.word.digits.Given as goal

abbrev pub invariant-loop-next : goal.invariant-loop-next
invariant-loop-next l = Passed l.text l.rest l.value

abbrev pub decreases-loop-next : goal.decreases-loop-next
decreases-loop-next l = length l.rest
