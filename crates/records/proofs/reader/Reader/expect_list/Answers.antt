-- `expect_list` compares the elements one by one.
use Rattle.std.proofs.Common.{sym, ◌∙◌}
use Rattle.std.proofs.lemmas.Result.{err_from_is_err_and}
use Rattle.records.proofs.Readings.{each_next, each_fault, each_all}
use Rattle.records.proofs.reader.Reader.expect_list.Goals as goal

pub returns-in_err-expect : goal.returns-in_err-expect
returns-in_err-expect g c =
    let p = err_from_is_err_and c.from_residual.result c.from_residual.ensures.1 in
    rw (p.1, p.2) (each_fault g.T.Element.word_of c.args.list.now c.loop-x.x-index c.loop-x.self c.loop-x-test.true c.x-item.is {behind = c.expect.new.self} c.in_err-expect.ensures ∙ c.loop-x.invariant)

pub loop-x-preserved : goal.loop-x-preserved
loop-x-preserved g c = each_next g.T.Element.word_of c.args.list.now c.loop-x.x-index c.loop-x.self c.loop-x-test.true c.x-item.is c.in_ok-expect.ensures ∙ c.loop-x.invariant

pub returns : goal.returns
returns g c = sym (each_all g.T.Element.word_of c.args.list.now c.loop-x.x-index c.loop-x.self c.loop-x-test.false) ∙ c.loop-x.invariant
