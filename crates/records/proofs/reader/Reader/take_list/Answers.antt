-- `take_list` writes all places, then reads them one by one.
use Rattle.std.proofs.Common.{◌≡◌, ◌<◌, length, rules, arith}
use Rattle.std.proofs.lemmas.List.{set-get_or}
use Rattle.std.proofs.lemmas.Result.{err_from_is_err_and}
use Rattle.records.proofs.Readings.{written_everywhere, read_none, read_next, read_fault, read_all}
use Rattle.records.proofs.reader.Reader.take_list.Goals as goal

pub loop-x-init : goal.loop-x-init
loop-x-init g c = read_none _ _ _ (λ j d lt. written_everywhere (λ before x after step. search rules) c.fill_with.new.self _ _ c.fill_with.ensures.ran.1 j d (omega arith))

pub returns-in_err-x : goal.returns-in_err-x
returns-in_err-x g c =
    let p = err_from_is_err_and c.from_residual.result c.from_residual.ensures.1 in
    let kept = set-get_or c.loop-x.list c.loop-x.x-index c.x-item.result in
    let n : length c.args.list.now ≡ length c.loop-x.list = omega arith in
    let below : c.loop-x.x-index < length c.loop-x.list = omega arith in
    rw (p.1, p.2, kept, n) (read_fault _ _ _ c.loop-x.invariant c.in_err-x.ensures below)

pub loop-x-preserved : goal.loop-x-preserved
loop-x-preserved g c = let below : c.loop-x.x-index < length c.loop-x.list = omega arith in read_next _ _ _ c.loop-x.invariant c.in_ok-x.ensures below

pub returns : goal.returns
returns g c =
    let n : length c.args.list.now ≡ length c.loop-x.list = omega arith in
    rw n (read_all _ _ _ c.loop-x.invariant (omega arith) (omega arith))
