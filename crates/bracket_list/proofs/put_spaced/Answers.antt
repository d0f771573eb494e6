-- `bracket_list::put_spaced` meets its contract: a space and a number more are no longer than the whole. Assumes nothing.
use Rattle.std.proofs.Common.{◌+◌, map, length, length-append, ap, arith}
use Rattle.bracket_list.proofs.Written.{written, written_then, written_as}
use Rattle.bracket_list.proofs.Spaces.{join_front, join_more}
use Rattle.bracket_list.proofs.put_spaced.Goals as goal

pub push-requires : goal.push-requires
push-requires g c =
    let longer = ap length (join_more g.N.Integer.text c.args.numbers.now c.loop-n.n-index c.n-item.result c.loop-n-test.true c.n-item.is) in
    (omega arith, omega (arith, simp length-append at longer, join_front (c.loop-n.n-index + 1 + 1) (map g.N.Integer.text c.args.numbers.now)))

pub put_decimal-requires-in-loop-n : goal.put_decimal-requires-in-loop-n
put_decimal-requires-in-loop-n g c =
    let longer = ap length (join_more g.N.Integer.text c.args.numbers.now c.loop-n.n-index c.n-item.result c.loop-n-test.true c.n-item.is) in
    record { room = omega (arith, simp length-append at longer, join_front (c.loop-n.n-index + 1 + 1) (map g.N.Integer.text c.args.numbers.now)) }

pub loop-n-preserved : goal.loop-n-preserved
loop-n-preserved g c =
    written_as (join_more g.N.Integer.text c.args.numbers.now c.loop-n.n-index c.n-item.result c.loop-n-test.true c.n-item.is)
    (written_then c.loop-n.invariant (written_then (written c.push.ensures.items) c.put_decimal-in-loop-n.ensures))
