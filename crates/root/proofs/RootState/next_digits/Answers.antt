use Rattle.root.proofs.Digits.{room_after, room_now, scaled_more}
use Rattle.root.proofs.RootState.next_digits.Goals as goal

pub next_digit-state-requires : goal.next_digit-state-requires
next_digit-state-requires c = room_now _ c.loop.counter c.args.count c.loop-test.true c.loop.invariant.0

pub loop-preserved : goal.loop-preserved
loop-preserved c =
    let l = c.loop in
    let digit = c.next_digit-state.ensures in
    (room_after _ _ l.counter c.args.count digit.0 l.invariant.0, scaled_more l.counter _ _ _ l.invariant.1 digit.1)
