-- `digits` passes the digits one by one.
use Rattle.std.proofs.Common.{arith, sym, ap, length-drop}
use Rattle.records.specs.Words.{split_behind}
use Rattle.records.proofs.Digits.{passed_none, passed_room, passed_next, passed_long, passed_nothing, passed_all, digits_none, text_left}
use Rattle.records.proofs.word.digits.Goals as goal

pub loop-next-init : goal.loop-next-init
loop-next-init c = passed_none c.args.text.now

pub returns-then-text-rest-eq16 : goal.returns-then-text-rest-eq16
returns-then-text-rest-eq16 c = ap (split_behind c.args.text.now) (sym (passed_long c.loop-next.invariant (sym c.in-Some.ensures.value) c.if-text-rest-eq16.true))

pub overflow_mul-value : goal.overflow_mul-value
overflow_mul-value c = let few = c.loop-next.invariant.few in omega (arith, passed_room c.loop-next.invariant (omega arith))

pub overflow_add-value : goal.overflow_add-value
overflow_add-value c =
    let few = c.loop-next.invariant.few in
    let small = c.in-Some.ensures.below_16 in
    omega (arith, passed_room c.loop-next.invariant (omega arith))

pub loop-next-preserved : goal.loop-next-preserved
loop-next-preserved c =
    let few = c.loop-next.invariant.few in
    rw (c.in-Some.ensures.behind, c.from.ensures) (passed_next c.loop-next.invariant (sym c.in-Some.ensures.value) c.in-Some.ensures.below_16 (omega arith))

pub loop-next-smaller : goal.loop-next-smaller
loop-next-smaller c =
    let some = text_left c.loop-next.rest.now c.in-Some.next (sym c.in-Some.ensures.value) in
    rw c.in-Some.ensures.behind (omega (arith, length-drop 1 c.loop-next.rest.now))

pub returns-then-rest-text : goal.returns-then-rest-text
returns-then-rest-text c = ap (split_behind c.args.text.now) (sym (passed_nothing c.loop-next.invariant (digits_none c.loop-next.rest.now (sym c.in_default.ensures.value)) c.if-rest-text.true))

pub returns : goal.returns
returns c = sym (passed_all c.loop-next.invariant (digits_none c.loop-next.rest.now (sym c.in_default.ensures.value)) c.if-rest-text.false)
