use Rattle.std.proofs.Common.{◌≡◌, ◌^◌, ◌<◌, refl, lt_of_lt_of_le, arith, pow_pos, pow_mono, rules}
use Rattle.words.proofs.StickyShift.{shift_exact, shift_inexact, shift_all, restored_exact, changed_inexact}
use Rattle.words.proofs.shift_right_sticky.Goals as goal

pub returns-then-kept-shift : goal.returns-then-kept-shift
returns-then-kept-shift c = shift_exact _ _ _ (pow_pos _) refl (restored_exact (2 ^ c.args.shift) (2 ^ 64) c.args.n (search rules) c.if-kept-shift.true)

pub returns-else-kept-shift : goal.returns-else-kept-shift
returns-else-kept-shift c = shift_inexact _ _ _ _ (pow_pos _) refl refl (changed_inexact (2 ^ c.args.shift) (2 ^ 64) c.args.n (search rules) c.if-kept-shift.false)

pub returns-else-n-eq0 : goal.returns-else-n-eq0
returns-else-n-eq0 c =
    let n = c.args.n in
    let l : n < 2 ^ 64 = search rules in
    shift_all _ _ _ (lt_of_lt_of_le l (pow_mono c.if-shift-lt64.false)) (omega arith) (λ h. absurd (c.if-n-eq0.false h)) (λ h. absurd (let z : 1 ≡ 0 = h in omega arith))
