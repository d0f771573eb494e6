use Rattle.std.proofs.Common.{◌≡◌, ◌+◌, ◌*◌, ◌^◌, ◌≤◌}
use Rattle.root.specs.Digits.{scaled_radicand}
use Rattle.root.proofs.RootState.next_digits.Given as goal

-- the significand has room for the digits that are still wanted, and what the state stands for is 4 ^ counter times what it was
abbrev pub invariant-loop : goal.invariant-loop
invariant-loop l =
    ((l.state.root.significand + 1) * 2 ^ l.count ≤ 2 ^ 60 * 2 ^ l.counter)
    × (scaled_radicand l.state ≡ 4 ^ l.counter * scaled_radicand l.initial.state)
