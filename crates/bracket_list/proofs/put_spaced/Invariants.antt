-- In `bracket_list::put_spaced`, after i turns the first number and i more are written.
use Rattle.std.proofs.Common.{◌+◌, map, take}
use Rattle.std.specs.List.{join_with_byte}
use Rattle.bracket_list.specs.Text.{space}
use Rattle.bracket_list.specs.Output.{Written}
use Rattle.bracket_list.proofs.put_spaced.Given as goal

abbrev pub invariant-loop-n : goal.invariant-loop-n
invariant-loop-n g l =
    Written l.fn.lines (join_with_byte space (take (l.n-index + 1) (map g.N.Integer.text l.numbers))) l.lines
