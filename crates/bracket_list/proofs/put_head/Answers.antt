-- `bracket_list::put_head` meets its contract: the line's pieces, one behind another. Assumes nothing.
use Rattle.std.proofs.Common.{arith}
use Rattle.bracket_list.proofs.Written.{written_then, written_as}
use Rattle.bracket_list.proofs.Lines.{head_pieces}
use Rattle.bracket_list.proofs.Numerals.{decimal_is}
use Rattle.bracket_list.proofs.put_head.Goals as goal

pub returns : goal.returns
returns c =
    let first = written_then c.put_text.ensures (written_as (decimal_is c.args.frequency (omega arith)) c.put_decimal.ensures) in
    let second = written_then (written_then first c.put_text-2.ensures) (written_as (decimal_is c.args.vertices (omega arith)) c.put_decimal-2.ensures) in
    let third = written_then (written_then second c.put_text-3.ensures) (written_as (decimal_is c.args.entries (omega arith)) c.put_decimal-3.ensures) in
    written_as (head_pieces c.args.frequency c.args.vertices c.args.entries) (written_then third c.put_text-4.ensures)
