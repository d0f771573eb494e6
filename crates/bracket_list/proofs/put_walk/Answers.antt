-- `bracket_list::put_walk` meets its contract: the line's pieces, one behind another. Assumes nothing.
use Rattle.std.proofs.Common.{length, ap, arith}
use Rattle.bracket_list.proofs.Written.{written_then, written_as}
use Rattle.bracket_list.proofs.Lines.{walk_pieces, walk_size}
use Rattle.bracket_list.proofs.Spaces.{spaced_is}
use Rattle.bracket_list.proofs.put_walk.Goals as goal

pub put_spaced-requires : goal.put_spaced-requires
put_spaced-requires c =
    record { room = omega (arith, walk_size c.args.queue.now, ap length (spaced_is c.args.queue.now (λ i. omega (arith, c.type_inv.queue i)))) }

pub put_text-requires-2 : goal.put_text-requires-2
put_text-requires-2 c =
    record { room = omega (arith, walk_size c.args.queue.now, ap length (spaced_is c.args.queue.now (λ i. omega (arith, c.type_inv.queue i)))) }

pub returns : goal.returns
returns c =
    written_as (walk_pieces c.args.queue.now)
    (written_then (written_then c.put_text.ensures (written_as (spaced_is c.args.queue.now (λ i. omega (arith, c.type_inv.queue i))) c.put_spaced.ensures)) c.put_text-2.ensures)
