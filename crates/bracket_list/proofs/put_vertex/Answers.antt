-- `bracket_list::put_vertex` meets its contract: the line's pieces, one behind another. Assumes nothing.
use Rattle.std.proofs.Common.{length, ap, arith}
use Rattle.bracket_list.proofs.Written.{written_then, written_as}
use Rattle.bracket_list.proofs.Lines.{vertex_pieces, vertex_size}
use Rattle.bracket_list.proofs.Numerals.{decimal_is, decimal_length}
use Rattle.bracket_list.proofs.Spaces.{spaced_is}
use Rattle.bracket_list.proofs.put_vertex.Goals as goal

pub put_spaced-requires : goal.put_spaced-requires
put_spaced-requires c =
    record { room = omega (arith, vertex_size c.args.vertex c.args.list.now, decimal_length c.args.vertex (omega arith), ap length (spaced_is c.args.list.now (λ i. omega (arith, c.type_inv.list i)))) }

pub put_text-requires-3 : goal.put_text-requires-3
put_text-requires-3 c =
    record { room = omega (arith, vertex_size c.args.vertex c.args.list.now, decimal_length c.args.vertex (omega arith), ap length (spaced_is c.args.list.now (λ i. omega (arith, c.type_inv.list i)))) }

pub returns : goal.returns
returns c =
    let id = written_then c.put_text.ensures (written_as (decimal_is c.args.vertex (omega arith)) c.put_decimal.ensures) in
    written_as (vertex_pieces c.args.vertex c.args.list.now)
    (written_then (written_then (written_then id c.put_text-2.ensures) (written_as (spaced_is c.args.list.now (λ i. omega (arith, c.type_inv.list i))) c.put_spaced.ensures)) c.put_text-3.ensures)
