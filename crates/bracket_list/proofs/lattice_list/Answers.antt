-- `bracket_list::lattice_list` meets its contract: a refusal, or the listing of the frequency that was asked for. Assumes nothing.
use Rattle.std.proofs.Common.{length, ap, arith}
use Rattle.bracket_list.proofs.Request.{requested_range}
use Rattle.bracket_list.proofs.Listing.{listing_fits}
use Rattle.bracket_list.proofs.lattice_list.Goals as goal

pub put_lattice-requires-clause-least : goal.put_lattice-requires-clause-least
put_lattice-requires-clause-least c = (requested_range c.args.input.now c.in-Some.frequency c.in-Some.ensures).0

pub put_lattice-requires-clause-greatest : goal.put_lattice-requires-clause-greatest
put_lattice-requires-clause-greatest c = (requested_range c.args.input.now c.in-Some.frequency c.in-Some.ensures).1

pub put_lattice-requires-clause-room : goal.put_lattice-requires-clause-room
put_lattice-requires-clause-room c =
    let range = requested_range c.args.input.now c.in-Some.frequency c.in-Some.ensures in
    omega (arith, listing_fits c.in-Some.frequency range.0 range.1, ap length c.new-lines.ensures)
