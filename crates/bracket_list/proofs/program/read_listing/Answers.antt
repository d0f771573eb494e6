-- Thirteen bytes are no request, whatever follows them.
use Rattle.std.proofs.Common.{rules}
use Rattle.bracket_list.proofs.Request.{listing-beginning}
use Rattle.bracket_list.proofs.program.read_listing.Goals as goal

pub returns-in-Full : goal.returns-in-Full
returns-in-Full g c = listing-beginning _ _ _ _ c.in-Full.ensures (search rules) c.lattice_list.ensures
