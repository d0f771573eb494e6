-- `bracket_list::lattice_lists::LatticeLists::neighbours` meets its contract. Assumes nothing.
use Rattle.std.proofs.Common.{◌∙◌}
use Rattle.bracket_list.proofs.Listing.{row_of, row_is}
use Rattle.bracket_list.proofs.lattice_lists.LatticeLists.neighbours.Goals as goal

pub list_of-requires : goal.list_of-requires
list_of-requires c = row_of c.args.self.now.of_lattice c.args.v c.requires

pub returns : goal.returns
returns c = c.list_of.ensures ∙ row_is c.args.self.now.of_lattice c.args.v
