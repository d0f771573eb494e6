-- `bracket_list::lattice_lists::LatticeLists::count` meets its contract. Assumes nothing.
use Rattle.bracket_list.proofs.Listing.{starts_some, count_is}
use Rattle.bracket_list.proofs.lattice_lists.LatticeLists.count.Goals as goal

pub overflow_sub-result : goal.overflow_sub-result
overflow_sub-result c = starts_some c.args.self.now.of_lattice

pub returns : goal.returns
returns c = count_is c.args.self.now.of_lattice
