-- `bracket_list::put_lattice` meets its contract: the local slices are long enough for a frequency up to 4. Assumes nothing.
use Rattle.std.proofs.Common.{arith}
use Rattle.bracket_list.proofs.Geometry.{geometry_left}
use Rattle.bracket_list.proofs.put_lattice.Goals as goal

pub unwrap-requires : goal.unwrap-requires
unwrap-requires c =
    let left = geometry_left c.args.frequency c.requires.least c.requires.greatest _ _ (omega arith) (omega arith) (omega arith) (omega arith) c.lattice_geometry.ensures in
    cc (left.accepted)

pub invariant_of-rows : goal.invariant_of-rows
invariant_of-rows c =
    let left = geometry_left c.args.frequency c.requires.least c.requires.greatest _ _ (omega arith) (omega arith) (omega arith) (omega arith) c.lattice_geometry.ensures in
    record {
      of_lattice = record {
        least = c.requires.least;
        greatest = c.requires.greatest;
        starts_are = left.starts_front;
        entries_are = left.entries_front;
      };
    }
