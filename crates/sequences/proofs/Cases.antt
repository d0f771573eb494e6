-- The worked cases, by evaluation. Assumes nothing.
use mathlib.Core.Path.{refl}
use Rattle.sequences.specs.Range.{all_below, sum_below}
use Rattle.sequences.specs.Tabulate.{tabulate, block, overwrite}
use Rattle.sequences.specs.Starts.{concatenate, start_of, starts_of, part}
use Rattle.sequences.specs.Permutation.{is_fresh, is_permutation, last_place_of, inverse, compose, moved_blocks, moved_pairs}
use Rattle.sequences.specs.Ascending.{insert, insert_new, sort}
use Rattle.sequences.specs.Filter.{filter, filter_range}
use Rattle.sequences.specs.Least.{least}
use Rattle.sequences.specs.Slabs.{map_slabs}
use Rattle.sequences.specs.Worked.{WorkedLists}

pub worked_lists_hold : WorkedLists
unfolding all_below sum_below tabulate block overwrite concatenate start_of starts_of part is_fresh is_permutation last_place_of inverse compose moved_blocks moved_pairs insert insert_new sort filter filter_range least map_slabs
worked_lists_hold = record {
  starts_case = refl;
  entries_case = refl;
  part_case = refl;
  permutation_case = refl;
  repeat_case = refl;
  inverse_case = refl;
  compose_case = refl;
  moved_blocks_case = refl;
  moved_pairs_case = refl;
  slabs_case = refl;
  surplus_case = refl;
  sort_case = refl;
  insert_new_case = refl;
  filter_range_case = refl;
  least_case = refl;
}
