-- Both calls on meshes that are written out, by evaluation. Assumes nothing.
use mathlib.Core.Path.{refl}
use Rattle.sequences.specs.Range.{all_below, first_failing, sum_below}
use Rattle.sequences.specs.Tabulate.{tabulate, overwrite}
use Rattle.sequences.specs.Starts.{concatenate, start_of, starts_of, part}
use Rattle.sequences.specs.Ascending.{is_member}
use Rattle.sequences.specs.Search.{first_below}
use Rattle.mesh.specs.Mesh.{neighbours}
use Rattle.mesh.specs.Rows.{positions_fit, starts_counted, starts_span, falling_start, lists_limited, ids_below, list_rows, adjacency_rows}
use Rattle.walk.specs.Walk.{enter, entered, leave, continued, walk_from}
use Rattle.steps.specs.Steps.{entries_of, within_steps, steps_to, entries_until, search_from, steps_found}
use Rattle.steps.specs.Outcomes.{longest_taken, steps_rows, steps_between, vertices_within}
use Rattle.steps.specs.Laws.{LatticeCases, RowCases, FallingCase, ListCases}

pub worked_cases : LatticeCases × RowCases × FallingCase × ListCases
unfolding steps_between vertices_within steps_rows longest_taken steps_found search_from adjacency_rows positions_fit list_rows starts_counted starts_span falling_start lists_limited ids_below
    all_below first_failing neighbours part starts_of start_of sum_below tabulate overwrite concatenate is_member first_below
    enter entered leave continued walk_from entries_of within_steps steps_to entries_until
worked_cases = (
  record {
    next_but_one = refl;
    across = refl;
    across_back = refl;
    next = refl;
    itself = refl;
    within_1 = refl;
    within_2 = refl;
    within_3 = refl;
  },
  record {
    one = refl;
    two = refl;
    three = refl;
    back = refl;
    apart = refl;
    apart_back = refl;
    own_list = refl;
    within_1 = refl;
    within_9 = refl;
    vertex_before_room = refl;
    room_before_path = refl;
    room_before_itself = refl;
  },
  (refl, refl),
  record {
    behind_repeats = refl;
    first_of_repeats = refl;
    over_own = refl;
    own_unread = refl;
    forth = refl;
    further = refl;
    no_way_back = refl;
  },
)
