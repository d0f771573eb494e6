-- The call on meshes that are written out, by evaluation. Assumes nothing.
use mathlib.Core.Path.{refl}
use Rattle.sequences.specs.Range.{all_below, first_failing, sum_below}
use Rattle.sequences.specs.Tabulate.{tabulate, overwrite}
use Rattle.sequences.specs.Starts.{concatenate, start_of, starts_of, part}
use Rattle.sequences.specs.Ascending.{is_member}
use Rattle.mesh.specs.Mesh.{neighbours}
use Rattle.mesh.specs.Rows.{positions_fit, starts_counted, starts_span, falling_start, lists_limited, ids_below, list_rows, adjacency_rows}
use Rattle.walk.specs.Walk.{enter, entered, leave, continued, place_from, order_of}
use Rattle.islands.specs.Islands.{islands_below, islands_of}
use Rattle.islands.specs.Outcomes.{islands_fit, islands_walked, walk_islands}
use Rattle.islands.specs.Laws.{MutualCases, OneWayCases, RefusedCases}

pub worked_islands : MutualCases × OneWayCases × RefusedCases
unfolding walk_islands islands_walked islands_fit islands_of islands_below adjacency_rows positions_fit list_rows starts_counted starts_span falling_start lists_limited ids_below
    all_below first_failing neighbours part starts_of start_of sum_below tabulate overwrite concatenate is_member
    enter entered leave continued place_from order_of
worked_islands = (
  record { three = refl; two = refl; no_lists = refl; lattice = refl },
  record { into_earlier = refl; back_alone = refl; one_way_round = refl; back_to_both = refl },
  record { short = refl; falling = refl },
)
