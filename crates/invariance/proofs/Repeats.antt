-- A mesh with a list that names a vertex twice, by evaluation. Assumes nothing.
use mathlib.Core.Path.{refl}
use mathlib.Core.List.{flat_map}
use Rattle.sequences.specs.Range.{sum_below}
use Rattle.sequences.specs.Tabulate.{tabulate, block}
use Rattle.sequences.specs.Starts.{concatenate, start_of, starts_of, part}
use Rattle.sequences.specs.Ascending.{is_member, insert, sort}
use Rattle.sequences.specs.Filter.{filter}
use Rattle.sequences.specs.Permutation.{last_place_of, inverse, moved_blocks, relabelled}
use Rattle.mesh.specs.Mesh.{neighbours}
use Rattle.renumber.specs.Renumber.{renumbered_mesh}
use Rattle.grid.specs.Triangles.{triangles_of_edge, triangles_from, triangles}
use Rattle.invariance.specs.Laws.{RepeatsCount}

pub repeats_count : RepeatsCount
unfolding flat_map sum_below tabulate block concatenate start_of starts_of part is_member insert sort filter last_place_of inverse moved_blocks relabelled neighbours renumbered_mesh triangles_of_edge triangles_from triangles
repeats_count = (refl, refl)
