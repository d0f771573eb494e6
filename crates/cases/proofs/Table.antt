-- Every row of the table holds, by evaluation. Assumes nothing.
use mathlib.Core.Path.{refl}
use lib.Ieee.{neg, mul, div, lt, le, of_int, to_unsigned, of_bits}
use Rattle.sequences.specs.Range.{some_below, sum_below}
use Rattle.sequences.specs.Tabulate.{tabulate}
use Rattle.sequences.specs.Starts.{concatenate, start_of, starts_of, part}
use Rattle.sequences.specs.Ascending.{is_member}
use Rattle.sequences.specs.Filter.{filter, filter_range}
use Rattle.sequences.specs.Equality.{same_numbers}
use Rattle.binary64.specs.Absolute.{abs}
use Rattle.binary64.specs.Convert.{to_i64}
use Rattle.binary64.specs.Integral.{round_to_integral}
use Rattle.fused.specs.Fused.{fused_multiply_add}
use Rattle.root.specs.Root.{square_root}
use Rattle.mesh.specs.Mesh.{position_of}
use Rattle.icosahedron.specs.Icosahedron.{face_corner}
use Rattle.icosahedron.specs.Slots.{slot_of}
use Rattle.lattice.specs.Lattice.{lattice_points, weight_at, key_of, same_vertex, first_place_from, first_appearances, lattice_vertices, is_step_up, is_step, are_neighbours, lattice_list}
use Rattle.grid.specs.CubeFace.{face_projection, dominant_face}
use Rattle.grid.specs.Cells.{side_of, across_cells, near, placed_in}
use Rattle.grid.specs.Grid.{ids_in, grid_of}
use Rattle.grid_query.specs.Cell.{candidates}
use Rattle.cases.specs.Cases.{AllHold}
use Rattle.cases.specs.Table.{table}

pub all_hold : AllHold table
unfolding neg mul div lt le of_int to_unsigned some_below sum_below tabulate concatenate start_of starts_of part is_member filter filter_range abs to_i64 round_to_integral fused_multiply_add square_root position_of face_corner slot_of lattice_points weight_at key_of same_numbers same_vertex first_place_from first_appearances lattice_vertices is_step_up is_step are_neighbours lattice_list face_projection dominant_face side_of across_cells near placed_in ids_in grid_of candidates of_bits
all_hold = refl
