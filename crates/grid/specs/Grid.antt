-- The grid of a mesh, and the whole outcome of its builder. Definitions only.
use Rattle.std.specs.Prelude.{ℕ, suc, ◌*◌, Bool, ◌&&◌, List, length, take, nat_le, slice_index, Result, Ok, Err}
use mathlib.Core.List.{flatten}
use Rattle.sequences.specs.Tabulate.{overwrite}
use Rattle.sequences.specs.Starts.{concatenate, starts_of}
use Rattle.sequences.specs.Filter.{filter_range}
use Rattle.refusal.specs.declared.Refusal.{Refusal}
use Rattle.refusal.specs.declared.Refusal.TheVariants.{Room}
use Rattle.refusal.specs.Refusal.{Verdict, row, then, answer}
use Rattle.mesh.specs.Mesh.{Mesh, count, position_of}
use Rattle.mesh.specs.Rows.{mesh_rows}
use Rattle.grid.specs.declared.settings.Settings.{Settings}
use Rattle.grid.specs.declared.Built.{Built}
use Rattle.grid.specs.Settings.{settings_rows}
use Rattle.grid.specs.Cells.{side_of, cell_count, placed_in}
use Rattle.grid.specs.Held.{held_conversions}
use Rattle.grid.specs.Triangles.{triangles_at}

-- "A grid is g, cell starts (u32, 6g² + 1), cell ids (u16), triangle starts (u32, count + 1, in whole triples) and triples (u16, three ascending ids each, in the order of `extract_faces`), beside the positions."
-- "The grid record keeps both", factor and margin (W-210).
pub record Grid : Type 0 where
  pub settings : Settings
  pub side : ℕ
  pub cell_starts : List ℕ
  pub cell_ids : List ℕ
  pub triangle_starts : List ℕ
  pub triples : List ℕ

-- "Ids in a cell ascend."
unfoldable pub ids_in : Mesh → Settings → ℕ → List ℕ
ids_in m settings cell = filter_range (λ v. placed_in settings.margin (side_of settings.factor (count m)) cell (position_of m.positions v)) (count m)

unfoldable pub grid_of : Mesh → Settings → Grid
grid_of m settings = record {
  settings = settings;
  side = side_of settings.factor (count m);
  cell_starts = starts_of (cell_count (side_of settings.factor (count m))) (ids_in m settings);
  cell_ids = concatenate (cell_count (side_of settings.factor (count m))) (ids_in m settings);
  triangle_starts = starts_of (count m) (triangles_at m);
  triples = concatenate (count m) (λ v. flatten (triangles_at m v));
}

-- The slices lent to the builder.
pub record GridSlices : Type 0 where
  pub cell_starts : List ℕ
  pub cell_ids : List ℕ
  pub triangle_starts : List ℕ
  pub triples : List ℕ

-- Row 8 refuses "any slice too short".
unfoldable pub grid_slices_fit : Grid → GridSlices → Bool
grid_slices_fit grid lent =
    nat_le (length grid.cell_starts) (length lent.cell_starts) && (nat_le (length grid.cell_ids) (length lent.cell_ids)
    && (nat_le (length grid.triangle_starts) (length lent.triangle_starts) && nat_le (length grid.triples) (length lent.triples)))

-- The mesh rows 2 to 5, then 19 and 20, "both just after the mesh rows", then 8.
unfoldable pub build_rows : Mesh → Settings → GridSlices → Verdict
build_rows m settings lent = then (mesh_rows m) (settings_rows settings (row (grid_slices_fit (grid_of m settings) lent) Room (Ok tt)))

-- The slices after an accepted call: "surplus is untouched".
unfoldable pub filled_grid : Grid → GridSlices → GridSlices
filled_grid grid lent = record {
  cell_starts = overwrite grid.cell_starts lent.cell_starts;
  cell_ids = overwrite grid.cell_ids lent.cell_ids;
  triangle_starts = overwrite grid.triangle_starts lent.triangle_starts;
  triples = overwrite grid.triples lent.triples;
}

abbrev pub built : ℕ → ℕ → Built
built side held = record { side = side; held = held }

-- The whole outcome of a call: its answer, with g and the count of conversions held at an end (W-207) where it is accepted, and the lent slices at exit.
pub record BuildOutcome : Type 0 where
  pub answered : Result Built Refusal
  pub slices : GridSlices

unfoldable pub build_grid : Mesh → Settings → GridSlices → BuildOutcome
build_grid m settings lent =
    answer (build_rows m settings lent) (λ reason. record { answered = Err reason; slices = lent })
    (record { answered = Ok (built (side_of settings.factor (count m)) (held_conversions m.positions (side_of settings.factor (count m)))); slices = filled_grid (grid_of m settings) lent })

-- What was built for n vertices with the side g, "its slices cut to a grid's lengths".
unfoldable pub cut : Settings → ℕ → ℕ → GridSlices → Grid
cut settings n g slices = record {
  settings = settings;
  side = g;
  cell_starts = take (suc (cell_count g)) slices.cell_starts;
  cell_ids = take (slice_index slices.cell_starts (cell_count g)) slices.cell_ids;
  triangle_starts = take (suc n) slices.triangle_starts;
  triples = take (slice_index slices.triangle_starts n * 3) slices.triples;
}
