-- Laws of the cells of a grid: they hold the ids placed there, ascending (`id_placed`, `placed_id`, `ids_ascending`). And of the cells of a renumbered mesh: each holds the same ids, taken through the permutation and sorted, and the cell starts are the same list. Assumes nothing.
use Rattle.std.proofs.Common.{◌≡◌, ℕ, ◌<◌, Bool, true, map, length, sym, ap, ◌∙◌}
use mathlib.Core.List.{Memᴰ}
use lib.ListN.{length-map}
use Rattle.sequences.specs.Starts.{part}
use Rattle.sequences.specs.Ascending.{Ascending, sort}
use Rattle.sequences.proofs.Starts.{starts_extensional, start_extensional, length_concatenate, concatenate_part}
use Rattle.sequences.proofs.Ascending.{length_sort}
use Rattle.sequences.proofs.Filter.{filter_range_member, member_filter_range, filter_range_ascending, filter_range_extensional, filter_range_bijection}
use Rattle.mesh.specs.Mesh.{Mesh, count, position_of}
use Rattle.mesh.proofs.Renumbered.{Renumbered}
use Rattle.grid.specs.declared.settings.Settings.{Settings}
use Rattle.grid.specs.Cells.{side_of, cell_count, placed_in}
use Rattle.grid.specs.Grid.{ids_in, grid_of}

-- ---- one mesh
pub ids_ascending : (m : Mesh) (settings : Settings) (cell : ℕ) → Ascending (ids_in m settings cell)
unfolding ids_in
ids_ascending m settings cell = filter_range_ascending _ (count m)

-- the ids of a cell are the vertices that are placed in it
pub id_placed : (m : Mesh) (settings : Settings) (cell v : ℕ) → Memᴰ v (ids_in m settings cell) → (v < count m) × (placed_in settings.margin (side_of settings.factor (count m)) cell (position_of m.positions v) ≡ true)
unfolding ids_in
id_placed m settings cell v h = filter_range_member (λ v. placed_in settings.margin (side_of settings.factor (count m)) cell (position_of m.positions v)) (count m) v h

pub placed_id : (m : Mesh) (settings : Settings) (cell v : ℕ) → v < count m → placed_in settings.margin (side_of settings.factor (count m)) cell (position_of m.positions v) ≡ true → Memᴰ v (ids_in m settings cell)
unfolding ids_in
placed_id m settings cell v lt h = member_filter_range (λ v. placed_in settings.margin (side_of settings.factor (count m)) cell (position_of m.positions v)) (count m) v lt h

-- a cell of the grid holds the ids placed there
pub cell_part : (m : Mesh) (settings : Settings) (cell : ℕ) → cell < cell_count (grid_of m settings).side → part (grid_of m settings).cell_starts (grid_of m settings).cell_ids cell ≡ ids_in m settings cell
unfolding grid_of
cell_part m settings cell lt = concatenate_part (cell_count (side_of settings.factor (count m))) (ids_in m settings) cell lt

-- ---- a mesh and the mesh renumbered
module _ (m m₁ : Mesh) (settings : Settings) {p b : ℕ → ℕ} (r : Renumbered m m₁ p b) where
  pub same_side : (grid_of m₁ settings).side ≡ (grid_of m settings).side
  unfolding grid_of
  same_side = ap (side_of settings.factor) r.same_count

  -- "Each cell's ids are the earlier ones taken through p and sorted."
  pub ids_renumbered : (cell : ℕ) → ids_in m₁ settings cell ≡ sort (map p (ids_in m settings cell))
  unfolding ids_in
  ids_renumbered cell =
      let placed : ℕ → Bool = λ v. placed_in settings.margin (side_of settings.factor (count m)) cell (position_of m.positions v) in
      let same : (i : ℕ) → i < count m → placed_in settings.margin (side_of settings.factor (count m)) cell (position_of m₁.positions i) ≡ placed (b i)
      = λ i lt. ap (placed_in settings.margin (side_of settings.factor (count m)) cell) (ap (position_of m₁.positions) (sym (r.bijection.right_inverse i lt)) ∙ r.positions (b i) (r.bijection.inverse_maps i lt)) in
      rw r.same_count (filter_range_extensional _ (λ i. placed (b i)) (count m) same ∙ sym (filter_range_bijection placed r.bijection))

  same_number : (cell : ℕ) → length (ids_in m₁ settings cell) ≡ length (ids_in m settings cell)
  same_number cell = ap length (ids_renumbered cell) ∙ length_sort (map p (ids_in m settings cell)) ∙ length-map (ids_in m settings cell) p

  pub same_cell_starts : (grid_of m₁ settings).cell_starts ≡ (grid_of m settings).cell_starts
  unfolding grid_of
  same_cell_starts = rw r.same_count (starts_extensional (cell_count (side_of settings.factor (count m))) (ids_in m₁ settings) (ids_in m settings) (λ cell lt. same_number cell))

  pub same_ids_length : length (grid_of m₁ settings).cell_ids ≡ length (grid_of m settings).cell_ids
  unfolding grid_of
  same_ids_length =
      let cells : ℕ = cell_count (side_of settings.factor (count m)) in
      rw r.same_count (length_concatenate cells (ids_in m₁ settings) ∙ start_extensional (ids_in m₁ settings) (ids_in m settings) cells (λ cell lt. same_number cell) ∙ sym (length_concatenate cells (ids_in m settings)))
