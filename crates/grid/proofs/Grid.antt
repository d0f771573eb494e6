-- Laws of the grid builder: what it accepted, cut to a grid's lengths, is the grid of the mesh. Assumes nothing.
use Rattle.std.proofs.Common.{◌≡◌, ℕ, suc, ◌*◌, length, get_or, sym, refl, ap, ◌∙◌, arith}
use mathlib.Core.List.{flatten}
use Rattle.sequences.specs.Tabulate.{overwrite}
use Rattle.sequences.specs.Starts.{start_of}
use Rattle.sequences.proofs.Tabulate.{take_overwrite, overwrite_at}
use Rattle.sequences.proofs.Starts.{length_starts, starts_at, length_concatenate, start_scaled}
use Rattle.std.specs.Prelude.{Result, Ok}
use Rattle.refusal.proofs.Rows.{answer_passed}
use Rattle.mesh.specs.Mesh.{Mesh, count}
use Rattle.refusal.specs.declared.Refusal.{Refusal}
use Rattle.grid.specs.declared.Built.{Built}
use Rattle.grid.specs.declared.settings.Settings.{Settings}
use Rattle.grid.specs.Cells.{side_of, cell_count}
use Rattle.grid.specs.Triangles.{triangles_at}
use Rattle.grid.specs.Held.{held_conversions}
use Rattle.grid.specs.Grid.{GridSlices, built, BuildOutcome, ids_in, grid_of, build_rows, filled_grid, build_grid, cut}
use Rattle.grid.proofs.Triangles.{triples_length}

-- ---- the lengths of a grid, and where its starts end
module _ (m : Mesh) (settings : Settings) where
  pub cell_starts_length : length (grid_of m settings).cell_starts ≡ suc (cell_count (grid_of m settings).side)
  unfolding grid_of
  cell_starts_length = length_starts (cell_count (side_of settings.factor (count m))) (ids_in m settings)

  pub cell_starts_last : get_or (grid_of m settings).cell_starts (cell_count (grid_of m settings).side) 0 ≡ length (grid_of m settings).cell_ids
  unfolding grid_of
  cell_starts_last =
      let cells : ℕ = cell_count (side_of settings.factor (count m)) in
      starts_at cells (ids_in m settings) cells (omega arith) ∙ sym (length_concatenate cells (ids_in m settings))

  pub triangle_starts_length : length (grid_of m settings).triangle_starts ≡ suc (count m)
  unfolding grid_of
  triangle_starts_length = length_starts (count m) (triangles_at m)

  pub triples_total : length (grid_of m settings).triples ≡ start_of (triangles_at m) (count m) * 3
  unfolding grid_of
  triples_total =
      length_concatenate (count m) (λ v. flatten (triangles_at m v))
      ∙ start_scaled 3 (count m) (triangles_at m) (λ v. flatten (triangles_at m v)) (λ v lt. triples_length m v)

  pub triangle_starts_last : get_or (grid_of m settings).triangle_starts (count m) 0 * 3 ≡ length (grid_of m settings).triples
  unfolding grid_of
  triangle_starts_last = ap (λ (k : ℕ). k * 3) (starts_at (count m) (triangles_at m) (count m) (omega arith)) ∙ sym triples_total

  -- ---- an accepted call
  pub built_rows : (lent : GridSlices) (g held : ℕ) → (build_grid m settings lent).answered ≡ Ok (built g held) → build_rows m settings lent ≡ Ok tt
  unfolding build_grid
  built_rows lent g held h =
      answer_passed (λ (o : BuildOutcome). o.answered ≡ Ok (built g held)) (build_rows m settings lent) _ _ h
      (λ reason e. let z : ◌≡◌ {A = ℕ} 0 1 = cc in omega arith)

  module _ (lent : GridSlices) (g held : ℕ) (ok : build_rows m settings lent ≡ Ok tt) (h : (build_grid m settings lent).answered ≡ Ok (built g held)) where
    built_answer : ◌≡◌ {A = Result Built Refusal} (Ok (built (side_of settings.factor (count m)) (held_conversions m.positions (side_of settings.factor (count m))))) (Ok (built g held))
    unfolding build_grid
    built_answer = rw ok at h

    same : built (side_of settings.factor (count m)) (held_conversions m.positions (side_of settings.factor (count m))) ≡ built g held
    same = let e = built_answer in cc

    built_side : g ≡ (grid_of m settings).side
    unfolding grid_of
    built_side = ap (λ (b : Built). b.side) (sym same)

    built_count : held ≡ held_conversions m.positions (side_of settings.factor (count m))
    built_count = ap (λ (b : Built). b.held) (sym same)

  pub built_held : (lent : GridSlices) (g held : ℕ) → (build_grid m settings lent).answered ≡ Ok (built g held) → held ≡ held_conversions m.positions (side_of settings.factor (count m))
  built_held lent g held h = built_count lent g held (built_rows lent g held h) h

  built_slices : (lent : GridSlices) → build_rows m settings lent ≡ Ok tt → (build_grid m settings lent).slices ≡ filled_grid (grid_of m settings) lent
  unfolding build_grid
  built_slices lent ok = rw ok refl

  -- the pair is recorded
  pub settings_kept : (grid_of m settings).settings ≡ settings
  unfolding grid_of
  settings_kept = refl

  cut_filled : (lent : GridSlices) → cut settings (count m) (grid_of m settings).side (filled_grid (grid_of m settings) lent) ≡ grid_of m settings
  unfolding cut filled_grid
  cut_filled lent =
      let G = grid_of m settings in
      let cells = cell_count G.side in
      let cell-starts = take_overwrite G.cell_starts lent.cell_starts (suc cells) cell_starts_length in
      let cell-ids = take_overwrite G.cell_ids lent.cell_ids (get_or (overwrite G.cell_starts lent.cell_starts) cells 0)
      (sym cell_starts_last ∙ sym (overwrite_at G.cell_starts lent.cell_starts cells 0 (omega (arith, cell_starts_length)))) in
      let triangle-starts = take_overwrite G.triangle_starts lent.triangle_starts (suc (count m)) triangle_starts_length in
      let triples = take_overwrite G.triples lent.triples (get_or (overwrite G.triangle_starts lent.triangle_starts) (count m) 0 * 3)
      (sym triangle_starts_last ∙ ap (λ (k : ℕ). k * 3) (sym (overwrite_at G.triangle_starts lent.triangle_starts (count m) 0 (omega (arith, triangle_starts_length))))) in
      rw (cell-starts, cell-ids, triangle-starts, triples)
      (λ t. record { settings = sym settings_kept t; side = G.side; cell_starts = G.cell_starts; cell_ids = G.cell_ids; triangle_starts = G.triangle_starts; triples = G.triples })

  pub cut_build : (lent : GridSlices) (g held : ℕ) → (build_grid m settings lent).answered ≡ Ok (built g held) → cut settings (count m) g (build_grid m settings lent).slices ≡ grid_of m settings
  cut_build lent g held h =
      let ok = built_rows lent g held h in
      rw (built_side lent g held ok h, built_slices lent ok) (cut_filled lent)
