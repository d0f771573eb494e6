-- Laws of the builder: the lengths of a grid's lists are the totals that the counting passes find. Assumes nothing.
use Rattle.std.proofs.Common.{◌≡◌, ℕ, zero, suc, ◌*◌, true, false, ◌&&◌, leb, List, ◌++◌, length, sym, refl, ap, ◌∙◌}
use mathlib.Core.List.{flatten}
use Rattle.sequences.specs.Tabulate.{overwrite}
use Rattle.sequences.specs.Starts.{start_of, starts_of, concatenate}
use Rattle.sequences.proofs.Starts.{length_concatenate, concatenate_extensional, starts_extensional, flatten_append}
use Rattle.refusal.specs.declared.Refusal.{Refusal}
use Rattle.std.specs.Prelude.{Ok, Err}
use Rattle.refusal.specs.declared.Refusal.TheVariants.{Room}
use Rattle.refusal.specs.Refusal.{row}
use Rattle.mesh.specs.Mesh.{Mesh, count}
use Rattle.mesh.specs.Rows.{checked_mesh, mesh_rows}
use Rattle.mesh.proofs.Made.{checked_refused}
use Rattle.grid.specs.declared.settings.Settings.{Settings}
use Rattle.grid.specs.Settings.{settings_rows}
use Rattle.grid.specs.Cells.{side_of, cell_count}
use Rattle.grid.specs.Held.{held_conversions}
use Rattle.grid.specs.Triangles.{triangles_at}
use Rattle.grid.specs.Grid.{GridSlices, built, ids_in, grid_of, grid_slices_fit, build_rows, filled_grid, build_grid}
use Rattle.grid.specs.Passes.{ids_so_far, ids_of_all}
use Rattle.grid.specs.Builder.{grid_slices, build_outcome}
use Rattle.grid.proofs.SettingsRows.{settings_refused, settings_passed}
use Rattle.grid.proofs.Grid.{cell_starts_length, triangle_starts_length, triples_total}

flatten_rows : {A : Type 0} (n : ℕ) (f : ℕ → List (List A)) → flatten (concatenate n f) ≡ concatenate n (λ v. flatten (f v))
unfolding concatenate flatten
flatten_rows zero f = refl
flatten_rows (suc n) f = flatten_append (concatenate n f) (f n) ∙ ap (λ (l : List _). l ++ flatten (f n)) (flatten_rows n f)

-- a mesh that its rows refuse
pub build_refused_mesh : (m : Mesh) (settings : Settings) (lent : GridSlices) (reason : Refusal) → mesh_rows m ≡ Err reason → build_outcome (Err reason) lent ≡ build_grid m settings lent
unfolding build_grid build_rows
build_refused_mesh m settings lent reason h = rw h refl

-- one of which no mesh is made
pub mesh_refused : (m : Mesh) (reason : Refusal) → checked_mesh m ≡ Err reason → mesh_rows m ≡ Err reason
unfolding mesh_rows
mesh_refused m reason h = rw (checked_refused m reason h) refl

-- a pair that row 19 or 20 refuses
pub build_refused_settings : (m : Mesh) (settings : Settings) (lent : GridSlices) (reason : Refusal) → mesh_rows m ≡ Ok tt → settings_rows settings (Ok tt) ≡ Err reason
    → build_outcome (Err reason) lent ≡ build_grid m settings lent
unfolding build_grid build_rows
build_refused_settings m settings lent reason passed h = rw (passed, settings_refused settings (row (grid_slices_fit (grid_of m settings) lent) Room (Ok tt)) reason h) refl

module _ (m : Mesh) (settings : Settings) where
  abbrev g : ℕ
  g = side_of settings.factor (count m)

  ids_are : (cell : ℕ) → ids_in m settings cell ≡ ids_of_all m.positions settings.margin g cell
  unfolding ids_in ids_so_far
  ids_are cell = refl

  pub cell_starts_are : (grid_of m settings).cell_starts ≡ starts_of (cell_count g) (ids_of_all m.positions settings.margin g)
  unfolding grid_of
  cell_starts_are = starts_extensional (cell_count g) (ids_in m settings) (ids_of_all m.positions settings.margin g) (λ c lt. ap length (ids_are c))

  pub cell_ids_are : (grid_of m settings).cell_ids ≡ concatenate (cell_count g) (ids_of_all m.positions settings.margin g)
  unfolding grid_of
  cell_ids_are = concatenate_extensional (cell_count g) (ids_in m settings) (ids_of_all m.positions settings.margin g) (λ c lt. ids_are c)

  pub triangle_starts_are : (grid_of m settings).triangle_starts ≡ starts_of (count m) (triangles_at m)
  unfolding grid_of
  triangle_starts_are = refl

  pub triples_are : (grid_of m settings).triples ≡ flatten (concatenate (count m) (triangles_at m))
  unfolding grid_of
  triples_are = sym (flatten_rows (count m) (triangles_at m))

  pub cell_ids_total : length (grid_of m settings).cell_ids ≡ start_of (ids_of_all m.positions settings.margin g) (cell_count g)
  cell_ids_total = ap length cell_ids_are ∙ length_concatenate (cell_count g) (ids_of_all m.positions settings.margin g)

  -- row 8 by the totals
  pub room_is : (cells ids lists triples : List ℕ) → grid_slices_fit (grid_of m settings) (grid_slices cells ids lists triples)
      ≡ (leb (suc (cell_count g)) (length cells) && (leb (start_of (ids_of_all m.positions settings.margin g) (cell_count g)) (length ids) && (leb (suc (count m)) (length lists) && leb (start_of (triangles_at m) (count m) * 3) (length triples))))
  unfolding grid_slices_fit grid_of
  room_is cells ids lists triples =
      λ t. leb (cell_starts_length m settings t) (length cells) && (leb (cell_ids_total t) (length ids) && (leb (triangle_starts_length m settings t) (length lists) && leb (triples_total m settings t) (length triples)))

  module _ (passed : mesh_rows m ≡ Ok tt) (chosen : settings_rows settings (Ok tt) ≡ Ok tt) (lent : GridSlices) where
    pub build_refused : grid_slices_fit (grid_of m settings) lent ≡ false → build_outcome (Err Room) lent ≡ build_grid m settings lent
    unfolding build_grid build_rows
    build_refused e = let both = settings_passed settings chosen in rw (passed, both.0, both.1, e) refl

    build_accepted : grid_slices_fit (grid_of m settings) lent ≡ true → build_outcome (Ok (built g (held_conversions m.positions g))) (filled_grid (grid_of m settings) lent) ≡ build_grid m settings lent
    unfolding build_grid build_rows
    build_accepted e = let both = settings_passed settings chosen in rw (passed, both.0, both.1, e) refl

  pub build_filled : mesh_rows m ≡ Ok tt → settings_rows settings (Ok tt) ≡ Ok tt → (lent after : GridSlices) → grid_slices_fit (grid_of m settings) lent ≡ true
      → after.cell_starts ≡ overwrite (starts_of (cell_count g) (ids_of_all m.positions settings.margin g)) lent.cell_starts
      → after.cell_ids ≡ overwrite (concatenate (cell_count g) (ids_of_all m.positions settings.margin g)) lent.cell_ids
      → after.triangle_starts ≡ overwrite (starts_of (count m) (triangles_at m)) lent.triangle_starts
      → after.triples ≡ overwrite (flatten (concatenate (count m) (triangles_at m))) lent.triples
      → build_outcome (Ok (built g (held_conversions m.positions g))) after ≡ build_grid m settings lent
  unfolding filled_grid
  build_filled passed chosen lent after e a b c d =
      (λ t. build_outcome (Ok (built g (held_conversions m.positions g))) (grid_slices
      ((a ∙ ap (λ (l : List ℕ). overwrite l lent.cell_starts) (sym cell_starts_are)) t)
      ((b ∙ ap (λ (l : List ℕ). overwrite l lent.cell_ids) (sym cell_ids_are)) t)
      ((c ∙ ap (λ (l : List ℕ). overwrite l lent.triangle_starts) (sym triangle_starts_are)) t)
      ((d ∙ ap (λ (l : List ℕ). overwrite l lent.triples) (sym triples_are)) t)))
      ∙ build_accepted passed chosen lent e
