-- What an accepted build tells: `built_below`. Every cell id and every id of a triple that it wrote is below the vertex count. Assumes nothing.
use Rattle.std.proofs.Common.{◌≡◌, ℕ}
use mathlib.Core.List.{flatten}
use Rattle.sequences.proofs.Tabulate.{get_d_member}
use Rattle.sequences.proofs.Starts.{concatenate_member, flatten_member}
use Rattle.refusal.proofs.Rows.{then_passed}
use Rattle.mesh.specs.Mesh.{Mesh, count}
use Rattle.mesh.specs.Rows.{mesh_rows}
use Rattle.mesh.proofs.Facts.{AdjacencyFacts, mesh_facts}
use Rattle.grid.specs.declared.settings.Settings.{Settings}
use Rattle.std.specs.Prelude.{Ok}
use Rattle.grid.specs.Triangles.{triangles_at}
use Rattle.grid.specs.Grid.{GridSlices, built, ids_in, grid_of, build_rows, build_grid}
use Rattle.grid.specs.Told.{BuiltFacts, BuiltIsBelow}
use Rattle.grid.proofs.Cells.{id_placed}
use Rattle.grid.proofs.Triangles.{triangle_of_member, at_vertex}
use Rattle.grid.proofs.Grid.{built_rows, cut_build}

grid_ids_below : (m : Mesh) (settings : Settings) → AdjacencyFacts m → BuiltFacts (count m) (grid_of m settings)
unfolding grid_of
grid_ids_below m settings facts = record {
  cell_ids_below = λ i lt.
      let placed = concatenate_member _ (ids_in m settings) _ (get_d_member _ i 0 lt) in
      (id_placed m settings placed.0 _ placed.2).0;
  triples_below = λ i lt.
      let listed = concatenate_member (count m) (λ v. flatten (triangles_at m v)) _ (get_d_member _ i 0 lt) in
      let corner = flatten_member (triangles_at m listed.0) _ listed.2 in
      (triangle_of_member m facts corner.0 (at_vertex m listed.0 corner.0 corner.1).0).below _ corner.2;
}

built_adjacency : (m : Mesh) (settings : Settings) (lent : GridSlices) (g held : ℕ) → (build_grid m settings lent).answered ≡ Ok (built g held) → AdjacencyFacts m
unfolding build_rows
built_adjacency m settings lent g held h = (mesh_facts m (then_passed (mesh_rows m) _ (built_rows m settings lent g held h)).0).adjacency

-- every accepted build: what it wrote is its slices, cut to the grid's lengths
pub built_below : BuiltIsBelow
built_below m settings lent g held h = rw (cut_build m settings lent g held h) (grid_ids_below m settings (built_adjacency m settings lent g held h))
