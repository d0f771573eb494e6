-- The grids of a mesh without repeated neighbours and of the mesh renumbered need the same room. Assumes nothing.
use Rattle.std.proofs.Common.{◌≡◌, ℕ, suc, ◌*◌, ◌<◌, ◌≤◌, ◌&&◌, ltb, ◌≢◌, List, [], ◌∷◌, map, length, sym, refl, ap, ◌∙◌, arith}
use mathlib.Core.List.Memᴰ
use mathlib.Core.List.{flatten, Memᴰ}
use lib.ListN.{length-map}
use Rattle.sequences.specs.Starts.{concatenate, start_of}
use Rattle.sequences.specs.Ascending.{Distinct, is_member, sort}
use Rattle.sequences.specs.Filter.{filter}
use Rattle.sequences.proofs.Starts.{start_extensional, start_scaled, length_concatenate}
use Rattle.sequences.proofs.Permutation.{start_bijection}
use Rattle.sequences.proofs.Ascending.{distinct_map}
use Rattle.sequences.proofs.Filter.{pairwise_filter, flat_map_member}
use Rattle.sequences.proofs.Relations.{sort_map_inverse, pairwise_flat_map, pairwise_concatenate, distinct_shorter}
use Rattle.mesh.specs.Mesh.{Mesh, count, neighbours}
use Rattle.mesh.specs.Adjacency.{Mutual, NoRepeat}
use Rattle.mesh.proofs.Facts.{AdjacencyFacts, MeshFacts, mesh_passed}
use Rattle.mesh.proofs.Renumbered.{Renumbered, renumbered_flip, mutual_renumbered, no_repeat_renumbered}
use Rattle.grid.specs.declared.settings.Settings.{Settings}
use Rattle.grid.specs.Triangles.{triangles_of_edge, triangles_from, triangles, triangles_at}
use Rattle.grid.specs.Grid.{GridSlices, grid_of, grid_slices_fit, build_rows}
use Rattle.grid.proofs.Cells.{same_cell_starts, same_ids_length}
use Rattle.grid.proofs.Triangles.{triangle_of_member, triangle_at_renumbered, at_vertex, triples_length}
use Rattle.grid.proofs.Grid.{triangle_starts_length}

-- ---- no triangle is found twice
-- a triangle that is found at i and j has them as its first two corners
edge_corners : (m : Mesh) (i j : ℕ) (t : List ℕ) → Memᴰ t (triangles_of_edge m i j) → (k : ℕ) × (t ≡ i ∷ j ∷ k ∷ [])
unfolding triangles_of_edge
edge_corners m i j t h = let third = Memᴰ.of_map (λ (k : ℕ). i ∷ j ∷ k ∷ []) (filter (λ k. ltb j k && is_member k (neighbours m j)) (neighbours m i)) h in (third.0, sym third.2)

from_corners : (m : Mesh) (i : ℕ) (t : List ℕ) → Memᴰ t (triangles_from m i) → (j : ℕ) × (k : ℕ) × (t ≡ i ∷ j ∷ k ∷ [])
unfolding triangles_from
from_corners m i t h =
    let edge = flat_map_member (triangles_of_edge m i) (filter (ltb i) (neighbours m i)) t h in
    let third = edge_corners m i edge.0 t edge.2 in
    (edge.0, third.0, third.1)

module _ (m : Mesh) (no-repeat : NoRepeat m) where
  edge_distinct : (i j : ℕ) → i < count m → Distinct (triangles_of_edge m i j)
  unfolding triangles_of_edge
  edge_distinct i j lt =
      distinct_map (λ (k : ℕ). i ∷ j ∷ k ∷ []) (filter (λ k. ltb j k && is_member k (neighbours m j)) (neighbours m i)) (λ x y hx hy e. cc)
      (pairwise_filter (λ x y. x ≢ y) (λ k. ltb j k && is_member k (neighbours m j)) (neighbours m i) (no-repeat i lt))

  from_distinct : (i : ℕ) → i < count m → Distinct (triangles_from m i)
  unfolding triangles_from
  from_distinct i lt =
      pairwise_flat_map (λ j k. j ≢ k) (λ s t. s ≢ t) (triangles_of_edge m i) (filter (ltb i) (neighbours m i))
      (pairwise_filter (λ j k. j ≢ k) (ltb i) (neighbours m i) (no-repeat i lt)) (λ j h. edge_distinct i j lt)
      (λ j j₁ other s t hs ht e.
      let c = edge_corners m i j s hs in
      let c₁ = edge_corners m i j₁ t ht in
      let both : i ∷ j ∷ c.0 ∷ [] ≡ i ∷ j₁ ∷ c₁.0 ∷ [] = sym c.1 ∙ e ∙ c₁.1 in
      other cc)

  pub triangles_distinct : Distinct (triangles m)
  unfolding triangles
  triangles_distinct =
      pairwise_concatenate (λ s t. s ≢ t) (count m) (triangles_from m) from_distinct
      (λ i i₁ s t less lt hs ht e.
      let c = from_corners m i s hs in
      let c₁ = from_corners m i₁ t ht in
      let both : i ∷ c.0 ∷ c.1 ∷ [] ≡ i₁ ∷ c₁.0 ∷ c₁.1 ∷ [] = sym c.2 ∙ e ∙ c₁.2 in
      let same : i ≡ i₁ = cc in
      omega arith)

  at_distinct : (v : ℕ) → Distinct (triangles_at m v)
  unfolding triangles_at
  at_distinct v = pairwise_filter (λ s t. s ≢ t) (λ t. is_member v t) (triangles m) triangles_distinct

-- ---- each vertex keeps the number of its triangles
no_fewer : {m m₁ : Mesh} {p b : ℕ → ℕ} → AdjacencyFacts m → Mutual m → NoRepeat m → Renumbered m m₁ p b → (v : ℕ) → length (triangles_at m v) ≤ length (triangles_at m₁ (p v))
no_fewer {m} {m₁} {p} {b} facts mutual-lists no-repeat r v =
    let renamed : List ℕ → List ℕ = λ t. sort (map p t) in
    let shorter = distinct_shorter (map renamed (triangles_at m v)) (triangles_at m₁ (p v)) (distinct_map renamed (triangles_at m v) injective (at_distinct m no-repeat v))
    (λ t h. let old = Memᴰ.of_map renamed (triangles_at m v) h in Memᴰ.cast (sym old.2) (triangle_at_renumbered facts mutual-lists r v old.0 old.1)) in
    omega (arith, length-map (triangles_at m v) renamed)
  where
    back : (t : List ℕ) → Memᴰ t (triangles_at m v) → sort (map b (sort (map p t))) ≡ t
    back t h = let g = triangle_of_member m facts t (at_vertex m v t h).0 in sort_map_inverse r.bijection t g.ascending g.below

    injective : (s t : List ℕ) → Memᴰ s (triangles_at m v) → Memᴰ t (triangles_at m v) → sort (map p s) ≡ sort (map p t) → s ≡ t
    injective s t hs ht e = sym (back s hs) ∙ ap (λ (u : List ℕ). sort (map b u)) e ∙ back t ht

module _ (m m₁ : Mesh) (settings : Settings) {p b : ℕ → ℕ} (facts : AdjacencyFacts m) (facts₁ : AdjacencyFacts m₁) (mutual-lists : Mutual m) (no-repeat : NoRepeat m) (r : Renumbered m m₁ p b) where
  pub same_triangle_number : (v : ℕ) → v < count m → length (triangles_at m₁ (p v)) ≡ length (triangles_at m v)
  same_triangle_number v lt =
      let more = no_fewer facts mutual-lists no-repeat r v in
      let less = no_fewer facts₁ (mutual_renumbered facts r mutual-lists) (no_repeat_renumbered facts r no-repeat) (renumbered_flip facts r) (p v) in
      let again = ap (λ (u : ℕ). length (triangles_at m u)) (r.bijection.left_inverse v lt) in
      omega arith

  pub same_triples_length : length (grid_of m₁ settings).triples ≡ length (grid_of m settings).triples
  unfolding grid_of
  same_triples_length =
      let total : (k : Mesh) → length (concatenate (count k) (λ v. flatten (triangles_at k v))) ≡ start_of (triangles_at k) (count k) * 3
      = λ k. length_concatenate (count k) (λ v. flatten (triangles_at k v)) ∙ start_scaled 3 (count k) (triangles_at k) (λ v. flatten (triangles_at k v)) (λ v lt. triples_length k v) in
      let same : start_of (triangles_at m₁) (count m) ≡ start_of (triangles_at m) (count m)
      = sym (start_bijection (triangles_at m₁) r.bijection) ∙ start_extensional (λ v. triangles_at m₁ (p v)) (triangles_at m) (count m) same_triangle_number in
      total m₁ ∙ ap (λ (k : ℕ). k * 3) (ap (start_of (triangles_at m₁)) r.same_count ∙ same) ∙ sym (total m)

  -- slices that are long enough for one grid are so for the other
  pub same_room : (lent : GridSlices) → grid_slices_fit (grid_of m₁ settings) lent ≡ grid_slices_fit (grid_of m settings) lent
  unfolding grid_slices_fit
  same_room lent =
      let triangle-starts : length (grid_of m₁ settings).triangle_starts ≡ length (grid_of m settings).triangle_starts = triangle_starts_length m₁ settings ∙ ap suc r.same_count ∙ sym (triangle_starts_length m settings) in
      rw (same_cell_starts m m₁ settings r, same_ids_length m m₁ settings r, triangle-starts, same_triples_length) refl

-- the builder accepts both meshes or neither
pub same_build_rows : (m m₁ : Mesh) (settings : Settings) {p b : ℕ → ℕ} → MeshFacts m → MeshFacts m₁ → Mutual m → NoRepeat m → Renumbered m m₁ p b → (lent : GridSlices) → build_rows m₁ settings lent ≡ build_rows m settings lent
unfolding build_rows
same_build_rows m m₁ settings facts facts₁ mutual-lists no-repeat r lent =
    rw (mesh_passed m facts, mesh_passed m₁ facts₁, same_room m m₁ settings facts.adjacency facts₁.adjacency mutual-lists no-repeat r lent) refl
