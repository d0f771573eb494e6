-- What is claimed of a mesh and its data after a list of renumberings, and of the grids before and after. Definitions only.
use Rattle.std.specs.Prelude.{ℕ, ◌+◌, ◌*◌, ◌/◌, ◌≤◌, ◌<◌, ◌≡◌, ◌↔◌, false, length, slice_index_or, drop, Float, Result, Ok, Err}
use mathlib.Core.List.{List, map, Memᴰ}
use Rattle.std.specs.Float.{nan}
use Rattle.std.specs.Float.Ieee.{is_nan}
use Rattle.sequences.specs.Ascending.{sort}
use Rattle.sequences.specs.Least.{Alone}
use Rattle.refusal.specs.declared.Refusal.{Refusal}
use Rattle.vector.specs.declared.Vector3.{Vector3}
use Rattle.vector.specs.Vector.{normalized}
use Rattle.mesh.specs.Mesh.{Mesh, count, neighbours}
use Rattle.mesh.specs.Rows.{mesh_rows}
use Rattle.mesh.specs.Adjacency.{NoRepeat}
use Rattle.grid.specs.declared.settings.Settings.{Settings}
use Rattle.grid.specs.Cells.{cell_count}
use Rattle.grid.specs.Grid.{Grid, GridSlices, built, build_grid, cut}
use Rattle.grid_query.specs.declared.Nearest.{Nearest}
use Rattle.grid_query.specs.Cell.{cell_of_query, candidates, triples_at}
use Rattle.grid_query.specs.Nearest.{squared_distance, grid_nearest}

-- ---- the nearest query. `distance` gives the squared distance of a candidate. Equal doubles that are no NaN have equal bits.

-- i is the lowest of the ids that have the distance d.
pub record LowestAt (distance : ℕ → Float) (ids : List ℕ) (i : ℕ) (d : Float) : Type 0 where
  pub among : Memᴰ i ids
  pub at_distance : distance i ≡ d
  pub lowest : (j : ℕ) → Memᴰ j ids → distance j ≡ d → i ≤ j

-- Two accepted answers: `near` over the candidates `ids` before the list, `near₁` over `ids₁` after it.
pub record NearAlike (p : ℕ → ℕ) (distance : ℕ → Float) (ids : List ℕ) (distance₁ : ℕ → Float) (ids₁ : List ℕ) (near near₁ : Nearest) : Type 0 where
  -- The distances have the same bits: they are equal, and no NaN.
  pub same_distance : near.distance ≡ near₁.distance
  pub no_nan : is_nan near.distance ≡ false
  -- Either counts all of its own candidates, the first included, and the counts are equal.
  pub same_candidates : near.candidates ≡ near₁.candidates
  pub counted : near.candidates ≡ length ids
  pub counted_after : near₁.candidates ≡ length ids₁
  -- Either gives the lowest of its own ids at that distance.
  pub lowest : LowestAt distance ids near.id near.distance
  pub lowest_after : LowestAt distance₁ ids₁ near₁.id near₁.distance
  -- Where one candidate alone is at that distance, the later id is p of the earlier.
  pub followed : Alone distance ids near.id near.distance → near₁.id ≡ p near.id

-- Both queries refuse, with the same reason, or both answer alike.
abbrev pub SameNearest : (ℕ → ℕ) → (ℕ → Float) → List ℕ → (ℕ → Float) → List ℕ → Result Nearest Refusal → Result Nearest Refusal → Type 0
SameNearest p distance ids distance₁ ids₁ (Err reason) (Err reason₁) = reason ≡ reason₁
SameNearest p distance ids distance₁ ids₁ (Err reason) (Ok near₁) = ⊥
SameNearest p distance ids distance₁ ids₁ (Ok near) (Err reason₁) = ⊥
SameNearest p distance ids distance₁ ids₁ (Ok near) (Ok near₁) = NearAlike p distance ids distance₁ ids₁ near near₁

-- ---- the two grids: `grid` of the mesh m before the list, `grid₁` of the mesh m₁ after it
pub record SameGrids (m m₁ : Mesh) (p : ℕ → ℕ) (grid grid₁ : Grid) : Type 0 where
  -- They have the same side.
  pub side : grid₁.side ≡ grid.side
  -- Each cell's ids are the earlier ones, taken through p and sorted.
  pub cells : (c : ℕ) → c < cell_count grid.side → candidates grid₁ c ≡ sort (map p (candidates grid c))
  -- The triples at p(v), as a set, are those at v, each taken through p and sorted.
  pub triples : (v : ℕ) → v < count m → (t : List ℕ)
      → Memᴰ t (triples_at grid₁ (p v)) ↔ ((s : List ℕ) × Memᴰ s (triples_at grid v) × (t ≡ sort (map p s)))
  -- Of every direction each grid, with its own positions, gives the nearest vertex alike.
  pub nearest : (direction : Vector3)
      → SameNearest p
      (squared_distance m.positions (normalized direction)) (candidates grid (cell_of_query grid direction))
      (squared_distance m₁.positions (normalized direction)) (candidates grid₁ (cell_of_query grid₁ direction))
      (grid_nearest grid m.positions direction) (grid_nearest grid₁ m₁.positions direction)

-- ---- the builder. Slices of the same lengths, whatever they hold.
pub record SameLengths (lent lent₁ : GridSlices) : Type 0 where
  pub cell_starts : length lent₁.cell_starts ≡ length lent.cell_starts
  pub cell_ids : length lent₁.cell_ids ≡ length lent.cell_ids
  pub triangle_starts : length lent₁.triangle_starts ≡ length lent.triangle_starts
  pub triples : length lent₁.triples ≡ length lent.triples

-- Lent the same pair and slices of the same lengths, the builder gives one answer for both meshes: the same refusal, or the same side and count of conversions held at an end.
abbrev pub SameBuilds : Mesh → Mesh → Type 0
SameBuilds m m₁ = (settings : Settings) (lent lent₁ : GridSlices) → SameLengths lent lent₁ → (build_grid m₁ settings lent₁).answered ≡ (build_grid m settings lent).answered

-- ---- the whole claim: mesh m and data `values` at the start, m₁ and `values₁` after the list, p the accumulated permutation. `AllHave each` says that the accepted calls all have `each` entries a vertex.
-- Where they have not, no form is named for the places of data, and the rest is claimed.
pub record Invariant (m : Mesh) (values : List Float) (m₁ : Mesh) (values₁ : List Float) (p : ℕ → ℕ) (AllHave : ℕ → Type 0) : Type 0 where
  -- The count stays, and p is a permutation of the ids.
  pub same_count : count m₁ ≡ count m
  pub below : (v : ℕ) → v < count m → p v < count m
  pub injective : (v w : ℕ) → v < count m → w < count m → p v ≡ p w → v ≡ w
  -- The position at p(v) is the one that v had.
  pub positions : (v k : ℕ) → v < count m → k < 3 → slice_index_or m₁.positions (p v * 3 + k) nan ≡ slice_index_or m.positions (v * 3 + k) nan
  -- The list of p(v) is v's list with each entry taken through p, both sorted.
  pub lists : (v : ℕ) → v < count m → sort (neighbours m₁ (p v)) ≡ sort (map p (neighbours m v))
  -- The mesh passes the builder's mesh rows again.
  pub rows : mesh_rows m₁ ≡ Ok tt
  -- Where there is one entry a vertex: in each whole slab, place p(v) holds what v held.
  pub single : AllHave 1 → (s v : ℕ) → s < length values / count m → v < count m
      → slice_index_or values₁ (s * count m + p v) nan ≡ slice_index_or values (s * count m + v) nan
  -- Where there is one for each pair: place p(v)·n + p(w) holds what v·n + w held, n the count.
  pub paired : AllHave (count m) → (s v w : ℕ) → s < length values / (count m * count m) → v < count m → w < count m
      → slice_index_or values₁ (s * (count m * count m) + (p v * count m + p w)) nan ≡ slice_index_or values (s * (count m * count m) + (v * count m + w)) nan
  -- The tail behind the last whole slab is as it was: that of one entry a vertex whatever the calls have, that of another form where all accepted ones have it.
  pub data_length : length values₁ ≡ length values
  pub single_tail : drop (length values / count m * count m) values₁ ≡ drop (length values / count m * count m) values
  pub tail : (each : ℕ) → AllHave each → drop (length values / (count m * each) * (count m * each)) values₁ ≡ drop (length values / (count m * each) * (count m * each)) values
  -- Where no list names a vertex twice, the builder accepts the mesh after exactly where it accepts the mesh before: a triangle is stored once for each time that its lowest vertex names the other two,
  -- and which vertex is lowest is for p to say.
  pub builds : NoRepeat m → SameBuilds m m₁
  -- Two grids, each built with the same pair in whatever slices were lent, and cut to a grid's lengths.
  pub grids : (settings : Settings) (lent lent₁ : GridSlices) (g g₁ held held₁ : ℕ) → (build_grid m settings lent).answered ≡ Ok (built g held) → (build_grid m₁ settings lent₁).answered ≡ Ok (built g₁ held₁)
      → SameGrids m m₁ p (cut settings (count m) g (build_grid m settings lent).slices) (cut settings (count m₁) g₁ (build_grid m₁ settings lent₁).slices)
