-- Laws of what a query reads of a mesh's own grid, and of the grid of the mesh renumbered. Assumes nothing.
use Rattle.std.proofs.Common.{◌≡◌, ℕ, suc, ◌<◌, ◌≤◌, true, ltb, ◌↔◌, List, [], ◌∷◌, map, length, get_or, sym, refl, ap, ◌∙◌, arith, ltb-true, lt-ltb, eq-eqb}
use native.Mathlib.Decide.{dec_lt}
use mathlib.Core.List.Memᴰ
use mathlib.Core.List.{flatten, Memᴰ}
use lib.ListN.{length-map, get_or-eq_default}
use lib.Seq.{drop-nil}
use Rattle.std.proofs.lemmas.Bool.{and_from}
use Rattle.sequences.specs.Starts.{part}
use Rattle.sequences.specs.Ascending.{Ascending, sort}
use Rattle.sequences.proofs.Range.{all_below_intro}
use Rattle.sequences.proofs.Tabulate.{get_d_member}
use Rattle.sequences.proofs.Ascending.{length_sort, sort_members}
use Rattle.std.specs.Prelude.{Ok}
use Rattle.refusal.specs.declared.Refusal.TheVariants.{Starts, StartsFall, Direction, EmptyCell}
use Rattle.refusal.proofs.Rows.{row_passed}
use Rattle.vector.specs.declared.Vector3.{Vector3}
use Rattle.vector.specs.Vector.{normalized}
use Rattle.vector.specs.Direction.{admissible}
use Rattle.mesh.specs.Mesh.{Mesh, count}
use Rattle.mesh.specs.Rows.{not_falling, ids_below}
use Rattle.mesh.specs.Adjacency.{Mutual}
use Rattle.mesh.proofs.Facts.{AdjacencyFacts, positions_fit_lem}
use Rattle.mesh.proofs.Renumbered.{Renumbered}
use Rattle.grid.specs.Cells.{side_of, cell_count}
use Rattle.grid.specs.Triangles.{triangles_at}
use Rattle.grid.specs.declared.settings.Settings.{Settings}
use Rattle.grid.specs.Grid.{grid_of, ids_in}
use Rattle.grid.specs.Stored.{side_fits, both_starts_counted}
use Rattle.grid.proofs.Cells.{ids_ascending, id_placed, cell_part, same_side, ids_renumbered, same_cell_starts, same_ids_length}
use Rattle.grid.proofs.Triangles.{triangle_size, triples_part, triangles_renumbered}
use Rattle.grid.proofs.Grid.{cell_starts_length, triangle_starts_length, settings_kept}
use Rattle.grid.proofs.Stored.{stored_passed}
use Rattle.grid_query.specs.Cell.{cell_of, cell_of_query, part_within, candidates, in_triples, triples_at, cell_rows}
use Rattle.grid_query.specs.Nearest.{squared_distance}
use Rattle.grid_query.proofs.Distance.{same_squared_distance}
use Rattle.grid_query.proofs.NearestCandidate.{SameCandidates}

-- ---- the candidates of a mesh's own grid
module _ (m : Mesh) (settings : Settings) where
  pub candidates_of_cell : (cell : ℕ) → cell < cell_count (grid_of m settings).side → candidates (grid_of m settings) cell ≡ ids_in m settings cell
  unfolding candidates
  candidates_of_cell cell lt = cell_part m settings cell lt

  -- a number that is no cell's has none
  candidates_beyond : (cell : ℕ) → cell_count (grid_of m settings).side ≤ cell → candidates (grid_of m settings) cell ≡ []
  unfolding candidates part
  candidates_beyond cell le =
      rw (get_or-eq_default (grid_of m settings).cell_starts 0 {n = suc cell} (omega (arith, cell_starts_length m settings))) (drop-nil (get_or (grid_of m settings).cell_starts cell 0))

  pub candidates_ascending : (cell : ℕ) → Ascending (candidates (grid_of m settings) cell)
  candidates_ascending cell = go (dec_lt cell (cell_count (grid_of m settings).side))
    where
      go : Dec (cell < cell_count (grid_of m settings).side) → Ascending (candidates (grid_of m settings) cell)
      go (yes lt) = rw (candidates_of_cell cell lt) (ids_ascending m settings cell)
      go (no k) = rw (candidates_beyond cell (omega arith)) tt

  pub candidate_below : (cell v : ℕ) → Memᴰ v (candidates (grid_of m settings) cell) → v < count m
  candidate_below cell v h = go (dec_lt cell (cell_count (grid_of m settings).side))
    where
      go : Dec (cell < cell_count (grid_of m settings).side) → v < count m
      go (yes lt) = (id_placed m settings cell v (rw (candidates_of_cell cell lt) at h)).0
      go (no k) = absurd (Memᴰ.not-nil (rw (candidates_beyond cell (omega arith)) at h))

  -- ---- the rows that it passes
  side_fits_lem : side_fits (grid_of m settings) m.positions ≡ true
  unfolding side_fits grid_of
  side_fits_lem = eq-eqb (side_of settings.factor (count m)) (side_of settings.factor (count m)) refl

  starts_counted_lem : both_starts_counted (grid_of m settings) m.positions ≡ true
  unfolding both_starts_counted
  starts_counted_lem = and_from _ _ (eq-eqb _ _ (cell_starts_length m settings)) (eq-eqb _ _ (triangle_starts_length m settings))

  ids_below_lem : (cell : ℕ) → ids_below (count m) (candidates (grid_of m settings) cell) ≡ true
  unfolding ids_below
  ids_below_lem cell =
      let ids = candidates (grid_of m settings) cell in
      all_below_intro _ (length ids) (λ i lt. lt-ltb (get_or ids i 0) (count m) (candidate_below cell (get_or ids i 0) (get_d_member ids i 0 lt)))

-- ---- a query that the rows let pass
pub passed_direction : (m : Mesh) (settings : Settings) (direction : Vector3) → cell_rows (grid_of m settings) m.positions direction ≡ Ok tt → admissible direction ≡ true
unfolding cell_rows
passed_direction m settings direction h = (row_passed (admissible direction) Direction _ (stored_passed (grid_of m settings) m.positions _ h).1).0

pub passed_some : (m : Mesh) (settings : Settings) (direction : Vector3) → cell_rows (grid_of m settings) m.positions direction ≡ Ok tt
    → 0 < length (candidates (grid_of m settings) (cell_of_query (grid_of m settings) direction))
unfolding cell_rows
passed_some m settings direction h =
    let grid = grid_of m settings in
    let cell = cell_of_query grid direction in
    let admitted = row_passed (admissible direction) Direction _ (stored_passed grid m.positions _ h).1 in
    let ascends = row_passed (not_falling grid.cell_starts cell) (StartsFall (suc cell)) _ admitted.1 in
    let within = row_passed (part_within 1 grid.cell_starts (length grid.cell_ids) cell) Starts _ ascends.1 in
    ltb-true 0 (length (candidates grid cell)) (row_passed (ltb 0 (length (candidates grid cell))) EmptyCell _ within.1).0

-- ---- a mesh and the mesh renumbered
module _ (m m₁ : Mesh) (settings : Settings) {p b : ℕ → ℕ} (r : Renumbered m m₁ p b) where
  -- for every number, a cell's or not
  pub candidates_renumbered : (cell : ℕ) → candidates (grid_of m₁ settings) cell ≡ sort (map p (candidates (grid_of m settings) cell))
  unfolding sort
  candidates_renumbered cell = go (dec_lt cell (cell_count (grid_of m settings).side))
    where
      none : sort (map p []) ≡ []
      none = refl

      go : Dec (cell < cell_count (grid_of m settings).side) → candidates (grid_of m₁ settings) cell ≡ sort (map p (candidates (grid_of m settings) cell))
      go (yes lt) =
          candidates_of_cell m₁ settings cell (rw (same_side m m₁ settings r) lt) ∙ ids_renumbered m m₁ settings r cell ∙ ap (λ (l : List ℕ). sort (map p l)) (sym (candidates_of_cell m settings cell lt))
      go (no k) =
          let beyond : cell_count (grid_of m settings).side ≤ cell = omega arith in
          candidates_beyond m₁ settings cell (rw (same_side m m₁ settings r) beyond) ∙ sym none ∙ ap (λ (l : List ℕ). sort (map p l)) (sym (candidates_beyond m settings cell beyond))

  candidates_length : (cell : ℕ) → length (candidates (grid_of m₁ settings) cell) ≡ length (candidates (grid_of m settings) cell)
  candidates_length cell = ap length (candidates_renumbered cell) ∙ length_sort (map p (candidates (grid_of m settings) cell)) ∙ length-map (candidates (grid_of m settings) cell) p

  pub same_cell : (direction : Vector3) → cell_of_query (grid_of m₁ settings) direction ≡ cell_of_query (grid_of m settings) direction
  same_cell direction = ap (λ (g : ℕ). cell_of g (normalized direction)) (same_side m m₁ settings r)

  pub same_candidates : (direction : Vector3) (cell : ℕ)
      → SameCandidates (squared_distance m.positions direction) (candidates (grid_of m settings) cell) (squared_distance m₁.positions direction) (candidates (grid_of m₁ settings) cell) p
  same_candidates direction cell =
      let ids = candidates (grid_of m settings) cell in
      let same = candidates_renumbered cell in
      record {
        same_number = candidates_length cell;
        forth = λ x h. rw same ((sort_members (map p ids)).back (p x) (Memᴰ.map p h));
        back = λ y h. Memᴰ.of_map p ids ((sort_members (map p ids)).forth y (rw same at h));
        same_distance = λ x h. same_squared_distance m.positions m₁.positions direction x (p x) (r.positions x (candidate_below m settings cell x h));
      }

  -- the rows find the same
  pub same_cell_rows : AdjacencyFacts m → AdjacencyFacts m₁ → (direction : Vector3) → cell_rows (grid_of m₁ settings) m₁.positions direction ≡ cell_rows (grid_of m settings) m.positions direction
  unfolding cell_rows
  same_cell_rows facts facts₁ direction =
      let cell = cell_of_query (grid_of m settings) direction in
      rw (
        positions_fit_lem m₁ facts₁,
        positions_fit_lem m facts,
        side_fits_lem m₁ settings,
        side_fits_lem m settings,
        starts_counted_lem m₁ settings,
        starts_counted_lem m settings,
        same_cell direction,
        candidates_length cell,
        ids_below_lem m₁ settings cell,
        ids_below_lem m settings cell,
        same_cell_starts m m₁ settings r,
        same_ids_length m m₁ settings r,
        settings_kept m₁ settings,
        settings_kept m settings,
      ) refl

-- ---- the triples of a mesh's own grid
in_triples_flatten : (l : List (List ℕ)) → ((t : List ℕ) → Memᴰ t l → length t ≡ 3) → in_triples (flatten l) ≡ l
unfolding in_triples flatten
in_triples_flatten [] h = refl
in_triples_flatten ([] ∷ ts) h = absurd (let z = h [] (Memᴰ.head refl) in let y : ⊥ = omega arith in y)
in_triples_flatten ((a ∷ []) ∷ ts) h = absurd (let z = h (a ∷ []) (Memᴰ.head refl) in let y : ⊥ = omega arith in y)
in_triples_flatten ((a ∷ b ∷ []) ∷ ts) h = absurd (let z = h (a ∷ b ∷ []) (Memᴰ.head refl) in let y : ⊥ = omega arith in y)
in_triples_flatten ((a ∷ b ∷ c ∷ d ∷ rest) ∷ ts) h = absurd (let z = h (a ∷ b ∷ c ∷ d ∷ rest) (Memᴰ.head refl) in let y : ⊥ = omega arith in y)
in_triples_flatten ((a ∷ b ∷ c ∷ []) ∷ ts) h = ap {B = List (List ℕ)} (λ r. (a ∷ b ∷ c ∷ []) ∷ r) (in_triples_flatten ts (λ t k. h t (Memᴰ.tail k)))

pub triples_of_vertex : (m : Mesh) (settings : Settings) (v : ℕ) → v < count m → triples_at (grid_of m settings) v ≡ triangles_at m v
unfolding triples_at
triples_of_vertex m settings v lt = rw (triples_part m settings v lt) (in_triples_flatten (triangles_at m v) (triangle_size m v))

pub triples_renumbered : (m m₁ : Mesh) (settings : Settings) {p b : ℕ → ℕ} → AdjacencyFacts m → AdjacencyFacts m₁ → Mutual m → Renumbered m m₁ p b → (v : ℕ) → v < count m → (t : List ℕ)
    → Memᴰ t (triples_at (grid_of m₁ settings) (p v)) ↔ ((s : List ℕ) × Memᴰ s (triples_at (grid_of m settings) v) × (t ≡ sort (map p s)))
triples_renumbered m m₁ settings {p} facts facts₁ mutual-lists r v lv t =
    let maps = r.bijection.maps v lv in
    rw (triples_of_vertex m settings v lv, triples_of_vertex m₁ settings (p v) (omega (arith, r.same_count))) (triangles_renumbered facts facts₁ mutual-lists r v lv t)
