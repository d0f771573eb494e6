-- A built grid passes every row but 8: `built_packed`. Assumes nothing.
use Rattle.std.proofs.Common.{◌≡◌, ℕ, suc, ◌≤◌, ◌<◌, Bool, true, false, ◌&&◌, List, length, get_or, ltb, refl, subst, eq-eqb}
use borrow.Author.Tests.{le-leb, lt-ltb}
use Rattle.std.specs.Float.{Float}
use Rattle.std.specs.Prelude.{if◌then◌else◌, Option, Some, None, Ok, Err, EachIndex, slice_index}
use Rattle.sequences.proofs.Range.{all_below_intro}
use Rattle.sequences.proofs.Starts.{compressed_rows}
use Rattle.refusal.specs.declared.Refusal.{Refusal}
use Rattle.refusal.specs.declared.Refusal.TheVariants.{Count, Starts, Id, Position, Room, StartsSpan, Factor, Margin}
use Rattle.refusal.specs.Refusal.{Verdict, row, answer}
use Rattle.refusal.proofs.Rows.{row_passed, then_passed}
use Rattle.mesh.specs.Mesh.{Mesh, count}
use Rattle.mesh.specs.Rows.{positions_fit, not_falling, starts_span, starts_ascend, falling_start, fall_row, ids_below, positions_admissible, adjacency_rows, mesh_rows}
use Rattle.mesh.proofs.Falls.{no_fall}
use Rattle.grid.specs.declared.settings.Settings.{Settings}
use Rattle.grid.specs.Settings.{factor_fits, margin_fits}
use Rattle.grid.specs.Cells.{side_of, cell_count}
use Rattle.grid.specs.Triangles.{triangles_at}
use Rattle.grid.specs.Grid.{Grid, GridSlices, ids_in, grid_of, build_rows}
use Rattle.grid.specs.Stored.{side_fits, both_starts_counted, stored_rows, cell_starts_span, triangle_starts_span, whole_starts_rows}
use Rattle.grid.specs.Told.{BuiltFacts}
use Rattle.grid.proofs.BuiltBelow.{built_below}
use Rattle.grid.proofs.Grid.{built_rows, cut_build, cell_starts_length, triangle_starts_length, triangle_starts_last}
use Rattle.packing.specs.declared.Taken.{Taken}
use Rattle.packing.specs.Packing.{level_record, room_for, id_rows, packing_rows, pack_outcome, pack}
use Rattle.packing.specs.Laws.{BuiltGridIsPacked}
use Rattle.packing.proofs.Outcome.{packed}

-- ---- rows that pass
passes : (b : Bool) (reason : Refusal) (next : Verdict) → b ≡ true → next ≡ Ok tt → row b reason next ≡ Ok tt
passes true reason next e h = h
passes false reason next e h = absurd (let y : ⊥ = cc in y)

none_passes : (fall : Option ℕ) (next : Verdict) → fall ≡ None → next ≡ Ok tt → fall_row fall next ≡ Ok tt
none_passes None next e h = h
none_passes (Some index) next e h = absurd (let y : ⊥ = cc in y)

both : (a b : Bool) → a ≡ true → b ≡ true → (a && b) ≡ true
both a b e f = rw (e, f) refl

ascending_passes : (n : ℕ) (starts : List ℕ) → length starts ≡ suc n → ((v : ℕ) → v < n → get_or starts v 0 ≤ get_or starts (suc v) 0) → falling_start starts ≡ None
unfolding starts_ascend
ascending_passes n starts size ascend = no_fall n starts size (all_below_intro (not_falling starts) n (λ v lt. le-leb _ _ (ascend v lt)))

below_passes : (n : ℕ) (ids : List ℕ) → EachIndex ids (λ i. slice_index ids i < n) → ids_below n ids ≡ true
unfolding ids_below
below_passes n ids below = all_below_intro (λ i. ltb (get_or ids i 0) n) (length ids) (λ i lt. lt-ltb (get_or ids i 0) n (below i lt))

module _ (m : Mesh) (settings : Settings) (lent : GridSlices) (passed : build_rows m settings lent ≡ Ok tt) where
  mesh_passes : mesh_rows m ≡ Ok tt
  unfolding build_rows
  mesh_passes = (then_passed (mesh_rows m) _ passed).0

  fit : positions_fit m.positions ≡ true
  unfolding mesh_rows adjacency_rows
  fit = (row_passed (positions_fit m.positions) Count _ (then_passed (adjacency_rows m) _ mesh_passes).0).0

  admissible : positions_admissible m.positions ≡ true
  unfolding mesh_rows
  admissible = (row_passed (positions_admissible m.positions) Position (Ok tt) (then_passed (adjacency_rows m) _ mesh_passes).1).0

  stored : stored_rows (grid_of m settings) m.positions (Ok tt) ≡ Ok tt
  unfolding build_rows grid_of side_fits both_starts_counted
  stored =
      let factor = row_passed (factor_fits settings.factor) Factor _ (then_passed (mesh_rows m) _ passed).1 in
      let margin = row_passed (margin_fits settings.margin) Margin _ factor.1 in
      passes (positions_fit m.positions) Count _ fit
      (passes (factor_fits settings.factor) Factor _ factor.0
      (passes (margin_fits settings.margin) Margin _ margin.0
      (passes (side_fits (grid_of m settings) m.positions) Count _ (eq-eqb _ _ refl)
      (passes (both_starts_counted (grid_of m settings) m.positions) Starts (Ok tt) (both _ _ (eq-eqb _ _ (cell_starts_length m settings)) (eq-eqb _ _ (triangle_starts_length m settings))) refl))))

  whole : whole_starts_rows (grid_of m settings) m.positions ≡ Ok tt
  unfolding grid_of whole_starts_rows cell_starts_span triangle_starts_span starts_span
  whole =
      let cells = cell_count (side_of settings.factor (count m)) in
      let of_cells = compressed_rows cells (ids_in m settings) in
      let of_triangles = compressed_rows (count m) (triangles_at m) in
      passes (cell_starts_span (grid_of m settings)) StartsSpan _ (both _ _ (eq-eqb _ _ of_cells.first) (eq-eqb _ _ of_cells.last))
      (passes (triangle_starts_span (grid_of m settings) m.positions) StartsSpan _ (both _ _ (eq-eqb _ _ of_triangles.first) (eq-eqb _ _ (triangle_starts_last m settings)))
      (none_passes (falling_start (grid_of m settings).cell_starts) _ (ascending_passes cells _ of_cells.size of_cells.ascend)
      (none_passes (falling_start (grid_of m settings).triangle_starts) (Ok tt) (ascending_passes (count m) _ of_triangles.size of_triangles.ascend) refl)))

  ids : BuiltFacts (count m) (grid_of m settings) → id_rows (grid_of m settings) m.positions ≡ Ok tt
  unfolding id_rows
  ids facts =
      passes (ids_below (count m) (grid_of m settings).cell_ids) Id _ (below_passes _ _ facts.cell_ids_below)
      (passes (ids_below (count m) (grid_of m settings).triples) Id _ (below_passes _ _ facts.triples_below)
      (passes (positions_admissible m.positions) Position (Ok tt) admissible refl))

  only_room : BuiltFacts (count m) (grid_of m settings) → (taken : Taken) (words floats : ℕ) → packing_rows (grid_of m settings) m.positions taken words floats ≡ row (room_for (grid_of m settings) m.positions taken words floats) Room (Ok tt)
  unfolding packing_rows
  only_room facts taken words floats = rw (stored, whole, ids facts) refl

by_room : (grid : Grid) (positions : List Float) (taken : Taken) (words : List ℕ) (floats : List Float) →
    let room = room_for grid positions taken (length words) (length floats) in packing_rows grid positions taken (length words) (length floats) ≡ row room Room (Ok tt)
    → (pack grid positions taken words floats).answered ≡ (if room then Ok (level_record grid positions taken) else Err Room)
unfolding pack
by_room grid positions taken words floats h = go _ (packing_rows grid positions taken (length words) (length floats)) h
  where
    go : (room : Bool) (v : Verdict) → v ≡ row room Room (Ok tt)
        → (answer v (λ reason. pack_outcome (Err reason) words floats) (packed grid positions taken words floats)).answered ≡ (if room then Ok (level_record grid positions taken) else Err Room)
    go true v e = rw e refl
    go false v e = rw e refl

pub built_packed : BuiltGridIsPacked
built_packed m settings lent g held taken words floats h =
    let passed = built_rows m settings lent g held h in
    let same = cut_build m settings lent g held h in
    let facts = subst (λ (grid : Grid). BuiltFacts (count m) grid) same (built_below m settings lent g held h) in
    rw same (by_room (grid_of m settings) m.positions taken words floats (only_room m settings lent passed facts taken (length words) (length floats)))
