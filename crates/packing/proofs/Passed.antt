-- Row 8 as code tests it, `room_tested`, and what the rows let pass, `rows_passed` and `packable`. Assumes nothing.
use Rattle.std.proofs.Common.{◌≡◌, ℕ, ◌+◌, ◌≤◌, Bool, true, false, ◌&&◌, List, length, leb, Ok, refl, sym, ap, ◌∙◌, arith}
use Rattle.std.specs.Float.{Float}
use Rattle.std.proofs.lemmas.Bool.{and_parts}
use Rattle.std.proofs.lemmas.Bool.Decides.{nat_tests}
use borrow.Author.Tests.{leb-true}
use Rattle.refusal.specs.declared.Refusal.TheVariants.{Count, Id, Position, Room}
use Rattle.refusal.proofs.Rows.{row_passed, then_passed}
use Rattle.mesh.specs.Mesh.{vertex_count}
use Rattle.mesh.specs.Rows.{positions_fit, ids_below, positions_admissible}
use Rattle.grid.specs.Grid.{Grid}
use Rattle.grid.specs.Stored.{stored_rows, whole_starts_rows}
use Rattle.grid.specs.Told.{StoredFacts}
use Rattle.grid.proofs.Stored.{positions_count, stored_facts}
use Rattle.packing.specs.declared.Taken.{Taken}
use Rattle.packing.specs.Packing.{packed_words, has_places, greatest_offset, offsets_fit, level_record, room_for, id_rows, packing_rows}
use Rattle.packing.specs.Room.{Packable}
use Rattle.packing.proofs.Behind.{length_packed}

same_four : (a b c d : Bool) → (((a && b) && c) && d) ≡ (a && (b && (c && d)))
same_four false b c d = refl
same_four true false c d = refl
same_four true true false d = refl
same_four true true true d = refl

-- so many places behind the taken ones, as a fact
places_there : (taken wanted places : ℕ) → has_places taken wanted places ≡ true → taken + wanted ≤ places
unfolding has_places
places_there taken wanted places h =
    let parts = and_parts (leb taken places) _ h in
    let inside = leb-true taken places parts.0 in
    let enough = leb-true _ _ parts.1 in
    omega arith

-- how long the lists are that stand before the triples
abbrev pub before_triples : Grid → ℕ
before_triples grid = length grid.cell_starts + length grid.cell_ids + length grid.triangle_starts

-- row 8 as code tests it
abbrev pub room_asked : Grid → List Float → Taken → ℕ → ℕ → Bool
room_asked grid positions taken words floats =
    ((has_places taken.words (before_triples grid + length grid.triples) words && has_places taken.floats (length positions) floats) && has_places taken.words (before_triples grid) greatest_offset) && leb taken.floats greatest_offset

pub record RowsPassed (grid : Grid) (positions : List Float) (taken : Taken) (words floats : ℕ) : Type 0 where
  pub fit : positions_fit positions ≡ true
  pub stored : StoredFacts grid positions
  pub cell_ids : ids_below (vertex_count positions) grid.cell_ids ≡ true
  pub triples : ids_below (vertex_count positions) grid.triples ≡ true
  pub admissible : positions_admissible positions ≡ true
  pub room : room_for grid positions taken words floats ≡ true

module _ (grid : Grid) (positions : List Float) (taken : Taken) where
  -- no offset of words is above that of the triples
  offsets_tested : (has_places taken.words (before_triples grid) greatest_offset && leb taken.floats greatest_offset) ≡ offsets_fit (level_record grid positions taken)
  unfolding has_places offsets_fit level_record
  offsets_tested = grind (arith, nat_tests)

  pub room_tested : (words floats : ℕ) → room_asked grid positions taken words floats ≡ room_for grid positions taken words floats
  unfolding room_for
  room_tested words floats =
      same_four (has_places taken.words (before_triples grid + length grid.triples) words) (has_places taken.floats (length positions) floats) (has_places taken.words (before_triples grid) greatest_offset) (leb taken.floats greatest_offset)
      ∙ ap (λ (fits : Bool). has_places taken.words (before_triples grid + length grid.triples) words && (has_places taken.floats (length positions) floats && fits)) offsets_tested
      ∙ ap (λ (wanted : ℕ). has_places taken.words wanted words && (has_places taken.floats (length positions) floats && offsets_fit (level_record grid positions taken))) (sym (length_packed grid))

  offsets_passed : offsets_fit (level_record grid positions taken) ≡ true → ((level_record grid positions taken).triples ≤ greatest_offset) × (taken.floats ≤ greatest_offset)
  unfolding offsets_fit level_record
  offsets_passed h =
      let a = and_parts (leb taken.words greatest_offset) _ h in
      let b = and_parts (leb (taken.words + length grid.cell_starts) greatest_offset) _ a.1 in
      let c = and_parts (leb (taken.words + length grid.cell_starts + length grid.cell_ids) greatest_offset) _ b.1 in
      let d = and_parts (leb (taken.words + length grid.cell_starts + length grid.cell_ids + length grid.triangle_starts) greatest_offset) (leb taken.floats greatest_offset) c.1 in
      (leb-true _ _ d.0, leb-true _ _ d.1)

  -- what all rows together let pass, row after row
  pub rows_passed : (words floats : ℕ) → packing_rows grid positions taken words floats ≡ Ok tt → RowsPassed grid positions taken words floats
  unfolding packing_rows id_rows
  rows_passed words floats h =
      let count = vertex_count positions in
      let stored = then_passed (stored_rows grid positions (Ok tt)) _ h in
      let starts = then_passed (whole_starts_rows grid positions) _ stored.1 in
      let ids = then_passed (id_rows grid positions) _ starts.1 in
      let cell_ids = row_passed (ids_below count grid.cell_ids) Id _ ids.0 in
      let triples = row_passed (ids_below count grid.triples) Id _ cell_ids.1 in
      record {
        fit = (row_passed (positions_fit positions) Count _ stored.0).0;
        stored = stored_facts grid positions stored.0;
        cell_ids = cell_ids.0;
        triples = triples.0;
        admissible = (row_passed (positions_admissible positions) Position (Ok tt) triples.1).0;
        room = (row_passed (room_for grid positions taken words floats) Room (Ok tt) ids.1).0;
      }

  pub packable : (words floats : ℕ) → packing_rows grid positions taken words floats ≡ Ok tt → Packable grid positions taken words floats
  unfolding room_for
  packable words floats h =
      let passed = rows_passed words floats h in
      let count = positions_count positions passed.fit in
      let stored = passed.stored in
      let a = and_parts (has_places taken.words (length (packed_words grid)) words) _ passed.room in
      let b = and_parts (has_places taken.floats (length positions) floats) _ a.1 in
      let offsets = offsets_passed b.1 in
      record {
        record_fits = record { few = count.1; low = stored.side_high; words = offsets.0; floats = offsets.1 };
        words_room = places_there _ _ _ a.0;
        floats_room = places_there _ _ _ b.0;
      }
