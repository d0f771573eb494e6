-- What an accepted call's record tells: `record_facts`, and the parts at its offsets, `accepted_stands`. Assumes nothing.
use Rattle.std.proofs.Common.{◌≡◌, ℕ, List, length, refl, sym, subst, arith}
use Rattle.std.specs.Float.{Float}
use Rattle.std.specs.Prelude.{Ok}
use Rattle.mesh.proofs.Facts.{positions_facts}
use Rattle.grid.specs.Grid.{Grid}
use Rattle.packing.specs.declared.Taken.{Taken}
use Rattle.packing.specs.declared.LevelRecord.{LevelRecord}
use Rattle.packing.specs.Packing.{PackOutcome, level_record, pack}
use Rattle.packing.specs.Laws.{PartsStand, PackedPartsStand, RecordFacts, RecordIsTold}
use Rattle.packing.proofs.Behind.{length_packed}
use Rattle.packing.proofs.Passed.{rows_passed, packable}
use Rattle.packing.proofs.Outcome.{rows, packed, packing_accepted}
use Rattle.packing.proofs.Parts.{packed_parts}

module _ (grid : Grid) (positions : List Float) (taken : Taken) (words : List ℕ) (floats : List Float) (passed : rows grid positions taken words floats ≡ Ok tt) where
  pub record_facts : RecordFacts grid positions taken (length words) (length floats) (level_record grid positions taken)
  unfolding level_record
  record_facts =
      let stored = (rows_passed grid positions taken (length words) (length floats) passed).stored in
      let room = packable grid positions taken (length words) (length floats) passed in
      let mesh = positions_facts positions (rows_passed grid positions taken (length words) (length floats) passed).fit in
      record {
        vertices_counted = sym mesh.0;
        some_vertices = mesh.1;
        few_vertices = mesh.2;
        of_grid = refl;
        cell_starts_at = refl;
        cell_ids_at = omega (arith, stored.cells_counted);
        triangle_starts_at = refl;
        triples_at = omega (arith, stored.vertices_counted);
        positions_at = refl;
        cell_starts_in_32_bits = omega (arith, room.record_fits.words);
        cell_ids_in_32_bits = omega (arith, room.record_fits.words);
        triangle_starts_in_32_bits = omega (arith, room.record_fits.words);
        triples_in_32_bits = omega (arith, room.record_fits.words);
        positions_in_32_bits = omega (arith, room.record_fits.floats);
        words_reach = omega (arith, room.words_room, length_packed grid);
        floats_reach = omega (arith, room.floats_room, mesh.0);
      }

  pub stands : PartsStand grid positions (level_record grid positions taken) (packed grid positions taken words floats).words (packed grid positions taken words floats).floats
  stands =
      let room = packable grid positions taken (length words) (length floats) passed in
      packed_parts grid positions taken words floats (omega (arith, room.words_room)) (omega (arith, room.floats_room))

-- What holds of the record and the slices that the rows let pass holds of those of an accepted call.
pub of_accepted : (P : Grid → List Float → Taken → List ℕ → List Float → LevelRecord → PackOutcome → Type 0)
    → ((grid : Grid) (positions : List Float) (taken : Taken) (words : List ℕ) (floats : List Float) → rows grid positions taken words floats ≡ Ok tt → P grid positions taken words floats (level_record grid positions taken) (packed grid positions taken words floats))
    → (grid : Grid) (positions : List Float) (taken : Taken) (words : List ℕ) (floats : List Float) (level : LevelRecord) → (pack grid positions taken words floats).answered ≡ Ok level → P grid positions taken words floats level (pack grid positions taken words floats)
of_accepted P holds grid positions taken words floats level h =
    let a = packing_accepted grid positions taken words floats level h in
    subst (λ (l : LevelRecord). P grid positions taken words floats l (pack grid positions taken words floats)) a.2
    (subst (λ (outcome : PackOutcome). P grid positions taken words floats (level_record grid positions taken) outcome) (sym a.1) (holds grid positions taken words floats a.0))

pub record_told : RecordIsTold
record_told =
    of_accepted (λ grid positions taken words floats level outcome. RecordFacts grid positions taken (length words) (length floats) level) record_facts

pub parts_stand : PackedPartsStand
parts_stand = of_accepted (λ grid positions taken words floats level outcome. PartsStand grid positions level outcome.words outcome.floats) stands
