-- What a call leaves as it was: `accepted_leaves`, `refused_leaves`, `earlier_stays`, and for a list of calls `each_stands`. Assumes nothing.
use Rattle.std.proofs.Common.{◌≡◌, ℕ, zero, suc, ◌+◌, ◌*◌, ◌≤◌, List, [], ◌∷◌, length, ◌⊎◌, inl, inr, refl, sym, ap, subst, ◌∙◌, arith}
use Rattle.std.specs.Float.{Float}
use Rattle.std.specs.Prelude.{Result, Ok, Err}
use Rattle.refusal.specs.declared.Refusal.{Refusal}
use Rattle.grid.specs.Grid.{Grid}
use Rattle.packing.specs.declared.Taken.{Taken}
use Rattle.packing.specs.declared.LevelRecord.{LevelRecord}
use Rattle.packing.specs.Packing.{packed_words, packed_floats, overwrite_from, level_record, PackOutcome, pack_outcome, pack}
use Rattle.packing.specs.Laws.{StandsAt, PartsStand, OthersStay, AcceptedLeavesRest, RefusedLeavesAll, EndsWithin, EarlierGridStays, taken_after, pack_each, EachGridStands}
use Rattle.packing.proofs.Behind.{length_packed}
use Rattle.packing.proofs.Passed.{packable}
use Rattle.packing.proofs.Outcome.{rows, packed, refused, one_of_two}
use Rattle.packing.proofs.Parts.{kept_before, others_stay, length_floats}
use Rattle.packing.proofs.Record.{record_facts, of_accepted, record_told, parts_stand}

-- ---- one call
pub accepted_leaves : AcceptedLeavesRest
unfolding level_record
accepted_leaves =
    of_accepted (λ grid positions taken words floats level outcome. OthersStay taken.words (level.triples + length grid.triples) words outcome.words × OthersStay taken.floats (level.positions + level.vertices * 3) floats outcome.floats) rest
  where
    rest : (grid : Grid) (positions : List Float) (taken : Taken) (words : List ℕ) (floats : List Float) → rows grid positions taken words floats ≡ Ok tt →
        let level = level_record grid positions taken in
        OthersStay taken.words (level.triples + length grid.triples) words (packed grid positions taken words floats).words × OthersStay taken.floats (level.positions + level.vertices * 3) floats (packed grid positions taken words floats).floats
    rest grid positions taken words floats passed =
        let room = packable grid positions taken (length words) (length floats) passed in
        let facts = record_facts grid positions taken words floats passed in (
          others_stay taken.words (packed_words grid) words room.words_room _ (omega (arith, length_packed grid)),
          others_stay taken.floats (packed_floats positions) floats (omega (arith, room.floats_room, length_floats positions)) _ (omega (arith, facts.vertices_counted, length_floats positions)),
        )

pub refused_leaves : RefusedLeavesAll
refused_leaves grid positions taken words floats reason h =
    let same = (refused grid positions taken words floats reason h).1 in
    (ap (λ (outcome : PackOutcome). outcome.words) same, ap (λ (outcome : PackOutcome). outcome.floats) same)

module _ {A : Type 0} where
  -- a part that ends within the taken places stands after a write behind them
  part_stays : (part new old : List A) (offset taken : ℕ) → offset + length part ≤ taken → taken + length new ≤ length old → StandsAt part old offset → StandsAt part (overwrite_from taken new old) offset
  part_stays part new old offset taken within room h = kept_before taken new old room offset (length part) within ∙ h

module _ (earlier : Grid) (earlier_positions : List Float) (level : LevelRecord) where
  abbrev Stand : List ℕ → List Float → Type 0
  Stand words floats = PartsStand earlier earlier_positions level words floats

  earlier_call : (grid : Grid) (positions : List Float) (taken : Taken) (words : List ℕ) (floats : List Float) → EndsWithin earlier earlier_positions level taken → Stand words floats
      → Stand (pack grid positions taken words floats).words (pack grid positions taken words floats).floats
  earlier_call grid positions taken words floats within stand = go (one_of_two grid positions taken words floats)
    where
      go : ((rows grid positions taken words floats ≡ Ok tt) × (pack grid positions taken words floats ≡ packed grid positions taken words floats)) ⊎ ((reason : Refusal) × (pack grid positions taken words floats ≡ pack_outcome (Err reason) words floats))
          → Stand (pack grid positions taken words floats).words (pack grid positions taken words floats).floats
      go (inr e) = subst (λ (outcome : PackOutcome). Stand outcome.words outcome.floats) (sym e.1) stand
      go (inl e) =
          let room = packable grid positions taken (length words) (length floats) e.0 in
          let words_room = room.words_room in
          let floats_room : taken.floats + length (packed_floats positions) ≤ length floats = omega (arith, room.floats_room, length_floats positions) in
          let converted : level.positions + length (packed_floats earlier_positions) ≤ taken.floats = omega (arith, within.converted, length_floats earlier_positions) in
          subst (λ (outcome : PackOutcome). Stand outcome.words outcome.floats) (sym e.1) (record {
            cell_starts = part_stays _ _ words _ taken.words within.cell_starts words_room stand.cell_starts;
            cell_ids = part_stays _ _ words _ taken.words within.cell_ids words_room stand.cell_ids;
            triangle_starts = part_stays _ _ words _ taken.words within.triangle_starts words_room stand.triangle_starts;
            triples = part_stays _ _ words _ taken.words within.triples words_room stand.triples;
            converted = part_stays _ _ floats _ taken.floats converted floats_room stand.converted;
          })

pub earlier_stays : EarlierGridStays
earlier_stays earlier earlier_positions level grid positions taken words floats within stand = earlier_call earlier earlier_positions level grid positions taken words floats within stand

-- ---- a list of calls
-- what is taken never shrinks
taken_grows : (grid : Grid) (positions : List Float) (taken : Taken) (words : List ℕ) (floats : List Float) →
    let after = taken_after grid taken (pack grid positions taken words floats).answered in (taken.words ≤ after.words) × (taken.floats ≤ after.floats)
taken_grows grid positions taken words floats = go (pack grid positions taken words floats).answered refl
  where
    go : (a : Result LevelRecord Refusal) → (pack grid positions taken words floats).answered ≡ a → (taken.words ≤ (taken_after grid taken a).words) × (taken.floats ≤ (taken_after grid taken a).floats)
    go (Ok level) e = let facts = record_told grid positions taken words floats level e in (omega arith, omega arith)
    go (Err reason) e = (omega arith, omega arith)

-- and covers an accepted grid
accepted_within : (grid : Grid) (positions : List Float) (taken : Taken) (words : List ℕ) (floats : List Float) (level : LevelRecord) → (pack grid positions taken words floats).answered ≡ Ok level
    → EndsWithin grid positions level (taken_after grid taken (pack grid positions taken words floats).answered)
unfolding level_record
accepted_within grid positions taken words floats level h =
    subst (λ (a : Result LevelRecord Refusal). EndsWithin grid positions level (taken_after grid taken a)) (sym h)
    (of_accepted (λ grid positions taken words floats level outcome. EndsWithin grid positions level (taken_after grid taken (Ok level))) within grid positions taken words floats level h)
  where
    within : (grid : Grid) (positions : List Float) (taken : Taken) (words : List ℕ) (floats : List Float) → rows grid positions taken words floats ≡ Ok tt
        → EndsWithin grid positions (level_record grid positions taken) (taken_after grid taken (Ok (level_record grid positions taken)))
    within grid positions taken words floats passed =
        let facts = record_facts grid positions taken words floats passed in
        record { cell_starts = omega arith; cell_ids = omega arith; triangle_starts = omega arith; triples = omega arith; converted = omega (arith, facts.vertices_counted) }

module _ (earlier : Grid) (earlier_positions : List Float) (level : LevelRecord) where
  stays_under : (grids : List (Grid × List Float)) (taken : Taken) (words : List ℕ) (floats : List Float) → EndsWithin earlier earlier_positions level taken → PartsStand earlier earlier_positions level words floats
      → PartsStand earlier earlier_positions level (pack_each grids taken words floats).words (pack_each grids taken words floats).floats
  stays_under [] taken words floats within stand = stand
  stays_under (g ∷ gs) taken words floats within stand =
      let outcome = pack g.0 g.1 taken words floats in
      let grows = taken_grows g.0 g.1 taken words floats in
      stays_under gs (taken_after g.0 taken outcome.answered) outcome.words outcome.floats
      (record {
        cell_starts = omega (arith, within.cell_starts, grows.0);
        cell_ids = omega (arith, within.cell_ids, grows.0);
        triangle_starts = omega (arith, within.triangle_starts, grows.0);
        triples = omega (arith, within.triples, grows.0);
        converted = omega (arith, within.converted, grows.1);
      })
      (earlier_call earlier earlier_positions level g.0 g.1 taken words floats within stand)

pub each_stands : EachGridStands
each_stands [] taken words floats i g level at answer = absurd (let y : ⊥ = cc in y)
each_stands (first ∷ grids) taken words floats zero g level at answer =
    let outcome = pack first.0 first.1 taken words floats in
    let same : first ≡ g = cc in
    let told : outcome.answered ≡ Ok level = cc in
    subst (λ (h : Grid × List Float). PartsStand h.0 h.1 level (pack_each (first ∷ grids) taken words floats).words (pack_each (first ∷ grids) taken words floats).floats) same
    (stays_under first.0 first.1 level grids (taken_after first.0 taken outcome.answered) outcome.words outcome.floats (accepted_within first.0 first.1 taken words floats level told) (parts_stand first.0 first.1 taken words floats level told))
each_stands (first ∷ grids) taken words floats (suc i) g level at answer =
    let outcome = pack first.0 first.1 taken words floats in
    each_stands grids (taken_after first.0 taken outcome.answered) outcome.words outcome.floats i g level at answer
