-- This crate's theorems: what stands where after a call, what stays as it was, and what record and refusal tell. Definitions only.
use Rattle.std.specs.Prelude.{ℕ, suc, ◌+◌, ◌*◌, ◌^◌, ◌≤◌, ◌<◌, ◌≡◌, ◌≢◌, ◌⊎◌, if◌then◌else◌, IsTrue, List, [], ◌∷◌, length, take, drop, slice_get, All, Float, Some, None, Result, Ok, Err}
use Rattle.std.specs.Float.{binary32}
use Rattle.std.specs.Float.Ieee.Scale.{finite}
use Rattle.binary32.specs.Convert.{convert_format}
use Rattle.refusal.specs.declared.Refusal.{Refusal}
use Rattle.refusal.specs.declared.Refusal.TheVariants.{Room}
use Rattle.refusal.specs.Refusal.{number_of, index_of}
use Rattle.vector.specs.declared.Vector3.{Vector3}
use Rattle.vector.specs.Direction.{admissible}
use Rattle.mesh.specs.Mesh.{Mesh, count}
use Rattle.mesh.specs.Rows.{greatest_count, falling_start}
use Rattle.mesh.specs.Laws.{FirstFall}
use Rattle.grid.specs.Cells.{cell_count}
use Rattle.grid.specs.declared.settings.Settings.{Settings}
use Rattle.grid.specs.Grid.{Grid, GridSlices, built, build_grid, cut}
use Rattle.packing.specs.declared.Taken.{Taken}
use Rattle.packing.specs.declared.LevelRecord.{LevelRecord}
use Rattle.packing.specs.Packing.{taken_with, packed_floats, level_record, room_for, pack}

-- ---- an accepted call
-- A part stands whole in a slice, at an offset.
abbrev pub StandsAt : {A : Type 0} → List A → List A → ℕ → Type 0
StandsAt part slice offset = take (length part) (drop offset slice) ≡ part

-- A grid's four lists and its converted positions stand where the record tells.
pub record PartsStand (grid : Grid) (positions : List Float) (level : LevelRecord) (words : List ℕ) (floats : List Float) : Type 0 where
  pub cell_starts : StandsAt grid.cell_starts words level.cell_starts
  pub cell_ids : StandsAt grid.cell_ids words level.cell_ids
  pub triangle_starts : StandsAt grid.triangle_starts words level.triangle_starts
  pub triples : StandsAt grid.triples words level.triples
  pub converted : StandsAt (packed_floats positions) floats level.positions

abbrev pub PackedPartsStand : Type 0
PackedPartsStand = (grid : Grid) (positions : List Float) (taken : Taken) (words : List ℕ) (floats : List Float) (level : LevelRecord) →
    let outcome = pack grid positions taken words floats in outcome.answered ≡ Ok level → PartsStand grid positions level outcome.words outcome.floats

-- The record's numbers, each offset behind the part before it and within 32 bits. The next grid goes behind the triples and behind the positions, to where both slices reach.
pub record RecordFacts (grid : Grid) (positions : List Float) (taken : Taken) (words floats : ℕ) (level : LevelRecord) : Type 0 where
  pub vertices_counted : level.vertices * 3 ≡ length positions
  pub some_vertices : 1 ≤ level.vertices
  pub few_vertices : level.vertices ≤ greatest_count
  pub of_grid : level.side ≡ grid.side
  pub cell_starts_at : level.cell_starts ≡ taken.words
  pub cell_ids_at : level.cell_ids ≡ level.cell_starts + suc (cell_count level.side)
  pub triangle_starts_at : level.triangle_starts ≡ level.cell_ids + length grid.cell_ids
  pub triples_at : level.triples ≡ level.triangle_starts + suc level.vertices
  pub positions_at : level.positions ≡ taken.floats
  pub cell_starts_in_32_bits : level.cell_starts < 2 ^ 32
  pub cell_ids_in_32_bits : level.cell_ids < 2 ^ 32
  pub triangle_starts_in_32_bits : level.triangle_starts < 2 ^ 32
  pub triples_in_32_bits : level.triples < 2 ^ 32
  pub positions_in_32_bits : level.positions < 2 ^ 32
  pub words_reach : level.triples + length grid.triples ≤ words
  pub floats_reach : level.positions + level.vertices * 3 ≤ floats

abbrev pub RecordIsTold : Type 0
RecordIsTold = (grid : Grid) (positions : List Float) (taken : Taken) (words : List ℕ) (floats : List Float) (level : LevelRecord)
    → (pack grid positions taken words floats).answered ≡ Ok level → RecordFacts grid positions taken (length words) (length floats) level

-- Every id among the packed cells and triples is one of a vertex.
abbrev pub PackedIdsAreBelow : Type 0
PackedIdsAreBelow = (grid : Grid) (positions : List Float) (taken : Taken) (words : List ℕ) (floats : List Float) (level : LevelRecord) →
    let outcome = pack grid positions taken words floats in outcome.answered ≡ Ok level
    → All (λ id. id < level.vertices) (take (length grid.cell_ids) (drop level.cell_ids outcome.words)) × All (λ id. id < level.vertices) (take (length grid.triples) (drop level.triples outcome.words))

-- The components of a position that row 5 lets pass stay finite in binary32 (IEEE 754-2019, 5.7.2).
abbrev pub AdmissibleStaysFinite : Type 0
AdmissibleStaysFinite = (v : Vector3) → IsTrue (admissible v)
    → IsTrue (finite (convert_format binary32 v.x)) × IsTrue (finite (convert_format binary32 v.y)) × IsTrue (finite (convert_format binary32 v.z))

-- So every packed float is: no infinity, and no NaN.
abbrev pub PackedIsFinite : Type 0
PackedIsFinite = (grid : Grid) (positions : List Float) (taken : Taken) (words : List ℕ) (floats : List Float) (level : LevelRecord) →
    let outcome = pack grid positions taken words floats in outcome.answered ≡ Ok level → All (λ x. IsTrue (finite x)) (take (level.vertices * 3) (drop level.positions outcome.floats))

-- A grid that the builder made, its slices cut to the grid's lengths, is packed beside its mesh's positions wherever there is room: no other row refuses it.
abbrev pub BuiltGridIsPacked : Type 0
BuiltGridIsPacked = (m : Mesh) (settings : Settings) (lent : GridSlices) (g held : ℕ) (taken : Taken) (words : List ℕ) (floats : List Float) →
    let grid = cut settings (count m) g (build_grid m settings lent).slices in (build_grid m settings lent).answered ≡ Ok (built g held)
    → (pack grid m.positions taken words floats).answered ≡ (if room_for grid m.positions taken (length words) (length floats) then Ok (level_record grid m.positions taken) else Err Room)

-- ---- what stays as it was
-- A slice that was written from one place to another: its length and all its other places stay.
pub record OthersStay {A : Type 0} (from to : ℕ) (old new : List A) : Type 0 where
  pub same_length : length new ≡ length old
  pub before : take from new ≡ take from old
  pub behind : drop to new ≡ drop to old

-- An accepted call writes the places behind the taken ones, up to the end of triples and of positions.
abbrev pub AcceptedLeavesRest : Type 0
AcceptedLeavesRest = (grid : Grid) (positions : List Float) (taken : Taken) (words : List ℕ) (floats : List Float) (level : LevelRecord) →
    let outcome = pack grid positions taken words floats in outcome.answered ≡ Ok level
    → OthersStay taken.words (level.triples + length grid.triples) words outcome.words × OthersStay taken.floats (level.positions + level.vertices * 3) floats outcome.floats

-- A refused call writes nothing.
abbrev pub RefusedLeavesAll : Type 0
RefusedLeavesAll = (grid : Grid) (positions : List Float) (taken : Taken) (words : List ℕ) (floats : List Float) (reason : Refusal) →
    let outcome = pack grid positions taken words floats in outcome.answered ≡ Err reason → (outcome.words ≡ words) × (outcome.floats ≡ floats)

-- The parts of a grid end within the taken places.
pub record EndsWithin (grid : Grid) (positions : List Float) (level : LevelRecord) (taken : Taken) : Type 0 where
  pub cell_starts : level.cell_starts + length grid.cell_starts ≤ taken.words
  pub cell_ids : level.cell_ids + length grid.cell_ids ≤ taken.words
  pub triangle_starts : level.triangle_starts + length grid.triangle_starts ≤ taken.words
  pub triples : level.triples + length grid.triples ≤ taken.words
  pub converted : level.positions + length positions ≤ taken.floats

-- Then they stand after a further call, accepted or refused, where they stood before it.
abbrev pub EarlierGridStays : Type 0
EarlierGridStays = (earlier : Grid) (earlier_positions : List Float) (level : LevelRecord) (grid : Grid) (positions : List Float) (taken : Taken) (words : List ℕ) (floats : List Float) →
    let outcome = pack grid positions taken words floats in
    EndsWithin earlier earlier_positions level taken → PartsStand earlier earlier_positions level words floats → PartsStand earlier earlier_positions level outcome.words outcome.floats

-- ---- a list of grids, each beside its positions and packed behind the last
-- What is taken after a call: the places up to the end of an accepted grid are.
abbrev pub taken_after : Grid → Taken → Result LevelRecord Refusal → Taken
taken_after grid taken (Ok level) = taken_with (level.triples + length grid.triples) (level.positions + level.vertices * 3)
taken_after grid taken (Err reason) = taken

pub record EachOutcome : Type 0 where
  pub answers : List (Result LevelRecord Refusal)
  pub words : List ℕ
  pub floats : List Float

abbrev pub each_outcome : List (Result LevelRecord Refusal) → List ℕ → List Float → EachOutcome
each_outcome answers words floats = record { answers = answers; words = words; floats = floats }

abbrev pub pack_each : List (Grid × List Float) → Taken → List ℕ → List Float → EachOutcome
pack_each [] taken words floats = each_outcome [] words floats
pack_each (g ∷ gs) taken words floats =
    let outcome = pack g.0 g.1 taken words floats in
    let rest = pack_each gs (taken_after g.0 taken outcome.answered) outcome.words outcome.floats in
    each_outcome (outcome.answered ∷ rest.answers) rest.words rest.floats

-- After all calls every grid that was accepted stands at its own record, whatever came behind it.
abbrev pub EachGridStands : Type 0
EachGridStands = (grids : List (Grid × List Float)) (taken : Taken) (words : List ℕ) (floats : List Float) (i : ℕ) (g : Grid × List Float) (level : LevelRecord) →
    let outcome = pack_each grids taken words floats in
    slice_get grids i ≡ Some g → slice_get outcome.answers i ≡ Some (Ok level) → PartsStand g.0 g.1 level outcome.words outcome.floats

-- ---- a refused call
-- The index of row 18: that of the first fall of the cell starts or, where none of these falls, of the triangle starts.
abbrev pub FallIsTold : Grid → ℕ → Type 0
FallIsTold grid index = FirstFall grid.cell_starts index ⊎ ((falling_start grid.cell_starts ≡ None) × FirstFall grid.triangle_starts index)

-- Every other refusal has the index 0.
abbrev pub PackingIndex : Grid → Refusal → Type 0
PackingIndex grid reason = ((number_of reason ≡ 18) × FallIsTold grid (index_of reason)) ⊎ ((number_of reason ≢ 18) × (index_of reason ≡ 0))

abbrev pub PackingIndexIsTold : Type 0
PackingIndexIsTold = (grid : Grid) (positions : List Float) (taken : Taken) (words : List ℕ) (floats : List Float) (reason : Refusal)
    → (pack grid positions taken words floats).answered ≡ Err reason → PackingIndex grid reason
