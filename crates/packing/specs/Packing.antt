-- A grid packed behind what is taken of two slices: which words and floats are written, where they stand, and the whole outcome of a call. Definitions only.
use Rattle.std.specs.Prelude.{ℕ, ◌+◌, ◌-◌, ◌^◌, Bool, ◌&&◌, List, ◌++◌, map, length, take, drop, nat_le, Float, Result, Ok, Err}
use Rattle.std.specs.Float.{binary32}
use Rattle.sequences.specs.Tabulate.{overwrite}
use Rattle.binary32.specs.Convert.{convert_format}
use Rattle.refusal.specs.declared.Refusal.{Refusal}
use Rattle.refusal.specs.declared.Refusal.TheVariants.{Id, Position, Room}
use Rattle.refusal.specs.Refusal.{Verdict, row, then, answer}
use Rattle.mesh.specs.Mesh.{vertex_count}
use Rattle.mesh.specs.Rows.{ids_below, positions_admissible}
use Rattle.grid.specs.Grid.{Grid}
use Rattle.grid.specs.Stored.{stored_rows, whole_starts_rows}
use Rattle.packing.specs.declared.Taken.{Taken}
use Rattle.packing.specs.declared.LevelRecord.{LevelRecord}

abbrev pub taken_with : ℕ → ℕ → Taken
taken_with words floats = record { words = words; floats = floats }

-- ---- what is written, and where
-- Words: cell starts, cell ids, triangle starts and triples, one behind another, each number as it is.
unfoldable pub packed_words : Grid → List ℕ
packed_words grid = grid.cell_starts ++ (grid.cell_ids ++ (grid.triangle_starts ++ grid.triples))

-- Floats: each coordinate, converted to binary32 (IEEE 754-2019, 5.4.2), to nearest, ties to even (4.3.1).
unfoldable pub packed_floats : List Float → List Float
packed_floats positions = map (convert_format binary32) positions

-- A slice after a list was written behind its taken places: those before it and behind it are as they were.
unfoldable pub overwrite_from : {A : Type 0} → ℕ → List A → List A → List A
overwrite_from taken new old = take taken old ++ overwrite new (drop taken old)

-- The level record: how many vertices, the side, and where each part begins, the lists counted in words and the positions in floats.
unfoldable pub level_record : Grid → List Float → Taken → LevelRecord
level_record grid positions taken = record {
  vertices = vertex_count positions;
  side = grid.side;
  cell_starts = taken.words;
  cell_ids = taken.words + length grid.cell_starts;
  triangle_starts = taken.words + length grid.cell_starts + length grid.cell_ids;
  triples = taken.words + length grid.cell_starts + length grid.cell_ids + length grid.triangle_starts;
  positions = taken.floats;
}

-- ---- rows
-- Row 4 reads all ids, those of the cells before the triples. Row 5 reads all positions.
unfoldable pub id_rows : Grid → List Float → Verdict
id_rows grid positions =
    row (ids_below (vertex_count positions) grid.cell_ids) Id
    (row (ids_below (vertex_count positions) grid.triples) Id
    (row (positions_admissible positions) Position (Ok tt)))

-- Row 8 asks of each slice for so many places behind the taken ones. A count of taken places past the slice leaves none, not even for nothing.
unfoldable pub has_places : ℕ → ℕ → ℕ → Bool
has_places taken wanted places = nat_le taken places && nat_le wanted (places - taken)

-- It asks too that the record can tell each offset, in 32 bits. Where the last list ends is no offset.
abbrev pub greatest_offset : ℕ
greatest_offset = 2 ^ 32 - 1

unfoldable pub offsets_fit : LevelRecord → Bool
offsets_fit level =
    nat_le level.cell_starts greatest_offset && (nat_le level.cell_ids greatest_offset && (nat_le level.triangle_starts greatest_offset
    && (nat_le level.triples greatest_offset && nat_le level.positions greatest_offset)))

-- Row 8 whole, over the lengths of the two slices.
unfoldable pub room_for : Grid → List Float → Taken → ℕ → ℕ → Bool
room_for grid positions taken words floats =
    has_places taken.words (length (packed_words grid)) words && (has_places taken.floats (length positions) floats && offsets_fit (level_record grid positions taken))

-- Rows 2, 19, 20, 2 and 3 as of every stored grid; 17 and 18 of both start lists; 4 and 5; 8. No list has to be short.
unfoldable pub packing_rows : Grid → List Float → Taken → ℕ → ℕ → Verdict
packing_rows grid positions taken words floats =
    then (stored_rows grid positions (Ok tt))
    (then (whole_starts_rows grid positions)
    (then (id_rows grid positions)
    (row (room_for grid positions taken words floats) Room (Ok tt))))

-- ---- the whole outcome of a call: its answer, and both slices at exit
pub record PackOutcome : Type 0 where
  pub answered : Result LevelRecord Refusal
  pub words : List ℕ
  pub floats : List Float

abbrev pub pack_outcome : Result LevelRecord Refusal → List ℕ → List Float → PackOutcome
pack_outcome answered words floats = record { answered = answered; words = words; floats = floats }

-- A refusal leaves both slices.
unfoldable pub pack : Grid → List Float → Taken → List ℕ → List Float → PackOutcome
pack grid positions taken words floats =
    answer (packing_rows grid positions taken (length words) (length floats)) (λ reason. pack_outcome (Err reason) words floats)
    (pack_outcome (Ok (level_record grid positions taken)) (overwrite_from taken.words (packed_words grid) words) (overwrite_from taken.floats (packed_floats positions) floats))
