-- What the rows of a packing tell as facts: the numbers of its level record fit 32 bits, and there is room in both slices. Definitions only.
use Rattle.std.specs.Prelude.{ℕ, ◌+◌, ◌≤◌, List, length, Float}
use Rattle.mesh.specs.Mesh.{vertex_count}
use Rattle.mesh.specs.Rows.{greatest_count}
use Rattle.grid.specs.Grid.{Grid}
use Rattle.grid.specs.Passes.{greatest_side}
use Rattle.packing.specs.declared.Taken.{Taken}
use Rattle.packing.specs.Packing.{packed_words, greatest_offset, level_record}

-- No offset of words is above that of the triples.
pub record RecordFits (grid : Grid) (positions : List Float) (taken : Taken) : Type 0 where
  pub few : vertex_count positions ≤ greatest_count
  pub low : grid.side ≤ greatest_side
  pub words : (level_record grid positions taken).triples ≤ greatest_offset
  pub floats : taken.floats ≤ greatest_offset

pub record Packable (grid : Grid) (positions : List Float) (taken : Taken) (words floats : ℕ) : Type 0 where
  pub record_fits : RecordFits grid positions taken
  pub words_room : taken.words + length (packed_words grid) ≤ words
  pub floats_room : taken.floats + length positions ≤ floats
