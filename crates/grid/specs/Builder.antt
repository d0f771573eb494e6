-- The builder's slices and its outcome, put together from the values that code has in hand. Definitions only.
use Rattle.std.specs.Prelude.{ℕ, List, Result}
use Rattle.refusal.specs.declared.Refusal.{Refusal}
use Rattle.grid.specs.declared.Built.{Built}
use Rattle.grid.specs.Grid.{GridSlices, BuildOutcome}

abbrev pub grid_slices : List ℕ → List ℕ → List ℕ → List ℕ → GridSlices
grid_slices cell_starts cell_ids triangle_starts triples = record { cell_starts = cell_starts; cell_ids = cell_ids; triangle_starts = triangle_starts; triples = triples }

abbrev pub build_outcome : Result Built Refusal → GridSlices → BuildOutcome
build_outcome answered slices = record { answered = answered; slices = slices }
