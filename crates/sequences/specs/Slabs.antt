-- A list cut into whole slabs of one width, each replaced, and the tail, which stays as it is. Definitions only.
use Rattle.std.specs.Prelude.{ℕ, ◌/◌, List, length}
use Rattle.sequences.specs.Tabulate.{block, overwrite}
use Rattle.sequences.specs.Starts.{concatenate}

module _ {A : Type 0} where
  -- each whole slab of the width w becomes what `change` makes of it
  unfoldable pub map_slabs : ℕ → (List A → List A) → List A → A → List A
  map_slabs w change l d = overwrite (concatenate (length l / w) (λ s. change (block w l d s))) l
