-- What may be asked of neighbour lists beyond the rows. Definitions only.
use Rattle.std.specs.Prelude.{ℕ, ◌<◌, ◌↔◌}
use mathlib.Core.List.{Memᴰ}
use Rattle.sequences.specs.Ascending.{Distinct}
use Rattle.mesh.specs.Mesh.{Mesh, count, neighbours}

-- Neighbours are mutual: w stands in v's list exactly where v stands in that of w.
abbrev pub Mutual : Mesh → Type 0
Mutual m = (v w : ℕ) → v < count m → w < count m → Memᴰ w (neighbours m v) ↔ Memᴰ v (neighbours m w)

-- No vertex stands in its own list.
abbrev pub NoOwnVertex : Mesh → Type 0
NoOwnVertex m = (v : ℕ) → v < count m → Memᴰ v (neighbours m v) → ⊥

-- No list names a vertex twice.
abbrev pub NoRepeat : Mesh → Type 0
NoRepeat m = (v : ℕ) → v < count m → Distinct (neighbours m v)
