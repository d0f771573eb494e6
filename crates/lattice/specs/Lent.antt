-- What the passes over a lattice's points ask of the slices that they are lent. Definitions only.
use Rattle.std.specs.Prelude.{◌≡◌, ℕ, ◌*◌, ◌≤◌, List, length, take}
use Rattle.icosahedron.specs.Slots.{slots_per_face}
use Rattle.lattice.specs.Lattice.{lattice_mesh, id_table}

-- The slice begins with the id table.
abbrev pub HoldsIdTable : ℕ → List ℕ → Type 0
HoldsIdTable n ids = (20 * slots_per_face n ≤ length ids) × (take (20 * slots_per_face n) ids ≡ id_table n)

-- The slice begins with the starts of the neighbour lists.
abbrev pub HoldsStarts : ℕ → List ℕ → Type 0
HoldsStarts n starts = (length (lattice_mesh n).starts ≤ length starts) × (take (length (lattice_mesh n).starts) starts ≡ (lattice_mesh n).starts)
