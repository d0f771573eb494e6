-- A mesh: positions (f64, three a vertex), and the neighbour lists as starts (u32, one a vertex and one more) and entries (u16). Definitions only.
use Rattle.std.specs.Prelude.{ℕ, ◌+◌, ◌*◌, ◌/◌, ◌≤◌, ◌<◌, List, length, get_or, Float}
use Rattle.std.specs.Float.{nan}
use Rattle.sequences.specs.Starts.{part}
use Rattle.vector.specs.declared.Vector3.{Vector3}
use Rattle.vector.specs.Vector.{vector}

-- Starts and entries are the neighbour lists as compressed sparse rows.
pub record Mesh : Type 0 where
  pub positions : List Float
  pub starts : List ℕ
  pub entries : List ℕ

-- How many vertices a list of positions is for. Nothing else carries the count.
abbrev pub vertex_count : List Float → ℕ
vertex_count positions = length positions / 3

abbrev pub count : Mesh → ℕ
count m = vertex_count m.positions

-- The position of the vertex v.
unfoldable pub position_of : List Float → ℕ → Vector3
position_of positions v = vector (get_or positions (v * 3) nan) (get_or positions (v * 3 + 1) nan) (get_or positions (v * 3 + 2) nan)

-- The neighbour list of the vertex v, in its stored order.
unfoldable pub neighbours : Mesh → ℕ → List ℕ
neighbours m v = part m.starts m.entries v

-- Starts and entries have a list of the vertex v: it begins no later than it ends, and ends within the entries.
pub record HasList (starts entries : List ℕ) (v : ℕ) : Type 0 where
  pub there : v + 1 < length starts
  pub ascends : get_or starts v 0 ≤ get_or starts (v + 1) 0
  pub within : get_or starts (v + 1) 0 ≤ length entries

-- Three lent slices as a mesh.
abbrev pub mesh_of : List Float → List ℕ → List ℕ → Mesh
mesh_of positions starts entries = record { positions = positions; starts = starts; entries = entries }
