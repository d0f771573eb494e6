-- What is proved of every analytic query. Definitions only.
use Rattle.std.specs.Prelude.{◌≡◌, ℕ, ◌<◌, List, Ok}
use Rattle.vector.specs.declared.Vector3.{Vector3}
use Rattle.vector.specs.declared.Triple.{Triple}
use Rattle.icosahedron.specs.Slots.{lattice_vertex_count}
use Rattle.analytic.specs.declared.Located.{Located}
use Rattle.analytic.specs.Location.{analytic_locate, analytic_nearest}

-- The three ids of a triple are below a bound.
pub record TripleBelow (bound : ℕ) (t : Triple) : Type 0 where
  pub first_below : t.first < bound
  pub second_below : t.second < bound
  pub third_below : t.third < bound

-- The ids of a located triangle are ids of the lattice, whatever the lent table holds.
abbrev pub LocatesBelowCount : Type 0
LocatesBelowCount = (n : ℕ) (ids : List ℕ) (p : Vector3) (l : Located) → analytic_locate n ids p ≡ Ok l → TripleBelow (lattice_vertex_count n) l.triple

-- And so is the nearest vertex.
abbrev pub NearestIsBelowCount : Type 0
NearestIsBelowCount = (n : ℕ) (ids : List ℕ) (p : Vector3) (vertex : ℕ) → analytic_nearest n ids p ≡ Ok vertex → vertex < lattice_vertex_count n
