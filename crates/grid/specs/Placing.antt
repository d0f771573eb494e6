-- What a loop over the cells of a vertex knows of them. Definitions only.
use Rattle.std.specs.Prelude.{◌≡◌, ℕ, suc, ◌+◌, ◌*◌, ◌<◌, ◌≤◌, min, Bool, ◌&&◌, ℤ, pos, negsuc, nat_le, nat_lt}
use Rattle.vector.specs.declared.Vector3.{Vector3}
use Rattle.grid.specs.declared.placement.CellRange.{CellRange}
use Rattle.grid.specs.declared.placement.Placement.{Placement}
use Rattle.grid.specs.Cells.{near, breadth, placed_in}
use Rattle.grid.specs.Held.{held_on}

-- c lies from `first` up to `end`, which is not in the range.
abbrev pub within : ℕ → ℕ → ℕ → Bool
within first end c = nat_le first c && nat_lt c end

-- A whole number below 0 lies so many cells before the first one, 4 standing for all from 4 up: no margin reaches from there.
abbrev pub CellsBelow : ℤ → ℕ → Type 0
CellsBelow (pos k) below = Unit {0}
CellsBelow (negsuc k) below = below ≡ min (suc k) 4

-- The range holds exactly the cells of 0 to g - 1 that are near the whole number z.
pub record Near (margin g : ℕ) (z : ℤ) (range : CellRange) : Type 0 where
  pub ordered : range.start ≤ range.end
  pub inside : range.end ≤ g
  pub few : range.end ≤ range.start + breadth margin
  pub exact : (c : ℕ) → c < g → near margin z c ≡ within range.start range.end c

-- The rows and columns are exactly the cells of the face that the vertex v is placed in, its "surroundings inside the face"; and `held` counts its conversions there that were held at an end.
pub record Placed (margin g face : ℕ) (v : Vector3) (p : Placement) : Type 0 where
  pub rows_ordered : p.rows.start ≤ p.rows.end
  pub rows_inside : p.rows.end ≤ g
  pub rows_few : p.rows.end ≤ p.rows.start + breadth margin
  pub columns_ordered : p.columns.start ≤ p.columns.end
  pub columns_inside : p.columns.end ≤ g
  pub columns_few : p.columns.end ≤ p.columns.start + breadth margin
  pub exact : (i j : ℕ) → i < g → j < g → placed_in margin g (face * (g * g) + (i * g + j)) v ≡ (within p.rows.start p.rows.end i && within p.columns.start p.columns.end j)
  pub held_exact : p.held ≡ held_on g v face
