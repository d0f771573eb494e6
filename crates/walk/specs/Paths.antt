-- Paths over a family of lists: what a walk follows. Definitions only.
use Rattle.std.specs.Prelude.{ℕ, suc, List}
use mathlib.Core.List.{Memᴰ}

-- A path of so many steps from v: each step goes from a vertex to an id of its list.
pub data PathTo (lists : ℕ → List ℕ) (v : ℕ) : ℕ → ℕ → Type 0 where
  here : PathTo lists v v 0
  onward : {w x k : ℕ} → PathTo lists v w k → Memᴰ x (lists w) → PathTo lists v x (suc k)
