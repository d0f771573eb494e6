-- What the functions of this crate write, and what they list. Definitions only.
use Rattle.std.specs.Prelude.{ℕ, ◌+◌, ◌≤◌, ◌≡◌, List, ◌++◌, length}
use Rattle.arrayvec.specs.ArrayVec.{ArrayVec, array_vec_len}
use Rattle.lattice.specs.Lattice.{lattice_mesh}

-- A text fits behind the lines.
abbrev pub HasRoom : ArrayVec ℕ → List ℕ → Type 0
HasRoom lines text = array_vec_len lines + length text ≤ 16384

-- A text was written behind the lines.
pub record Written (before : ArrayVec ℕ) (text : List ℕ) (after : ArrayVec ℕ) : Type 0 where
  pub items : after.items ≡ before.items ++ text
  pub len : array_vec_len after ≡ array_vec_len before + length text

-- The neighbour lists of a lattice that can be listed: "N one digit from 1 to 4".
pub record LatticeRows (n : ℕ) (starts entries : List ℕ) : Type 0 where
  pub least : 1 ≤ n
  pub greatest : n ≤ 4
  pub starts_are : starts ≡ (lattice_mesh n).starts
  pub entries_are : entries ≡ (lattice_mesh n).entries
