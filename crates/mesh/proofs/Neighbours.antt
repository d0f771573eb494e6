-- Laws of the neighbour lists of a mesh that rows 2 to 4 let pass; `has_list` where starts and entries are compressed rows. Assumes nothing.
use Prim.Native.Nat.{ℕ, suc, ◌+◌, ◌-◌, ◌≤◌, ◌<◌}
use native.Mathlib.Omega.{arith}
use native.Mathlib.Numerals.{add-one}
use mathlib.Core.Path.{◌≡◌}
use mathlib.Core.List.{List, Memᴰ}
use lib.ListN.{length, get_or}
use Rattle.sequences.specs.Starts.{concatenate, CompressedRows}
use Rattle.sequences.proofs.Tabulate.{member_get_d}
use Rattle.sequences.proofs.Starts.{part_length, part_member, rows_entries, rows_within}
use Rattle.mesh.specs.Mesh.{Mesh, count, neighbours, HasList}
use Rattle.mesh.specs.Rows.{longest_list}
use Rattle.mesh.proofs.Facts.{AdjacencyFacts}

-- compressed rows have a list of each vertex
pub has_list : {n : ℕ} {starts entries : List ℕ} → CompressedRows n starts entries → (v : ℕ) → v < n → HasList starts entries v
has_list {n} {starts} {entries} rows v lt = record { there = omega (arith, rows.size); ascends = rw add-one (rows.ascend v lt); within = rows_within n starts entries rows (v + 1) (omega arith) }

module _ (m : Mesh) (facts : AdjacencyFacts m) where
  -- every neighbour is a vertex
  pub neighbour_below : (v x : ℕ) → Memᴰ x (neighbours m v) → x < count m
  unfolding neighbours
  neighbour_below v x h =
      let place = member_get_d x m.entries 0 (part_member m.starts m.entries v x h) in
      rw place.2 at (facts.ids_below_lem place.0 place.1)

  pub neighbours_length : (v : ℕ) → v < count m → length (neighbours m v) ≡ get_or m.starts (suc v) 0 - get_or m.starts v 0
  unfolding neighbours
  neighbours_length v lt = part_length (count m) m.starts m.entries facts.rows v lt

  pub neighbours_limited : (v : ℕ) → v < count m → length (neighbours m v) ≤ longest_list
  neighbours_limited v lt = omega (arith, neighbours_length v lt, facts.limited v lt)

  pub entries_of_neighbours : concatenate (count m) (neighbours m) ≡ m.entries
  unfolding neighbours
  entries_of_neighbours = rows_entries (count m) m.starts m.entries facts.rows 0
