-- Every lattice of a frequency from 1 to 80 passes rows 2 to 4, the mesh rows of the walk, the renumbering and the reading call (`lattice_rows`), and row 5 too, so the builder's (`lattice_mesh_rows`). Assumes nothing.
use Rattle.std.proofs.Common.{◌≡◌, ℕ, suc, ◌-◌, ◌*◌, ◌<◌, ◌≤◌, Bool, true, false, cond, length, get_or, sym, ap, ◌∙◌, subst, mul-le-mul, arith, Ok}
use lib.Ieee.Bits.{is_true}
use Rattle.sequences.specs.Starts.{CompressedRows}
use Rattle.sequences.proofs.Tabulate.{get_d_member}
use Rattle.sequences.proofs.Starts.{compressed_rows, concatenate_member, starts_at, start_suc}
use Rattle.refusal.specs.Refusal.{Verdict}
use Rattle.vector.specs.Direction.{admissible}
use Rattle.mesh.specs.Rows.{longest_list, adjacency_rows, mesh_rows}
use Rattle.mesh.proofs.Facts.{AdjacencyFacts, adjacency_passed, mesh_passed}
use Rattle.lattice.specs.Lattice.{lattice_vertices, lattice_list, lattice_mesh}
use Rattle.lattice.specs.Appearances.{is_corner}
use Rattle.lattice.proofs.Vertices.{vertex_at, vertex_on_lattice}
use Rattle.lattice.proofs.Counts.{lattice_vertex_count_lem}
use Rattle.lattice.proofs.Neighbours.{length_positions, mesh_count, mesh_position, list_member}
use Rattle.lattice.proofs.ListLengths.{lattice_list_length}
use Rattle.lattice.proofs.Positions.{position_admissible}

-- "n = 80 gives 64,002": a count fits in 65,536, and so its ids in u16
pub vertex_count_bounds : (n : ℕ) → 1 ≤ n → n ≤ 80 → (1 ≤ length (lattice_vertices n)) × (length (lattice_vertices n) ≤ 64002)
vertex_count_bounds n lo hi =
    let c = lattice_vertex_count_lem n lo in
    let s : n * n ≤ 80 * 80 = mul-le-mul hi hi in
    (omega arith, omega arith)

module _ (n : ℕ) (lo : 1 ≤ n) where
  -- an id that a list names is below the count
  pub lattice_entry_below : (i : ℕ) → i < length (lattice_mesh n).entries → get_or (lattice_mesh n).entries i 0 < length (lattice_vertices n)
  unfolding lattice_mesh
  lattice_entry_below i lt =
      let r = concatenate_member (length (lattice_vertices n)) (lattice_list n) _ (get_d_member (lattice_mesh n).entries i 0 lt) in
      (list_member n r.0 _ r.1 r.2).0

  list_short : (v : ℕ) → v < length (lattice_vertices n) → length (lattice_list n v) ≤ 32
  list_short v lt = rw (lattice_list_length n v lo lt) (short (is_corner n (vertex_at n v)))
    where
      short : (b : Bool) → cond b 5 6 ≤ 32
      short true = omega arith
      short false = omega arith

  -- a start is below the next by the length of a list
  lists_limited_lem : (v : ℕ) → v < length (lattice_vertices n) → get_or (lattice_mesh n).starts (suc v) 0 - get_or (lattice_mesh n).starts v 0 ≤ longest_list
  unfolding lattice_mesh
  lists_limited_lem v lt =
      let here = starts_at (length (lattice_vertices n)) (lattice_list n) v (omega arith) in
      let next = starts_at (length (lattice_vertices n)) (lattice_list n) (suc v) (omega arith) in
      let step = start_suc (lattice_list n) v in
      let short = list_short v lt in
      omega arith

  compressed : CompressedRows (length (lattice_vertices n)) (lattice_mesh n).starts (lattice_mesh n).entries
  unfolding lattice_mesh
  compressed = compressed_rows (length (lattice_vertices n)) (lattice_list n)

  module _ (hi : n ≤ 80) where
    adjacency : AdjacencyFacts (lattice_mesh n)
    adjacency =
        let bounds = vertex_count_bounds n lo hi in
        let same = mesh_count n in
        record {
          three_each = length_positions n ∙ ap (λ (k : ℕ). k * 3) (sym same);
          some = omega (arith, bounds.0);
          few = omega (arith, bounds.1);
          rows = subst (λ (k : ℕ). CompressedRows k (lattice_mesh n).starts (lattice_mesh n).entries) (sym same) compressed;
          limited = λ v lt. lists_limited_lem v (rw same at lt);
          ids_below_lem = λ i lt. rw same (lattice_entry_below i lt);
        }

    -- rows 2 to 4
    pub lattice_rows : ◌≡◌ {A = Verdict} (adjacency_rows (lattice_mesh n)) (Ok tt)
    lattice_rows = adjacency_passed (lattice_mesh n) adjacency

    -- rows 2 to 5
    pub lattice_mesh_rows : ◌≡◌ {A = Verdict} (mesh_rows (lattice_mesh n)) (Ok tt)
    lattice_mesh_rows = mesh_passed (lattice_mesh n) (record {
      adjacency = adjacency;
      admissible_positions = λ v lt.
          ap admissible (mesh_position n v lt) ∙ is_true _ (position_admissible n (vertex_at n v) lo hi (vertex_on_lattice n v (rw (mesh_count n) at lt)));
    })
