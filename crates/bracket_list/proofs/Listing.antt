-- The listing of a lattice of frequency 1 to 4: it is what the lines make of the mesh and its walk, and it is at most 16,384 bytes long. Assumes nothing.
use Prim.Native.Nat.{ℕ, zero, suc, ◌+◌, ◌-◌, ◌*◌, ◌≤◌, ◌<◌}
use native.Mathlib.Nat.{mul-le-mul}
use native.Mathlib.Omega.{arith}
use mathlib.Core.Path.{◌≡◌, ap, ◌∙◌}
use mathlib.Core.List.{List, ◌++◌}
use lib.ListN.{length, take, get_or, length-append}
use Rattle.sequences.specs.Starts.{part, CompressedRows}
use Rattle.sequences.proofs.Starts.{part_length}
use Rattle.sequences.proofs.Tabulate.{take_overwrite}
use Rattle.std.specs.Prelude.{Ok}
use Rattle.mesh.specs.Mesh.{Mesh, count, neighbours, HasList}
use Rattle.mesh.specs.Rows.{adjacency_rows}
use Rattle.mesh.proofs.Neighbours.{has_list}
use Rattle.mesh.proofs.Facts.{adjacency_facts}
use Rattle.walk.specs.declared.Reach.{Reach}
use Rattle.walk.specs.Walk.{breadth_first}
use Rattle.walk.specs.Buffers.{Walkable, Traversed}
use Rattle.walk.proofs.Queue.{ids_at_most, holding_at_most}
use Rattle.walk.proofs.Theorems.{queue_ids}
use Rattle.walk.proofs.Outcome.{mesh_walkable}
use Rattle.lattice.specs.Lattice.{lattice_mesh}
use Rattle.lattice.proofs.Counts.{lattice_vertex_count_lem}
use Rattle.lattice.proofs.Neighbours.{mesh_count}
use Rattle.lattice.proofs.ListLengths.{lattice_entry_count}
use Rattle.lattice.proofs.Rows.{lattice_rows}
use Rattle.bracket_list.specs.LatticeList.{head_line, vertex_lines, walk_line, listing, mesh_listing}
use Rattle.bracket_list.specs.Output.{LatticeRows}
use Rattle.bracket_list.proofs.Numerals.{length_decimal}
use Rattle.bracket_list.proofs.Spaces.{length_spaced}
use Rattle.bracket_list.proofs.Lines.{vertex_size, walk_size, head_size, vertices_none, vertices_suc, listing_pieces, listing_size}

-- ---- how long a listing is, with ten digits for each number

vertices_limit : (n : ℕ) (starts entries : List ℕ) → CompressedRows n starts entries → (v : ℕ) → v ≤ n → length (vertex_lines v (part starts entries)) ≤ 18 * v + 11 * get_or starts v 0
vertices_limit n starts entries rows zero le = rw (vertices_none (part starts entries)) (omega arith)
vertices_limit n starts entries rows (suc v) le =
    let before = vertices_limit n starts entries rows v (omega arith) in
    let list = part starts entries v in
    omega (
      arith,
      simp length-append at (ap length (vertices_suc (part starts entries) v)),
      vertex_size v list,
      length_decimal v,
      length_spaced list,
      part_length n starts entries rows v le,
      rows.ascend v le,
    )

listing_limit : (f n : ℕ) (starts entries queue : List ℕ) → CompressedRows n starts entries
    → length (listing f n (length entries) (part starts entries) queue) ≤ 86 + 18 * n + 11 * length entries + 11 * length queue
listing_limit f n starts entries queue rows =
    omega (
      arith,
      listing_size f n (length entries) (part starts entries) queue,
      head_size f n (length entries),
      length_decimal f,
      length_decimal n,
      length_decimal (length entries),
      vertices_limit n starts entries rows n (omega arith),
      rows.last,
      walk_size queue,
      length_spaced queue,
    )

-- ---- the lattices that can be listed

pub record Listable (n : ℕ) : Type 0 where
  pub passed : adjacency_rows (lattice_mesh n) ≡ Ok tt
  pub starts_size : length (lattice_mesh n).starts ≡ suc (count (lattice_mesh n))
  pub vertices : count (lattice_mesh n) ≤ 162
  pub entries : length (lattice_mesh n).entries ≤ 960

pub listable : (n : ℕ) → 1 ≤ n → n ≤ 4 → Listable n
listable n lo hi =
    let passed = lattice_rows n lo (omega arith) in
    let facts = adjacency_facts (lattice_mesh n) passed in
    let square : n * n ≤ 4 * 4 = mul-le-mul hi hi in
    record {
      passed = passed;
      starts_size = facts.rows.size;
      vertices = omega (arith, mesh_count n, lattice_vertex_count_lem n lo);
      entries = omega (arith, lattice_entry_count n lo);
    }

-- the front of the queue that the walk leaves
queue_front : {n : ℕ} {lists : ℕ → List ℕ} {old : List ℕ} {reach : Reach} {order queue : List ℕ} → Traversed n lists old reach order queue → take reach.vertices queue ≡ (breadth_first n lists).queue
queue_front {n} {lists} {old} {reach} {order} {queue} t = ap (take reach.vertices) t.holds.queued ∙ take_overwrite (breadth_first n lists).queue old reach.vertices t.holds.size

-- the lines of a mesh and its walk, one behind another
module _ (n : ℕ) (m : Mesh) where
  abbrev walked : List ℕ
  walked = (breadth_first (count m) (neighbours m)).queue

  pub mesh_pieces : (head_line n (count m) (length m.entries) ++ vertex_lines (count m) (neighbours m)) ++ walk_line walked ≡ mesh_listing n m
  unfolding mesh_listing
  mesh_pieces = listing_pieces n (count m) (length m.entries) (neighbours m) walked

  pub mesh_size : length (mesh_listing n m) ≡ length (head_line n (count m) (length m.entries)) + length (vertex_lines (count m) (neighbours m)) + length (walk_line walked)
  unfolding mesh_listing
  mesh_size = listing_size n (count m) (length m.entries) (neighbours m) walked

pub listing_fits : (n : ℕ) → 1 ≤ n → n ≤ 4 → length (mesh_listing n (lattice_mesh n)) ≤ 16384
unfolding mesh_listing neighbours
listing_fits n lo hi =
    let listed = listable n lo hi in
    let m = lattice_mesh n in
    let once = ids_at_most (queue_ids m listed.passed) in
    omega (arith, listing_limit n (count m) m.starts m.entries (walked n m) (adjacency_facts m listed.passed).rows, listed.vertices, listed.entries, once)

module _ {n : ℕ} {starts entries : List ℕ} (lent : LatticeRows n starts entries) where
  abbrev mesh : Mesh
  mesh = lattice_mesh n

  listed : Listable n
  listed = listable n lent.least lent.greatest

  pub count_is : length starts - 1 ≡ count mesh
  count_is = omega (arith, ap length lent.starts_are, listed.starts_size)

  pub starts_some : 1 ≤ length starts
  starts_some = omega (arith, ap length lent.starts_are, listed.starts_size)

  pub few : count mesh ≤ 162
  few = listed.vertices

  pub entries_few : length entries ≤ 960
  entries_few = omega (arith, ap length lent.entries_are, listed.entries)

  compressed : CompressedRows (length starts - 1) starts entries
  compressed = rw count_is (rw (lent.starts_are, lent.entries_are) (adjacency_facts mesh listed.passed).rows)

  -- the row of a vertex lies in the slices
  pub row_of : (v : ℕ) → v < count mesh → HasList starts entries v
  row_of v lt = has_list compressed v (omega (arith, count_is))

  -- and is the vertex's neighbour list
  pub row_is : (v : ℕ) → part starts entries v ≡ neighbours mesh v
  unfolding neighbours
  row_is v = rw (lent.starts_are, lent.entries_are)

  pub lattice_walkable : {order queue : List ℕ} → length order ≡ count mesh → 162 ≤ length queue → Walkable starts entries order queue
  lattice_walkable size room = rw (lent.starts_are, lent.entries_are) (mesh_walkable mesh listed.passed size (omega (arith, few)))

  pub head_is : (vertices : ℕ) → vertices ≡ count mesh → head_line n vertices (length entries) ≡ head_line n (count mesh) (length mesh.entries)
  head_is vertices e = rw (e, lent.entries_are)

  module _ {k : ℕ} {old : List ℕ} {reach : Reach} {order queue : List ℕ} (size : k ≡ count mesh) (t : Traversed k (part starts entries) old reach order queue) where
    pub reach_few : reach.vertices ≤ 162
    reach_few = omega (arith, holding_at_most t.holds, size, few)

    pub walk_is : walk_line (take reach.vertices queue) ≡ walk_line (walked n mesh)
    unfolding neighbours
    walk_is = let front = queue_front t in cc (size, front, lent.starts_are, lent.entries_are)
