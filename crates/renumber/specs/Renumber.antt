-- Renumbering by any permutation, which holds the new id at each old one: positions, lists and data are moved, the entries taken through it, and each list is left ascending. Definitions only.
use Rattle.std.specs.Prelude.{ℕ, ◌*◌, max, ◌≡◌, Bool, true, ◌||◌, cond, List, leb, eqb, length, Float, Ok, Err}
use Rattle.std.specs.List.{list_all}
use Rattle.std.specs.Float.{nan}
use Rattle.sequences.specs.Starts.{concatenate, starts_of}
use Rattle.sequences.specs.Permutation.{is_permutation, moved, moved_blocks, moved_pairs, relabelled}
use Rattle.sequences.specs.Slabs.{map_slabs}
use Rattle.refusal.specs.declared.Refusal.{Refusal}
use Rattle.refusal.specs.declared.Refusal.TheVariants.{Permutation, EntriesPerVertex, Room}
use Rattle.refusal.specs.Refusal.{Verdict, row, then, answer}
use Rattle.mesh.specs.Mesh.{Mesh, count, neighbours}
use Rattle.mesh.specs.Rows.{adjacency_rows}

-- A call's arguments beside mesh and data: the slice offered as permutation, the entries a vertex, and the lengths of the scratch slices lent.
pub record Call : Type 0 where
  pub permutation : List ℕ
  pub entries_per_vertex : ℕ
  pub scratch_lengths : List ℕ

-- Row 7 refuses entries a vertex that are neither 1 nor the count.
unfoldable pub entries_per_vertex_fit : ℕ → ℕ → Bool
entries_per_vertex_fit n each = eqb each 1 || eqb each n

-- Row 8: each scratch slice has as many places as the longest list that the call takes or fills. Of mesh and data that list has so many:
unfoldable pub longest_length : Mesh → List Float → ℕ
longest_length m values = max (max (length m.positions) (length m.starts)) (max (length m.entries) (length values))

unfoldable pub scratch_fits : ℕ → List ℕ → Bool
scratch_fits places scratch_lengths = list_all (λ room. leb places room) scratch_lengths

-- Rows 6 to 8 of a call on n vertices, with the length of the longest list of mesh and data. Row 6 refuses a slice of another length, or one that is no permutation of the ids.
unfoldable pub call_rows : ℕ → ℕ → Call → Verdict
call_rows n longest call =
    row (is_permutation n call.permutation) Permutation
    (row (entries_per_vertex_fit n call.entries_per_vertex) EntriesPerVertex
    (row (scratch_fits (max longest (length call.permutation)) call.scratch_lengths) Room (Ok tt)))

-- Positions are blocks of three. The list of a new id is that of its old one, each entry taken through the permutation, ascending.
unfoldable pub renumbered_mesh : List ℕ → Mesh → Mesh
renumbered_mesh permutation m = record {
  positions = moved_blocks 3 permutation m.positions nan;
  starts = starts_of (count m) (relabelled permutation (neighbours m));
  entries = concatenate (count m) (relabelled permutation (neighbours m));
}

-- Data has 1 entry a vertex or one for each pair; in the second form both indices move. One slab, of n or n·n places, n the count:
unfoldable pub renumbered_slab : List ℕ → ℕ → List Float → List Float
renumbered_slab permutation each slab = cond (eqb each 1) (moved permutation slab nan) (moved_pairs permutation slab nan)

-- Each whole slab; a tail shorter than a slab stays as it is.
unfoldable pub renumbered_data : ℕ → List ℕ → ℕ → List Float → List Float
renumbered_data n permutation each values = map_slabs (n * each) (renumbered_slab permutation each) values nan

-- The whole outcome of a call: its answer, and mesh, mark and data at exit. Scratch is free after an accepted call, and as it was after a refused one.
pub record RenumberOutcome : Type 0 where
  pub answered : Verdict
  pub mesh : Mesh
  pub mark : Bool
  pub values : List Float

-- The mesh rows 2 to 4, then 6, 7, 8.
unfoldable pub renumber_rows : Mesh → List Float → Call → Verdict
renumber_rows m values call = then (adjacency_rows m) (call_rows (count m) (longest_length m values) call)

-- An accepted call sets the mark that the lists ascend; a refused one leaves it, as it leaves mesh and data.
unfoldable pub apply_vertex_permutation : Mesh → Bool → List Float → Call → RenumberOutcome
apply_vertex_permutation m mark values call =
    answer (renumber_rows m values call) (λ reason. record { answered = Err reason; mesh = m; mark = mark; values = values })
    (record {
      answered = Ok tt;
      mesh = renumbered_mesh call.permutation m;
      mark = true;
      values = renumbered_data (count m) call.permutation call.entries_per_vertex values;
    })

-- ---- for contracts
abbrev pub call_of : List ℕ → ℕ → List ℕ → Call
call_of permutation each scratch_lengths = record { permutation = permutation; entries_per_vertex = each; scratch_lengths = scratch_lengths }

-- An answer, with mesh, mark and data at exit, as an outcome.
abbrev pub renumber_outcome : Verdict → Mesh → Bool → List Float → RenumberOutcome
renumber_outcome verdict mesh mark values = record { answered = verdict; mesh = mesh; mark = mark; values = values }

-- What the five scratch slices hold.
pub record Scratch : Type 0 where
  pub sources : List ℕ
  pub old_starts : List ℕ
  pub old_entries : List ℕ
  pub done : List ℕ
  pub held : List Float

abbrev pub scratch_of : List ℕ → List ℕ → List ℕ → List ℕ → List Float → Scratch
scratch_of sources old_starts old_entries done held =
    record { sources = sources; old_starts = old_starts; old_entries = old_entries; done = done; held = held }

-- A refused call leaves scratch as it was.
abbrev pub KeptWhereRefused : Verdict → Scratch → Scratch → Type 0
KeptWhereRefused verdict entry exit = (reason : Refusal) → verdict ≡ Err reason → exit ≡ entry
