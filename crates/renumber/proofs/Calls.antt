-- Laws of one renumbering call: what an accepted one has, and what is left of mesh, mark and data. Assumes nothing.
use Prim.Native.Nat.{ℕ, max}
use mathlib.Core.Path.{◌≡◌, refl}
use mathlib.Core.Bool.{Bool, true}
use mathlib.Core.List.{List}
use lib.ListN.{length}
use lib.Ieee.{Float}
use Rattle.sequences.specs.Permutation.{IsPermutation, is_permutation}
use Rattle.sequences.proofs.Permutation.{is_permutation_sound}
use Rattle.refusal.specs.declared.Refusal.{Refusal}
use Rattle.refusal.specs.declared.Refusal.TheVariants.{Permutation, EntriesPerVertex, Room}
use Rattle.std.specs.Prelude.{Ok, Err}
use Rattle.refusal.proofs.Rows.{row_passed}
use Rattle.mesh.specs.Mesh.{Mesh, count}
use Rattle.mesh.proofs.Facts.{AdjacencyFacts, adjacency_passed}
use Rattle.renumber.specs.Renumber.{Call, entries_per_vertex_fit, longest_length, scratch_fits, call_rows, renumber_rows, renumbered_mesh, renumbered_data, apply_vertex_permutation}

-- rows 6, 7 and 8 of an accepted call
pub accepted_permutation : (n longest : ℕ) (call : Call) → call_rows n longest call ≡ Ok tt → IsPermutation n call.permutation
unfolding call_rows
accepted_permutation n longest call h = is_permutation_sound n call.permutation (row_passed (is_permutation n call.permutation) Permutation _ h).0

pub accepted_entries : (n longest : ℕ) (call : Call) → call_rows n longest call ≡ Ok tt → entries_per_vertex_fit n call.entries_per_vertex ≡ true
unfolding call_rows
accepted_entries n longest call h =
    (row_passed (entries_per_vertex_fit n call.entries_per_vertex) EntriesPerVertex _ (row_passed (is_permutation n call.permutation) Permutation _ h).1).0

pub accepted_scratch : (n longest : ℕ) (call : Call) → call_rows n longest call ≡ Ok tt → scratch_fits (max longest (length call.permutation)) call.scratch_lengths ≡ true
unfolding call_rows
accepted_scratch n longest call h =
    (row_passed (scratch_fits (max longest (length call.permutation)) call.scratch_lengths) Room _
    (row_passed (entries_per_vertex_fit n call.entries_per_vertex) EntriesPerVertex _ (row_passed (is_permutation n call.permutation) Permutation _ h).1).1).0

-- The mesh rows refuse no call on a mesh that has passed them.
pub call_rows_decide : (m : Mesh) → AdjacencyFacts m → (values : List Float) (call : Call) → renumber_rows m values call ≡ call_rows (count m) (longest_length m values) call
unfolding renumber_rows
call_rows_decide m facts values call = rw (adjacency_passed m facts) refl

module _ (m : Mesh) (mark : Bool) (values : List Float) (call : Call) where
  pub accepted_mesh : renumber_rows m values call ≡ Ok tt → (apply_vertex_permutation m mark values call).mesh ≡ renumbered_mesh call.permutation m
  unfolding apply_vertex_permutation
  accepted_mesh h = rw h refl

  pub accepted_values : renumber_rows m values call ≡ Ok tt → (apply_vertex_permutation m mark values call).values ≡ renumbered_data (count m) call.permutation call.entries_per_vertex values
  unfolding apply_vertex_permutation
  accepted_values h = rw h refl

  pub refused_mesh : (reason : Refusal) → renumber_rows m values call ≡ Err reason → (apply_vertex_permutation m mark values call).mesh ≡ m
  unfolding apply_vertex_permutation
  refused_mesh reason h = rw h refl

  pub refused_values : (reason : Refusal) → renumber_rows m values call ≡ Err reason → (apply_vertex_permutation m mark values call).values ≡ values
  unfolding apply_vertex_permutation
  refused_values reason h = rw h refl
