-- What a refused renumbering tells: `renumber_index`. Assumes nothing.
use native.Mathlib.Omega.{arith}
use mathlib.Core.Path.{◌≡◌, sym}
use mathlib.Core.Bool.{Bool}
use mathlib.Core.List.{List}
use lib.ListN.{length}
use lib.Ieee.{Float}
use Prim.Native.Nat.{max}
use Rattle.sequences.specs.Permutation.{is_permutation}
use Rattle.refusal.specs.declared.Refusal.{Refusal}
use Rattle.refusal.specs.declared.Refusal.TheVariants.{Permutation, EntriesPerVertex, Room}
use Rattle.std.specs.Prelude.{Ok, Err}
use Rattle.refusal.proofs.Rows.{refused_not_passed, answer_refused, EachReason, reasons_passed, reasons_row, reasons_then}
use Rattle.mesh.specs.Mesh.{Mesh, count}
use Rattle.mesh.specs.Rows.{adjacency_rows}
use Rattle.mesh.specs.Laws.{IndexTold}
use Rattle.mesh.proofs.Refusals.{told_none, adjacency_index}
use Rattle.renumber.specs.Renumber.{Call, entries_per_vertex_fit, longest_length, scratch_fits, call_rows, RenumberOutcome, renumber_rows, apply_vertex_permutation}

module _ (m : Mesh) (mark : Bool) (values : List Float) (call : Call) where
  -- rows 6 to 8 carry no index
  call_index : EachReason (IndexTold m.starts) (call_rows (count m) (longest_length m values) call)
  unfolding call_rows
  call_index =
      let P = IndexTold m.starts in
      let none = told_none m.starts in
      reasons_row P (is_permutation (count m) call.permutation) Permutation _ (λ e. none Permutation (λ z. omega arith)) (λ permutes.
      reasons_row P (entries_per_vertex_fit (count m) call.entries_per_vertex) EntriesPerVertex _ (λ e. none EntriesPerVertex (λ z. omega arith)) (λ each.
      reasons_row P (scratch_fits (max (longest_length m values) (length call.permutation)) call.scratch_lengths) Room (Ok tt) (λ e. none Room (λ z. omega arith)) (λ room. reasons_passed P)))

  -- 18 carries the index of the first start that falls, every other refusal 0
  pub renumber_index : (reason : Refusal) → (apply_vertex_permutation m mark values call).answered ≡ Err reason → IndexTold m.starts reason
  unfolding apply_vertex_permutation renumber_rows
  renumber_index reason h =
      reasons_then (IndexTold m.starts) (adjacency_rows m) _ (adjacency_index m) call_index reason
      (answer_refused (λ (o : RenumberOutcome). o.answered ≡ Err reason) (renumber_rows m values call) _ _ reason (λ e. refused_not_passed reason (sym e)) (λ other e. cc) h)
