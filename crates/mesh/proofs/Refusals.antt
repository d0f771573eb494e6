-- Why a mesh is refused. `list_reasons`, `adjacency_reasons`, `mesh_reasons`: each reason is one of the rows'. `adjacency_index`, `mesh_index`: 18 tells the first start that falls, every other number nothing. `same_verdict`, `same_accepted`: the verdict is that of rows 2 to 4 before 17 and 18 were taken out of 3. Assumes nothing.
use Prim.Native.Nat.{ℕ, suc}
use native.Mathlib.Omega.{arith}
use mathlib.Core.Path.{◌≡◌, refl, sym, ap, ◌∙◌}
use mathlib.Core.Logic.{◌≢◌, inl, inr}
use mathlib.Core.Bool.{Bool, true, false, ◌&&◌}
use mathlib.Core.List.{List}
use lib.Dec.{eqb}
use lib.ListN.{length}
use borrow.Author.Tests.{eqb-true}
use Rattle.std.specs.Prelude.{Option, Some, None, Ok, Err}
use Rattle.refusal.specs.declared.Refusal.{Refusal}
use Rattle.refusal.specs.declared.Refusal.TheVariants.{Count, Starts, Id, Position, StartsSpan, StartsFall}
use Rattle.refusal.specs.Refusal.{number_of, index_of, Verdict, row}
use Rattle.refusal.proofs.Rows.{refused_not_passed, EachReason, reasons_passed, reasons_refused, reasons_row, reasons_then}
use Rattle.mesh.specs.Mesh.{Mesh, count}
use Rattle.mesh.specs.Rows.{positions_fit, starts_counted, starts_span, starts_ascend, falling_start, fall_row, lists_limited, ids_below, list_rows, positions_admissible, adjacency_rows, mesh_rows}
use Rattle.mesh.specs.Laws.{IndexTold, verdict_of_three, SameVerdict, SameAccepted}
use Rattle.mesh.proofs.Falls.{fall_first, ascend_no_fall, ascend_fall}

-- ---- each reason is one of the rows': 18 only where a start falls
module _ (P : Refusal → Type 0) where
  -- row 18, with the index that it names
  pub reasons_fall : (fall : Option ℕ) (next : Verdict) → ((index : ℕ) → fall ≡ Some index → P (StartsFall index)) → (fall ≡ None → EachReason P next) → EachReason P (fall_row fall next)
  reasons_fall None next mine rest = rest refl
  reasons_fall (Some index) next mine rest = reasons_refused P (StartsFall index) (mine index refl)

  pub list_reasons : (n : ℕ) (starts entries : List ℕ) → P Starts → P StartsSpan → ((index : ℕ) → falling_start starts ≡ Some index → P (StartsFall index)) → P Id → EachReason P (list_rows n starts entries)
  unfolding list_rows
  list_reasons n starts entries at_3 at_17 at_18 at_4 =
      reasons_row P (starts_counted n starts) Starts _ (λ e. at_3) (λ size.
      reasons_row P (starts_span n starts entries) StartsSpan _ (λ e. at_17) (λ span.
      reasons_fall (falling_start starts) _ at_18 (λ none.
      reasons_row P (lists_limited n starts) Starts _ (λ e. at_3) (λ limit.
      reasons_row P (ids_below n entries) Id (Ok tt) (λ e. at_4) (λ below. reasons_passed P)))))

  module _ (m : Mesh) (at_2 : P Count) (at_3 : P Starts) (at_17 : P StartsSpan) (at_18 : (index : ℕ) → falling_start m.starts ≡ Some index → P (StartsFall index)) (at_4 : P Id) where
    pub adjacency_reasons : EachReason P (adjacency_rows m)
    unfolding adjacency_rows
    adjacency_reasons = reasons_row P (positions_fit m.positions) Count _ (λ e. at_2) (λ fit. list_reasons (count m) m.starts m.entries at_3 at_17 at_18 at_4)

    pub mesh_reasons : P Position → EachReason P (mesh_rows m)
    unfolding mesh_rows
    mesh_reasons at_5 =
        reasons_then P (adjacency_rows m) _ adjacency_reasons (reasons_row P (positions_admissible m.positions) Position (Ok tt) (λ e. at_5) (λ admissible. reasons_passed P))

-- ---- the index
other_none : (reason : Refusal) → number_of reason ≢ 18 → index_of reason ≡ 0
other_none (StartsFall index) other = absurd (other refl)
other_none reason other = refl

module _ (starts : List ℕ) where
  pub told_none : (reason : Refusal) → number_of reason ≢ 18 → IndexTold starts reason
  told_none reason other = inr (other, other_none reason other)

  pub told_fall : (index : ℕ) → falling_start starts ≡ Some index → IndexTold starts (StartsFall index)
  told_fall index falls = inl (refl, fall_first starts index falls)

module _ (m : Mesh) where
  pub adjacency_index : EachReason (IndexTold m.starts) (adjacency_rows m)
  adjacency_index =
      adjacency_reasons (IndexTold m.starts) m (told_none m.starts Count (λ z. omega arith)) (told_none m.starts Starts (λ z. omega arith)) (told_none m.starts StartsSpan (λ z. omega arith)) (told_fall m.starts)
      (told_none m.starts Id (λ z. omega arith))

  pub mesh_index : EachReason (IndexTold m.starts) (mesh_rows m)
  mesh_index =
      mesh_reasons (IndexTold m.starts) m (told_none m.starts Count (λ z. omega arith)) (told_none m.starts Starts (λ z. omega arith)) (told_none m.starts StartsSpan (λ z. omega arith)) (told_fall m.starts)
      (told_none m.starts Id (λ z. omega arith)) (told_none m.starts Position (λ z. omega arith))

-- ---- row 3 before 17 and 18 were taken out of it
pub same_verdict : SameVerdict
unfolding adjacency_rows list_rows starts_counted
same_verdict m =
    same (positions_fit m.positions) (eqb (length m.starts) (suc (count m))) (starts_span (count m) m.starts m.entries) (falling_start m.starts) (starts_ascend (count m) m.starts) (lists_limited (count m) m.starts)
    (ids_below (count m) m.entries) (λ counted. ascend_no_fall (count m) m.starts (eqb-true _ _ counted)) (λ counted. ascend_fall (count m) m.starts (eqb-true _ _ counted))
  where
    same : (fit counted span : Bool) (fall : Option ℕ) (ascend limited below : Bool) → (counted ≡ true → fall ≡ None → ascend ≡ true) → (counted ≡ true → (index : ℕ) → fall ≡ Some index → ascend ≡ false)
        → verdict_of_three (row fit Count (row counted Starts (row span StartsSpan (fall_row fall (row limited Starts (row below Id (Ok tt)))))))
        ≡ row fit Count (row (counted && (span && (ascend && limited))) Starts (row below Id (Ok tt)))
    same false counted span fall ascend limited below up down = refl
    same true false span fall ascend limited below up down = refl
    same true true false fall ascend limited below up down = refl
    same true true true (Some index) ascend limited below up down = rw (down refl index refl) refl
    same true true true None ascend false below up down = rw (up refl refl) refl
    same true true true None ascend true false up down = rw (up refl refl) refl
    same true true true None ascend true true up down = rw (up refl refl) refl

-- so exactly the same meshes pass
pub same_accepted : SameAccepted
same_accepted m = (λ h. sym (same_verdict m) ∙ ap verdict_of_three h, λ h. passed (adjacency_rows m) (same_verdict m ∙ h))
  where
    passed : (v : Verdict) → verdict_of_three v ≡ Ok tt → v ≡ Ok tt
    passed (Ok _) h = refl
    passed (Err reason) h = absurd (refused_not_passed _ h)
