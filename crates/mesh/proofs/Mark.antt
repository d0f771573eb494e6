-- Laws of ascending lists and of the mark: `lists_ascend_lem`, `ascending_lists`; `reading_exact` says what an accepted reading call found, `reading_index` what a refused one tells, `reading_same` that neither depends on the mark before;
-- `mark_truthful` is the law by which each call that is lent a mark keeps it truthful, `reading_truthful` the reading call's. Assumes nothing.
use Prim.Native.Nat.{ℕ, suc, ◌+◌, ◌-◌, ◌≤◌, ◌<◌}
use native.Mathlib.Omega.{arith}
use native.Mathlib.Numerals.{add-one}
use mathlib.Core.Path.{◌≡◌, refl, sym, ◌∙◌}
use mathlib.Core.Bool.{Bool, true, false}
use mathlib.Core.List.{List}
use lib.ListN.{length, get_or}
use borrow.Author.Tests.{leb-true, le-leb, lt-leb}
use Rattle.std.specs.Bool.{MatchBool}
use Rattle.std.specs.List.{IsAllAdjacentAnswer}
use Rattle.std.specs.List.Sorted.{IsNonDecreasing}
use Rattle.std.specs.Ordering.{is_some_and, is_le, nat_cmp}
use Rattle.std.proofs.lemmas.List.Sorted.{non_decreasing_from_is_sorted}
use Rattle.sequences.specs.Range.{all_below}
use Rattle.sequences.specs.Ascending.{Nondecreasing}
use Rattle.sequences.proofs.Range.{all_below_at, all_below_intro, all_below_fails}
use Rattle.sequences.proofs.Ascending.{pairwise_at, pairwise_adjacent}
use Rattle.refusal.specs.declared.Refusal.{Refusal}
use Rattle.std.specs.Prelude.{Some, Ok, Err}
use Rattle.refusal.specs.Refusal.{Verdict, answer}
use Rattle.refusal.proofs.Rows.{refused_not_passed, answer_refused, answers_relate}
use Rattle.mesh.specs.Mesh.{Mesh, count, neighbours}
use Rattle.mesh.specs.Rows.{not_falling, adjacency_rows}
use Rattle.mesh.specs.Mark.{list_ascends, lists_ascend, Truthful, MarkOutcome, mark_outcome, mark_ascending}
use Rattle.mesh.specs.Laws.{ReadingExact, ReadingTruthful, ReadingSame, ReadingIndex}
use Rattle.mesh.proofs.Refusals.{adjacency_index}

-- ---- one list, and all of them
list_ascends_lem : (list : List ℕ) → Nondecreasing list → list_ascends list ≡ true
unfolding list_ascends
list_ascends_lem list h =
    all_below_intro (not_falling list) (length list - 1) (λ i lt. le-leb (get_or list i 0) (get_or list (suc i) 0) (pairwise_at (λ x y. x ≤ y) list i (suc i) 0 h (omega arith) (omega arith)))

ascending_list : (list : List ℕ) → list_ascends list ≡ true → Nondecreasing list
unfolding list_ascends
ascending_list list h =
    pairwise_adjacent (λ x y. x ≤ y) list 0 (λ x y z a b. omega arith)
    (λ i lt. leb-true (get_or list i 0) (get_or list (suc i) 0) (all_below_at (not_falling list) (length list - 1) i h (omega arith)))

pub lists_ascend_lem : (m : Mesh) → ((v : ℕ) → v < count m → Nondecreasing (neighbours m v)) → lists_ascend m ≡ true
unfolding lists_ascend
lists_ascend_lem m h = all_below_intro (λ v. list_ascends (neighbours m v)) (count m) (λ v lt. list_ascends_lem (neighbours m v) (h v lt))

pub ascending_lists : (m : Mesh) → lists_ascend m ≡ true → (v : ℕ) → v < count m → Nondecreasing (neighbours m v)
unfolding lists_ascend
ascending_lists m h v lt = ascending_list (neighbours m v) (all_below_at (λ v. list_ascends (neighbours m v)) (count m) v h lt)

-- what `is_sorted` answers of a list
pub list_sorted : (list : List ℕ) (r : Bool) → IsAllAdjacentAnswer (λ x y b. is_some_and is_le (Some (nat_cmp x y)) ≡ b) list r → r ≡ list_ascends list
unfolding list_ascends
list_sorted list r h = go r (non_decreasing_from_is_sorted list r h)
  where
    go : (r : Bool) → MatchBool r (IsNonDecreasing list) ((k : ℕ) × (k + 1 < length list) × ((d : ℕ) → get_or list (k + 1) d < get_or list k d)) → r ≡ all_below (not_falling list) (length list - 1)
    go true ascends = sym (all_below_intro (not_falling list) (length list - 1) (λ v lt. le-leb _ _ (ascends v (suc v) 0 (omega arith) (omega arith))))
    go false falls = sym (all_below_fails (not_falling list) (length list - 1) falls.0 (omega (arith, falls.1)) (lt-leb _ _ (rw add-one at (falls.2 0))))

-- ---- the reading call
reading_mark : (m : Mesh) (mark : Bool) → adjacency_rows m ≡ Ok tt → (mark_ascending m mark).mark ≡ lists_ascend m
unfolding mark_ascending
reading_mark m mark rows = rw rows refl

pub reading_exact : ReadingExact
reading_exact m mark rows =
    let found = reading_mark m mark rows in
    (λ marked. ascending_lists m (rw found at marked), λ ascend. found ∙ lists_ascend_lem m ascend)

pub reading_index : ReadingIndex
unfolding mark_ascending
reading_index m mark reason h =
    adjacency_index m reason
    (answer_refused (λ (o : MarkOutcome). o.answered ≡ Err reason) (adjacency_rows m) _ _ reason (λ e. refused_not_passed reason (sym e)) (λ other e. cc) h)

pub reading_same : ReadingSame
unfolding mark_ascending
reading_same m mark other =
    (answers_relate (λ (o₁ o₂ : MarkOutcome). o₁.answered ≡ o₂.answered) (adjacency_rows m) _ _ _ _ (λ reason. refl) refl, λ rows. rw rows refl)

-- ---- no call that is lent a mark sets it falsely: `mesh_in` and `mark_in` read an outcome. A refused call leaves mesh and mark; an accepted one leaves a mesh with which its mark is truthful.
pub mark_truthful : {A : Type 0} (mesh_in : A → Mesh) (mark_in : A → Bool) (v : Verdict) (refused : Refusal → A) (accepted : A)
    → ((reason : Refusal) → Truthful (mesh_in (refused reason)) (mark_in (refused reason))) → (v ≡ Ok tt → Truthful (mesh_in accepted) (mark_in accepted))
    → Truthful (mesh_in (answer v refused accepted)) (mark_in (answer v refused accepted))
mark_truthful mesh_in mark_in (Ok tt) refused accepted before after = after refl
mark_truthful mesh_in mark_in (Err reason) refused accepted before after = before reason

pub reading_truthful : ReadingTruthful
unfolding mark_ascending
reading_truthful m mark before =
    mark_truthful (λ (outcome : MarkOutcome). m) (λ (outcome : MarkOutcome). outcome.mark) (adjacency_rows m) (λ reason. mark_outcome (Err reason) mark) (mark_outcome (Ok tt) (lists_ascend m)) (λ reason. before) (λ rows ascend. ascend)
