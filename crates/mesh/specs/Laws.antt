-- This crate's theorems: what the index of a falling start is, what became of row 3, and what the reading call does to the mark. Definitions only.
use Rattle.std.specs.Prelude.{ℕ, ◌-◌, ◌≤◌, ◌<◌, ◌≡◌, ◌≢◌, ◌⊎◌, ◌↔◌, Bool, true, ◌&&◌, List, length, slice_index, Some, None, Ok, Err}
use Rattle.sequences.specs.Ascending.{Nondecreasing}
use Rattle.refusal.specs.declared.Refusal.{Refusal}
use Rattle.refusal.specs.declared.Refusal.TheVariants.{Count, Starts, Id, StartsSpan, StartsFall}
use Rattle.refusal.specs.Refusal.{number_of, index_of, Verdict, row}
use Rattle.mesh.specs.Mesh.{Mesh, count, neighbours}
use Rattle.mesh.specs.Rows.{positions_fit, starts_counted, starts_span, starts_ascend, falling_start, lists_limited, ids_below, adjacency_rows}
use Rattle.mesh.specs.Mark.{Truthful, mark_ascending}

-- ---- the index of row 18
-- It is that of the first start below the one before it, counted from 0.
pub record FirstFall (starts : List ℕ) (index : ℕ) : Type 0 where
  pub behind_another : 1 ≤ index
  pub inside : index < length starts
  pub falls : slice_index starts index < slice_index starts (index - 1)
  pub none_before : (i : ℕ) → 1 ≤ i → i < index → slice_index starts (i - 1) ≤ slice_index starts i

abbrev pub FallIsFirst : Type 0
FallIsFirst = (starts : List ℕ) (index : ℕ) → falling_start starts ≡ Some index → FirstFall starts index

-- Where none is named, no start is below the one before it.
abbrev pub NoneFalls : Type 0
NoneFalls = (starts : List ℕ) → falling_start starts ≡ None → (i : ℕ) → 1 ≤ i → i < length starts → slice_index starts (i - 1) ≤ slice_index starts i

-- What the index of a refusal tells of the starts of a mesh: with 18 it is that of the first that falls, and with every other number it is 0.
abbrev pub IndexTold : List ℕ → Refusal → Type 0
IndexTold starts reason = ((number_of reason ≡ 18) × FirstFall starts (index_of reason)) ⊎ ((number_of reason ≢ 18) × (index_of reason ≡ 0))

-- ---- row 3 before 17 and 18 were taken out of it
-- It refused a wrong length, starts that don't span the entries, falling ones, and a list over 32.
abbrev pub whole_row_three : Mesh → Bool
whole_row_three m = starts_counted (count m) m.starts && (starts_span (count m) m.starts m.entries && (starts_ascend (count m) m.starts && lists_limited (count m) m.starts))

abbrev pub three_rows : Mesh → Verdict
three_rows m = row (positions_fit m.positions) Count (row (whole_row_three m) Starts (row (ids_below (count m) m.entries) Id (Ok tt)))

-- A refusal by it, for that of 17 or 18.
abbrev pub as_row_three : Refusal → Refusal
as_row_three StartsSpan = Starts
as_row_three (StartsFall index) = Starts
as_row_three reason = reason

abbrev pub verdict_of_three : Verdict → Verdict
verdict_of_three (Ok _) = Ok tt
verdict_of_three (Err reason) = Err (as_row_three reason)

-- But for these numbers the verdict is the same, and so exactly the same meshes pass.
abbrev pub SameVerdict : Type 0
SameVerdict = (m : Mesh) → verdict_of_three (adjacency_rows m) ≡ three_rows m

abbrev pub SameAccepted : Type 0
SameAccepted = (m : Mesh) → (adjacency_rows m ≡ Ok tt) ↔ (three_rows m ≡ Ok tt)

-- ---- the reading call
-- An accepted one leaves a mark that is true exactly where every list ascends, repeats side by side.
abbrev pub ReadingExact : Type 0
ReadingExact = (m : Mesh) (mark : Bool) → adjacency_rows m ≡ Ok tt → ((mark_ascending m mark).mark ≡ true) ↔ ((v : ℕ) → v < count m → Nondecreasing (neighbours m v))

-- A mark that was truthful stays so, whether the call is refused or not.
abbrev pub ReadingTruthful : Type 0
ReadingTruthful = (m : Mesh) (mark : Bool) → Truthful m mark → Truthful m (mark_ascending m mark).mark

-- The mark before changes nothing but the mark after a refusal.
abbrev pub ReadingSame : Type 0
ReadingSame = (m : Mesh) (mark other : Bool) → ((mark_ascending m mark).answered ≡ (mark_ascending m other).answered) × (adjacency_rows m ≡ Ok tt → mark_ascending m mark ≡ mark_ascending m other)

abbrev pub ReadingIndex : Type 0
ReadingIndex = (m : Mesh) (mark : Bool) (reason : Refusal) → (mark_ascending m mark).answered ≡ Err reason → IndexTold m.starts reason
