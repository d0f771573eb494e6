-- The refusals, and chains of their rows: a row's refusal is returned alone, exactly where that row holds and no earlier one does. Definitions only.
use Rattle.std.specs.Prelude.{ℕ, Bool, true, false, Result, Ok, Err}
use Rattle.refusal.specs.declared.Refusal.{Refusal}
use Rattle.refusal.specs.declared.Refusal.TheVariants.{Frequency, Count, Starts, Id, Position, Permutation, EntriesPerVertex, Room, Direction, Flags, EmptyCell, NoTriangle, Unreached, Vertex, NoPath, StartsSpan, StartsFall, Factor, Margin}

-- The number of a refusal's row. 16 is not in use.
abbrev pub number_of : Refusal → ℕ
number_of Frequency = 1
number_of Count = 2
number_of Starts = 3
number_of Id = 4
number_of Position = 5
number_of Permutation = 6
number_of EntriesPerVertex = 7
number_of Room = 8
number_of Direction = 9
number_of Flags = 10
number_of EmptyCell = 11
number_of NoTriangle = 12
number_of Unreached = 13
number_of Vertex = 14
number_of NoPath = 15
number_of StartsSpan = 17
number_of (StartsFall index) = 18
number_of Factor = 19
number_of Margin = 20

-- The index that row 18 carries; 0 for the others.
abbrev pub index_of : Refusal → ℕ
index_of Frequency = 0
index_of Count = 0
index_of Starts = 0
index_of Id = 0
index_of Position = 0
index_of Permutation = 0
index_of EntriesPerVertex = 0
index_of Room = 0
index_of Direction = 0
index_of Flags = 0
index_of EmptyCell = 0
index_of NoTriangle = 0
index_of Unreached = 0
index_of Vertex = 0
index_of NoPath = 0
index_of StartsSpan = 0
index_of (StartsFall index) = index
index_of Factor = 0
index_of Margin = 0

-- What the rows of a chain found: that all pass, or the first that refuses.
abbrev pub Verdict : Type 0
Verdict = Result (Unit {0}) Refusal

-- One row: where what it asks for holds the next rows are tried, and otherwise it refuses.
abbrev pub row : Bool → Refusal → Verdict → Verdict
row true reason next = next
row false reason next = Err reason

-- Rows behind rows.
abbrev pub then : Verdict → Verdict → Verdict
then (Ok _) next = next
then (Err reason) next = Err reason

-- The answer of a call whose rows found v.
abbrev pub answer : {A : Type 0} → Verdict → (Refusal → A) → A → A
answer (Ok _) refused accepted = accepted
answer (Err reason) refused accepted = refused reason
