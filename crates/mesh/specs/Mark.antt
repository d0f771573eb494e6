-- The mark of a mesh that its neighbour lists ascend, and the call that reads them. Definitions only.
use Rattle.std.specs.Prelude.{ℕ, ◌-◌, ◌≡◌, Bool, true, List, length, Ok, Err}
use Rattle.sequences.specs.Range.{all_below}
use Rattle.refusal.specs.Refusal.{Verdict, answer}
use Rattle.mesh.specs.Mesh.{Mesh, count, neighbours}
use Rattle.mesh.specs.Rows.{not_falling, adjacency_rows}

-- No entry is below the one before it: repeats stand side by side.
unfoldable pub list_ascends : List ℕ → Bool
list_ascends list = all_below (not_falling list) (length list - 1)

unfoldable pub lists_ascend : Mesh → Bool
lists_ascend m = all_below (λ v. list_ascends (neighbours m v)) (count m)

-- The mark is a Boolean beside the three slices of a mesh. A true one claims that the lists ascend, a false one claims nothing.
abbrev pub Truthful : Mesh → Bool → Type 0
Truthful m mark = mark ≡ true → lists_ascend m ≡ true

-- What the reading call leaves: its verdict, and the mark. It is lent nothing else for writing.
pub record MarkOutcome : Type 0 where
  pub answered : Verdict
  pub mark : Bool

abbrev pub mark_outcome : Verdict → Bool → MarkOutcome
mark_outcome verdict mark = record { answered = verdict; mark = mark }

-- The reading call: behind rows 2 to 4 the mark is set exactly where all lists ascend, and else cleared. A refusal leaves it.
unfoldable pub mark_ascending : Mesh → Bool → MarkOutcome
mark_ascending m mark = answer (adjacency_rows m) (λ reason. mark_outcome (Err reason) mark) (mark_outcome (Ok tt) (lists_ascend m))
