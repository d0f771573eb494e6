-- What the program `lattice-list` prints. Definitions only.
use Rattle.std.specs.Prelude.{List, ℕ, Option, Result, Ok, Err, IfSome, ⊤}
use Rattle.std.specs.Io.KnownBytes.{Appends, Keeps}
use Rattle.bracket_list.specs.declared.program.AnswerError.{AnswerError}
use Rattle.bracket_list.specs.declared.program.AnswerError.TheVariants.{Unread, Unprinted}
use Rattle.bracket_list.specs.LatticeList.{lattice_listing}

-- From an input that says its bytes, and an output that says before and after which bytes it holds: the listing of the whole input is printed.
-- Where a read fails, nothing is printed. Where a write fails, how much is printed is left open.
abbrev pub Answers : Option (List ℕ) → Option (List ℕ) → Option (List ℕ) → Result (Unit {0}) AnswerError → Type 0
Answers input before after (Ok _) = IfSome input (λ bytes. Appends before after (lattice_listing bytes))
Answers input before after (Err (Unread _)) = Keeps before after
Answers input before after (Err (Unprinted _)) = ⊤
