-- Both calls: their checks, and the whole outcome of each. Definitions only.
use Rattle.std.specs.Prelude.{ℕ, max, ◌≡◌, ◌≢◌, Bool, ◌&&◌, nat_lt, nat_le, List, length, Result, Ok, Err}
use Rattle.sequences.specs.Tabulate.{overwrite}
use Rattle.refusal.specs.declared.Refusal.{Refusal}
use Rattle.refusal.specs.declared.Refusal.TheVariants.{Room, Vertex, NoPath}
use Rattle.refusal.specs.Refusal.{Verdict, row, then, answer}
use Rattle.mesh.specs.Mesh.{Mesh, count, neighbours}
use Rattle.mesh.specs.Rows.{adjacency_rows}
use Rattle.steps.specs.declared.Steps.{Steps}
use Rattle.steps.specs.Steps.{within_steps, steps_found}

-- ---- the checks of both calls
-- Scratch is asked to have as many places as the longest slice of the mesh.
unfoldable pub longest_taken : Mesh → ℕ
longest_taken m = max (max (length m.positions) (length m.starts)) (length m.entries)

-- The mesh rows 2 to 4. Row 14 refuses a given vertex that is not below the vertex count. Then row 8.
unfoldable pub steps_rows : Mesh → Bool → Bool → Verdict
steps_rows m given fits = then (adjacency_rows m) (row given Vertex (row fits Room (Ok tt)))

-- ---- how many steps lead from one vertex to another
-- The answer, of the lengths of the two scratch slices.
unfoldable pub steps_between : Mesh → ℕ → ℕ → ℕ → ℕ → Result Steps Refusal
steps_between m from to order_length queue_length =
    answer (steps_rows m (nat_lt from (count m) && nat_lt to (count m)) (nat_le (longest_taken m) order_length && nat_le (longest_taken m) queue_length)) Err (steps_found m from to)

-- Scratch is as it was after each refusal but that of row 15, which leaves it free.
abbrev pub KeptButNoPath : {A : Type 0} → Result A Refusal → List ℕ → List ℕ → Type 0
KeptButNoPath result entry exit = (reason : Refusal) → result ≡ Err reason → reason ≢ NoPath → exit ≡ entry

-- ---- which vertices are within so many steps of one
-- The whole outcome: how many vertices there are, or why the call is refused, and the list.
pub record WithinOutcome : Type 0 where
  pub answered : Result ℕ Refusal
  pub list : List ℕ

abbrev pub within_outcome : Result ℕ Refusal → List ℕ → WithinOutcome
within_outcome answered list = record { answered = answered; list = list }

-- The list is asked to have one place a vertex; the places behind the vertices found stay as they were. A refusal leaves all of it.
unfoldable pub vertices_within : Mesh → ℕ → ℕ → ℕ → List ℕ → WithinOutcome
vertices_within m vertex steps order_length list =
    let within = within_steps (neighbours m) vertex steps in
    answer (steps_rows m (nat_lt vertex (count m)) (nat_le (longest_taken m) order_length && nat_le (count m) (length list)))
    (λ reason. within_outcome (Err reason) list) (within_outcome (Ok (length within)) (overwrite within list))

-- Scratch is as it was after each refusal.
abbrev pub ScratchKept : {A : Type 0} → Result A Refusal → List ℕ → List ℕ → Type 0
ScratchKept result entry exit = (reason : Refusal) → result ≡ Err reason → exit ≡ entry
