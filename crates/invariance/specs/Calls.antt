-- A list of renumbering calls, and the accumulated permutation that follows it. Definitions only.
use Rattle.std.specs.Prelude.{ℕ, ◌≡◌, Bool, List, [], ◌∷◌, Float, Ok}
use Rattle.sequences.specs.Permutation.{identity, compose}
use Rattle.refusal.specs.Refusal.{answer}
use Rattle.mesh.specs.Mesh.{Mesh, count}
use Rattle.renumber.specs.Renumber.{Call, call_rows, longest_length, apply_vertex_permutation}

-- What the calls of a list are lent, each as the one before it left it: mesh, its mark that the lists ascend, and data.
pub record State : Type 0 where
  pub mesh : Mesh
  pub mark : Bool
  pub values : List Float

abbrev pub state_of : Mesh → Bool → List Float → State
state_of mesh mark values = record { mesh = mesh; mark = mark; values = values }

unfoldable pub after_call : State → Call → State
after_call state call =
    let outcome = apply_vertex_permutation state.mesh state.mark state.values call in
    state_of outcome.mesh outcome.mark outcome.values

unfoldable pub after_calls : State → List Call → State
after_calls state [] = state
after_calls state (call ∷ calls) = after_calls (after_call state call) calls

-- The accumulated permutation is fed the calls' arguments alone: a call that rows 6 to 8 let pass turns each p(v) into q(p(v)), a refused one leaves p.
-- Count and lengths are those of the start: no call changes them.
unfoldable pub accumulate : ℕ → ℕ → List ℕ → Call → List ℕ
accumulate n longest p call = answer (call_rows n longest call) (λ reason. p) (compose call.permutation p)

unfoldable pub accumulate_all : ℕ → ℕ → List ℕ → List Call → List ℕ
accumulate_all n longest p [] = p
accumulate_all n longest p (call ∷ calls) = accumulate_all n longest (accumulate n longest p call) calls

-- It keeps one number a vertex, at first p(v) = v.
unfoldable pub accumulated_permutation : State → List Call → List ℕ
accumulated_permutation start calls =
    accumulate_all (count start.mesh) (longest_length start.mesh start.values) (identity (count start.mesh)) calls

-- The accepted calls all have so many entries a vertex.
abbrev pub AcceptedHave : ℕ → ℕ → ℕ → List Call → Type 0
AcceptedHave each n longest [] = Unit {0}
AcceptedHave each n longest (call ∷ calls) = (call_rows n longest call ≡ Ok tt → call.entries_per_vertex ≡ each) × AcceptedHave each n longest calls
