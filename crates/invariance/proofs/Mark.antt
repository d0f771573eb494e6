-- The mark through a list of renumbering calls: a truthful one stays so (`calls_truthful`), and mesh and data don't depend on it (`calls_same`). Assumes nothing.
use mathlib.Core.Path.{◌≡◌, refl, ap₂, ◌∙◌}
use mathlib.Core.List.{List, [], ◌∷◌}
use lib.Ieee.{Float}
use Rattle.mesh.specs.Mesh.{Mesh}
use Rattle.renumber.specs.Renumber.{Call, apply_vertex_permutation}
use Rattle.renumber.proofs.Mark.{renumbering_truthful, renumbering_same}
use Rattle.invariance.specs.Calls.{State, state_of, after_call, after_calls}
use Rattle.invariance.specs.Laws.{CallsTruthful, CallsSame}

-- Each call is lent the mark that the one before it left.
pub calls_truthful : CallsTruthful
unfolding after_call after_calls
calls_truthful state [] before = before
calls_truthful state (call ∷ calls) before =
    calls_truthful (after_call state call) calls (renumbering_truthful state.mesh state.values call state.mark before)

-- two states that are alike but for the mark stay so
alike_after : (state other : State) (calls : List Call) → state.mesh ≡ other.mesh → state.values ≡ other.values
    → ((after_calls state calls).mesh ≡ (after_calls other calls).mesh) × ((after_calls state calls).values ≡ (after_calls other calls).values)
unfolding after_call after_calls
alike_after state other [] same-mesh same-values = (same-mesh, same-values)
alike_after state other (call ∷ calls) same-mesh same-values =
    let alike = renumbering_same state.mesh state.values call state.mark other.mark in
    alike_after (after_call state call) (after_call other call) calls
    (alike.mesh ∙ ap₂ (λ (m : Mesh) (values : List Float). (apply_vertex_permutation m other.mark values call).mesh) same-mesh same-values)
    (alike.values ∙ ap₂ (λ (m : Mesh) (values : List Float). (apply_vertex_permutation m other.mark values call).values) same-mesh same-values)

pub calls_same : CallsSame
calls_same m mark other values calls = alike_after (state_of m mark values) (state_of m other values) calls refl refl
