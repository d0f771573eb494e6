-- A list of calls leaves the start renumbered by the accumulated permutation. Assumes nothing.
use Prim.Native.Nat.{ℕ, suc, ◌*◌, ◌/◌}
use native.Mathlib.Omega.{arith}
use mathlib.Core.Path.{◌≡◌, refl, sym, ap, ap₂, subst, ◌∙◌}
use mathlib.Core.Bool.{Bool, true, false, true≢false}
use mathlib.Core.List.{List, [], ◌∷◌}
use lib.ListN.{length, drop}
use lib.Ieee.{Float}
use Rattle.sequences.specs.Permutation.{at, IsPermutation, inverse, identity}
use Rattle.sequences.proofs.Permutation.{permutation_bijection, identity_at, identity_permutation, compose_at, compose_permutation}
use Rattle.refusal.specs.declared.Refusal.{Refusal}
use Rattle.std.specs.Prelude.{Ok, Err}
use Rattle.refusal.specs.Refusal.{Verdict}
use Rattle.mesh.specs.Mesh.{Mesh, count}
use Rattle.mesh.proofs.Facts.{AdjacencyFacts}
use Rattle.mesh.proofs.Renumbered.{Renumbered, renumbered_none, renumbered_then}
use Rattle.renumber.specs.Renumber.{Call, entries_per_vertex_fit, longest_length, call_rows, renumber_rows, renumbered_data}
use Rattle.renumber.proofs.RenumberedMesh.{same_entries_length, renumbered_adjacency, renumbered}
use Rattle.renumber.proofs.RenumberedData.{renumbered_data_length, renumbered_data_single_tail, renumbered_data_identity, renumbered_data_compose}
use Rattle.renumber.proofs.Calls.{accepted_permutation, accepted_entries, call_rows_decide, accepted_mesh, accepted_values, refused_mesh, refused_values}
use Rattle.invariance.specs.Calls.{State, state_of, after_call, after_calls, accumulate, accumulate_all, accumulated_permutation, AcceptedHave}

module _ (m : Mesh) (values : List Float) (facts : AdjacencyFacts m) where
  -- The mesh is the start's, renumbered by p, and passes its rows; mesh and data have their lengths. The lists are the start's own, in whatever order, until a call is accepted: so they are compared sorted, and no equation says what the mesh is.
  pub record RenumberedBy (p : List ℕ) (state : State) : Type 0 where
    pub permutation : IsPermutation (count m) p
    pub mesh : Renumbered m state.mesh (at p) (at (inverse p))
    pub adjacency : AdjacencyFacts state.mesh
    pub entries_length : length state.mesh.entries ≡ length m.entries
    pub data_length : length state.values ≡ length values
    pub single_tail : drop (length values / count m * count m) state.values ≡ drop (length values / count m * count m) values

  -- The data is the start's, renumbered by p with `each` entries a vertex. Where row 7 refuses `each`, no call was accepted and the data is as it was.
  pub record DataRenumberedBy (each : ℕ) (p : List ℕ) (state : State) : Type 0 where
    pub moved : entries_per_vertex_fit (count m) each ≡ true → state.values ≡ renumbered_data (count m) p each values
    pub kept : entries_per_vertex_fit (count m) each ≡ false → state.values ≡ values

  -- ---- no call changes count and lengths, so that rows 6 to 8 find what they find at the start
  module _ (p : List ℕ) (state : State) (call : Call) (r : RenumberedBy p state) where
    same_count : count state.mesh ≡ count m
    same_count = r.mesh.same_count

    same_longest : longest_length state.mesh state.values ≡ longest_length m values
    unfolding longest_length
    same_longest =
        let positions : length state.mesh.positions ≡ length m.positions = r.adjacency.three_each ∙ ap (λ (n : ℕ). n * 3) same_count ∙ sym facts.three_each in
        let starts : length state.mesh.starts ≡ length m.starts = r.adjacency.rows.size ∙ ap suc same_count ∙ sym facts.rows.size in
        rw (positions, starts, r.entries_length, r.data_length) refl

    same_rows : renumber_rows state.mesh state.values call ≡ call_rows (count m) (longest_length m values) call
    same_rows =
        call_rows_decide state.mesh r.adjacency state.values call
        ∙ ap₂ (λ (n longest : ℕ). call_rows n longest call) same_count same_longest

    -- ---- one call
    accepted_data : call_rows (count m) (longest_length m values) call ≡ Ok tt → (after_call state call).values ≡ renumbered_data (count m) call.permutation call.entries_per_vertex state.values
    unfolding after_call
    accepted_data e =
        accepted_values state.mesh state.mark state.values call (same_rows ∙ e) ∙ ap (λ (n : ℕ). renumbered_data n call.permutation call.entries_per_vertex state.values) same_count

    refused_data : (reason : Refusal) → call_rows (count m) (longest_length m values) call ≡ Err reason → (after_call state call).values ≡ state.values
    unfolding after_call
    refused_data reason e = refused_values state.mesh state.mark state.values call reason (same_rows ∙ e)

    step : (v : Verdict) → call_rows (count m) (longest_length m values) call ≡ v → RenumberedBy (accumulate (count m) (longest_length m values) p call) (after_call state call)
    unfolding accumulate after_call
    step (Err reason) e =
        rw (e, refused_mesh state.mesh state.mark state.values call reason (same_rows ∙ e)) (record {
          permutation = r.permutation;
          mesh = r.mesh;
          adjacency = r.adjacency;
          entries_length = r.entries_length;
          data_length = ap length (refused_data reason e) ∙ r.data_length;
          single_tail = ap (drop (length values / count m * count m)) (refused_data reason e) ∙ r.single_tail;
        })
    step (Ok tt) e =
        let k = accepted_permutation (count m) (longest_length m values) call e in
        let q = call.permutation in
        let k₁ : IsPermutation (count state.mesh) q = subst (λ (n : ℕ). IsPermutation n q) (sym same_count) k in
        let both = compose_permutation r.permutation k in
        let fit = accepted_entries (count m) (longest_length m values) call e in
        rw (e, accepted_mesh state.mesh state.mark state.values call (same_rows ∙ e)) (record {
          permutation = both;
          mesh = renumbered_then facts r.mesh (renumbered state.mesh r.adjacency k₁) (permutation_bijection both) (λ v lt. compose_at q p v (omega (arith, r.permutation.size)));
          adjacency = renumbered_adjacency state.mesh r.adjacency k₁;
          entries_length = same_entries_length state.mesh r.adjacency k₁ ∙ r.entries_length;
          data_length = ap length (accepted_data e) ∙ renumbered_data_length k call.entries_per_vertex fit state.values ∙ r.data_length;
          single_tail = ap (drop (length values / count m * count m)) (accepted_data e)
              ∙ subst (λ (places : ℕ). drop (places / count m * count m) (renumbered_data (count m) q call.entries_per_vertex state.values) ≡ drop (places / count m * count m) state.values) r.data_length
              (renumbered_data_single_tail k call.entries_per_vertex fit state.values facts.some)
              ∙ r.single_tail;
        })

    data_step : (each : ℕ) → DataRenumberedBy each p state → (call_rows (count m) (longest_length m values) call ≡ Ok tt → call.entries_per_vertex ≡ each)
        → (v : Verdict) → call_rows (count m) (longest_length m values) call ≡ v → DataRenumberedBy each (accumulate (count m) (longest_length m values) p call) (after_call state call)
    unfolding accumulate
    data_step each d have (Err reason) e =
        rw e (record { moved = λ fit. refused_data reason e ∙ d.moved fit; kept = λ unfit. refused_data reason e ∙ d.kept unfit })
    data_step each d have (Ok tt) e =
        let q = call.permutation in
        let k = accepted_permutation (count m) (longest_length m values) call e in
        let fits : entries_per_vertex_fit (count m) each ≡ true = rw (have e) at (accepted_entries (count m) (longest_length m values) call e) in
        rw e (record {
          moved = λ fit.
              accepted_data e ∙ ap (λ (given : ℕ). renumbered_data (count m) q given state.values) (have e) ∙ ap (renumbered_data (count m) q each) (d.moved fit)
              ∙ renumbered_data_compose r.permutation k each facts.some fit values;
          kept = λ unfit. absurd (true≢false (sym fits ∙ unfit));
        })

  -- ---- the list
  all_calls : (calls : List Call) (p : List ℕ) (state : State) → RenumberedBy p state → RenumberedBy (accumulate_all (count m) (longest_length m values) p calls) (after_calls state calls)
  unfolding accumulate_all after_calls
  all_calls [] p state r = r
  all_calls (call ∷ calls) p state r = all_calls calls _ _ (step p state call r (call_rows (count m) (longest_length m values) call) refl)

  all_calls_data : (each : ℕ) (calls : List Call) (p : List ℕ) (state : State) → AcceptedHave each (count m) (longest_length m values) calls → RenumberedBy p state → DataRenumberedBy each p state
      → DataRenumberedBy each (accumulate_all (count m) (longest_length m values) p calls) (after_calls state calls)
  unfolding accumulate_all after_calls
  all_calls_data each [] p state have r d = d
  all_calls_data each (call ∷ calls) p state have r d =
      let rows = call_rows (count m) (longest_length m values) call in
      all_calls_data each calls _ _ have.1 (step p state call r rows refl) (data_step p state call r each d have.0 rows refl)

  -- ---- from the start on, whatever its mark is
  module _ (mark : Bool) where
    at_start : RenumberedBy (identity (count m)) (state_of m mark values)
    at_start =
        let h = identity_permutation (count m) in
        record { permutation = h; mesh = renumbered_none m facts (permutation_bijection h) (identity_at (count m)); adjacency = facts; entries_length = refl; data_length = refl; single_tail = refl }

    pub after_calls_lem : (calls : List Call) → RenumberedBy (accumulated_permutation (state_of m mark values) calls) (after_calls (state_of m mark values) calls)
    unfolding accumulated_permutation
    after_calls_lem calls = all_calls calls (identity (count m)) (state_of m mark values) at_start

    pub data_after_calls : (each : ℕ) (calls : List Call) → AcceptedHave each (count m) (longest_length m values) calls
        → DataRenumberedBy each (accumulated_permutation (state_of m mark values) calls) (after_calls (state_of m mark values) calls)
    unfolding accumulated_permutation
    data_after_calls each calls have =
        all_calls_data each calls (identity (count m)) (state_of m mark values) have at_start
        (record { moved = λ fit. sym (renumbered_data_identity (count m) each facts.some fit values); kept = λ unfit. refl })
