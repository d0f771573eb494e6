-- What a list of renumberings keeps: `renumbering_invariance_lem`, and of two builds of a mesh with mutual lists or with any, `held_alike`. Assumes nothing.
use Prim.Native.Nat.{ℕ, zero, suc, ◌+◌, ◌*◌, ◌/◌, ◌<◌}
use native.Mathlib.Omega.{arith}
use mathlib.Core.Path.{◌≡◌, refl, sym, ap, ◌∙◌}
use mathlib.Core.Logic.{◌⊎◌, inl, inr}
use mathlib.Core.Bool.{true, false}
use mathlib.Core.List.{List}
use lib.ListN.{length, get_or, drop}
use lib.Ieee.{Float, nan}
use Rattle.std.proofs.lemmas.Bool.{cases_Bool}
use Rattle.sequences.specs.Permutation.{at, IsPermutation}
use Rattle.std.specs.Prelude.{Ok, Err}
use Rattle.refusal.specs.Refusal.{Verdict, answer}
use Rattle.vector.specs.declared.Vector3.{Vector3}
use Rattle.mesh.specs.Mesh.{Mesh, count, position_of}
use Rattle.mesh.specs.Adjacency.{Mutual, NoRepeat}
use Rattle.mesh.proofs.Facts.{AdjacencyFacts, MeshFacts, mesh_facts, mesh_passed}
use Rattle.mesh.proofs.Renumbered.{Renumbered, admissible_renumbered}
use Rattle.renumber.specs.Renumber.{entries_per_vertex_fit, longest_length}
use Rattle.renumber.proofs.RenumberedData.{fit_single, fit_paired, renumbered_data_tail, renumbered_single, renumbered_pair}
use Rattle.grid.specs.declared.settings.Settings.{Settings}
use Rattle.grid.specs.Cells.{side_of}
use Rattle.grid.specs.Held.{held_conversions}
use Rattle.grid.specs.Grid.{GridSlices, built, BuildOutcome, grid_of, grid_slices_fit, build_rows, filled_grid, build_grid}
use Rattle.grid.proofs.Grid.{cut_build, built_held}
use Rattle.grid.proofs.Held.{same_held}
use Rattle.grid.proofs.Room.{same_build_rows}
use Rattle.invariance.specs.Calls.{State, state_of, after_calls, AcceptedHave}
use Rattle.invariance.specs.Claim.{SameLengths, SameBuilds, Invariant}
use Rattle.invariance.specs.Laws.{RenumberingInvariance, HeldAlike}
use Rattle.invariance.proofs.AfterCalls.{RenumberedBy, DataRenumberedBy, after_calls_lem, data_after_calls}
use Rattle.invariance.proofs.Grids.{same_grids}

-- ---- the start renumbered
-- equal positions have equal coordinates
same_coordinates : (l r : List Float) (i j : ℕ) → position_of l i ≡ position_of r j → (k : ℕ) → k < 3 → get_or l (i * 3 + k) nan ≡ get_or r (j * 3 + k) nan
unfolding position_of
same_coordinates l r i j e zero lt =
    let first : (v : ℕ) → v * 3 + 0 ≡ v * 3 = λ v. omega arith in
    ap (λ (n : ℕ). get_or l n nan) (first i) ∙ ap (λ (v : Vector3). v.x) e ∙ sym (ap (λ (n : ℕ). get_or r n nan) (first j))
same_coordinates l r i j e (suc zero) lt = ap (λ (v : Vector3). v.y) e
same_coordinates l r i j e (suc (suc zero)) lt = ap (λ (v : Vector3). v.z) e
same_coordinates l r i j e (suc (suc (suc k))) lt = absurd (let z : ⊥ = omega arith in z)

values_tail : (m : Mesh) (values : List Float) (facts : AdjacencyFacts m) (each : ℕ) (p : List ℕ) (state : State) → IsPermutation (count m) p → DataRenumberedBy m values facts each p state
    → drop (length values / (count m * each) * (count m * each)) state.values ≡ drop (length values / (count m * each) * (count m * each)) values
values_tail m values facts each p state h d = go (cases_Bool (entries_per_vertex_fit (count m) each))
  where
    places : ℕ
    places = length values / (count m * each) * (count m * each)

    go : (entries_per_vertex_fit (count m) each ≡ true) ⊎ (entries_per_vertex_fit (count m) each ≡ false) → drop places state.values ≡ drop places values
    go (inl fit) = ap (drop places) (d.moved fit) ∙ renumbered_data_tail h each fit values
    go (inr unfit) = ap (drop places) (d.kept unfit)

-- ---- the builder, of two meshes
-- an answer by its rows
builder_answer : (m : Mesh) (settings : Settings) (lent : GridSlices) → (build_grid m settings lent).answered
    ≡ answer (build_rows m settings lent) Err (Ok (built (side_of settings.factor (count m)) (held_conversions m.positions (side_of settings.factor (count m)))))
unfolding build_grid
builder_answer m settings lent = go (build_rows m settings lent)
  where
    side : ℕ
    side = side_of settings.factor (count m)

    go : (v : Verdict) → (answer {A = BuildOutcome} v (λ reason. record { answered = Err reason; slices = lent }) (record { answered = Ok (built side (held_conversions m.positions side)); slices = filled_grid (grid_of m settings) lent })).answered
        ≡ answer v Err (Ok (built side (held_conversions m.positions side)))
    go (Ok _) = refl
    go (Err reason) = refl

-- what the lent slices hold is nothing to the rows
rows_by_lengths : (m : Mesh) (settings : Settings) (lent lent₁ : GridSlices) → SameLengths lent lent₁ → build_rows m settings lent₁ ≡ build_rows m settings lent
unfolding build_rows grid_slices_fit
rows_by_lengths m settings lent lent₁ same = rw (same.cell_starts, same.cell_ids, same.triangle_starts, same.triples) refl

same_builds : (m m₁ : Mesh) {p b : ℕ → ℕ} → MeshFacts m → MeshFacts m₁ → Mutual m → NoRepeat m → Renumbered m m₁ p b → SameBuilds m m₁
same_builds m m₁ facts facts₁ mutual-lists no-repeat r settings lent lent₁ same =
    let rows = rows_by_lengths m₁ settings lent lent₁ same ∙ same_build_rows m m₁ settings facts facts₁ mutual-lists no-repeat r lent in
    builder_answer m₁ settings lent₁ ∙ rw (rows, r.same_count, same_held r (side_of settings.factor (count m))) (sym (builder_answer m settings lent))

-- what holds of a state that is the start renumbered by p
renumbered_invariant : (m : Mesh) (values : List Float) (facts : MeshFacts m) → Mutual m → (p : List ℕ) (state : State) → RenumberedBy m values facts.adjacency p state
    → (AllHave : ℕ → Type 0) → ((each : ℕ) → AllHave each → DataRenumberedBy m values facts.adjacency each p state) → Invariant m values state.mesh state.values (at p) AllHave
renumbered_invariant m values facts mutual-lists p state r AllHave d =
    let h = r.permutation in
    let new = r.mesh in
    let m₁ = state.mesh in
    let facts₁ = admissible_renumbered facts new r.adjacency in
    record {
      same_count = new.same_count;
      below = h.below;
      injective = h.injective;
      positions = λ v k lv lk. same_coordinates m₁.positions m.positions (at p v) v (new.positions v lv) k lk;
      lists = new.lists;
      rows = mesh_passed m₁ facts₁;
      single = λ have s v ls lv. rw ((d 1 have).moved (fit_single (count m))) (renumbered_single h values s v ls lv);
      paired = λ have s v w ls lv lw. rw ((d (count m) have).moved (fit_paired (count m))) (renumbered_pair h values s v w ls lv lw);
      data_length = r.data_length;
      single_tail = r.single_tail;
      tail = λ each have. values_tail m values facts.adjacency each p state h (d each have);
      builds = λ no-repeat. same_builds m m₁ facts facts₁ mutual-lists no-repeat new;
      grids = λ settings lent lent₁ g g₁ held held₁ built built₁.
          rw (cut_build m settings lent g held built, cut_build m₁ settings lent₁ g₁ held₁ built₁) (same_grids m m₁ settings facts facts₁ new mutual-lists);
    }

-- ---- the claim, one about the whole list of calls, the empty list included
pub renumbering_invariance_lem : RenumberingInvariance
renumbering_invariance_lem m mark values calls rows mutual-lists =
    let facts = mesh_facts m rows in
    renumbered_invariant m values facts mutual-lists _ _ (after_calls_lem m values facts.adjacency mark calls) (λ each. AcceptedHave each (count m) (longest_length m values) calls)
    (λ each have. data_after_calls m values facts.adjacency mark each calls have)

-- A mesh after the list has as many conversions held at an end as before, whatever slices the builder was lent, as long as it accepted both.
pub held_alike : HeldAlike
held_alike m mark values calls rows settings lent lent₁ g g₁ held held₁ built built₁ =
    let new = (after_calls_lem m values (mesh_facts m rows).adjacency mark calls).mesh in
    let after = (after_calls (state_of m mark values) calls).mesh in
    built_held after settings lent₁ g₁ held₁ built₁
    ∙ ap (λ (n : ℕ). held_conversions after.positions (side_of settings.factor n)) new.same_count
    ∙ same_held new (side_of settings.factor (count m))
    ∙ sym (built_held m settings lent g held built)
