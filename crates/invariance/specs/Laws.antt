-- This crate's theorems, each of every list of calls. Definitions only.
use Rattle.std.specs.Prelude.{ℕ, ◌≡◌, Bool, List, [], ◌∷◌, length, Float, Ok}
use Rattle.sequences.specs.Permutation.{at}
use Rattle.binary64.specs.Constants.{one}
use Rattle.mesh.specs.Mesh.{Mesh, count, mesh_of}
use Rattle.mesh.specs.Rows.{mesh_rows}
use Rattle.mesh.specs.Adjacency.{Mutual}
use Rattle.mesh.specs.Mark.{Truthful}
use Rattle.renumber.specs.Renumber.{Call, longest_length, renumbered_mesh}
use Rattle.icosahedron.specs.Slots.{IsFrequency}
use Rattle.lattice.specs.Lattice.{lattice_mesh}
use Rattle.grid.specs.declared.settings.Settings.{Settings}
use Rattle.grid.specs.Triangles.{triangles}
use Rattle.grid.specs.Grid.{GridSlices, built, build_grid}
use Rattle.invariance.specs.Calls.{State, state_of, after_calls, accumulated_permutation, AcceptedHave}
use Rattle.invariance.specs.Claim.{Invariant, SameBuilds}

-- ---- mesh, data and grids
-- The claim, of a start and of what a list of calls leaves of it.
abbrev pub InvariantAfter : Mesh → Bool → List Float → List Call → Type 0
InvariantAfter m mark values calls =
    let start = state_of m mark values in
    let after = after_calls start calls in
    Invariant m values after.mesh after.values (at (accumulated_permutation start calls)) (λ each. AcceptedHave each (count m) (longest_length m values) calls)

-- It holds of every mesh that passes the builder's mesh rows and whose neighbours are mutual.
abbrev pub RenumberingInvariance : Type 0
RenumberingInvariance = (m : Mesh) (mark : Bool) (values : List Float) (calls : List Call) → mesh_rows m ≡ Ok tt → Mutual m → InvariantAfter m mark values calls

-- So it does of every lattice, of which nothing is left to assume.
abbrev pub LatticeInvariance : Type 0
LatticeInvariance = (n : ℕ) → IsFrequency n → (mark : Bool) (values : List Float) (calls : List Call) → InvariantAfter (lattice_mesh n) mark values calls

abbrev pub LatticeBuilds : Type 0
LatticeBuilds = (n : ℕ) → IsFrequency n → (mark : Bool) (values : List Float) (calls : List Call) → SameBuilds (lattice_mesh n) (after_calls (state_of (lattice_mesh n) mark values) calls).mesh

-- Why `builds` asks that no list names a vertex twice. Three mutual vertices, of which the first names the second twice, have two triangles, and one once the first and the last have changed places.
abbrev pub naming_twice : Mesh
naming_twice = mesh_of (one ∷ one ∷ one ∷ one ∷ one ∷ one ∷ one ∷ one ∷ one ∷ []) (0 ∷ 3 ∷ 5 ∷ 7 ∷ []) (1 ∷ 1 ∷ 2 ∷ 0 ∷ 2 ∷ 0 ∷ 1 ∷ [])

abbrev pub RepeatsCount : Type 0
RepeatsCount = (length (triangles naming_twice) ≡ 2) × (length (triangles (renumbered_mesh (2 ∷ 1 ∷ 0 ∷ []) naming_twice)) ≡ 1)

-- Of two builds with one pair, before and after the list, both accepted, the counts of conversions held at an end are equal. This asks nothing of the neighbour lists but the rows.
abbrev pub HeldAlike : Type 0
HeldAlike = (m : Mesh) (mark : Bool) (values : List Float) (calls : List Call) → mesh_rows m ≡ Ok tt → (settings : Settings) (lent lent₁ : GridSlices) (g g₁ held held₁ : ℕ)
    → (build_grid m settings lent).answered ≡ Ok (built g held) → (build_grid (after_calls (state_of m mark values) calls).mesh settings lent₁).answered ≡ Ok (built g₁ held₁) → held₁ ≡ held

-- ---- the mark that the lists ascend
-- Where it is truthful before the list, it is so after it.
abbrev pub CallsTruthful : Type 0
CallsTruthful = (state : State) (calls : List Call) → Truthful state.mesh state.mark → Truthful (after_calls state calls).mesh (after_calls state calls).mark

-- Mesh and data after the list don't depend on it.
abbrev pub CallsSame : Type 0
CallsSame = (m : Mesh) (mark other : Bool) (values : List Float) (calls : List Call)
    → ((after_calls (state_of m mark values) calls).mesh ≡ (after_calls (state_of m other values) calls).mesh)
    × ((after_calls (state_of m mark values) calls).values ≡ (after_calls (state_of m other values) calls).values)
