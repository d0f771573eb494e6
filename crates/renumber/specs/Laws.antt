-- This crate's theorems: what a renumbered mesh is, how renumberings follow one another, and what a call does to the mark. Definitions only.
use Rattle.std.specs.Prelude.{ℕ, ◌<◌, ◌≡◌, Bool, List, length, slice_index, Float, Ok, Err}
use Rattle.sequences.specs.Ascending.{Nondecreasing, sort}
use Rattle.sequences.specs.Permutation.{IsPermutation, inverse, identity, compose}
use Rattle.refusal.specs.declared.Refusal.{Refusal}
use Rattle.mesh.specs.Mesh.{Mesh, count, neighbours}
use Rattle.mesh.specs.Rows.{adjacency_rows}
use Rattle.mesh.specs.Mark.{Truthful}
use Rattle.mesh.specs.Laws.{IndexTold}
use Rattle.renumber.specs.Renumber.{Call, RenumberOutcome, renumbered_mesh, apply_vertex_permutation}

-- ---- a renumbered mesh
-- It has n vertices as before, and every entry is one of them.
pub record RenumberedFacts (n : ℕ) (m : Mesh) : Type 0 where
  pub same_count : count m ≡ n
  pub entries_below : (i : ℕ) → i < length m.entries → slice_index m.entries i < n

abbrev pub RenumberedBelow : Type 0
RenumberedBelow = (m : Mesh) (mark : Bool) (values : List Float) (call : Call) → let outcome = apply_vertex_permutation m mark values call in
    outcome.answered ≡ Ok tt → RenumberedFacts (count m) outcome.mesh

-- Every list ascends, repeats side by side, whatever the lists were.
abbrev pub RenumberedAscends : Type 0
RenumberedAscends = (m : Mesh) (q : List ℕ) → IsPermutation (count m) q → (i : ℕ) → i < count m → Nondecreasing (neighbours (renumbered_mesh q m) i)

-- ---- renumberings one after another
-- By p and then by q is by their composition, to the order of each list.
abbrev pub RenumberedTwice : Type 0
RenumberedTwice = (m : Mesh) (p q : List ℕ) → adjacency_rows m ≡ Ok tt → IsPermutation (count m) p → IsPermutation (count m) q → renumbered_mesh q (renumbered_mesh p m) ≡ renumbered_mesh (compose q p) m

-- The inverse of a composition is made of the two inverses.
abbrev pub InverseComposed : Type 0
InverseComposed = (n : ℕ) (p q : List ℕ) → IsPermutation n p → IsPermutation n q → inverse (compose q p) ≡ compose (inverse p) (inverse q)

-- By the identity positions stay, and each list is sorted.
abbrev pub IdentityPositions : Type 0
IdentityPositions = (m : Mesh) → adjacency_rows m ≡ Ok tt → (renumbered_mesh (identity (count m)) m).positions ≡ m.positions

abbrev pub IdentityLists : Type 0
IdentityLists = (m : Mesh) → adjacency_rows m ≡ Ok tt → (i : ℕ) → i < count m → neighbours (renumbered_mesh (identity (count m)) m) i ≡ sort (neighbours m i)

-- ---- the mark that the lists ascend, and the index of a refusal
-- A mark that was truthful is so after the call, whether it is refused or not.
abbrev pub RenumberingTruthful : Type 0
RenumberingTruthful = (m : Mesh) (mark : Bool) (values : List Float) (call : Call) → let outcome = apply_vertex_permutation m mark values call in
    Truthful m mark → Truthful outcome.mesh outcome.mark

-- Two outcomes that are alike but for the mark.
pub record AlikeButMark (o₁ o₂ : RenumberOutcome) : Type 0 where
  pub verdict : o₁.answered ≡ o₂.answered
  pub mesh : o₁.mesh ≡ o₂.mesh
  pub values : o₁.values ≡ o₂.values

abbrev pub RenumberingSame : Type 0
RenumberingSame = (m : Mesh) (mark other : Bool) (values : List Float) (call : Call) → AlikeButMark (apply_vertex_permutation m mark values call) (apply_vertex_permutation m other values call)

abbrev pub RenumberIndex : Type 0
RenumberIndex = (m : Mesh) (mark : Bool) (values : List Float) (call : Call) (reason : Refusal) → (apply_vertex_permutation m mark values call).answered ≡ Err reason → IndexTold m.starts reason
