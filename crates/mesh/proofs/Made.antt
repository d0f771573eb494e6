-- A mesh that is checked once: what its making tells. Assumes nothing.
use mathlib.Core.Path.{◌≡◌, refl, ◌∙◌}
use Rattle.std.specs.Prelude.{Result, Ok, Err}
use Rattle.refusal.specs.declared.Refusal.{Refusal}
use Rattle.refusal.specs.Refusal.{Verdict, answer}
use Rattle.mesh.specs.Mesh.{Mesh}
use Rattle.mesh.specs.Rows.{adjacency_rows, checked_mesh}

module _ (m : Mesh) where
  -- one that was made is the mesh that was lent, and its rows hold
  pub checked_made : (made : Mesh) → checked_mesh m ≡ Ok made → (made ≡ m) × (adjacency_rows m ≡ Ok tt)
  unfolding checked_mesh
  checked_made made h = go (adjacency_rows m) refl h
    where
      go : (v : Verdict) → adjacency_rows m ≡ v → ◌≡◌ {A = Result Mesh Refusal} (answer v Err (Ok m)) (Ok made) → (made ≡ m) × (adjacency_rows m ≡ Ok tt)
      go (Ok _) e same = (let z : made ≡ m = cc in z, e)
      go (Err reason) e same = absurd (let z : ⊥ = cc in z)

  pub checked_refused : (reason : Refusal) → checked_mesh m ≡ Err reason → adjacency_rows m ≡ Err reason
  unfolding checked_mesh
  checked_refused reason h = go (adjacency_rows m) refl h
    where
      go : (v : Verdict) → adjacency_rows m ≡ v → ◌≡◌ {A = Result Mesh Refusal} (answer v Err (Ok m)) (Err reason) → adjacency_rows m ≡ Err reason
      go (Ok _) e same = absurd (let z : ⊥ = cc in z)
      go (Err own) e same = e ∙ (let z : ◌≡◌ {A = Verdict} (Err own) (Err reason) = cc in z)
