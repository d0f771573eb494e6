-- A part of ids taken three at a time: what is left of it gives the triangle kept of all. Assumes nothing.
use Rattle.std.proofs.Common.{◌≡◌, ℕ, zero, suc, ◌+◌, ◌/◌, ◌<◌, ◌≤◌, cond, List, [], ◌∷◌, length, get_or, drop, drop_of_length-le, sym, refl, ap, subst, ◌∙◌, arith}
use Rattle.std.proofs.lemmas.List.{at_drop_more}
use Rattle.std.specs.Simd.{first_chunks}
use lib.Ieee.{Float, lt}
use Rattle.vector.specs.declared.Vector3.{Vector3}
use Rattle.vector.specs.declared.Weights.{Weights}
use Rattle.barycentric.specs.LeastWeight.{least_weight}
use Rattle.barycentric.specs.Ericson.{projected_barycentric}
use Rattle.mesh.specs.Mesh.{position_of}
use Rattle.std.specs.Prelude.{Option, Some}
use Rattle.grid_query.specs.declared.LocatedTriangle.{LocatedTriangle}
use Rattle.grid_query.specs.Cell.{in_triples}
use Rattle.vector.specs.Triangle.{triple_of}
use Rattle.grid_query.specs.Locate.{located, weighed_by, least_kept, kept_by, kept_of}

-- each of the ids is below n
abbrev pub EachBelow : ℕ → List ℕ → Type 0
EachBelow n ids = (i : ℕ) → i < length ids → get_or ids i 0 < n

-- the ids three at a time, as code cuts them
pub chunks_are : (l : List ℕ) → first_chunks 3 (length l / 3) l ≡ in_triples l
unfolding in_triples
chunks_are [] = refl
chunks_are (a ∷ []) = refl
chunks_are (a ∷ b ∷ []) = refl
chunks_are (a ∷ b ∷ c ∷ rest) =
    let more : length (a ∷ b ∷ c ∷ rest) / 3 ≡ suc (length rest / 3) = omega arith in
    ap (λ (k : ℕ). first_chunks 3 k (a ∷ b ∷ c ∷ rest)) more ∙ ap (λ (ts : List (List ℕ)). (a ∷ b ∷ c ∷ []) ∷ ts) (chunks_are rest)

-- three ids, each below n
abbrev pub TripleBelow : ℕ → List ℕ → Type 0
TripleBelow n t = (length t ≡ 3) × (get_or t 0 0 < n) × (get_or t 1 0 < n) × (get_or t 2 0 < n)

each_triple : (n : ℕ) (l : List ℕ) → EachBelow n l → (i : ℕ) → i < length (in_triples l) → TripleBelow n (get_or (in_triples l) i [])
unfolding in_triples
each_triple n [] below i h = absurd (let z : ⊥ = omega arith in z)
each_triple n (a ∷ []) below i h = absurd (let z : ⊥ = omega arith in z)
each_triple n (a ∷ b ∷ []) below i h = absurd (let z : ⊥ = omega arith in z)
each_triple n (a ∷ b ∷ c ∷ rest) below zero h = (refl, below 0 (omega arith), below 1 (omega arith), below 2 (omega arith))
each_triple n (a ∷ b ∷ c ∷ rest) below (suc i) h = each_triple n rest (λ j lt. below (suc (suc (suc j))) (omega arith)) i (omega arith)

pub triple_at : (n : ℕ) (l : List ℕ) (ts : List (List ℕ)) → ts ≡ first_chunks 3 (length l / 3) l → EachBelow n l → (i : ℕ) → i < length ts → TripleBelow n (get_or ts i [])
triple_at n l ts e below i h = subst (λ (us : List (List ℕ)). i < length us → TripleBelow n (get_or us i [])) (sym (e ∙ chunks_are l)) (each_triple n l below i) h

-- one triple more
module _ (positions : List Float) (direction : Vector3) (kept : Option LocatedTriangle) where
  abbrev weights_of : List ℕ → Weights
  weights_of t = projected_barycentric direction (position_of positions (get_or t 0 0)) (position_of positions (get_or t 1 0)) (position_of positions (get_or t 2 0))

  abbrev kept_with : List ℕ → Weights → Option LocatedTriangle
  kept_with t weights = cond (lt (least_kept kept) (least_weight weights)) (Some (located (triple_of (get_or t 0 0) (get_or t 1 0) (get_or t 2 0)) weights)) kept

  kept_one : (t : List ℕ) (more : List (List ℕ)) → length t ≡ 3 → kept_of positions direction (kept_with t (weights_of t)) more ≡ kept_of positions direction kept (t ∷ more)
  unfolding kept_by weighed_by
  kept_one (a ∷ b ∷ c ∷ []) more three = refl
  kept_one [] more three = absurd (let z : ⊥ = omega arith in z)
  kept_one (a ∷ []) more three = absurd (let z : ⊥ = omega arith in z)
  kept_one (a ∷ b ∷ []) more three = absurd (let z : ⊥ = omega arith in z)
  kept_one (a ∷ b ∷ c ∷ d ∷ rest) more three = absurd (let z : ⊥ = omega arith in z)

  pub kept_step : (ts : List (List ℕ)) (i : ℕ) (next : Option LocatedTriangle) (weights : Weights) → i < length ts → length (get_or ts i []) ≡ 3
      → weights ≡ weights_of (get_or ts i []) → next ≡ kept_with (get_or ts i []) weights
      → kept_of positions direction next (drop (i + 1) ts) ≡ kept_of positions direction kept (drop i ts)
  kept_step ts i next weights inside three w n = rw (n, w) (kept_one (get_or ts i []) (drop (i + 1) ts) three) ∙ sym (at_drop_more (kept_of positions direction kept) ts i [] inside)

  -- none left
  pub kept_end : (ts : List (List ℕ)) (i : ℕ) → length ts ≤ i → kept_of positions direction kept (drop i ts) ≡ kept
  unfolding kept_by
  kept_end ts i all = rw (drop_of_length-le ts {i = i} all) refl
