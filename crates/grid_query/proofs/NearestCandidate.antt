-- Laws of the nearest candidate: it is one of the candidates, the lowest of those at its distance, and among renumbered candidates at the same distance. Assumes nothing.
use Rattle.std.proofs.Common.{◌≡◌, ℕ, ◌<◌, ◌≤◌, List, [], ◌∷◌, length, sym, refl, ap, arith}
use mathlib.Core.List.Memᴰ
use mathlib.Core.List.{Memᴰ}
use lib.Ieee.{Float}
use Rattle.sequences.specs.Ascending.{Ascending}
use Rattle.sequences.proofs.Least.{least_member, least_ascending, least_related_key, least_related}
use Rattle.binary64.specs.TotalOrder.{rank_of}
use Rattle.binary64.proofs.TotalOrder.{rank_of_injective}
use Rattle.refusal.specs.declared.Refusal.{Refusal}
use Rattle.std.specs.Prelude.{Ok, Err}
use Rattle.vector.specs.declared.Vector3.{Vector3}
use Rattle.vector.specs.Vector.{normalized}
use Rattle.grid.specs.Grid.{Grid}
use Rattle.grid_query.specs.Cell.{cell_of_query, candidates, cell_rows}
use Rattle.grid_query.specs.Nearest.{squared_distance, nearest_of, nearest_found, nearest_in, grid_nearest}
use Rattle.grid_query.proofs.Distance.{squared_distance_fits}

-- ranks of squared distances tell the distances
same_rank : (positions positions₁ : List Float) (direction : Vector3) (v w : ℕ) → rank_of (squared_distance positions direction v) ≡ rank_of (squared_distance positions₁ direction w)
    → squared_distance positions direction v ≡ squared_distance positions₁ direction w
same_rank positions positions₁ direction v w e =
    rank_of_injective (squared_distance positions direction v) (squared_distance positions₁ direction w) (squared_distance_fits positions direction v) (squared_distance_fits positions₁ direction w) e

module _ (positions : List Float) (direction : Vector3) where
  pub nearest_member : (ids : List ℕ) → 0 < length ids → Memᴰ (nearest_of positions direction ids) ids
  unfolding nearest_of
  nearest_member [] h = absurd (let z : ⊥ = omega arith in z)
  nearest_member (i ∷ is) h = least_member (λ v. rank_of (squared_distance positions direction v)) i is

  -- "each query gives the lowest of its own ids among them"
  pub nearest_lowest : (ids : List ℕ) → Ascending ids → (j : ℕ) → Memᴰ j ids → squared_distance positions direction j ≡ squared_distance positions direction (nearest_of positions direction ids)
      → nearest_of positions direction ids ≤ j
  unfolding nearest_of
  nearest_lowest [] up j h e = absurd (Memᴰ.not-nil h)
  nearest_lowest (i ∷ is) up j h e = least_ascending (λ v. rank_of (squared_distance positions direction v)) i is up j h (ap rank_of e)

  -- "the answer has id, distance and the count of candidates compared"
  pub nearest_answer_lem : (ids : List ℕ)
      → nearest_in positions direction ids ≡ nearest_found (nearest_of positions direction ids) (squared_distance positions direction (nearest_of positions direction ids)) (length ids)
  unfolding nearest_in
  nearest_answer_lem ids = refl

-- ---- the whole outcome
module _ (grid : Grid) (positions : List Float) (direction : Vector3) where
  pub nearest_refused : (reason : Refusal) → cell_rows grid positions direction ≡ Err reason → grid_nearest grid positions direction ≡ Err reason
  unfolding grid_nearest
  nearest_refused reason h = rw h refl

  pub nearest_passed : cell_rows grid positions direction ≡ Ok tt
      → grid_nearest grid positions direction ≡ Ok (nearest_in positions (normalized direction) (candidates grid (cell_of_query grid direction)))
  unfolding grid_nearest
  nearest_passed h = rw h refl

-- ---- candidates taken through p, each at the distance it had
pub record SameCandidates (distance : ℕ → Float) (ids : List ℕ) (distance₁ : ℕ → Float) (ids₁ : List ℕ) (p : ℕ → ℕ) : Type 0 where
  pub same_number : length ids₁ ≡ length ids
  pub forth : (x : ℕ) → Memᴰ x ids → Memᴰ (p x) ids₁
  pub back : (y : ℕ) → Memᴰ y ids₁ → (x : ℕ) × Memᴰ x ids × (p x ≡ y)
  pub same_distance : (x : ℕ) → Memᴰ x ids → distance₁ (p x) ≡ distance x

module _ (positions positions₁ : List Float) (direction : Vector3) (p : ℕ → ℕ) where
  -- "Distance bits ... are equal."
  pub nearest_same_distance : (ids ids₁ : List ℕ) → 0 < length ids → SameCandidates (squared_distance positions direction) ids (squared_distance positions₁ direction) ids₁ p
      → squared_distance positions direction (nearest_of positions direction ids) ≡ squared_distance positions₁ direction (nearest_of positions₁ direction ids₁)
  unfolding nearest_of
  nearest_same_distance [] ids₁ some r = absurd (let z : ⊥ = omega arith in z)
  nearest_same_distance (i ∷ is) [] some r = absurd (let z : ⊥ = omega (arith, r.same_number) in z)
  nearest_same_distance (i ∷ is) (j ∷ js) some r =
      same_rank positions positions₁ direction _ _
      (sym (least_related_key (λ v. rank_of (squared_distance positions direction v)) (λ v. rank_of (squared_distance positions₁ direction v)) p i is j js r.forth r.back (λ x m. ap rank_of (r.same_distance x m))))

  -- "Where one candidate alone has these bits, the later id is p of the earlier"
  pub nearest_alone : (ids ids₁ : List ℕ) → 0 < length ids → SameCandidates (squared_distance positions direction) ids (squared_distance positions₁ direction) ids₁ p
      → ((j : ℕ) → Memᴰ j ids → squared_distance positions direction j ≡ squared_distance positions direction (nearest_of positions direction ids) → j ≡ nearest_of positions direction ids)
      → nearest_of positions₁ direction ids₁ ≡ p (nearest_of positions direction ids)
  unfolding nearest_of
  nearest_alone [] ids₁ some r alone = absurd (let z : ⊥ = omega arith in z)
  nearest_alone (i ∷ is) [] some r alone = absurd (let z : ⊥ = omega (arith, r.same_number) in z)
  nearest_alone (i ∷ is) (j ∷ js) some r alone =
      least_related (λ v. rank_of (squared_distance positions direction v)) (λ v. rank_of (squared_distance positions₁ direction v)) p i is j js r.forth r.back (λ x m. ap rank_of (r.same_distance x m))
      (λ b m e. alone b m (same_rank positions positions direction b _ e))
