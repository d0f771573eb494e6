-- Laws of points by kind, at corners, on edges or inside: their weights, and when two are one vertex. Assumes nothing.
use Rattle.std.proofs.Common.{◌≡◌, ℕ, zero, suc, ◌+◌, ◌-◌, ◌<◌, ◌≤◌, Bool, true, ◌⊎◌, sym, refl, ap, ◌∙◌, inl, inr, eq-zero-or-pos, arith, lt-ltb}
use Rattle.icosahedron.specs.Icosahedron.{face_corner}
use Rattle.lattice.specs.Lattice.{LatticePoint, point_at, weight_at, weight_on}
use Rattle.lattice.specs.Appearances.{OnLattice, by_support}
use Rattle.lattice.specs.Shared.{next_place, corner_at, edge_at}
use Rattle.lattice.proofs.Corners.{weight_on_none}
use Rattle.lattice.proofs.Keys.{SameWeights}

-- ---- each point is of one of the three kinds
pub data Kind (n : ℕ) (p : LatticePoint) : Type 0 where
  at_corner_lem : (s : ℕ) → s < 3 → p ≡ corner_at n p.face s → Kind n p
  on_edge : (s w : ℕ) → s < 3 → 0 < w → w < n → p ≡ edge_at n p.face s w → Kind n p
  inside : 0 < p.a → 0 < p.b → p.a + p.b < n → Kind n p

-- which of them, by the weights that are zero
pub kind : (n : ℕ) (p : LatticePoint) → 1 ≤ n → OnLattice n p → Kind n p
unfolding corner_at edge_at
kind n p le on = go (eq-zero-or-pos p.a) (eq-zero-or-pos p.b) (eq-zero-or-pos (n - p.a - p.b))
  where
    named : (a b : ℕ) → p.a ≡ a → p.b ≡ b → p ≡ point_at p.face a b
    named a b e d = rw (← e, ← d) refl

    go : (p.a ≡ 0) ⊎ (0 < p.a) → (p.b ≡ 0) ⊎ (0 < p.b) → (n - p.a - p.b ≡ 0) ⊎ (0 < n - p.a - p.b) → Kind n p
    go (inl a) (inl b) c = at_corner_lem 2 (omega arith) (named 0 0 a b)
    go (inl a) (inr b) (inl c) = at_corner_lem 1 (omega arith) (named 0 n a (omega (arith, on.weights_within)))
    go (inl a) (inr b) (inr c) = on_edge 0 p.b (omega arith) b (omega arith) (named 0 p.b a refl)
    go (inr a) (inl b) (inl c) = at_corner_lem 0 (omega arith) (named n 0 (omega (arith, on.weights_within)) b)
    go (inr a) (inl b) (inr c) = on_edge 1 (n - p.a) (omega arith) (omega arith) (omega arith) (named (n - (n - p.a)) 0 (omega (arith, on.weights_within)) b)
    go (inr a) (inr b) (inl c) = on_edge 2 p.a (omega arith) a (omega (arith, on.weights_within)) (named p.a (n - p.a) refl (omega (arith, on.weights_within)))
    go (inr a) (inr b) (inr c) = inside a b (omega arith)

-- ---- places
-- ---- points at corners and on edges, and their weights
module _ (n face : ℕ) (below : face < 20) where
  pub corner_on_lattice : (place : ℕ) → OnLattice n (corner_at n face place)
  unfolding corner_at
  corner_on_lattice zero = record { face_below = below; weights_within = omega arith }
  corner_on_lattice (suc zero) = record { face_below = below; weights_within = omega arith }
  corner_on_lattice (suc (suc place)) = record { face_below = below; weights_within = omega arith }

  pub corner_weights : (place k : ℕ) → place < 3 → weight_at n (corner_at n face place) k ≡ weight_on (face_corner face place) n k
  unfolding corner_at weight_at
  corner_weights zero k lt =
      rw (let z : n - n - 0 ≡ 0 = omega arith in z) (omega (arith, weight_on_none (face_corner face 1) k, weight_on_none (face_corner face 2) k))
  corner_weights (suc zero) k lt =
      rw (let z : n - 0 - n ≡ 0 = omega arith in z) (omega (arith, weight_on_none (face_corner face 0) k, weight_on_none (face_corner face 2) k))
  corner_weights (suc (suc zero)) k lt =
      rw (let z : n - 0 - 0 ≡ n = omega arith in z) (omega (arith, weight_on_none (face_corner face 0) k, weight_on_none (face_corner face 1) k))
  corner_weights (suc (suc (suc place))) k lt = absurd (let z : ⊥ = omega arith in z)

  pub edge_on_lattice : (place w : ℕ) → w ≤ n → OnLattice n (edge_at n face place w)
  unfolding edge_at
  edge_on_lattice zero w le = record { face_below = below; weights_within = omega arith }
  edge_on_lattice (suc zero) w le = record { face_below = below; weights_within = omega arith }
  edge_on_lattice (suc (suc place)) w le = record { face_below = below; weights_within = omega arith }

  pub edge_weights : (place w k : ℕ) → w ≤ n
      → weight_at n (edge_at n face place w) k ≡ weight_on (face_corner face (next_place place)) w k + weight_on (face_corner face (next_place (next_place place))) (n - w) k
  unfolding edge_at weight_at next_place
  edge_weights zero w k le = rw (let z : n - 0 - w ≡ n - w = omega arith in z) (omega (arith, weight_on_none (face_corner face 0) k))
  edge_weights (suc zero) w k le = rw (let z : n - (n - w) - 0 ≡ w = omega arith in z) (omega (arith, weight_on_none (face_corner face 1) k))
  edge_weights (suc (suc place)) w k le = rw (let z : n - w - (n - w) ≡ 0 = omega arith in z) (omega (arith, weight_on_none (face_corner face 2) k))

-- ---- one vertex, by kind
-- corners: they stand on the same one of the twelve
module _ (n f s g t : ℕ) (positive : 1 ≤ n) (fb : f < 20) (gb : g < 20) (sb : s < 3) (tb : t < 3) where
  pub corner_same_weights : face_corner f s ≡ face_corner g t → SameWeights n (corner_at n f s) (corner_at n g t)
  corner_same_weights e k = corner_weights n f fb s k sb ∙ ap (λ (c : ℕ). weight_on c n k) e ∙ sym (corner_weights n g gb t k tb)

-- two different corners with weights, and two others: the same weights, in one order or the other
pub data SameEnds (n x y w x₁ y₁ w₁ : ℕ) : Type 0 where
  along : x ≡ x₁ → y ≡ y₁ → w ≡ w₁ → SameEnds n x y w x₁ y₁ w₁
  against : x ≡ y₁ → y ≡ x₁ → w + w₁ ≡ n → SameEnds n x y w x₁ y₁ w₁

-- edges: the same two corners, with the same weights
module _ (n f s w g t w₁ : ℕ) (fb : f < 20) (gb : g < 20) where
  abbrev EndsOf : Type 0
  EndsOf =
      SameEnds n (face_corner f (next_place s)) (face_corner f (next_place (next_place s))) w (face_corner g (next_place t)) (face_corner g (next_place (next_place t))) w₁

  pub edge_same_weights : w ≤ n → w₁ ≤ n → EndsOf → SameWeights n (edge_at n f s w) (edge_at n g t w₁)
  edge_same_weights le le₁ ends k = edge_weights n f fb s w k le ∙ go ends ∙ sym (edge_weights n g gb t w₁ k le₁)
    where
      go : EndsOf
          → weight_on (face_corner f (next_place s)) w k + weight_on (face_corner f (next_place (next_place s))) (n - w) k
          ≡ weight_on (face_corner g (next_place t)) w₁ k + weight_on (face_corner g (next_place (next_place t))) (n - w₁) k
      go (along x y e) = rw (x, y, e) refl
      go (against x y e) = rw (x, y, let z : n - w ≡ w₁ = omega arith in z, let z : n - w₁ ≡ w = omega arith in z) (omega arith)

-- ---- inside a face
-- a test by the support, at a point inside
pub interior_support : (test : ℕ → Bool → Bool → Bool → Bool) (n : ℕ) (p : LatticePoint) → 0 < p.a → 0 < p.b → p.a + p.b < n → by_support test n p ≡ test p.face true true true
interior_support test n p a b c = rw (lt-ltb 0 p.a a, lt-ltb 0 p.b b, lt-ltb 0 (n - p.a - p.b) (omega arith)) refl
