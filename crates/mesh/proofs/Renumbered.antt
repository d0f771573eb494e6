-- A mesh and the mesh renumbered: neighbours stay neighbours, the relation can be turned round and followed by another, mutual lists stay mutual, lists without repeats and admissible positions stay so. Assumes nothing.
use Prim.Native.Nat.{ℕ, ◌<◌}
use native.Mathlib.Omega.{arith}
use mathlib.Core.Path.{◌≡◌, refl, sym, ap, subst, ◌∙◌}
use mathlib.Core.List.Memᴰ
use mathlib.Core.List.{map, map-map, map-id, Memᴰ}
use Rattle.sequences.specs.Ascending.{sort}
use Rattle.sequences.specs.Permutation.{Bijection}
use Rattle.sequences.proofs.Permutation.{bijection_flip, bijection_injective, map_extensional}
use Rattle.sequences.proofs.Ascending.{distinct_map, sort_members, sort_distinct}
use Rattle.sequences.proofs.Sorted.{sort_map_alike, sort_distinct_back}
use Rattle.vector.specs.Direction.{admissible}
use Rattle.mesh.specs.Mesh.{Mesh, count, position_of, neighbours}
use Rattle.mesh.specs.Adjacency.{Mutual, NoRepeat}
use Rattle.mesh.proofs.Facts.{AdjacencyFacts, MeshFacts}
use Rattle.mesh.proofs.Neighbours.{neighbour_below}

-- The mesh m₁ is the mesh m with each id taken through p, whose inverse is b. Lists are compared sorted. Whatever is worked out from positions and lists alone, as a grid is, can be compared by this.
pub record Renumbered (m m₁ : Mesh) (p b : ℕ → ℕ) : Type 0 where
  pub bijection : Bijection (count m) p b
  pub same_count : count m₁ ≡ count m
  pub positions : (v : ℕ) → v < count m → position_of m₁.positions (p v) ≡ position_of m.positions v
  pub lists : (v : ℕ) → v < count m → sort (neighbours m₁ (p v)) ≡ sort (map p (neighbours m v))

pub neighbour_renumbered : {m m₁ : Mesh} {p b : ℕ → ℕ} → Renumbered m m₁ p b → (x y : ℕ) → x < count m → Memᴰ y (neighbours m x) → Memᴰ (p y) (neighbours m₁ (p x))
neighbour_renumbered {m} {m₁} {p} r x y lt h =
    (sort_members (neighbours m₁ (p x))).forth (p y) (rw (r.lists x lt) ((sort_members (map p (neighbours m x))).back (p y) (Memᴰ.map p h)))

-- m is m₁ renumbered by the inverse
pub renumbered_flip : {m m₁ : Mesh} {p b : ℕ → ℕ} → AdjacencyFacts m → Renumbered m m₁ p b → Renumbered m₁ m b p
renumbered_flip {m} {m₁} {p} {b} facts r =
    let same = r.same_count in
    let back : (v : ℕ) → v < count m₁ → (b v < count m) × (p (b v) ≡ v) = λ v lt. (r.bijection.inverse_maps v (omega arith), r.bijection.right_inverse v (omega arith)) in
    record {
      bijection = subst (λ (n : ℕ). Bijection n b p) (sym same) (bijection_flip r.bijection);
      same_count = sym same;
      positions = λ v lt. sym (r.positions (b v) (back v lt).0) ∙ ap (position_of m₁.positions) (back v lt).1;
      lists = λ v lt.
          let old = neighbours m (b v) in
          let same : sort (neighbours m₁ v) ≡ sort (map p old) = ap (λ (u : ℕ). sort (neighbours m₁ u)) (sym (back v lt).1) ∙ r.lists (b v) (back v lt).0 in
          sym (sort_map_alike b (neighbours m₁ v) (map p old) same
          ∙ ap sort (map-map b p old ∙ map_extensional (λ x. b (p x)) (λ x. x) old (λ x h. r.bijection.left_inverse x (neighbour_below m facts (b v) x h)) ∙ map-id old));
    }

pub mutual_renumbered : {m m₁ : Mesh} {p b : ℕ → ℕ} → AdjacencyFacts m → Renumbered m m₁ p b → Mutual m → Mutual m₁
mutual_renumbered {m} {m₁} {p} {b} facts r mutual-lists v w lv lw = (one_way v w lv lw, one_way w v lw lv)
  where
    one_way : (v w : ℕ) → v < count m₁ → w < count m₁ → Memᴰ w (neighbours m₁ v) → Memᴰ v (neighbours m₁ w)
    one_way v w lv lw h =
        let same = r.same_count in
        let below : (x : ℕ) → x < count m₁ → b x < count m = λ x lt. r.bijection.inverse_maps x (omega arith) in
        let again : (x : ℕ) → x < count m₁ → p (b x) ≡ x = λ x lt. r.bijection.right_inverse x (omega arith) in
        let old = neighbour_renumbered (renumbered_flip facts r) v w lv h in
        let new = neighbour_renumbered r (b w) (b v) (below w lw) ((mutual-lists (b v) (b w) (below v lv) (below w lw)).0 old) in
        Memᴰ.cast (sym (again v lv)) (subst (λ (x : ℕ). Memᴰ (p (b v)) (neighbours m₁ x)) (again w lw) new)

pub no_repeat_renumbered : {m m₁ : Mesh} {p b : ℕ → ℕ} → AdjacencyFacts m → Renumbered m m₁ p b → NoRepeat m → NoRepeat m₁
no_repeat_renumbered {m} {m₁} {p} {b} facts r distinct v lt =
    let same = r.same_count in
    let below : b v < count m = r.bijection.inverse_maps v (omega arith) in
    let list : sort (neighbours m₁ v) ≡ sort (map p (neighbours m (b v))) = ap (λ (u : ℕ). sort (neighbours m₁ u)) (sym (r.bijection.right_inverse v (omega arith))) ∙ r.lists (b v) below in
    sort_distinct_back (neighbours m₁ v) (rw list (sort_distinct (map p (neighbours m (b v))) (distinct_map p (neighbours m (b v)) (λ x y hx hy e. bijection_injective r.bijection x y (neighbour_below m facts (b v) x hx) (neighbour_below m facts (b v) y hy) e) (distinct (b v) below))))

pub admissible_renumbered : {m m₁ : Mesh} {p b : ℕ → ℕ} → MeshFacts m → Renumbered m m₁ p b → AdjacencyFacts m₁ → MeshFacts m₁
admissible_renumbered {m} {m₁} {p} {b} facts r adjacency = record {
  adjacency = adjacency;
  admissible_positions = λ v lt.
      let same = r.same_count in
      let below : b v < count m = r.bijection.inverse_maps v (omega arith) in
      ap (λ (u : ℕ). admissible (position_of m₁.positions u)) (sym (r.bijection.right_inverse v (omega arith))) ∙ ap admissible (r.positions (b v) below) ∙ facts.admissible_positions (b v) below;
}

-- ---- lists of renumberings
-- where p moves no id, a mesh is itself renumbered
pub renumbered_none : (m : Mesh) → AdjacencyFacts m → {p b : ℕ → ℕ} → Bijection (count m) p b → ((v : ℕ) → v < count m → p v ≡ v) → Renumbered m m p b
renumbered_none m facts {p} {b} bijection same = record {
  bijection = bijection;
  same_count = refl;
  positions = λ v lt. ap (position_of m.positions) (same v lt);
  lists = λ v lt.
      ap (λ (u : ℕ). sort (neighbours m u)) (same v lt)
      ∙ ap sort (sym (map_extensional p (λ x. x) (neighbours m v) (λ x h. same x (neighbour_below m facts v x h)) ∙ map-id (neighbours m v)));
}

-- p, then q, which together are f
pub renumbered_then : {m m₁ m₂ : Mesh} {p b q c f g : ℕ → ℕ} → AdjacencyFacts m → Renumbered m m₁ p b → Renumbered m₁ m₂ q c → Bijection (count m) f g → ((v : ℕ) → v < count m → f v ≡ q (p v))
    → Renumbered m m₂ f g
renumbered_then {m} {m₁} {m₂} {p} {b} {q} {c} {f} {g} facts r s bijection both =
    let below : (v : ℕ) → v < count m → p v < count m₁ = λ v lt. let k = r.bijection.maps v lt in let same = r.same_count in omega arith in
    record {
      bijection = bijection;
      same_count = s.same_count ∙ r.same_count;
      positions = λ v lt. ap (position_of m₂.positions) (both v lt) ∙ s.positions (p v) (below v lt) ∙ r.positions v lt;
      lists = λ v lt.
          ap (λ (u : ℕ). sort (neighbours m₂ u)) (both v lt) ∙ s.lists (p v) (below v lt) ∙ sort_map_alike q (neighbours m₁ (p v)) (map p (neighbours m v)) (r.lists v lt)
          ∙ ap sort (map-map q p (neighbours m v) ∙ sym (map_extensional f (λ x. q (p x)) (neighbours m v) (λ x h. both x (neighbour_below m facts v x h))));
    }
