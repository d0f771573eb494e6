-- Where neighbours are mutual, a root's island is the complete walk from it, behind what was found (`island_of_root`), and the root is its lowest id (`root_lowest`). Assumes nothing.
-- A mesh of fewer vertices, which a greater one has under other ids: `island_as_mesh`.
use Prim.Native.Nat.{ℕ, ◌+◌, ◌≤◌, ◌<◌}
use native.Mathlib.Omega.{arith}
use native.Mathlib.Decide.{dec_lt}
use mathlib.Core.Path.{◌≡◌, ap, ◌∙◌}
use mathlib.Core.List.Memᴰ
use mathlib.Core.List.{List, [], ◌∷◌, ◌++◌, map, Memᴰ}
use lib.ListN.{length}
use Rattle.sequences.specs.Permutation.{at}
use Rattle.walk.specs.Walk.{Visit, begun, continued, walk_from}
use Rattle.walk.proofs.Queue.{ids_at_most}
use Rattle.walk.proofs.Continued.{continued_end, walk_ids}
use Rattle.islands.specs.Islands.{Islands, island_from, islands_below}
use Rattle.islands.proofs.Renamed.{walk_renamed}
use Rattle.islands.proofs.Alone.{island_apart, island_alone}
use Rattle.islands.proofs.Numbered.{islands_ids, islands_have, islands_closed}

module _ (lists : ℕ → List ℕ) {n : ℕ} (below : (v : ℕ) → v < n → (x : ℕ) → Memᴰ x (lists v) → x < n)
    (mutual_lists : (v w : ℕ) → v < n → w < n → Memᴰ w (lists v) → Memᴰ v (lists w)) (root : ℕ) (lt : root < n) (outside : Memᴰ root (islands_below lists n root).visit.queue → ⊥) where
  abbrev found : Islands
  found = islands_below lists n root

  -- nobody else has a neighbour among what was found
  apart : (w x : ℕ) → w < n → Memᴰ x (lists w) → Memᴰ x found.visit.queue → Memᴰ w found.visit.queue
  apart w x wlt m old = islands_closed lists below root (omega arith) x w old (mutual_lists w x wlt ((islands_ids lists below root (omega arith)).below x old) m)

  pub island_of_root : (island_from lists n (islands_below lists n root) root).visit.queue ≡ (islands_below lists n root).visit.queue ++ (walk_from n lists root).queue
  unfolding walk_from
  island_of_root = island_alone lists below found.visit root lt apart outside n

  pub root_lowest : (x : ℕ) → Memᴰ x (walk_from n lists root).queue → root ≤ x
  unfolding walk_from
  root_lowest x m = elim (dec_lt x root) [ yes l ↦ absurd (island_apart lists below found.visit root lt apart outside n x m (islands_have lists below root x l)) | no g ↦ omega arith ]

-- `ids` are the ids of the fewer vertices in the greater mesh: its walk from the first of them is theirs from vertex 0, in these ids
pub island_as_mesh : (lists own : ℕ → List ℕ) (n : ℕ) (ids : List ℕ) → 0 < length ids → length ids ≤ n
    → ((v : ℕ) → v < length ids → (x : ℕ) → Memᴰ x (own v) → x < length ids)
    → ((i j : ℕ) → i < length ids → j < length ids → at ids i ≡ at ids j → i ≡ j)
    → ((v : ℕ) → v < length ids → lists (at ids v) ≡ map (at ids) (own v))
    → (walk_from n lists (at ids 0)).queue ≡ map (at ids) (walk_from (length ids) own 0).queue
unfolding walk_from
island_as_mesh lists own n ids some few below distinct agree =
    let m = length ids in
    let inside : (x : ℕ) → Memᴰ x (0 ∷ []) → x < m = λ x k. let e = Memᴰ.eq_of_singleton k in omega arith in
    let renamed = walk_renamed (at ids) (λ x. x < m) distinct own lists below agree (0 ∷ []) inside 0 n in
    let ended : length (continued own (begun (0 ∷ [])) 0 m).queue ≤ 0 + m = let r = ids_at_most (walk_ids own 0 some below) in omega arith in
    renamed ∙ ap (λ (v : Visit). map (at ids) v.queue) (continued_end own (begun (0 ∷ [])) 0 m n few (λ l. ended))
