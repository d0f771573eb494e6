-- Where neighbours are mutual, the numbers from one start to the next are one island's: queue and starts are those of the islands' walks, one behind another, as starts and entries of lists are. Assumes nothing.
use Prim.Native.Nat.{ℕ, zero, suc, ◌+◌, ◌≤◌, ◌<◌}
use native.Mathlib.Omega.{arith}
use mathlib.Core.Path.{◌≡◌, refl, sym, ap, subst, ◌∙◌}
use mathlib.Core.Logic.{inl, inr}
use mathlib.Core.List.{List, [], ◌∷◌, ◌++◌, Memᴰ}
use lib.ListN.{length, length-append, get_or-append}
use lib.Seq.{get_or-append_seam}
use Rattle.std.proofs.lemmas.List.{get_or-take}
use Rattle.sequences.specs.Range.{sum_below}
use Rattle.sequences.specs.Tabulate.{tabulate}
use Rattle.sequences.specs.Starts.{concatenate, start_of, starts_of, part}
use Rattle.sequences.specs.Permutation.{at}
use Rattle.sequences.proofs.Range.{last_or_below}
use Rattle.sequences.proofs.Tabulate.{tabulate_suc}
use Rattle.sequences.proofs.Starts.{start_suc, start_monotone, length_starts, starts_at, starts_extensional, concatenate_suc, concatenate_extensional, length_concatenate, concatenate_at, concatenate_member, concatenate_part}
use Rattle.walk.specs.Walk.{begun, continued, walk_from}
use Rattle.walk.proofs.Continued.{continued_longer}
use Rattle.walk.proofs.Reached.{continued_front}
use Rattle.islands.specs.Islands.{Islands, island_from, islands_below, islands_of}
use Rattle.islands.proofs.Numbered.{islands_step, islands_have, all_numbered}
use Rattle.islands.proofs.Mutual.{island_of_root}

-- the walk of each root, by its place
abbrev walks : ℕ → (ℕ → List ℕ) → List ℕ → ℕ → List ℕ
walks n lists roots i = (walk_from n lists (at roots i)).queue

-- a vertex that no island before it has
pub record IsRoot (n : ℕ) (lists : ℕ → List ℕ) (root : ℕ) : Type 0 where
  pub there : root < n
  pub outside : Memᴰ root (islands_below lists n root).visit.queue → ⊥

-- what was found is made of the walks from these roots
record IslandParts (n : ℕ) (lists : ℕ → List ℕ) (found : Islands) : Type 0 where
  roots : List ℕ
  each_root : (i : ℕ) → i < length roots → IsRoot n lists (at roots i)
  queue_parts : found.visit.queue ≡ concatenate (length roots) (walks n lists roots)
  starts_parts : found.starts ++ (length found.visit.queue ∷ []) ≡ starts_of (length roots) (walks n lists roots)

-- the island i of those found: its root has its first number, and its part of the queue is the walk from there
pub record IslandPart (n : ℕ) (lists : ℕ → List ℕ) (found : Islands) (i : ℕ) : Type 0 where
  pub root : ℕ
  pub is_root : IsRoot n lists root
  pub inside : at found.starts i < length found.visit.queue
  pub first : at found.visit.queue (at found.starts i) ≡ root
  pub part_is_walk : part (found.starts ++ (n ∷ [])) found.visit.queue i ≡ (walk_from n lists root).queue

-- a walk begins with its root
walk_begins : (lists : ℕ → List ℕ) (n v : ℕ) → (0 < length (walk_from n lists v).queue) × (at (walk_from n lists v).queue 0 ≡ v)
unfolding walk_from continued
walk_begins lists n v =
    let z : 0 + n ≡ n = omega arith in
    let q = (continued lists (begun (v ∷ [])) 0 n).queue in
    (continued_longer lists (begun (v ∷ [])) 0 n, sym (get_or-take 1 q 0 0 (omega arith)) ∙ ap (λ (l : List ℕ). at l 0) (rw z at (continued_front lists (begun (v ∷ [])) 0 0 n)))

module _ (lists : ℕ → List ℕ) {n : ℕ} (below : (v : ℕ) → v < n → (x : ℕ) → Memᴰ x (lists v) → x < n)
    (mutual_lists : (v w : ℕ) → v < n → w < n → Memᴰ w (lists v) → Memᴰ v (lists w)) where
  -- one root more
  part_behind : (k : ℕ) → k < n → (Memᴰ k (islands_below lists n k).visit.queue → ⊥) → IslandParts n lists (islands_below lists n k) → IslandParts n lists (island_from lists n (islands_below lists n k) k)
  unfolding starts_of
  part_behind k lt outside before =
      let found = islands_below lists n k in
      let roots = before.roots ++ (k ∷ []) in
      let m = length before.roots in
      let f = walks n lists before.roots in
      let g = walks n lists roots in
      let same : (i : ℕ) → i < m → g i ≡ f i = λ i l. ap (λ (r : ℕ). (walk_from n lists r).queue) (get_or-append before.roots (k ∷ []) 0 i l) in
      let last : g m ≡ (walk_from n lists k).queue = ap (λ (r : ℕ). (walk_from n lists r).queue) (get_or-append_seam before.roots k [] 0) in
      let size : length roots ≡ suc m = let e = length-append before.roots (k ∷ []) in omega arith in
      let queue_next : (island_from lists n found k).visit.queue ≡ concatenate (suc m) g =
      island_of_root lists below mutual_lists k lt outside ∙ ap (λ (q : List ℕ). q ++ (walk_from n lists k).queue) (before.queue_parts ∙ sym (concatenate_extensional m g f same))
      ∙ ap (λ (q : List ℕ). concatenate m g ++ q) (sym last) ∙ sym (concatenate_suc m g) in
      let starts_same : starts_of m f ≡ starts_of m g = starts_extensional m f g (λ v l. ap length (sym (same v l))) in
      let total = ap length queue_next ∙ length_concatenate (suc m) g in
      record {
        roots = roots;
        each_root = λ i l. elim (last_or_below i m (omega arith)) [
          | inl z ↦ subst (IsRoot n lists) (sym (ap (at roots) z ∙ get_or-append_seam before.roots k [] 0)) (record { there = lt; outside = outside })
          | inr z ↦ subst (IsRoot n lists) (sym (get_or-append before.roots (k ∷ []) 0 i z)) (before.each_root i z)
        ];
        queue_parts = rw size queue_next;
        starts_parts = rw size (ap (λ (s : List ℕ). s ++ (length (island_from lists n found k).visit.queue ∷ [])) (before.starts_parts ∙ starts_same)
            ∙ ap (λ (t : ℕ). starts_of m g ++ (t ∷ [])) total ∙ sym (tabulate_suc (suc m) (start_of g)));
      }

  parts_below : (k : ℕ) → k ≤ n → IslandParts n lists (islands_below lists n k)
  unfolding islands_below starts_of tabulate concatenate start_of sum_below
  parts_below zero le = record { roots = []; each_root = λ i l. absurd (omega arith); queue_parts = refl; starts_parts = refl }
  parts_below (suc k) le =
      let before = parts_below k (omega arith) in
      islands_step lists below (IslandParts n lists) k (λ m. before) (λ outside. part_behind k (omega arith) outside before)

  island_parts : IslandParts n lists (islands_of n lists)
  unfolding islands_of
  island_parts = parts_below n (omega arith)

  roots_counted : length (islands_of n lists).starts ≡ length island_parts.roots
  roots_counted =
      let p = island_parts in
      let starts = (islands_of n lists).starts in
      omega (arith, ap length p.starts_parts, length-append starts (length (islands_of n lists).visit.queue ∷ []), length_starts (length p.roots) (walks n lists p.roots))

  starts_as_parts : (islands_of n lists).starts ++ (n ∷ []) ≡ starts_of (length island_parts.roots) (walks n lists island_parts.roots)
  starts_as_parts = let all = all_numbered lists below in rw all at island_parts.starts_parts

  part_at_root : (i : ℕ) → i < length island_parts.roots → part ((islands_of n lists).starts ++ (n ∷ [])) (islands_of n lists).visit.queue i ≡ walks n lists island_parts.roots i
  part_at_root i lt = let p = island_parts in rw (starts_as_parts, p.queue_parts) (concatenate_part (length p.roots) (walks n lists p.roots) i lt)

  pub island_part : (i : ℕ) → i < length (islands_of n lists).starts → IslandPart n lists (islands_of n lists) i
  island_part i lt =
      let p = island_parts in
      let m = length p.roots in
      let f = walks n lists p.roots in
      let q = (islands_of n lists).visit.queue in
      let few : i < m = omega (arith, roots_counted) in
      let walk = walk_begins lists n (at p.roots i) in
      let begins : at (islands_of n lists).starts i ≡ start_of f i + 0 =
      sym (get_or-append (islands_of n lists).starts (n ∷ []) 0 i lt) ∙ ap (λ (l : List ℕ). at l i) starts_as_parts ∙ starts_at m f i (omega arith) ∙ omega arith in
      record {
        root = at p.roots i;
        is_root = p.each_root i few;
        inside = omega (arith, begins, ap length p.queue_parts, length_concatenate m f, start_suc f i, start_monotone f (suc i) m few, walk.0);
        first = ap (at q) begins ∙ ap (λ (l : List ℕ). at l (start_of f i + 0)) p.queue_parts ∙ concatenate_at m f i 0 0 few walk.0 ∙ walk.1;
        part_is_walk = part_at_root i few;
      }

  -- each vertex is in one
  pub part_of_vertex : (v : ℕ) → v < n → (i : ℕ) × (i < length (islands_of n lists).starts) × Memᴰ v (part ((islands_of n lists).starts ++ (n ∷ [])) (islands_of n lists).visit.queue i)
  unfolding islands_of
  part_of_vertex v lt =
      let p = island_parts in
      let there = islands_have lists below n v lt in
      let r = concatenate_member (length p.roots) (walks n lists p.roots) v (subst (λ (q : List ℕ). Memᴰ v q) p.queue_parts there) in
      (r.0, omega (arith, r.1, roots_counted), rw (part_at_root r.0 r.1) r.2)
