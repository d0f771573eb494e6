-- What a walk reaches: exactly the vertices that some path leads to. Assumes nothing.
-- What has entered stays: `continued_keeps`. Nothing else enters: `continued_from`. The list of each place that was left has been read: `continued_left`.
use Prim.Native.Nat.{ℕ, zero, suc, ◌+◌, ◌≤◌, ◌<◌}
use native.Mathlib.Omega.{arith}
use mathlib.Core.Path.{◌≡◌, refl, sym, ap, subst, ◌∙◌}
use mathlib.Core.Logic.{◌⊎◌, inl, inr}
use mathlib.Core.List.Memᴰ
use mathlib.Core.List.{List, [], ◌∷◌, Memᴰ}
use lib.ListN.{length, get_or, take}
use lib.Seq.{take-length}
use Rattle.sequences.specs.Starts.{concatenate}
use Rattle.sequences.proofs.Tabulate.{get_d_member, member_get_d}
use Rattle.sequences.proofs.Range.{last_or_below}
use Rattle.walk.specs.Walk.{Visit, entered, begun, continued, walk_from}
use Rattle.walk.specs.Paths.{PathTo, here, onward}
use Rattle.walk.proofs.Queue.{entered_keeps, entered_longer}
use Rattle.walk.proofs.Reading.{entered_has, entered_keeps_member, entered_from, entered_append, entered_front}
use Rattle.walk.proofs.Continued.{continued_next, continued_step}

module _ (lists : ℕ → List ℕ) (first : Visit) (from : ℕ) where
  abbrev after : ℕ → List ℕ
  after k = (continued lists first from k).queue

  -- what has entered stays
  pub continued_keeps : (k x : ℕ) → Memᴰ x first.queue → Memᴰ x (continued lists first from k).queue
  unfolding continued
  continued_keeps zero x m = m
  continued_keeps (suc k) x m =
      let h = continued_keeps k x m in
      continued_step lists first from (λ (w : Visit). Memᴰ x w.queue) k (λ lt. entered_keeps_member _ _ x h) (λ le. h)

  -- every member came with the start or from a list of a member
  pub continued_from : (P : ℕ → Type 0) → ((x : ℕ) → Memᴰ x first.queue → P x) → ((w x : ℕ) → P w → Memᴰ x (lists w) → P x)
      → (k x : ℕ) → Memᴰ x (continued lists first from k).queue → P x
  unfolding continued
  continued_from P start step zero x = start x
  continued_from P start step (suc k) x =
      let before = continued_from P start step k in
      let next = get_or (after k) (from + k) 0 in
      let read : from + k < length (after k) → Memᴰ x (after k) ⊎ Memᴰ x (lists next) → P x =
      λ lt m. elim m [ inl a ↦ before x a | inr a ↦ step next x (before next (get_d_member (after k) (from + k) 0 lt)) a ] in
      continued_step lists first from (λ (w : Visit). Memᴰ x w.queue → P x) k (λ lt m. read lt (entered_from (after k) (lists next) x m)) (λ le. before x)

  -- and so from the start, or from the list of a place that was left
  pub continued_entered : (k x : ℕ) → Memᴰ x (continued lists first from k).queue
      → Memᴰ x first.queue ⊎ ((i : ℕ) × (i < k) × (from + i < length (continued lists first from k).queue) × Memᴰ x (lists (get_or (continued lists first from k).queue (from + i) 0)))
  unfolding continued
  continued_entered zero x = λ m. inl m
  continued_entered (suc k) x =
      let before = continued_entered k x in
      let q = after k in
      let list = lists (get_or q (from + k) 0) in
      let longer = entered_longer q list in
      let place : (i : ℕ) → from + i < length q → Memᴰ x (lists (get_or q (from + i) 0)) → Memᴰ x (lists (get_or (entered q list) (from + i) 0)) =
      λ i l m. subst (λ (w : ℕ). Memᴰ x (lists w)) (sym (entered_keeps q list (from + i) l)) m in
      let read : from + k < length q → Memᴰ x q ⊎ Memᴰ x list → Memᴰ x first.queue ⊎ ((i : ℕ) × (i < suc k) × (from + i < length (entered q list)) × Memᴰ x (lists (get_or (entered q list) (from + i) 0))) =
      λ lk c. elim c [
        | inl a ↦ elim (before a) [ inl b ↦ inl b | inr r ↦ inr (r.0, omega (arith, r.1), omega (arith, r.2), place r.0 r.2 r.3) ]
        | inr a ↦ inr (k, omega arith, omega arith, place k lk a)
      ] in
      continued_step lists first from (λ (w : Visit). Memᴰ x w.queue → Memᴰ x first.queue ⊎ ((i : ℕ) × (i < suc k) × (from + i < length w.queue) × Memᴰ x (lists (get_or w.queue (from + i) 0)))) k
      (λ lk m. read lk (entered_from q list x m)) (λ le m. elim (before m) [ inl b ↦ inl b | inr r ↦ inr (r.0, omega (arith, r.1), r.2, r.3) ])

  -- the list of each place that was left has been read
  pub continued_left : (k i x : ℕ) → i < k → from + i < length (continued lists first from k).queue → Memᴰ x (lists (get_or (continued lists first from k).queue (from + i) 0))
      → Memᴰ x (continued lists first from k).queue
  unfolding continued
  continued_left zero i x lt = absurd (omega arith)
  continued_left (suc k) i x lt =
      let before = continued_left k i x in
      let q = after k in
      let list = lists (get_or q (from + k) 0) in
      let place : (j : ℕ) → from + j < length q → Memᴰ x (lists (get_or (entered q list) (from + j) 0)) → Memᴰ x (lists (get_or q (from + j) 0)) =
      λ j lj m. subst (λ (w : ℕ). Memᴰ x (lists w)) (entered_keeps q list (from + j) lj) m in
      let read : from + k < length q → (i ≡ k) ⊎ (i < k) → Memᴰ x (lists (get_or (entered q list) (from + i) 0)) → Memᴰ x (entered q list) =
      λ room c m. elim c [
        | inl e ↦ entered_has q list x (subst (λ (j : ℕ). Memᴰ x (lists (get_or q (from + j) 0))) e (place i (omega arith) m))
        | inr l ↦ entered_keeps_member q list x (before l (omega arith) (place i (omega arith) m))
      ] in
      continued_step lists first from (λ (w : Visit). from + i < length w.queue → Memᴰ x (lists (get_or w.queue (from + i) 0)) → Memᴰ x w.queue) k
      (λ lk room m. read lk (last_or_below i k lt) m) (λ le room m. before (omega arith) room m)

  -- as many places further as the queue has had: their lists are read as one
  pub continued_reads : (k j : ℕ) → from + (k + j) ≤ length (continued lists first from k).queue
      → (continued lists first from (k + j)).queue ≡ entered (continued lists first from k).queue (concatenate j (λ i. lists (get_or (continued lists first from k).queue (from + (k + i)) 0)))
  unfolding concatenate entered
  continued_reads k zero le = let e : k + 0 ≡ k = omega arith in ap after e
  continued_reads k (suc j) le =
      let q = after k in
      let read : List ℕ = concatenate j (λ i. lists (get_or q (from + (k + i)) 0)) in
      let before = continued_reads k j (omega arith) in
      let longer = entered_longer q read in
      let e : k + suc j ≡ suc (k + j) = omega arith in
      let here : get_or (after (k + j)) (from + (k + j)) 0 ≡ get_or q (from + (k + j)) 0 =
      ap (λ (l : List ℕ). get_or l (from + (k + j)) 0) before ∙ entered_keeps q read (from + (k + j)) (omega arith) in
      let next = ap (λ (w : Visit). w.queue) (continued_next lists first from (k + j) (let r = ap length before in omega arith)) in
      ap after e ∙ (rw (here, before) at next) ∙ sym (entered_append q read (lists (get_or q (from + (k + j)) 0)))

  -- what the queue holds after k places stays its front
  pub continued_front : (k j : ℕ) → take (length (continued lists first from k).queue) (continued lists first from (k + j)).queue ≡ (continued lists first from k).queue
  continued_front k zero = let e : k + 0 ≡ k = omega arith in ap (λ (i : ℕ). take (length (after k)) (after i)) e ∙ take-length (after k)
  continued_front k (suc j) =
      let e : k + suc j ≡ suc (k + j) = omega arith in
      let before = continued_front k j in
      rw e (continued_step lists first from (λ (w : Visit). take (length (after k)) w.queue ≡ after k) (k + j)
      (λ lt. entered_front (after k) (after (k + j)) (lists (get_or (after (k + j)) (from + (k + j)) 0)) before) (λ le. before))

-- ---- a walk that has ended
module _ (lists : ℕ → List ℕ) (v n : ℕ) (ended : length (walk_from n lists v).queue ≤ n) where
  -- its ids are closed under the lists
  pub reached_closed : (w x : ℕ) → Memᴰ w (walk_from n lists v).queue → Memᴰ x (lists w) → Memᴰ x (walk_from n lists v).queue
  unfolding walk_from
  reached_closed w x m k =
      let q = (continued lists (begun (v ∷ [])) 0 n).queue in
      let r = member_get_d w q 0 m in
      let here : get_or q (0 + r.0) 0 ≡ w = let z : 0 + r.0 ≡ r.0 = omega arith in ap (λ (p : ℕ). get_or q p 0) z ∙ r.2 in
      continued_left lists (begun (v ∷ [])) 0 n r.0 x (omega arith) (omega arith) (subst (λ (y : ℕ). Memᴰ x (lists y)) (sym here) k)

  -- it reaches what a path leads to, and nothing else
  pub path_reached : {x k : ℕ} → PathTo lists v x k → Memᴰ x (walk_from n lists v).queue
  unfolding walk_from
  path_reached here = continued_keeps lists (begun (v ∷ [])) 0 n v (Memᴰ.head refl)
  path_reached (onward {w} {x} p m) = reached_closed w x (path_reached p) m

  pub reached_path : (x : ℕ) → Memᴰ x (walk_from n lists v).queue → (k : ℕ) × PathTo lists v x k
  unfolding walk_from
  reached_path x m =
      continued_from lists (begun (v ∷ [])) 0 (λ y. (k : ℕ) × PathTo lists v y k) (λ y a. (0, subst (λ (z : ℕ). PathTo lists v z 0) (sym (Memᴰ.eq_of_singleton a)) here))
      (λ w y p a. (suc p.0, onward p.1 a)) n x m
