-- All vertices are numbered, each list is read once, and what was found before an island has all its neighbours with it. Assumes nothing.
use Prim.Native.Nat.{ℕ, zero, suc, ◌+◌, ◌-◌, ◌≤◌, ◌<◌}
use native.Mathlib.Omega.{arith}
use native.Mathlib.Decide.{dec_lt}
use mathlib.Core.Path.{◌≡◌, refl, sym, ap, subst, ◌∙◌}
use mathlib.Core.Logic.{inl, inr}
use mathlib.Core.Bool.{Bool, true, false, cond}
use mathlib.Core.List.Memᴰ
use mathlib.Core.List.{List, [], ◌∷◌, ◌++◌, Memᴰ}
use lib.ListN.{length, get_or, length-append, get_or-append}
use lib.Seq.{get_or-append_seam}
use Rattle.std.proofs.lemmas.Bool.{cases_Bool}
use Rattle.std.proofs.lemmas.List.{get_or-take, length-take}
use Rattle.sequences.specs.Range.{sum_below}
use Rattle.sequences.specs.Starts.{start_of}
use Rattle.sequences.specs.Ascending.{is_member}
use Rattle.sequences.specs.Permutation.{at}
use Rattle.sequences.proofs.Range.{last_or_below, pigeonhole, sum_extensional}
use Rattle.sequences.proofs.Tabulate.{get_d_member, member_get_d}
use Rattle.sequences.proofs.Ascending.{is_member_true, is_member_false, member_is_member}
use Rattle.sequences.proofs.Permutation.{permutation_bijection, sum_bijection}
use Rattle.walk.specs.Walk.{Visit, continued, place_from}
use Rattle.walk.specs.Buffers.{DistinctIds}
use Rattle.walk.proofs.Queue.{ids_at_most, ids_permutation, ids_with_absent, place_of_member}
use Rattle.walk.proofs.Continued.{continued_ids, continued_end, continued_longer, entries_agree}
use Rattle.walk.proofs.Reached.{continued_keeps, continued_left, continued_front}
use Rattle.islands.specs.Islands.{Islands, with_root, island_from, islands_below, islands_of}

-- distinct ids below n, none left out, are n
pub ids_counted : {n : ℕ} {q : List ℕ} → DistinctIds n q → ((v : ℕ) → v < n → Memᴰ v q) → length q ≡ n
ids_counted {n} {q} ids all = elim (dec_lt (length q) n) [
  | no few ↦ let most = ids_at_most ids in omega arith
  | yes lt ↦ absurd (pigeonhole place n (length q) (λ v l. let r = here v l in omega arith)
      (λ u v lu lv e. let r = here u lu in let s = here v lv in sym r.3 ∙ ap (at q) (let t : r.0 ≡ s.0 = omega arith in t) ∙ s.3) lt (λ v l e. let r = here v l in omega arith))
]
  where
    place : ℕ → ℕ
    place = place_from 0 q

    here : (v : ℕ) → v < n → (i : ℕ) × (i < length q) × (place_from 0 q v ≡ 0 + i) × (get_or q i 0 ≡ v)
    here v l = place_of_member 0 q v (member_is_member v q (all v l))

sum_split : (g : ℕ → ℕ) (m j : ℕ) → sum_below g (m + j) ≡ sum_below g m + sum_below (λ i. g (m + i)) j
unfolding sum_below
sum_split g m zero = let e : m + 0 ≡ m = omega arith in ap (sum_below g) e ∙ omega arith
sum_split g m (suc j) = let e : m + suc j ≡ suc (m + j) = omega arith in let r = sum_split g m j in ap (sum_below g) e ∙ omega arith

module _ (lists : ℕ → List ℕ) {n : ℕ} (below : (v : ℕ) → v < n → (x : ℕ) → Memᴰ x (lists v) → x < n) where
  abbrev found : ℕ → Islands
  found k = islands_below lists n k

  abbrev queue : ℕ → List ℕ
  queue k = (islands_below lists n k).visit.queue

  -- a property of what is found once k was tried: it had entered, or it begins an island
  pub islands_step : (P : Islands → Type 0) (k : ℕ) → (Memᴰ k (islands_below lists n k).visit.queue → P (islands_below lists n k))
      → ((Memᴰ k (islands_below lists n k).visit.queue → ⊥) → P (island_from lists n (islands_below lists n k) k)) → P (islands_below lists n (suc k))
  unfolding islands_below
  islands_step P k old new = go (is_member k (queue k)) refl
    where
      go : (b : Bool) → is_member k (queue k) ≡ b → P (cond b (found k) (island_from lists n (found k) k))
      go true e = old (is_member_true k (queue k) e)
      go false e = new (is_member_false k (queue k) e)

  -- ---- ids
  behind_ids : (k : ℕ) → DistinctIds n (queue k) → k < n → (Memᴰ k (queue k) → ⊥) → DistinctIds n (queue k ++ (k ∷ []))
  behind_ids k ids lt absent = ids_with_absent ids k lt (elim (cases_Bool (is_member k (queue k))) [ inl e ↦ absurd (absent (is_member_true k (queue k) e)) | inr e ↦ e ])

  pub islands_ids : (k : ℕ) → k ≤ n → DistinctIds n (islands_below lists n k).visit.queue
  unfolding islands_below
  islands_ids zero le = record { below = λ v m. absurd (Memᴰ.not-nil m); distinct = tt }
  islands_ids (suc k) le =
      let ids = islands_ids k (omega arith) in
      islands_step (λ (i : Islands). DistinctIds n i.visit.queue) k (λ m. ids)
      (λ absent. continued_ids lists (with_root (found k).visit k) (length (queue k)) (behind_ids k ids (omega arith) absent) below n)

  -- each id that was tried has entered
  pub islands_have : (k v : ℕ) → v < k → Memᴰ v (islands_below lists n k).visit.queue
  unfolding islands_below
  islands_have zero v lt = absurd (omega arith)
  islands_have (suc k) v lt =
      let before = islands_have k v in
      let first = with_root (found k).visit k in
      islands_step (λ (i : Islands). Memᴰ v i.visit.queue) k
      (λ m. elim (last_or_below v k lt) [ inl e ↦ subst (λ (x : ℕ). Memᴰ x (queue k)) (sym e) m | inr l ↦ before l ])
      (λ absent. continued_keeps lists first (length (queue k)) n v (elim (last_or_below v k lt) [ inl e ↦ Memᴰ.append_right (queue k) (Memᴰ.head e) | inr l ↦ Memᴰ.append_left (k ∷ []) (before l) ]))

  -- all have a number
  pub numbered_ids : DistinctIds n (islands_of n lists).visit.queue
  unfolding islands_of
  numbered_ids = islands_ids n (omega arith)

  pub all_numbered : length (islands_of n lists).visit.queue ≡ n
  unfolding islands_of
  all_numbered = ids_counted (islands_ids n (omega arith)) (λ v lt. islands_have n v lt)

  -- ---- an island behind what was found
  module _ (k : ℕ) (lt : k < n) (absent : Memᴰ k (islands_below lists n k).visit.queue → ⊥) where
    abbrev first : Visit
    first = with_root (found k).visit k

    abbrev begins : ℕ
    begins = length (queue k)

    abbrev after : List ℕ
    after = (continued lists first begins n).queue

    first_ids : DistinctIds n first.queue
    first_ids = behind_ids k (islands_ids k (omega arith)) lt absent

    after_few : length after ≤ n
    after_few = ids_at_most (continued_ids lists first begins first_ids below n)

    pub after_front : (i : ℕ) → i < length (islands_below lists n k).visit.queue → get_or (island_from lists n (islands_below lists n k) k).visit.queue i 0 ≡ get_or (islands_below lists n k).visit.queue i 0
    unfolding continued
    after_front i l =
        let z : 0 + n ≡ n = omega arith in
        let front = rw z at (continued_front lists first begins 0 n) in
        let more : i < length first.queue = let e = length-append (queue k) (k ∷ []) in omega arith in
        sym (get_or-take (length first.queue) after i 0 more) ∙ ap (λ (q : List ℕ). get_or q i 0) front ∙ get_or-append (queue k) (k ∷ []) 0 i l

    -- the root stands behind what was found
    pub after_root : get_or (island_from lists n (islands_below lists n k) k).visit.queue (length (islands_below lists n k).visit.queue) 0 ≡ k
    unfolding continued
    after_root =
        let z : 0 + n ≡ n = omega arith in
        let front = rw z at (continued_front lists first begins 0 n) in
        let more : begins < length first.queue = let e = length-append (queue k) (k ∷ []) in omega arith in
        sym (get_or-take (length first.queue) after begins 0 more) ∙ ap (λ (q : List ℕ). get_or q begins 0) front ∙ get_or-append_seam (queue k) k [] 0

    pub after_longer : length (islands_below lists n k).visit.queue < length (island_from lists n (islands_below lists n k) k).visit.queue
    after_longer = let e = length-append (queue k) (k ∷ []) in let r = continued_longer lists first begins n in omega arith

    -- what it has of its places from the root on
    after_closed : ((w x : ℕ) → Memᴰ w (queue k) → Memᴰ x (lists w) → Memᴰ x (queue k)) → (w x : ℕ) → Memᴰ w after → Memᴰ x (lists w) → Memᴰ x after
    after_closed closed w x m k₁ =
        let r = member_get_d w after 0 m in
        elim (dec_lt r.0 begins) [
          | yes l ↦
              let old : Memᴰ w (queue k) = subst (λ (y : ℕ). Memᴰ y (queue k)) (sym (after_front r.0 l) ∙ r.2) (get_d_member (queue k) r.0 0 l) in
              continued_keeps lists first begins n x (Memᴰ.append_left (k ∷ []) (closed w x old k₁))
          | no g ↦
              let i = r.0 - begins in
              let e : begins + i ≡ r.0 = omega arith in
              continued_left lists first begins n i x (omega (arith, after_few, r.1)) (omega (arith, r.1)) (subst (λ (y : ℕ). Memᴰ x (lists y)) (sym (ap (at after) e ∙ r.2)) k₁)
        ]

    -- the entries of its lists
    after_read : (continued lists first begins n).entries_read ≡ (found k).visit.entries_read + sum_below (λ i. length (lists (get_or after (begins + i) 0))) (length after - begins)
    after_read =
        let j = length after - begins in
        let e : j + (n - j) ≡ n = omega (arith, after_few) in
        let front = rw e at (continued_front lists first begins j (n - j)) in
        let most : length (continued lists first begins j).queue ≤ begins + j = let a = ap length front in let b = length-take (length (continued lists first begins j).queue) after in omega (arith, after_longer) in
        let same = continued_end lists first begins j n (omega arith) (λ l. most) in
        (rw (← same) at (entries_agree lists first begins first_ids below j)) (omega (arith, after_longer))

  -- what was found has all its neighbours with it
  pub islands_closed : (k : ℕ) → k ≤ n → (w x : ℕ) → Memᴰ w (islands_below lists n k).visit.queue → Memᴰ x (lists w) → Memᴰ x (islands_below lists n k).visit.queue
  unfolding islands_below
  islands_closed zero le = λ w x m. absurd (Memᴰ.not-nil m)
  islands_closed (suc k) le =
      let closed = islands_closed k (omega arith) in
      islands_step (λ (i : Islands). (w x : ℕ) → Memᴰ w i.visit.queue → Memᴰ x (lists w) → Memᴰ x i.visit.queue) k (λ m. closed) (λ absent. after_closed k (omega arith) absent closed)

  -- ---- entries
  pub islands_read : (k : ℕ) → k ≤ n → (islands_below lists n k).visit.entries_read ≡ start_of (λ j. lists (get_or (islands_below lists n k).visit.queue j 0)) (length (islands_below lists n k).visit.queue)
  unfolding islands_below start_of sum_below
  islands_read zero le = refl
  islands_read (suc k) le =
      let before = islands_read k (omega arith) in
      islands_step (λ (i : Islands). i.visit.entries_read ≡ sum_below (λ j. length (lists (get_or i.visit.queue j 0))) (length i.visit.queue)) k (λ m. before)
      (λ absent.
      let q = (continued lists (with_root (found k).visit k) (length (queue k)) n).queue in
      let g : ℕ → ℕ = λ j. length (lists (get_or q j 0)) in
      let b = length (queue k) in
      let longer = after_longer k (omega arith) absent in
      let e : length q ≡ b + (length q - b) = omega arith in
      let split = ap (sum_below g) e ∙ sum_split g b (length q - b) in
      let old = sum_extensional g (λ j. length (lists (get_or (queue k) j 0))) b (λ j l. ap (λ (x : ℕ). length (lists x)) (after_front k (omega arith) absent j l)) in
      omega (arith, after_read k (omega arith) absent))

  -- each list is read once
  pub each_list_read : (islands_of n lists).visit.entries_read ≡ start_of lists n
  unfolding islands_of start_of
  each_list_read =
      let all = all_numbered in
      let ids = islands_ids n (omega arith) in
      islands_read n (omega arith) ∙ ap (sum_below (λ j. length (lists (get_or (queue n) j 0)))) all ∙ sum_bijection (λ v. length (lists v)) (permutation_bijection (ids_permutation ids all))
