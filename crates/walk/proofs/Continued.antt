-- Laws of the breadth-first walk over a family of lists. Assumes nothing.
-- A turn of its loop: `continued_next`; its end: `continued_end`. The queue's ids: `continued_ids`. What was read: `entries_read_at_most`, `all_entries_read`.
use Prim.Native.Nat.{ℕ, zero, suc, ◌+◌, ◌-◌, ◌≤◌, ◌<◌}
use native.Mathlib.Omega.{arith}
use native.Mathlib.Decide.{dec_lt}
use mathlib.Core.Path.{◌≡◌, refl, sym, ap, ◌∙◌, subst}
use mathlib.Core.Bool.{Bool, true, false, cond}
use mathlib.Core.List.Memᴰ
use mathlib.Core.List.{List, [], ◌∷◌, ◌++◌, Memᴰ}
use lib.ListN.{length, get_or, take}
use borrow.Author.Tests.{lt-ltb, le-ltb}
use Rattle.std.specs.Prelude.{nat_lt}
use Rattle.sequences.specs.Range.{sum_below}
use Rattle.sequences.specs.Ascending.{is_member}
use Rattle.sequences.specs.Starts.{start_of, part}
use Rattle.sequences.proofs.Range.{sum_extensional, sum_injection}
use Rattle.sequences.proofs.Tabulate.{member_get_d}
use Rattle.sequences.proofs.Starts.{part_member, part_start}
use Rattle.sequences.proofs.Permutation.{permutation_bijection, sum_bijection}
use Rattle.mesh.specs.Mesh.{HasList}
use Rattle.mesh.proofs.Neighbours.{has_list}
use Rattle.walk.specs.Walk.{enter, entered, Visit, leave, begun, continued, walk_from}
use Rattle.walk.specs.declared.Reach.{Reach}
use Rattle.walk.specs.Buffers.{DistinctIds, Walkable, Holding, Continued, Traversed}
use Rattle.walk.proofs.Queue.{entered_longer, entered_keeps, ids_injective, ids_below_lem, ids_with_absent, ids_permutation, holding_at, holding_below, holding_take, holding_longer, holding_order_length}

-- ---- ids stay ids, none twice
enter_ids : (n : ℕ) (q : List ℕ) (v : ℕ) → DistinctIds n q → v < n → DistinctIds n (enter q v)
unfolding enter
enter_ids n q v h lt = go (is_member v q) refl
  where
    go : (b : Bool) → is_member v q ≡ b → DistinctIds n (cond b q (q ++ (v ∷ [])))
    go true e = h
    go false e = ids_with_absent h v lt e

entered_ids : (n : ℕ) (q list : List ℕ) → DistinctIds n q → ((x : ℕ) → Memᴰ x list → x < n) → DistinctIds n (entered q list)
unfolding entered
entered_ids n q [] h below = h
entered_ids n q (v ∷ vs) h below = entered_ids n (enter q v) vs (enter_ids n q v h (below v (Memᴰ.head refl))) (λ x m. below x (Memᴰ.tail m))

-- ---- a walk that goes on
module _ (lists : ℕ → List ℕ) (first : Visit) (from : ℕ) where
  -- what was found after k places, and the list of the vertex that stands at the next
  abbrev after : ℕ → Visit
  after k = continued lists first from k

  abbrev next_list : ℕ → List ℕ
  next_list k = lists (get_or (after k).queue (from + k) 0)

  -- the list of the vertex at the next place, where there is one, is read
  pub continued_next : (k : ℕ) → from + k < length (continued lists first from k).queue
      → continued lists first from (suc k) ≡ record { queue = entered (after k).queue (next_list k); entries_read = (after k).entries_read + length (next_list k) }
  unfolding continued leave
  continued_next k lt = rw (lt-ltb (from + k) (length (after k).queue) lt) refl

  pub continued_stays : (k : ℕ) → length (continued lists first from k).queue ≤ from + k → continued lists first from (suc k) ≡ continued lists first from k
  unfolding continued leave
  continued_stays k le = rw (le-ltb (from + k) (length (after k).queue) le) refl

  -- a property of what is found after one place more: the list at the next place was read, or no place was left over
  pub continued_step : (P : Visit → Type 0) (k : ℕ)
      → (from + k < length (continued lists first from k).queue → P (record { queue = entered (after k).queue (next_list k); entries_read = (after k).entries_read + length (next_list k) }))
      → (length (continued lists first from k).queue ≤ from + k → P (continued lists first from k)) → P (continued lists first from (suc k))
  continued_step P k read still = go (dec_lt (from + k) (length (after k).queue))
    where
      go : Dec (from + k < length (after k).queue) → P (after (suc k))
      go (yes lt) = subst P (sym (continued_next k lt)) (read lt)
      go (no nl) = let le : length (after k).queue ≤ from + k = omega arith in subst P (sym (continued_stays k le)) (still le)

  -- where no place is left over the walk has ended
  pub continued_beyond : (k j : ℕ) → length (continued lists first from k).queue ≤ from + k → continued lists first from (k + j) ≡ continued lists first from k
  continued_beyond k zero le = let e : k + 0 ≡ k = omega arith in ap after e
  continued_beyond k (suc j) le =
      let r = continued_beyond k j le in
      let e : k + suc j ≡ suc (k + j) = omega arith in
      ap after e ∙ continued_stays (k + j) (let s = ap (λ (w : Visit). length w.queue) r in omega arith) ∙ r

  -- likewise where so many places were to be left
  pub continued_end : (k n : ℕ) → k ≤ n → (k < n → length (continued lists first from k).queue ≤ from + k) → continued lists first from n ≡ continued lists first from k
  continued_end k n le ended = go (dec_lt k n)
    where
      go : Dec (k < n) → after n ≡ after k
      go (yes lt) = let e : n ≡ k + (n - k) = omega arith in ap after e ∙ continued_beyond k (n - k) (ended lt)
      go (no nl) = let e : n ≡ k = omega arith in ap after e

  -- the queue grows at its end
  pub continued_longer : (k : ℕ) → length first.queue ≤ length (continued lists first from k).queue
  unfolding continued
  continued_longer zero = omega arith
  continued_longer (suc k) =
      let h = continued_longer k in
      continued_step (λ (w : Visit). length first.queue ≤ length w.queue) k (λ lt. let r = entered_longer (after k).queue (next_list k) in omega arith) (λ le. h)

  -- ---- over n vertices
  module _ {n : ℕ} (begins : DistinctIds n first.queue) (below : (v : ℕ) → v < n → (x : ℕ) → Memᴰ x (lists v) → x < n) where
    -- the ids of the queue are below n, and none is there twice
    pub continued_ids : (k : ℕ) → DistinctIds n (continued lists first from k).queue
    unfolding continued
    continued_ids zero = begins
    continued_ids (suc k) =
        let h = continued_ids k in
        continued_step (λ (w : Visit). DistinctIds n w.queue) k
        (λ lt. entered_ids n (after k).queue (next_list k) h (below (get_or (after k).queue (from + k) 0) (ids_below_lem h (from + k) lt))) (λ le. h)

    -- ---- entries read: those of the vertices that were left
    pub entries_agree : (k : ℕ) → from + k ≤ length (continued lists first from k).queue
        → (continued lists first from k).entries_read ≡ first.entries_read + sum_below (λ j. length (lists (get_or (continued lists first from k).queue (from + j) 0))) k
    unfolding continued sum_below
    entries_agree zero = λ le. omega arith
    entries_agree (suc k) =
        let before = entries_agree k in
        let q : List ℕ = (after k).queue in
        let list : List ℕ = next_list k in
        let same : (j : ℕ) → from + j < length q → length (lists (get_or (entered q list) (from + j) 0)) ≡ length (lists (get_or q (from + j) 0)) =
        λ j lt. ap (λ (v : ℕ). length (lists v)) (entered_keeps q list (from + j) lt) in
        continued_step (λ (w : Visit). from + suc k ≤ length w.queue → w.entries_read ≡ first.entries_read + sum_below (λ j. length (lists (get_or w.queue (from + j) 0))) (suc k)) k
        (λ lt room.
        let r = sum_extensional (λ j. length (lists (get_or (entered q list) (from + j) 0))) (λ j. length (lists (get_or q (from + j) 0))) k (λ j lj. same j (omega arith)) in
        omega (arith, before (omega arith), same k lt))
        (λ le room. absurd (omega arith))

    -- no more than there are
    pub entries_read_at_most : (k : ℕ) → from + k ≤ length (continued lists first from k).queue → (continued lists first from k).entries_read ≤ first.entries_read + start_of lists n
    unfolding start_of
    entries_read_at_most k le =
        let h = continued_ids k in
        let r = sum_injection (λ j. get_or (after k).queue (from + j) 0) (λ v. length (lists v)) k n (λ j lj. ids_below_lem h (from + j) (omega arith))
        (λ i j li lj e. let s = ids_injective h (from + i) (from + j) (omega arith) (omega arith) e in let t : i ≡ j = omega arith in t) in
        omega (arith, entries_agree k le)

-- entries that were read before count on
pub continued_counted : (lists : ℕ → List ℕ) (ids : List ℕ) (read from k : ℕ)
    → continued lists (record { queue = ids; entries_read = read }) from k ≡ record { queue = (continued lists (begun ids) from k).queue; entries_read = read + (continued lists (begun ids) from k).entries_read }
unfolding continued leave
continued_counted lists ids read from zero = let e : read ≡ read + 0 = omega arith in ap (λ (r : ℕ). record { queue = ids; entries_read = r }) e
continued_counted lists ids read from (suc k) =
    let same = continued_counted lists ids read from k in
    let w = continued lists (begun ids) from k in
    ap (λ (v : Visit). leave lists v (nat_lt (from + k) (length v.queue)) (from + k)) same ∙ go w (nat_lt (from + k) (length w.queue))
  where
    go : (w : Visit) (b : Bool) → leave lists (record { queue = w.queue; entries_read = read + w.entries_read }) b (from + k) ≡ record { queue = (leave lists w b (from + k)).queue; entries_read = read + (leave lists w b (from + k)).entries_read }
    go w true = let l = length (lists (get_or w.queue (from + k) 0)) in let e : read + w.entries_read + l ≡ read + (w.entries_read + l) = omega arith in ap (λ (r : ℕ). record { queue = entered w.queue (lists (get_or w.queue (from + k) 0)); entries_read = r }) e
    go w false = refl

-- ---- a complete walk
-- one id
pub one_id : {n : ℕ} (v : ℕ) → v < n → DistinctIds n (v ∷ [])
one_id v lt = record { below = λ w m. let e = Memᴰ.eq_of_singleton m in omega arith; distinct = (λ y m. absurd (Memᴰ.not-nil m), tt) }

module _ (lists : ℕ → List ℕ) {n : ℕ} (v : ℕ) (lt : v < n) (below : (v : ℕ) → v < n → (x : ℕ) → Memᴰ x (lists v) → x < n) where
  pub walk_ids : DistinctIds n (walk_from n lists v).queue
  unfolding walk_from
  walk_ids = continued_ids lists (begun (v ∷ [])) 0 (one_id v lt) below n

  -- all entries are read where every vertex was reached
  pub all_entries_read : length (walk_from n lists v).queue ≡ n → (walk_from n lists v).entries_read ≡ start_of lists n
  unfolding walk_from start_of
  all_entries_read all =
      let q : List ℕ = (continued lists (begun (v ∷ [])) 0 n).queue in
      let r = entries_agree lists (begun (v ∷ [])) 0 (one_id v lt) below n (omega arith) in
      let s = sum_extensional (λ j. length (lists (get_or q (0 + j) 0))) (λ j. length (lists (get_or q j 0))) n
      (λ j lj. let z : 0 + j ≡ j = omega arith in ap (λ (i : ℕ). length (lists (get_or q i 0))) z) in
      let t = sum_bijection (λ w. length (lists w)) (permutation_bijection (ids_permutation walk_ids all)) in
      omega arith

-- ---- over compressed rows
module _ {starts entries order queue : List ℕ} (h : Walkable starts entries order queue) where
  pub walkable_below : (v : ℕ) → v < length order → (x : ℕ) → Memᴰ x (part starts entries v) → x < length order
  walkable_below v lt x m =
      let r = member_get_d x entries 0 (part_member starts entries v x m) in
      let k = h.ids_below r.0 r.1 in
      omega arith

  -- no entry is read twice
  pub walkable_read : {ids : List ℕ} → DistinctIds (length order) ids → (from k : ℕ) → from + k ≤ length (continued (part starts entries) (begun ids) from k).queue
      → (continued (part starts entries) (begun ids) from k).entries_read ≤ length entries
  walkable_read {ids} begins from k le =
      let r = entries_read_at_most (part starts entries) (begun ids) from begins walkable_below k le in
      let s = part_start (length order) starts entries h.rows (length order) (omega arith) in
      omega (arith, h.rows.last)

-- a turn of the walk over compressed rows, k places behind `from`, at the place `head` of the queue, where v stands: its list is read
pub record Turn (n : ℕ) (ids : List ℕ) (from k : ℕ) (starts entries : List ℕ) (v read : ℕ) : Type 0 where
  pub vertex_below : v < n
  pub listed : HasList starts entries v
  pub queue_next : (continued (part starts entries) (begun ids) from (suc k)).queue ≡ entered (continued (part starts entries) (begun ids) from k).queue (part starts entries v)
  pub read_next : read + length (part starts entries v) ≡ (continued (part starts entries) (begun ids) from (suc k)).entries_read
  pub read_within : read + length (part starts entries v) ≤ length entries

pub turn_at : {starts entries order₀ queue₀ : List ℕ} → Walkable starts entries order₀ queue₀ → {ids : List ℕ} → DistinctIds (length order₀) ids → {from k head reached read : ℕ} {old order queue : List ℕ}
    → from + k ≡ head → Holding (length order₀) (continued (part starts entries) (begun ids) from k).queue old reached order queue → head < reached
    → read ≡ (continued (part starts entries) (begun ids) from k).entries_read → Turn (length order₀) ids from k starts entries (get_or queue head 0) read
turn_at {starts} {entries} {order₀} w {ids} begins {from} {k} {head} {reached} {read} {queue} place h lt e =
    let lists = part starts entries in
    let visit = continued lists (begun ids) from k in
    let v = get_or queue head 0 in
    let same : get_or visit.queue (from + k) 0 ≡ v = ap (λ (p : ℕ). get_or visit.queue p 0) place ∙ sym (holding_at h head lt) in
    let next = rw same at (continued_next lists (begun ids) from k (omega (arith, h.size))) in
    let longer = entered_longer visit.queue (lists v) in
    let all = walkable_read w begins from (suc k) (let r = ap (λ (u : Visit). length u.queue) next in omega (arith, h.size)) in
    let read_next : read + length (lists v) ≡ (continued lists (begun ids) from (suc k)).entries_read = let r = ap (λ (u : Visit). u.entries_read) next in omega arith in
    record {
      vertex_below = holding_below h head lt;
      listed = has_list w.rows v (holding_below h head lt);
      queue_next = ap (λ (u : Visit). u.queue) next;
      read_next = read_next;
      read_within = omega arith;
    }

-- ---- what the loop leaves, seen from the buffers of a walk that it goes on with
pub continued_again : {n : ℕ} {lists : ℕ → List ℕ} {ids : List ℕ} {from k reached : ℕ} {old order₀ queue₀ order queue : List ℕ} {reach : Reach} → Holding n ids old reached order₀ queue₀
    → Continued (length order₀) lists (take reached queue₀) from k queue₀ reach order queue → Continued n lists ids from k old reach order queue
continued_again {n} {lists} {ids} {from} {k} h t =
    let t = rw (holding_order_length h, holding_take h) at t in
    record { holds = holding_longer h (continued_longer lists (begun ids) from k) t.holds; entries_agree = t.entries_agree }

-- the complete walk from vertex 0, which had entered alone
pub walk_traversed : {n : ℕ} {lists : ℕ → List ℕ} {old order₀ queue₀ order queue : List ℕ} {reach : Reach} → Holding n (0 ∷ []) old 1 order₀ queue₀
    → Continued (length order₀) lists (take 1 queue₀) 0 (length order₀ - 0) queue₀ reach order queue → Traversed n lists old reach order queue
unfolding walk_from
walk_traversed {n} {lists} {order₀} h t =
    let size = holding_order_length h in
    let e : length order₀ - 0 ≡ n = omega arith in
    let w = rw e at (continued_again h t) in
    record { holds = w.holds; entries_agree = w.entries_agree }
