-- Laws of the queue, and of the order that numbers it. Assumes nothing.
-- A loop over a list: `holding_old` where the id has a number, `holding_new` where it enters. Room for it: `room_for_absent`.
use Prim.Native.Nat.{ℕ, suc, ◌+◌, ◌-◌, ◌≤◌, ◌<◌}
use native.Mathlib.Omega.{arith}
use native.Mathlib.Numerals.{add-one}
use native.Mathlib.Decide.{ℕ_discrete, dec_lt}
use mathlib.Core.Path.{◌≡◌, refl, sym, ap, subst, ◌∙◌}
use mathlib.Core.Logic.{◌⊎◌, inl, inr, ◌≢◌}
use mathlib.Core.Bool.{Bool, true, false, ◌||◌, cond, true≢false}
use mathlib.Core.List.Memᴰ
use mathlib.Core.List.{List, [], ◌∷◌, ◌++◌, Memᴰ}
use lib.Dec.{eqb}
use lib.ListN.{length, get_or, set, take, drop, length-append, length-set, get_or-append}
use lib.Seq.{drop-cons, drop-drop, drop-append-add, append_snoc, set-append_seam, take-suc, get_or-set_same, get_or-set_other}
use borrow.Author.Tests.{eq-eqb, ne_eqb, eqb-true}
use Rattle.std.proofs.lemmas.Bool.{cases_Bool}
use Rattle.sequences.specs.Tabulate.{tabulate, overwrite}
use Rattle.sequences.specs.Ascending.{is_member}
use Rattle.sequences.specs.Permutation.{IsPermutation}
use Rattle.sequences.proofs.Range.{pigeonhole}
use Rattle.sequences.proofs.Tabulate.{length_tabulate, tabulate_at, tabulate_unique, get_d_member, overwrite_at, take_overwrite}
use Rattle.sequences.proofs.Ascending.{pairwise_append, distinct_at, is_member_false}
use Rattle.walk.specs.Walk.{enter, entered, unreached, place_from, order_of}
use Rattle.walk.specs.Buffers.{DistinctIds, Holding}
use Rattle.walk.proofs.Reading.{entered_append}

-- ---- the place of an id
-- an id of the queue has a place in it, the one that holds it
pub place_of_member : (k : ℕ) (q : List ℕ) (v : ℕ) → is_member v q ≡ true → (i : ℕ) × (i < length q) × (place_from k q v ≡ k + i) × (get_or q i 0 ≡ v)
unfolding is_member place_from
place_of_member k [] v m = absurd (true≢false (sym m))
place_of_member k (x ∷ xs) v m = go (eqb v x) refl (place_of_member (suc k) xs v) m
  where
    go : (b : Bool) → eqb v x ≡ b → (is_member v xs ≡ true → (i : ℕ) × (i < length xs) × (place_from (suc k) xs v ≡ suc k + i) × (get_or xs i 0 ≡ v))
        → b || is_member v xs ≡ true → (i : ℕ) × (i < suc (length xs)) × (cond b k (place_from (suc k) xs v) ≡ k + i) × (get_or (x ∷ xs) i 0 ≡ v)
    go true e below h = (0, omega arith, omega arith, sym (eqb-true v x e))
    go false e below h = let r = below h in (suc r.0, omega arith, omega arith, r.3)

-- no other has
pub place_of_absent : (k : ℕ) (q : List ℕ) (v : ℕ) → is_member v q ≡ false → place_from k q v ≡ unreached
unfolding is_member place_from
place_of_absent k [] v m = refl
place_of_absent k (x ∷ xs) v m = go (eqb v x) (place_of_absent (suc k) xs v) m
  where
    go : (b : Bool) → (is_member v xs ≡ false → place_from (suc k) xs v ≡ unreached) → b || is_member v xs ≡ false → cond b k (place_from (suc k) xs v) ≡ unreached
    go true below h = absurd (true≢false h)
    go false below h = below h

-- one more id at the end
place_behind_lem : (k : ℕ) (q : List ℕ) (x : ℕ) → is_member x q ≡ false → place_from k (q ++ (x ∷ [])) x ≡ k + length q
unfolding is_member place_from
place_behind_lem k [] x m = rw (eq-eqb x x refl) (omega arith)
place_behind_lem k (y ∷ ys) x m = go (eqb x y) (place_behind_lem (suc k) ys x) m
  where
    go : (b : Bool) → (is_member x ys ≡ false → place_from (suc k) (ys ++ (x ∷ [])) x ≡ suc k + length ys) → b || is_member x ys ≡ false
        → cond b k (place_from (suc k) (ys ++ (x ∷ [])) x) ≡ k + suc (length ys)
    go true below h = absurd (true≢false h)
    go false below h = let r = below h in omega arith

place_beside : (k : ℕ) (q : List ℕ) (x v : ℕ) → v ≢ x → place_from k (q ++ (x ∷ [])) v ≡ place_from k q v
unfolding place_from
place_beside k [] x v ne = rw (ne_eqb v x ne) refl
place_beside k (y ∷ ys) x v ne = rw (place_beside (suc k) ys x v ne) refl

-- ---- ids, none twice
module _ {n : ℕ} {q : List ℕ} (h : DistinctIds n q) where
  -- by their places
  pub ids_injective : (i j : ℕ) → i < length q → j < length q → get_or q i 0 ≡ get_or q j 0 → i ≡ j
  ids_injective i j li lj e = distinct_at q i j 0 h.distinct li lj e

  pub ids_below_lem : (i : ℕ) → i < length q → get_or q i 0 < n
  ids_below_lem i lt = h.below (get_or q i 0) (get_d_member q i 0 lt)

  -- n ids or more leave none out
  ids_cover : n ≤ length q → (v : ℕ) → v < n → ((i : ℕ) → i < n → get_or q i 0 ≢ v) → ⊥
  ids_cover many v lt miss = pigeonhole (λ i. get_or q i 0) n v (λ i li. ids_below_lem i (omega arith)) (λ i j li lj. ids_injective i j (omega arith) (omega arith)) lt miss

  -- an id that is not in the queue yet has room there
  pub room_for_absent : (v : ℕ) → v < n → is_member v q ≡ false → length q < n
  room_for_absent v lt m = go (dec_lt (length q) n)
    where
      go : Dec (length q < n) → length q < n
      go (yes k) = k
      go (no k) = absurd (ids_cover (omega arith) v lt (λ i li e. is_member_false v q m (subst (λ (z : ℕ). Memᴰ z q) e (get_d_member q i 0 (omega arith)))))

  -- there are no more than n
  pub ids_at_most : length q ≤ n
  ids_at_most = go (dec_lt n (length q))
    where
      go : Dec (n < length q) → length q ≤ n
      go (no k) = omega arith
      go (yes k) = absurd (ids_cover (omega arith) (get_or q n 0) (ids_below_lem n k) (λ i li e. let r = ids_injective i n (omega arith) k e in omega arith))

  -- and n of them are a permutation
  pub ids_permutation : length q ≡ n → IsPermutation n q
  ids_permutation all = record { size = all; below = λ v lt. ids_below_lem v (omega arith); injective = λ u v lu lv e. ids_injective u v (omega arith) (omega arith) e }

  pub ids_with_absent : (v : ℕ) → v < n → is_member v q ≡ false → DistinctIds n (q ++ (v ∷ []))
  ids_with_absent v lt m = record {
    below = λ x mx. go x (Memᴰ.append_cases q mx);
    distinct = pairwise_append (λ x y. x ≢ y) q (v ∷ []) h.distinct (λ y my. absurd (Memᴰ.not-nil my), tt)
        (λ x y mx my e. is_member_false v q m (subst (λ (z : ℕ). Memᴰ z q) (e ∙ Memᴰ.eq_of_singleton my) mx));
  }
    where
      go : (x : ℕ) → Memᴰ x q ⊎ Memᴰ x (v ∷ []) → x < n
      go x (inl k) = h.below x k
      go x (inr k) = let e = Memᴰ.eq_of_singleton k in omega arith

-- ---- stores
order_with_absent : (n : ℕ) (q : List ℕ) (v : ℕ) → v < n → is_member v q ≡ false → set (order_of n q) v (length q) ≡ order_of n (q ++ (v ∷ []))
unfolding order_of
order_with_absent n q v lt m =
    tabulate_unique n (place_from 0 (q ++ (v ∷ []))) (set (tabulate n (place_from 0 q)) v (length q)) 0
    (length-set (tabulate n (place_from 0 q)) v (length q) ∙ length_tabulate n (place_from 0 q)) (λ i li. go i li (ℕ_discrete i v))
  where
    go : (i : ℕ) → i < n → Dec (i ≡ v) → get_or (set (tabulate n (place_from 0 q)) v (length q)) i 0 ≡ place_from 0 (q ++ (v ∷ [])) i
    go i li (yes e) =
        rw e (get_or-set_same (tabulate n (place_from 0 q)) v (length q) 0 (omega (arith, length_tabulate n (place_from 0 q)))
        ∙ sym (let r = place_behind_lem 0 q v m in let s : place_from 0 (q ++ (v ∷ [])) v ≡ length q = omega arith in s))
    go i li (no ne) =
        get_or-set_other (tabulate n (place_from 0 q)) v i (length q) 0 ne ∙ tabulate_at n (place_from 0 q) i 0 li ∙ sym (place_beside 0 q v i ne)

pub queue_with : (q old : List ℕ) (v : ℕ) → length q < length old → set (overwrite q old) (length q) v ≡ overwrite (q ++ (v ∷ [])) old
unfolding overwrite
queue_with q old v lt =
    let e : length (q ++ (v ∷ [])) ≡ suc (length q) = simp length-append (omega arith) in
    rw (e, drop-cons old (length q) 0 lt, set-append_seam, append_snoc) refl

-- a buffer written again from its front, no less far
overwrite_longer : (q r old : List ℕ) → length q ≤ length r → overwrite r (overwrite q old) ≡ overwrite r old
unfolding overwrite
overwrite_longer q r old le =
    let e : length r ≡ length q + (length r - length q) = omega arith in
    ap (λ (l : List ℕ). r ++ l) (ap (λ (k : ℕ). drop k (q ++ drop (length q) old)) e ∙ drop-append-add q (drop (length q) old) (length r - length q)
    ∙ drop-drop (length r - length q) (length q) old ∙ ap (λ (k : ℕ). drop k old) (sym e))

-- ---- a list is read
enter_member : (q : List ℕ) (v : ℕ) → is_member v q ≡ true → enter q v ≡ q
unfolding enter
enter_member q v m = rw m refl

enter_absent : (q : List ℕ) (v : ℕ) → is_member v q ≡ false → enter q v ≡ q ++ (v ∷ [])
unfolding enter
enter_absent q v m = rw m refl

-- one more place of a list
pub entered_next : (q list : List ℕ) (i : ℕ) → i < length list → entered q (take (i + 1) list) ≡ enter (entered q (take i list)) (get_or list i 0)
unfolding entered
entered_next q list i lt = rw (add-one, take-suc list i 0 lt) (entered_append q (take i list) (get_or list i 0 ∷ []))

-- ---- the queue grows at its end
enter_longer : (q : List ℕ) (v : ℕ) → length q ≤ length (enter q v)
unfolding enter
enter_longer q v = go (is_member v q)
  where
    go : (b : Bool) → length q ≤ length (cond b q (q ++ (v ∷ [])))
    go true = omega arith
    go false = simp length-append (omega arith)

enter_keeps : (q : List ℕ) (v i : ℕ) → i < length q → get_or (enter q v) i 0 ≡ get_or q i 0
unfolding enter
enter_keeps q v i lt = go (is_member v q)
  where
    go : (b : Bool) → get_or (cond b q (q ++ (v ∷ []))) i 0 ≡ get_or q i 0
    go true = refl
    go false = get_or-append q (v ∷ []) 0 i lt

pub entered_longer : (q list : List ℕ) → length q ≤ length (entered q list)
unfolding entered
entered_longer q [] = omega arith
entered_longer q (v ∷ vs) = let a = enter_longer q v in let b = entered_longer (enter q v) vs in omega arith

pub entered_keeps : (q list : List ℕ) (i : ℕ) → i < length q → get_or (entered q list) i 0 ≡ get_or q i 0
unfolding entered
entered_keeps q [] i lt = refl
entered_keeps q (v ∷ vs) i lt = entered_keeps (enter q v) vs i (let a = enter_longer q v in omega arith) ∙ enter_keeps q v i lt

-- ---- an id is met
module _ {n : ℕ} {q old : List ℕ} {reached : ℕ} {order queue : List ℕ} (h : Holding n q old reached order queue) (few : n ≤ unreached) (v : ℕ) (lt : v < n) where
  number_at : get_or order v 0 ≡ place_from 0 q v
  unfolding order_of
  number_at = ap (λ (l : List ℕ). get_or l v 0) h.numbered ∙ tabulate_at n (place_from 0 q) v 0 lt

  pub numbered_member : get_or order v 0 ≢ unreached → is_member v q ≡ true
  numbered_member ne = go (cases_Bool (is_member v q))
    where
      go : (is_member v q ≡ true) ⊎ (is_member v q ≡ false) → is_member v q ≡ true
      go (inl e) = e
      go (inr e) = absurd (ne (number_at ∙ place_of_absent 0 q v e))

  pub unnumbered_absent : get_or order v 0 ≡ unreached → is_member v q ≡ false
  unnumbered_absent e = go (cases_Bool (is_member v q))
    where
      go : (is_member v q ≡ true) ⊎ (is_member v q ≡ false) → is_member v q ≡ false
      go (inr m) = m
      go (inl m) = absurd (let r = place_of_member 0 q v m in let s = ids_at_most h.once in let y : ⊥ = omega (arith, number_at) in y)

  -- a numbered id has entered before
  pub holding_old : get_or order v 0 ≢ unreached → Holding n (enter q v) old reached order queue
  holding_old ne = rw (enter_member q v (numbered_member ne)) h

  -- any other finds room
  pub holding_room : get_or order v 0 ≡ unreached → reached < n
  holding_room e = let r = room_for_absent h.once v lt (unnumbered_absent e) in omega (arith, h.size)

  -- and enters
  pub holding_new : n ≤ length old → get_or order v 0 ≡ unreached → Holding n (enter q v) old (reached + 1) (set order v reached) (set queue reached v)
  holding_new room e =
      let m = unnumbered_absent e in
      rw (enter_absent q v m) (record {
        size = simp length-append (omega (arith, h.size));
        once = ids_with_absent h.once v lt m;
        numbered = rw (h.numbered, ← h.size) (order_with_absent n q v lt m);
        queued = rw (h.queued, ← h.size) (queue_with q old v (let r = room_for_absent h.once v lt m in omega arith));
      })

-- ---- what the buffers hold
module _ {n : ℕ} {q old : List ℕ} {reached : ℕ} {order queue : List ℕ} (h : Holding n q old reached order queue) where
  pub holding_order_length : length order ≡ n
  unfolding order_of
  holding_order_length = ap length h.numbered ∙ length_tabulate n (place_from 0 q)

  pub holding_at_most : reached ≤ n
  holding_at_most = let r = ids_at_most h.once in omega (arith, h.size)

  pub holding_at : (i : ℕ) → i < reached → get_or queue i 0 ≡ get_or q i 0
  holding_at i lt = ap (λ (l : List ℕ). get_or l i 0) h.queued ∙ overwrite_at q old i 0 (omega (arith, h.size))

  pub holding_below : (i : ℕ) → i < reached → get_or queue i 0 < n
  holding_below i lt = let r = ids_below_lem h.once i (omega (arith, h.size)) in omega (arith, holding_at i lt)

  pub holding_take : take reached queue ≡ q
  holding_take = ap (take reached) h.queued ∙ take_overwrite q old reached h.size

  -- the same, the queue before left out of account
  pub holding_self : Holding n q queue reached order queue
  holding_self = record {
    size = h.size;
    once = h.once;
    numbered = h.numbered;
    queued = h.queued ∙ sym (ap (overwrite q) h.queued ∙ overwrite_longer q q old (omega arith));
  }

  -- what the buffers hold, seen from the buffers alone
  pub holding_again : Holding (length order) (take reached queue) queue reached order queue
  holding_again = rw (holding_order_length, holding_take) holding_self

-- a buffer that was written before, no further
pub holding_longer : {n : ℕ} {q r old : List ℕ} {reached reached₁ : ℕ} {order queue order₁ queue₁ : List ℕ} → Holding n q old reached order queue → length q ≤ length r
    → Holding n r queue reached₁ order₁ queue₁ → Holding n r old reached₁ order₁ queue₁
holding_longer {q} {r} {old} h le k = record {
  size = k.size;
  once = k.once;
  numbered = k.numbered;
  queued = k.queued ∙ ap (overwrite r) h.queued ∙ overwrite_longer q r old le;
}

-- a list was read from where the buffers held q
pub holding_then : {n : ℕ} {q old : List ℕ} {reached : ℕ} {order queue : List ℕ} (h : Holding n q old reached order queue) (list : List ℕ) {reached₁ : ℕ} {order₁ queue₁ : List ℕ}
    → Holding (length order) (entered (take reached queue) list) queue reached₁ order₁ queue₁ → Holding n (entered q list) old reached₁ order₁ queue₁
holding_then {q} h list later = holding_longer h (entered_longer q list) (rw (holding_order_length h, holding_take h) at later)

-- no id has entered
pub holding_none : {n : ℕ} {old order : List ℕ} → order ≡ order_of n [] → Holding n [] old 0 order old
unfolding overwrite
holding_none cleared = record { size = refl; once = record { below = λ v m. absurd (Memᴰ.not-nil m); distinct = tt }; numbered = cleared; queued = refl }

-- a vertex that has no number enters
pub holding_behind : {n : ℕ} {q old order queue : List ℕ} {reached : ℕ} → Holding n q old reached order queue → n ≤ unreached → (v : ℕ) → v < n → n ≤ length old → get_or order v 0 ≡ unreached
    → Holding n (q ++ (v ∷ [])) old (reached + 1) (set order v reached) (set queue reached v)
holding_behind {q} h few v lt room e = rw (enter_absent q v (unnumbered_absent h few v lt e)) at (holding_new h few v lt room e)

-- the first of all
pub holding_first : {n : ℕ} {old order : List ℕ} (v : ℕ) → v < n → n ≤ unreached → n ≤ length old → order ≡ order_of n [] → Holding n (v ∷ []) old 1 (set order v 0) (set old 0 v)
unfolding order_of place_from
holding_first {n} v lt few room cleared = holding_behind (holding_none cleared) few v lt room (ap (λ (l : List ℕ). get_or l v 0) cleared ∙ tabulate_at n (place_from 0 []) v 0 lt)
