-- Laws of permutations, inverses and moves. Assumes nothing.
-- The test: `is_permutation_sound`, `is_permutation_complete`; its loop: `marks_none`, `marks_step`, `marks_all`, and `refused_length`, `refused_range`, `refused_repeat`.
-- A permutation as a function with its inverse: `permutation_bijection`; composed, turned round: `bijection_compose`, `bijection_flip`.
-- The inverse: `inverse_unique`; the end of its loop: `inverting_all`.
-- Lists of ids renumbered: `relabelled_at`, `relabelled_nondecreasing`, `relabelled_total`, `relabelled_compose`.
-- A moved list: read by `moved_blocks_at` (and `moved_at`), recognised by `moved_blocks_unique`, repeated by `moved_blocks_compose`.
use Prim.Native.Nat.{ℕ, zero, suc, ◌+◌, ◌*◌, ◌≤◌, ◌<◌}
use native.Mathlib.Nat.{not-suc-le-zero}
use native.Mathlib.Omega.{arith}
use native.Mathlib.Decide.{ℕ_discrete, dec_lt}
use mathlib.Core.Path.{◌≡◌, refl, sym, ap, ◌∙◌}
use mathlib.Core.Logic.{◌⊎◌, inl, inr, ◌≢◌}
use mathlib.Core.Bool.{Bool, true, false, not, cond}
use mathlib.Core.List.Memᴰ
use mathlib.Core.List.{List, [], ◌∷◌, map, map-id, map-map, Memᴰ}
use lib.Dec.{ltb, eqb}
use lib.ListN.{length, get_or, length-map}
use lib.Seq.{ext_get_or}
use borrow.Author.Tests.{ltb-true, eqb-true, eqb-false, not-true, eq-eqb, ne_eqb, lt-ltb, le-ltb}
use Rattle.std.proofs.lemmas.List.{get_or-map}
use Rattle.std.proofs.lemmas.Bool.{and_parts, and_from, and_right}
use Rattle.sequences.specs.Range.{all_below, sum_below, Updated}
use Rattle.sequences.specs.Tabulate.{block, overwrite}
use Rattle.sequences.specs.Starts.{start_of}
use Rattle.sequences.specs.Ascending.{Nondecreasing, sort}
use Rattle.sequences.specs.Permutation.{at, Bijection, IsPermutation, is_fresh, is_permutation, Marks, last_place_of, inverse, Inverting, identity, compose, moved_blocks, moved, moved_pairs, relabelled}
use Rattle.sequences.proofs.Range.{last_or_below, all_below_at, all_below_intro, all_below_suc, all_below_fails, sum_extensional, sum_injection, pigeonhole}
use Rattle.sequences.proofs.Tabulate.{length_tabulate, tabulate_at, length_block, block_at, block_unique, length_overwrite, overwrite_at, overwrite_beyond}
use Rattle.sequences.proofs.Starts.{concatenate_even_length, concatenate_even_at, concatenate_even_unique, start_extensional}
use Rattle.sequences.proofs.Ascending.{sort_members, length_sort, sort_nondecreasing}
use Rattle.sequences.proofs.Sorted.{sort_map_sort}

-- ---- bijections of the numbers below n
pub bijection_identity : (n : ℕ) → Bijection n (λ v. v) (λ v. v)
bijection_identity n = record { maps = λ v lt. lt; inverse_maps = λ v lt. lt; left_inverse = λ v lt. refl; right_inverse = λ v lt. refl }

pub bijection_flip : {n : ℕ} {p b : ℕ → ℕ} → Bijection n p b → Bijection n b p
bijection_flip h = record { maps = h.inverse_maps; inverse_maps = h.maps; left_inverse = h.right_inverse; right_inverse = h.left_inverse }

-- p, then q
pub bijection_compose : {n : ℕ} {p b q c : ℕ → ℕ} → Bijection n p b → Bijection n q c → Bijection n (λ v. q (p v)) (λ v. b (c v))
bijection_compose {p} {b} {q} {c} h k = record {
  maps = λ v lt. k.maps (p v) (h.maps v lt);
  inverse_maps = λ v lt. h.inverse_maps (c v) (k.inverse_maps v lt);
  left_inverse = λ v lt. ap b (k.left_inverse (p v) (h.maps v lt)) ∙ h.left_inverse v lt;
  right_inverse = λ v lt. ap q (h.right_inverse (c v) (k.inverse_maps v lt)) ∙ k.right_inverse v lt;
}

pub bijection_injective : {n : ℕ} {p b : ℕ → ℕ} → Bijection n p b → (u v : ℕ) → u < n → v < n → p u ≡ p v → u ≡ v
bijection_injective {b} h u v lu lv e = sym (h.left_inverse u lu) ∙ ap b e ∙ h.left_inverse v lv

-- a sum over the numbers below n, in another order
pub sum_bijection : {n : ℕ} {p b : ℕ → ℕ} (g : ℕ → ℕ) → Bijection n p b → sum_below (λ i. g (p i)) n ≡ sum_below g n
sum_bijection {n} {p} {b} g h =
    let a = sum_injection p g n n h.maps (bijection_injective h) in
    let c = sum_injection b (λ i. g (p i)) n n h.inverse_maps (bijection_injective (bijection_flip h)) in
    let e = sum_extensional (λ i. g (p (b i))) g n (λ i lt. ap g (h.right_inverse i lt)) in
    omega arith

-- lists in another order end at the same place
pub start_bijection : {A : Type 0} {n : ℕ} {p b : ℕ → ℕ} (f : ℕ → List A) → Bijection n p b → start_of (λ i. f (p i)) n ≡ start_of f n
unfolding start_of
start_bijection f h = sum_bijection (λ v. length (f v)) h

-- ---- the test
pub is_permutation_sound : (n : ℕ) (q : List ℕ) → is_permutation n q ≡ true → IsPermutation n q
unfolding is_permutation is_fresh
is_permutation_sound n q ok = record { size = eqb-true (length q) n (and_parts (eqb (length q) n) _ ok).0; below = below; injective = injective }
  where
    fresh : (v : ℕ) → v < n → (ltb (at q v) n ≡ true) × (all_below (λ u. not (eqb (at q u) (at q v))) v ≡ true)
    fresh v lt = and_parts _ _ (all_below_at (is_fresh n q) n v (and_parts (eqb (length q) n) _ ok).1 lt)

    below : (v : ℕ) → v < n → at q v < n
    below v lt = ltb-true (at q v) n (fresh v lt).0

    unlike : (u v : ℕ) → u < v → v < n → at q u ≢ at q v
    unlike u v lu lv e = eqb-false (at q u) (at q v) (not-true _ (all_below_at (λ u. not (eqb (at q u) (at q v))) v u (fresh v lv).1 lu)) e

    injective : (u v : ℕ) → u < n → v < n → at q u ≡ at q v → u ≡ v
    injective u v lu lv e =
        let f : ¬ (u < v) = λ k. unlike u v k lv e in
        let g : ¬ (v < u) = λ k. unlike v u k lu (sym e) in
        omega arith

pub is_permutation_complete : (n : ℕ) (q : List ℕ) → IsPermutation n q → is_permutation n q ≡ true
unfolding is_permutation is_fresh
is_permutation_complete n q h =
    and_from _ _ (eq-eqb (length q) n h.size) (all_below_intro (is_fresh n q) n (λ v lv. and_from _ _ (lt-ltb (at q v) n (h.below v lv))
    (all_below_intro (λ u. not (eqb (at q u) (at q v))) v (λ u lu. rw (ne_eqb (at q u) (at q v) (λ e. let r = h.injective u v (omega arith) lv e in omega arith)) refl))))

-- ---- the test by marks
pub marks_none : {n : ℕ} {q : List ℕ} {marked : ℕ → Bool} → ((x : ℕ) → x < n → marked x ≡ false) → Marks n q marked 0
unfolding all_below
marks_none z = record {
  passed = refl;
  unmarked_unmet = λ x lt e u lu. absurd (not-suc-le-zero lu);
  marked_met = λ x lt e. let c : ◌≡◌ {A = ℕ} 0 1 = cc (z x lt) in absurd (let y : ⊥ = omega arith in y);
}

fresh_if_unmarked : (n : ℕ) (q : List ℕ) (marked : ℕ → Bool) (v : ℕ) → Marks n q marked v → at q v < n → marked (at q v) ≡ false → is_fresh n q v ≡ true
unfolding is_fresh
fresh_if_unmarked n q marked v h lt z =
    and_from _ _ (lt-ltb (at q v) n lt)
    (all_below_intro (λ u. not (eqb (at q u) (at q v))) v (λ u lu. rw (ne_eqb (at q u) (at q v) (h.unmarked_unmet (at q v) lt z u lu)) refl))

-- the number at v is below n and not marked: it is marked, and the next place comes
pub marks_step : {n : ℕ} {q : List ℕ} {marked marked-after : ℕ → Bool} {v : ℕ} → Marks n q marked v → at q v < n → marked (at q v) ≡ false → Updated n marked marked-after (at q v) true → Marks n q marked-after (v + 1)
marks_step {n} {q} {marked} {marked-after} {v} h lt z s = record {
  passed = all_below_suc (is_fresh n q) v h.passed (fresh_if_unmarked n q marked v h lt z);
  unmarked_unmet = λ x lx e u lu. unmet x lx e u (last_or_below u v (omega arith)) (ℕ_discrete x (at q v));
  marked_met = λ x lx e. met x lx e (ℕ_discrete x (at q v));
}
  where
    unmet : (x : ℕ) → x < n → marked-after x ≡ false → (u : ℕ) → (u ≡ v) ⊎ (u < v) → Dec (x ≡ at q v) → at q u ≢ x
    unmet x lx e u w (yes r) k = let c : ◌≡◌ {A = ℕ} 0 1 = cc (s.here, ap marked-after r) in omega arith
    unmet x lx e u (inl w) (no r) k = r (sym k ∙ ap (at q) w)
    unmet x lx e u (inr w) (no r) k = h.unmarked_unmet x lx (sym (s.elsewhere x lx r) ∙ e) u w k

    met : (x : ℕ) → x < n → marked-after x ≡ true → Dec (x ≡ at q v) → (u : ℕ) × (u < v + 1) × (at q u ≡ x)
    met x lx e (yes r) = (v, omega arith, sym r)
    met x lx e (no r) = let t = h.marked_met x lx (sym (s.elsewhere x lx r) ∙ e) in (t.0, omega arith, t.2)

pub marks_all : {n : ℕ} {q : List ℕ} {marked : ℕ → Bool} {v : ℕ} → length q ≡ n → n ≤ v → Marks n q marked v → is_permutation n q ≡ true
unfolding is_permutation
marks_all {n} {q} {marked} {v} e le h = and_from _ _ (eq-eqb (length q) n e) (all_below_intro (is_fresh n q) n (λ i lt. all_below_at (is_fresh n q) v i h.passed (omega arith)))

pub refused_length : (n : ℕ) (q : List ℕ) → length q ≢ n → is_permutation n q ≡ false
unfolding is_permutation
refused_length n q h = rw (ne_eqb (length q) n h) refl

pub refused_range : (n : ℕ) (q : List ℕ) (v : ℕ) → v < n → n ≤ at q v → is_permutation n q ≡ false
unfolding is_permutation is_fresh
refused_range n q v lt h = and_right (eqb (length q) n) _ (all_below_fails (is_fresh n q) n v lt (rw (le-ltb (at q v) n h) refl))

pub refused_repeat : {n : ℕ} {q : List ℕ} {marked : ℕ → Bool} {v : ℕ} → v < n → Marks n q marked v → at q v < n → marked (at q v) ≡ true → is_permutation n q ≡ false
unfolding is_permutation is_fresh
refused_repeat {n} {q} {marked} {v} lt h low e =
    let t = h.marked_met (at q v) low e in
    and_right (eqb (length q) n) _
    (all_below_fails (is_fresh n q) n v lt (and_right (ltb (at q v) n) _
    (all_below_fails (λ u. not (eqb (at q u) (at q v))) v t.0 t.1 (rw (eq-eqb (at q t.0) (at q v) t.2) refl))))

-- ---- the inverse
place_or_none : (q : List ℕ) (k i : ℕ) → ((last_place_of q k i < k) × (at q (last_place_of q k i) ≡ i)) ⊎ ((u : ℕ) → u < k → at q u ≢ i)
unfolding last_place_of
place_or_none q zero i = inr (λ u lt e. not-suc-le-zero lt)
place_or_none q (suc k) i = go (eqb (at q k) i) refl (place_or_none q k i)
  where
    nowhere : eqb (at q k) i ≡ false → ((u : ℕ) → u < k → at q u ≢ i) → (u : ℕ) → at q u ≡ i → (u ≡ k) ⊎ (u < k) → ⊥
    nowhere e f u h (inl s) = eqb-false (at q k) i e (ap (at q) (sym s) ∙ h)
    nowhere e f u h (inr lt) = f u lt h

    go : (b : Bool) → eqb (at q k) i ≡ b → ((last_place_of q k i < k) × (at q (last_place_of q k i) ≡ i)) ⊎ ((u : ℕ) → u < k → at q u ≢ i)
        → ((cond b k (last_place_of q k i) < suc k) × (at q (cond b k (last_place_of q k i)) ≡ i)) ⊎ ((u : ℕ) → u < suc k → at q u ≢ i)
    go true e r = inl (omega arith, eqb-true (at q k) i e)
    go false e (inl r) = inl (omega arith, r.1)
    go false e (inr f) = inr (λ u lt h. nowhere e f u h (last_or_below u k lt))

-- a list that has the values of a bijection is a permutation
pub bijection_permutation : {n : ℕ} {p b : ℕ → ℕ} (l : List ℕ) → Bijection n p b → length l ≡ n → ((v : ℕ) → v < n → at l v ≡ p v) → IsPermutation n l
bijection_permutation {n} {p} l h e is = record {
  size = e;
  below = λ v lt. let r = h.maps v lt in omega (arith, is v lt);
  injective = λ u v lu lv k. bijection_injective h u v lu lv (sym (is u lu) ∙ k ∙ is v lv);
}

pub identity_at : (n v : ℕ) → v < n → at (identity n) v ≡ v
unfolding identity
identity_at n v lt = tabulate_at n (λ v. v) v 0 lt

pub length_identity : (n : ℕ) → length (identity n) ≡ n
unfolding identity
length_identity n = length_tabulate n (λ v. v)

pub identity_permutation : (n : ℕ) → IsPermutation n (identity n)
identity_permutation n = bijection_permutation (identity n) (bijection_identity n) (length_identity n) (identity_at n)

module _ {n : ℕ} {q : List ℕ} (h : IsPermutation n q) where
  -- each id has its place
  pub permutation_surjective : (i : ℕ) → i < n → (last_place_of q n i < n) × (at q (last_place_of q n i) ≡ i)
  permutation_surjective i lt = go (place_or_none q n i)
    where
      go : ((last_place_of q n i < n) × (at q (last_place_of q n i) ≡ i)) ⊎ ((u : ℕ) → u < n → at q u ≢ i) → (last_place_of q n i < n) × (at q (last_place_of q n i) ≡ i)
      go (inl r) = r
      go (inr f) = absurd (pigeonhole (at q) n i h.below h.injective lt f)

  pub length_inverse : length (inverse q) ≡ n
  unfolding inverse
  length_inverse = length_tabulate (length q) _ ∙ h.size

  inverse_at : (i : ℕ) → i < n → at (inverse q) i ≡ last_place_of q n i
  unfolding inverse
  inverse_at i lt = tabulate_at (length q) _ i 0 (omega (arith, h.size)) ∙ ap (λ (k : ℕ). last_place_of q k i) h.size

  pub permutation_bijection : Bijection n (at q) (at (inverse q))
  permutation_bijection = record {
    maps = h.below;
    inverse_maps = λ i lt. let r = permutation_surjective i lt in omega (arith, inverse_at i lt);
    left_inverse = λ v lt.
        let r = permutation_surjective (at q v) (h.below v lt) in
        inverse_at (at q v) (h.below v lt) ∙ h.injective (last_place_of q n (at q v)) v r.0 lt r.1;
    right_inverse = λ i lt. ap (at q) (inverse_at i lt) ∙ (permutation_surjective i lt).1;
  }

  pub inverse_permutation : IsPermutation n (inverse q)
  inverse_permutation = bijection_permutation (inverse q) (bijection_flip permutation_bijection) length_inverse (λ v lt. refl)

  -- a list that leads back from q is its inverse
  pub inverse_unique : (b : List ℕ) → length b ≡ n → ((v : ℕ) → v < n → at b (at q v) ≡ v) → b ≡ inverse q
  inverse_unique b e back =
      ext_get_or 0 b (inverse q) (e ∙ sym length_inverse) (λ i lt.
      let k : i < n = omega arith in
      ap (at b) (sym (permutation_bijection.right_inverse i k)) ∙ back (at (inverse q) i) (permutation_bijection.inverse_maps i k))

  -- ---- the loop that writes it
  pub inverting_all : {old now : List ℕ} {v : ℕ} → n ≤ length old → n ≤ v → Inverting n q old now v → now ≡ overwrite (inverse q) old
  inverting_all {old} {now} {v} room le r =
      ext_get_or 0 now (overwrite (inverse q) old) (r.same_length ∙ sym (length_overwrite (inverse q) old (omega (arith, length_inverse)))) (λ i lt. each i (dec_lt i n))
    where
      each : (i : ℕ) → Dec (i < n) → at now i ≡ at (overwrite (inverse q) old) i
      each i (yes k) =
          ap (at now) (sym (permutation_bijection.right_inverse i k)) ∙ r.inverted (at (inverse q) i) (let m = permutation_bijection.inverse_maps i k in omega arith)
          ∙ sym (overwrite_at (inverse q) old i 0 (omega (arith, length_inverse)))
      each i (no k) = r.untouched i (omega arith) ∙ sym (overwrite_beyond (inverse q) old i 0 (omega (arith, length_inverse)))

pub inverse_inverse : {n : ℕ} {q : List ℕ} → IsPermutation n q → inverse (inverse q) ≡ q
inverse_inverse {n} {q} h = sym (inverse_unique (inverse_permutation h) q h.size (permutation_bijection h).right_inverse)

-- ---- composition
pub length_compose : (q p : List ℕ) → length (compose q p) ≡ length p
unfolding compose
length_compose q p = length-map p (at q)

pub compose_at : (q p : List ℕ) (v : ℕ) → v < length p → at (compose q p) v ≡ at q (at p v)
unfolding compose
compose_at q p v lt = get_or-map (at q) p v 0 0 lt

module _ {n : ℕ} {p q : List ℕ} (h : IsPermutation n p) (k : IsPermutation n q) where
  pub compose_permutation : IsPermutation n (compose q p)
  compose_permutation =
      bijection_permutation (compose q p) (bijection_compose (permutation_bijection h) (permutation_bijection k)) (length_compose q p ∙ h.size)
      (λ v lt. compose_at q p v (omega (arith, h.size)))

  pub inverse_compose : inverse (compose q p) ≡ compose (inverse p) (inverse q)
  inverse_compose =
      sym (inverse_unique compose_permutation (compose (inverse p) (inverse q)) (length_compose (inverse p) (inverse q) ∙ length_inverse k)
      (λ v lt.
      let b = bijection_compose (permutation_bijection h) (permutation_bijection k) in
      let e = compose_at q p v (omega (arith, h.size)) in
      let m = b.maps v lt in
      compose_at (inverse p) (inverse q) (at (compose q p) v) (omega (arith, length_inverse k)) ∙ ap (λ (z : ℕ). at (inverse p) (at (inverse q) z)) e ∙ b.left_inverse v lt))

-- ---- moves
module _ {A : Type 0} where
  module _ {n : ℕ} {q : List ℕ} (h : IsPermutation n q) (w : ℕ) (l : List A) (d : A) where
    pub length_moved_blocks : length (moved_blocks w q l d) ≡ n * w
    unfolding moved_blocks
    length_moved_blocks = concatenate_even_length (length q) w _ (λ v lt. length_block w l d (at (inverse q) v)) ∙ ap (λ (k : ℕ). k * w) h.size

    -- what the place i holds afterwards
    pub moved_blocks_from : (i k : ℕ) → i < n → k < w → get_or (moved_blocks w q l d) (i * w + k) d ≡ get_or l (at (inverse q) i * w + k) d
    unfolding moved_blocks
    moved_blocks_from i k li lk =
        concatenate_even_at (length q) w _ (λ v lt. length_block w l d (at (inverse q) v)) i k d (omega (arith, h.size)) lk ∙ block_at w l d (at (inverse q) i) k d lk

    -- where the block v goes
    pub moved_blocks_at : (v k : ℕ) → v < n → k < w → get_or (moved_blocks w q l d) (at q v * w + k) d ≡ get_or l (v * w + k) d
    moved_blocks_at v k lv lk =
        moved_blocks_from (at q v) k (h.below v lv) lk ∙ ap (λ (u : ℕ). get_or l (u * w + k) d) ((permutation_bijection h).left_inverse v lv)

    -- the block i afterwards
    pub block_of_moved : (i : ℕ) → i < n → block w (moved_blocks w q l d) d i ≡ block w l d (at (inverse q) i)
    block_of_moved i li =
        block_unique w l d (at (inverse q) i) (block w (moved_blocks w q l d) d i) (length_block w (moved_blocks w q l d) d i)
        (λ k lk. block_at w (moved_blocks w q l d) d i k d lk ∙ moved_blocks_from i k li lk)

    -- a list whose blocks have gone to their places, seen from where they came
    pub moved_blocks_unique_from : (after : List A) → length after ≡ n * w → ((i k : ℕ) → i < n → k < w → get_or after (i * w + k) d ≡ get_or l (at (inverse q) i * w + k) d) → after ≡ moved_blocks w q l d
    unfolding moved_blocks
    moved_blocks_unique_from after e g =
        concatenate_even_unique (length q) w _ after d (λ v lt. length_block w l d (at (inverse q) v)) (e ∙ ap (λ (k : ℕ). k * w) (sym h.size))
        (λ i k li lk. g i k (omega (arith, h.size)) lk ∙ sym (block_at w l d (at (inverse q) i) k d lk))

    -- and from where they go
    pub moved_blocks_unique : (after : List A) → length after ≡ n * w → ((v k : ℕ) → v < n → k < w → get_or after (at q v * w + k) d ≡ get_or l (v * w + k) d) → after ≡ moved_blocks w q l d
    moved_blocks_unique after e g =
        moved_blocks_unique_from after e (λ i k li lk.
        ap (λ (u : ℕ). get_or after (u * w + k) d) (sym ((permutation_bijection h).right_inverse i li)) ∙ g (at (inverse q) i) k ((permutation_bijection h).inverse_maps i li) lk)

  pub moved_blocks_identity : (n w : ℕ) (l : List A) (d : A) → length l ≡ n * w → moved_blocks w (identity n) l d ≡ l
  moved_blocks_identity n w l d e =
      sym (moved_blocks_unique (identity_permutation n) w l d l e (λ v k lv lk. ap (λ (u : ℕ). get_or l (u * w + k) d) (identity_at n v lv)))

  -- one move after another is the move by the composition
  pub moved_blocks_compose : {n : ℕ} {p q : List ℕ} → IsPermutation n p → IsPermutation n q → (w : ℕ) (l : List A) (d : A)
      → moved_blocks w q (moved_blocks w p l d) d ≡ moved_blocks w (compose q p) l d
  moved_blocks_compose {n} {p} {q} h k w l d =
      moved_blocks_unique (compose_permutation h k) w l d (moved_blocks w q (moved_blocks w p l d) d) (length_moved_blocks k w (moved_blocks w p l d) d)
      (λ v i lv li.
      ap (λ (u : ℕ). get_or (moved_blocks w q (moved_blocks w p l d) d) (u * w + i) d) (compose_at q p v (omega (arith, h.size)))
      ∙ moved_blocks_at k w (moved_blocks w p l d) d (at p v) i (h.below v lv) li ∙ moved_blocks_at h w l d v i lv li)

  -- ---- single elements: width 1
  module _ {n : ℕ} {q : List ℕ} (h : IsPermutation n q) (l : List A) (d : A) where
    single : (l : List A) (i : ℕ) → get_or l (i * 1 + 0) d ≡ get_or l i d
    single l i = let e : i * 1 + 0 ≡ i = omega arith in ap (λ (j : ℕ). get_or l j d) e

    pub length_moved : length (moved q l d) ≡ n
    length_moved = length_moved_blocks h 1 l d ∙ (let e : n * 1 ≡ n = omega arith in e)

    pub moved_at : (v : ℕ) → v < n → get_or (moved q l d) (at q v) d ≡ get_or l v d
    moved_at v lv = sym (single (moved q l d) (at q v)) ∙ moved_blocks_at h 1 l d v 0 lv (omega arith) ∙ single l v

    pub moved_from : (i : ℕ) → i < n → get_or (moved q l d) i d ≡ get_or l (at (inverse q) i) d
    moved_from i li = sym (single (moved q l d) i) ∙ moved_blocks_from h 1 l d i 0 li (omega arith) ∙ single l (at (inverse q) i)

  -- ---- an element for each pair
  module _ {n : ℕ} {q : List ℕ} (h : IsPermutation n q) (l : List A) (d : A) where
    row_length : (v : ℕ) → v < length q → length (moved q (block (length q) l d (at (inverse q) v)) d) ≡ n
    row_length v lt = length_moved h (block (length q) l d (at (inverse q) v)) d

    pub length_moved_pairs : length (moved_pairs q l d) ≡ n * n
    unfolding moved_pairs
    length_moved_pairs = concatenate_even_length (length q) n _ row_length ∙ ap (λ (k : ℕ). k * n) h.size

    -- what the place of a pair holds afterwards
    pub moved_pairs_from : (i j : ℕ) → i < n → j < n → get_or (moved_pairs q l d) (i * n + j) d ≡ get_or l (at (inverse q) i * n + at (inverse q) j) d
    unfolding moved_pairs
    moved_pairs_from i j li lj =
        let b = (permutation_bijection h).inverse_maps j lj in
        concatenate_even_at (length q) n _ row_length i j d (omega (arith, h.size)) lj
        ∙ moved_from h (block (length q) l d (at (inverse q) i)) d j lj
        ∙ block_at (length q) l d (at (inverse q) i) (at (inverse q) j) d (omega (arith, h.size))
        ∙ ap (λ (k : ℕ). get_or l (at (inverse q) i * k + at (inverse q) j) d) h.size

    -- where the pair of u and v goes
    pub moved_pairs_at : (u v : ℕ) → u < n → v < n → get_or (moved_pairs q l d) (at q u * n + at q v) d ≡ get_or l (u * n + v) d
    moved_pairs_at u v lu lv =
        moved_pairs_from (at q u) (at q v) (h.below u lu) (h.below v lv)
        ∙ ap (λ (i : ℕ). get_or l (i * n + at (inverse q) (at q v)) d) ((permutation_bijection h).left_inverse u lu)
        ∙ ap (λ (j : ℕ). get_or l (u * n + j) d) ((permutation_bijection h).left_inverse v lv)

    -- a list with each row moved after the rows were moved, as code does it
    pub moved_pairs_unique_from : (after : List A) → length after ≡ n * n → ((i j : ℕ) → i < n → j < n → get_or after (i * n + j) d ≡ get_or l (at (inverse q) i * n + at (inverse q) j) d) → after ≡ moved_pairs q l d
    unfolding moved_pairs
    moved_pairs_unique_from after e g =
        concatenate_even_unique (length q) n _ after d row_length (e ∙ ap (λ (k : ℕ). k * n) (sym h.size))
        (λ i j li lj.
        let k : i < n = omega (arith, h.size) in
        let b = (permutation_bijection h).inverse_maps j lj in
        g i j k lj ∙ sym (moved_from h (block (length q) l d (at (inverse q) i)) d j lj
        ∙ block_at (length q) l d (at (inverse q) i) (at (inverse q) j) d (omega (arith, h.size))
        ∙ ap (λ (k : ℕ). get_or l (at (inverse q) i * k + at (inverse q) j) d) h.size))

    -- the same, seen from where the pairs go
    pub moved_pairs_unique : (after : List A) → length after ≡ n * n → ((u v : ℕ) → u < n → v < n → get_or after (at q u * n + at q v) d ≡ get_or l (u * n + v) d) → after ≡ moved_pairs q l d
    moved_pairs_unique after e g =
        let b = permutation_bijection h in
        moved_pairs_unique_from after e (λ i j li lj.
        ap (λ (x : ℕ). get_or after (x * n + j) d) (sym (b.right_inverse i li)) ∙ ap (λ (y : ℕ). get_or after (at q (at (inverse q) i) * n + y) d) (sym (b.right_inverse j lj))
        ∙ g (at (inverse q) i) (at (inverse q) j) (b.inverse_maps i li) (b.inverse_maps j lj))

  pub moved_pairs_identity : (n : ℕ) (l : List A) (d : A) → length l ≡ n * n → moved_pairs (identity n) l d ≡ l
  moved_pairs_identity n l d e =
      sym (moved_pairs_unique (identity_permutation n) l d l e (λ u v lu lv.
      ap (λ (x : ℕ). get_or l (x * n + at (identity n) v) d) (identity_at n u lu) ∙ ap (λ (y : ℕ). get_or l (u * n + y) d) (identity_at n v lv)))

  pub moved_pairs_compose : {n : ℕ} {p q : List ℕ} → IsPermutation n p → IsPermutation n q → (l : List A) (d : A) → moved_pairs q (moved_pairs p l d) d ≡ moved_pairs (compose q p) l d
  moved_pairs_compose {n} {p} {q} h k l d =
      moved_pairs_unique (compose_permutation h k) l d (moved_pairs q (moved_pairs p l d) d) (length_moved_pairs k (moved_pairs p l d) d)
      (λ u v lu lv.
      ap (λ (x : ℕ). get_or (moved_pairs q (moved_pairs p l d) d) (x * n + at (compose q p) v) d) (compose_at q p u (omega (arith, h.size)))
      ∙ ap (λ (y : ℕ). get_or (moved_pairs q (moved_pairs p l d) d) (at q (at p u) * n + y) d) (compose_at q p v (omega (arith, h.size)))
      ∙ moved_pairs_at k (moved_pairs p l d) d (at p u) (at p v) (h.below u lu) (h.below v lv) ∙ moved_pairs_at h l d u v lu lv)

-- ---- lists of ids renumbered
-- a map is known by what it does to the members
pub map_extensional : {A B : Type 0} (f g : A → B) (l : List A) → ((x : A) → Memᴰ x l → f x ≡ g x) → map f l ≡ map g l
map_extensional f g [] h = refl
map_extensional f g (x ∷ xs) h = rw (h x (Memᴰ.head refl), map_extensional f g xs (λ y m. h y (Memᴰ.tail m))) refl

module _ {n : ℕ} {q : List ℕ} (h : IsPermutation n q) (lists : ℕ → List ℕ) where
  -- the list of p(v)
  pub relabelled_at : (v : ℕ) → v < n → relabelled q lists (at q v) ≡ sort (map (at q) (lists v))
  unfolding relabelled
  relabelled_at v lt = ap (λ (u : ℕ). sort (map (at q) (lists u))) ((permutation_bijection h).left_inverse v lt)

  pub length_relabelled : (i : ℕ) → length (relabelled q lists i) ≡ length (lists (at (inverse q) i))
  unfolding relabelled
  length_relabelled i = length_sort (map (at q) (lists (at (inverse q) i))) ∙ length-map (lists (at (inverse q) i)) (at q)

  -- ascending, repeats side by side
  pub relabelled_nondecreasing : (i : ℕ) → Nondecreasing (relabelled q lists i)
  unfolding relabelled
  relabelled_nondecreasing i = sort_nondecreasing (map (at q) (lists (at (inverse q) i)))

  -- as many entries in all
  pub relabelled_total : start_of (relabelled q lists) n ≡ start_of lists n
  relabelled_total =
      start_extensional (relabelled q lists) (λ i. lists (at (inverse q) i)) n (λ i lt. length_relabelled i) ∙ start_bijection lists (bijection_flip (permutation_bijection h))

  -- ids stay ids
  pub relabelled_below : ((v : ℕ) → v < n → (x : ℕ) → Memᴰ x (lists v) → x < n) → (i : ℕ) → i < n → (y : ℕ) → Memᴰ y (relabelled q lists i) → y < n
  unfolding relabelled
  relabelled_below below i lt y m =
      let r = Memᴰ.of_map (at q) (lists (at (inverse q) i)) ((sort_members (map (at q) (lists (at (inverse q) i)))).forth y m) in
      let k = h.below r.0 (below (at (inverse q) i) ((permutation_bijection h).inverse_maps i lt) r.0 r.1) in
      omega arith

-- by the identity each list stays where it was, and is sorted
pub relabelled_identity : (n : ℕ) (lists : ℕ → List ℕ) → ((v : ℕ) → v < n → (x : ℕ) → Memᴰ x (lists v) → x < n) → (i : ℕ) → i < n → relabelled (identity n) lists i ≡ sort (lists i)
relabelled_identity n lists below i lt =
    ap (relabelled (identity n) lists) (sym (identity_at n i lt)) ∙ relabelled_at (identity_permutation n) lists i lt
    ∙ ap sort (map_extensional (at (identity n)) (λ v. v) (lists i) (λ x m. identity_at n x (below i lt x m)) ∙ map-id (lists i))

-- one renumbering after another is the one by the composition
pub relabelled_compose : {n : ℕ} {p q : List ℕ} → IsPermutation n p → IsPermutation n q → (lists : ℕ → List ℕ) → ((v : ℕ) → v < n → (x : ℕ) → Memᴰ x (lists v) → x < n)
    → (i : ℕ) → i < n → relabelled q (relabelled p lists) i ≡ relabelled (compose q p) lists i
relabelled_compose {n} {p} {q} h k lists below i lt =
    let c = compose_permutation h k in
    let v : ℕ = at (inverse (compose q p)) i in
    let lv = (permutation_bijection c).inverse_maps i lt in
    let e : at q (at p v) ≡ i = sym (compose_at q p v (omega (arith, h.size))) ∙ (permutation_bijection c).right_inverse i lt in
    ap (relabelled q (relabelled p lists)) (sym e) ∙ relabelled_at k (relabelled p lists) (at p v) (h.below v lv) ∙ ap (λ (l : List ℕ). sort (map (at q) l)) (relabelled_at h lists v lv)
    ∙ sort_map_sort (at q) (map (at p) (lists v))
    ∙ ap sort (map-map (at q) (at p) (lists v)
    ∙ map_extensional (λ x. at q (at p x)) (at (compose q p)) (lists v) (λ x m. sym (compose_at q p x (let b = below v lv x m in omega (arith, h.size)))))
    ∙ sym (relabelled_at c lists v lv) ∙ ap (relabelled (compose q p) lists) ((permutation_bijection c).right_inverse i lt)

-- the list at the new id i comes from one old list
pub relabelled_extensional : (q : List ℕ) (lists lists' : ℕ → List ℕ) (i : ℕ) → lists (at (inverse q) i) ≡ lists' (at (inverse q) i) → relabelled q lists i ≡ relabelled q lists' i
unfolding relabelled
relabelled_extensional q lists lists' i e = ap (λ (l : List ℕ). sort (map (at q) l)) e
