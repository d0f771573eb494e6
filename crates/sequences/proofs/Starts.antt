-- Laws of lists one behind another and of their starts. Assumes nothing.
-- From lists to starts and entries and back: `concatenate_part`. From starts and entries to lists and back: `rows-starts`, `rows_entries`.
-- To show that a flat list is the lists one behind another: `concatenate_unique`, for lists of one width `concatenate_even_unique`.
-- To read an entry: `concatenate_at`, `concatenate_even_at`, `part_at`. A member: `concatenate_member`, `member_concatenate`, `flatten_member`.
use Prim.Native.Nat.{ℕ, zero, suc, ◌+◌, ◌-◌, ◌*◌, ◌≤◌, ◌<◌}
use native.Mathlib.Nat.{not-suc-le-zero}
use native.Mathlib.Omega.{arith}
use native.Mathlib.Decide.{dec_lt}
use mathlib.Core.Path.{◌≡◌, refl, sym, ap, subst, ◌∙◌}
use mathlib.Core.Logic.{◌⊎◌, inl, inr}
use mathlib.Core.List.Memᴰ
use mathlib.Core.List.{List, [], ◌∷◌, ◌++◌, flatten, append-nil, append_assoc, Memᴰ}
use lib.ListN.{length, get_or, take, drop, length-append, get_or-append}
use lib.Seq.{slice, length-slice, ext_get_or, get_or-append-add, get_or-take, get_or-drop, take-append-le, take_all, drop_at}
use Rattle.sequences.specs.Range.{sum_below}
use Rattle.sequences.specs.Tabulate.{tabulate}
use Rattle.sequences.specs.Starts.{concatenate, start_of, starts_of, part, block_part, CompressedRows}
use Rattle.sequences.proofs.Range.{last_or_below, sum_extensional, sum_below_monotone}
use Rattle.sequences.proofs.Tabulate.{length_tabulate, tabulate_at, tabulate_elements, tabulate_extensional, get_d_member}

module _ {A : Type 0} where
  -- ---- starts
  pub start_zero : (f : ℕ → List A) → start_of f 0 ≡ 0
  unfolding start_of sum_below
  start_zero f = refl

  pub start_suc : (f : ℕ → List A) (v : ℕ) → start_of f (suc v) ≡ start_of f v + length (f v)
  unfolding start_of sum_below
  start_suc f v = refl

  pub start_monotone : (f : ℕ → List A) (u v : ℕ) → u ≤ v → start_of f u ≤ start_of f v
  unfolding start_of
  start_monotone f u v h = sum_below_monotone (λ k. length (f k)) u v h

  pub start_extensional : (f g : ℕ → List A) (n : ℕ) → ((v : ℕ) → v < n → length (f v) ≡ length (g v)) → start_of f n ≡ start_of g n
  unfolding start_of
  start_extensional f g n h = sum_extensional (λ k. length (f k)) (λ k. length (g k)) n h

  -- two lists' parts do not meet
  pub start_disjoint : (f : ℕ → List A) (u v s t : ℕ) → (u ≡ v → ⊥) → s < length (f u) → t < length (f v) → start_of f u + s ≡ start_of f v + t → ⊥
  start_disjoint f u v s t ne ls lt e = go (dec_lt u v)
    where
      go : Dec (u < v) → ⊥
      go (yes h) = let a = start_suc f u in let b = start_monotone f (suc u) v h in omega arith
      go (no h) = let k : suc v ≤ u = omega (arith, ne) in let a = start_suc f v in let b = start_monotone f (suc v) u k in omega arith

  pub length_starts : (n : ℕ) (f : ℕ → List A) → length (starts_of n f) ≡ suc n
  unfolding starts_of
  length_starts n f = length_tabulate (suc n) _

  pub starts_at : (n : ℕ) (f : ℕ → List A) (v : ℕ) → v ≤ n → get_or (starts_of n f) v 0 ≡ start_of f v
  unfolding starts_of
  starts_at n f v h = tabulate_at (suc n) _ v 0 (omega arith)

  pub starts_extensional : (n : ℕ) (f g : ℕ → List A) → ((v : ℕ) → v < n → length (f v) ≡ length (g v)) → starts_of n f ≡ starts_of n g
  unfolding starts_of
  starts_extensional n f g h = tabulate_extensional (suc n) (start_of f) (start_of g) (λ v lt. start_extensional f g v (λ u lu. h u (omega arith)))

  -- ---- one behind another
  pub length_concatenate : (n : ℕ) (f : ℕ → List A) → length (concatenate n f) ≡ start_of f n
  unfolding concatenate start_of sum_below
  length_concatenate zero f = refl
  length_concatenate (suc n) f = let r = length_concatenate n f in simp length-append (omega arith)

  pub concatenate_suc : (n : ℕ) (f : ℕ → List A) → concatenate (suc n) f ≡ concatenate n f ++ f n
  unfolding concatenate
  concatenate_suc n f = refl

  pub concatenate_extensional : (n : ℕ) (f g : ℕ → List A) → ((v : ℕ) → v < n → f v ≡ g v) → concatenate n f ≡ concatenate n g
  unfolding concatenate
  concatenate_extensional zero f g h = refl
  concatenate_extensional (suc n) f g h = rw (concatenate_extensional n f g (λ i lt. h i (omega arith)), h n (omega arith))

  -- entry t of the list v stands t behind the list's start
  pub concatenate_at : (n : ℕ) (f : ℕ → List A) (v t : ℕ) (d : A) → v < n → t < length (f v) → get_or (concatenate n f) (start_of f v + t) d ≡ get_or (f v) t d
  unfolding concatenate
  concatenate_at zero f v t d lv lt = absurd (not-suc-le-zero lv)
  concatenate_at (suc n) f v t d lv lt = go (λ (k : v < n). concatenate_at n f v t d k lt) (last_or_below v n lv)
    where
      go : (v < n → get_or (concatenate n f) (start_of f v + t) d ≡ get_or (f v) t d) → (v ≡ n) ⊎ (v < n) → get_or (concatenate n f ++ f n) (start_of f v + t) d ≡ get_or (f v) t d
      go below (inl e) =
          let k : start_of f v + t ≡ length (concatenate n f) + t = ap (λ (z : ℕ). start_of f z + t) e ∙ ap (λ (z : ℕ). z + t) (sym (length_concatenate n f)) in
          ap (λ (z : ℕ). get_or (concatenate n f ++ f n) z d) k ∙ get_or-append-add (concatenate n f) (f n) t d ∙ ap (λ (z : ℕ). get_or (f z) t d) (sym e)
      go below (inr k) =
          get_or-append (concatenate n f) (f n) d (start_of f v + t) (omega (arith, length_concatenate n f, start_suc f v, start_monotone f (suc v) n k)) ∙ below k

  -- a list that has each entry in its place agrees with the lists one behind another
  pub concatenate_agrees : (n : ℕ) (f : ℕ → List A) (l : List A) (d : A) → ((v t : ℕ) → v < n → t < length (f v) → get_or l (start_of f v + t) d ≡ get_or (f v) t d)
      → (j : ℕ) → j < start_of f n → get_or l j d ≡ get_or (concatenate n f) j d
  unfolding concatenate
  concatenate_agrees zero f l d h j lt = absurd (let y : ⊥ = omega (arith, start_zero f) in y)
  concatenate_agrees (suc n) f l d h j lt = go (concatenate_agrees n f l d (λ v t lv lt. h v t (omega arith) lt) j) (dec_lt j (start_of f n))
    where
      go : (j < start_of f n → get_or l j d ≡ get_or (concatenate n f) j d) → Dec (j < start_of f n) → get_or l j d ≡ get_or (concatenate n f ++ f n) j d
      go below (yes k) = below k ∙ sym (get_or-append (concatenate n f) (f n) d j (omega (arith, length_concatenate n f)))
      go below (no k) =
          let e : j ≡ start_of f n + (j - start_of f n) = omega arith in
          let far : j ≡ length (concatenate n f) + (j - start_of f n) = omega (arith, length_concatenate n f) in
          ap (λ (z : ℕ). get_or l z d) e ∙ h n (j - start_of f n) (omega arith) (omega (arith, start_suc f n))
          ∙ sym (ap (λ (z : ℕ). get_or (concatenate n f ++ f n) z d) far ∙ get_or-append-add (concatenate n f) (f n) (j - start_of f n) d)

  -- and is that list where its length is right
  pub concatenate_unique : (n : ℕ) (f : ℕ → List A) (l : List A) (d : A) → length l ≡ start_of f n
      → ((v t : ℕ) → v < n → t < length (f v) → get_or l (start_of f v + t) d ≡ get_or (f v) t d) → l ≡ concatenate n f
  concatenate_unique n f l d e h = ext_get_or d l (concatenate n f) (e ∙ sym (length_concatenate n f)) (λ j lt. concatenate_agrees n f l d h j (omega arith))

  pub concatenate_member : (n : ℕ) (f : ℕ → List A) (a : A) → Memᴰ a (concatenate n f) → (v : ℕ) × (v < n) × Memᴰ a (f v)
  unfolding concatenate
  concatenate_member zero f a m = absurd (Memᴰ.not-nil m)
  concatenate_member (suc n) f a m = go (concatenate_member n f a) (Memᴰ.append_cases (concatenate n f) m)
    where
      go : (Memᴰ a (concatenate n f) → (v : ℕ) × (v < n) × Memᴰ a (f v)) → Memᴰ a (concatenate n f) ⊎ Memᴰ a (f n) → (v : ℕ) × (v < suc n) × Memᴰ a (f v)
      go below (inl k) = let r = below k in (r.0, omega arith, r.2)
      go below (inr k) = (n, omega arith, k)

  pub member_concatenate : (n : ℕ) (f : ℕ → List A) (a : A) (v : ℕ) → v < n → Memᴰ a (f v) → Memᴰ a (concatenate n f)
  unfolding concatenate
  member_concatenate zero f a v h m = absurd (not-suc-le-zero h)
  member_concatenate (suc n) f a v h m = go (member_concatenate n f a v) (last_or_below v n h)
    where
      go : (v < n → Memᴰ a (f v) → Memᴰ a (concatenate n f)) → (v ≡ n) ⊎ (v < n) → Memᴰ a (concatenate n f ++ f n)
      go below (inl e) = Memᴰ.append_right (concatenate n f) (subst (λ (k : ℕ). Memᴰ a (f k)) e m)
      go below (inr k) = Memᴰ.append_left (f n) (below k m)

  -- ---- lists of one width
  pub start_even : (n w : ℕ) (f : ℕ → List A) → ((v : ℕ) → v < n → length (f v) ≡ w) → start_of f n ≡ n * w
  unfolding start_of sum_below
  start_even zero w f h = omega arith
  start_even (suc n) w f h = let r = start_even n w f (λ v lt. h v (omega arith)) in let k = h n (omega arith) in omega arith

  pub concatenate_even_length : (n w : ℕ) (f : ℕ → List A) → ((v : ℕ) → v < n → length (f v) ≡ w) → length (concatenate n f) ≡ n * w
  concatenate_even_length n w f h = length_concatenate n f ∙ start_even n w f h

  pub concatenate_even_at : (n w : ℕ) (f : ℕ → List A) → ((v : ℕ) → v < n → length (f v) ≡ w) → (v k : ℕ) (d : A) → v < n → k < w → get_or (concatenate n f) (v * w + k) d ≡ get_or (f v) k d
  concatenate_even_at n w f h v k d lv lk =
      ap (λ (z : ℕ). get_or (concatenate n f) (z + k) d) (sym (start_even v w f (λ u lu. h u (omega arith)))) ∙ concatenate_at n f v k d lv (omega (arith, h v lv))

  pub concatenate_even_unique : (n w : ℕ) (f : ℕ → List A) (l : List A) (d : A) → ((v : ℕ) → v < n → length (f v) ≡ w) → length l ≡ n * w
      → ((v k : ℕ) → v < n → k < w → get_or l (v * w + k) d ≡ get_or (f v) k d) → l ≡ concatenate n f
  concatenate_even_unique n w f l d h e at_place =
      concatenate_unique n f l d (e ∙ sym (start_even n w f h))
      (λ v k lv lk. ap (λ (z : ℕ). get_or l (z + k) d) (start_even v w f (λ u lu. h u (omega arith))) ∙ at_place v k lv (omega (arith, h v lv)))

  -- ---- a list of lists
  pub flatten_append : (l r : List (List A)) → flatten (l ++ r) ≡ flatten l ++ flatten r
  unfolding flatten
  flatten_append [] r = refl
  flatten_append (x ∷ l) r = ap (λ (z : List A). x ++ z) (flatten_append l r) ∙ sym (append_assoc x (flatten l) (flatten r))

  pub concatenate_flatten : (n : ℕ) (f : ℕ → List A) → concatenate n f ≡ flatten (tabulate n f)
  unfolding concatenate tabulate flatten
  concatenate_flatten zero f = refl
  concatenate_flatten (suc n) f = ap (λ (z : List A). z ++ f n) (concatenate_flatten n f) ∙ ap (λ (z : List A). flatten (tabulate n f) ++ z) (sym (append-nil (f n))) ∙ sym (flatten_append (tabulate n f) (f n ∷ []))

  pub flatten_concatenate : (ls : List (List A)) → flatten ls ≡ concatenate (length ls) (λ i. get_or ls i [])
  flatten_concatenate ls = ap flatten (sym (tabulate_elements ls [])) ∙ sym (concatenate_flatten (length ls) (λ i. get_or ls i []))

  pub flatten_member : (ls : List (List A)) (a : A) → Memᴰ a (flatten ls) → (l : List A) × Memᴰ l ls × Memᴰ a l
  flatten_member ls a m =
      let r = concatenate_member (length ls) (λ i. get_or ls i []) a (subst (Memᴰ a) (flatten_concatenate ls) m) in
      (get_or ls r.0 [], get_d_member ls r.0 [] r.1, r.2)

  -- lists of one width, flattened and cut again: triples are written and read so
  pub flatten_even_length : (w : ℕ) (ls : List (List A)) → ((x : List A) → Memᴰ x ls → length x ≡ w) → length (flatten ls) ≡ length ls * w
  flatten_even_length w ls h = ap length (flatten_concatenate ls) ∙ concatenate_even_length (length ls) w (λ i. get_or ls i []) (λ v lt. h (get_or ls v []) (get_d_member ls v [] lt))

  -- ---- the part of a list between two places
  pub slice_of_concatenate : (n : ℕ) (f : ℕ → List A) (v : ℕ) → v < n → slice (start_of f v) (start_of f (suc v)) (concatenate n f) ≡ f v
  unfolding concatenate
  slice_of_concatenate zero f v h = absurd (not-suc-le-zero h)
  slice_of_concatenate (suc n) f v h = go (slice_of_concatenate n f v) (last_or_below v n h)
    where
      go : (v < n → slice (start_of f v) (start_of f (suc v)) (concatenate n f) ≡ f v) → (v ≡ n) ⊎ (v < n) → slice (start_of f v) (start_of f (suc v)) (concatenate n f ++ f n) ≡ f v
      go below (inl e) =
          let k : length (concatenate n f ++ f n) ≤ start_of f (suc v) = simp (length-append, length_concatenate, e) (omega (arith, start_suc f n)) in
          ap (λ l. drop (start_of f v) l) (take_all (start_of f (suc v)) (concatenate n f ++ f n) k)
          ∙ drop_at (concatenate n f) (f n) (start_of f v) (length_concatenate n f ∙ ap (start_of f) (sym e)) ∙ ap f (sym e)
      go below (inr k) =
          ap (λ l. drop (start_of f v) l) (take-append-le (start_of f (suc v)) (concatenate n f) (f n) (rw length_concatenate (start_monotone f (suc v) n k))) ∙ below k

  -- the part between two starts is the list
  pub concatenate_part : (n : ℕ) (f : ℕ → List A) (v : ℕ) → v < n → part (starts_of n f) (concatenate n f) v ≡ f v
  unfolding part
  concatenate_part n f v h = rw (starts_at n f v (omega arith), starts_at n f (suc v) h) (slice_of_concatenate n f v h)

  -- starts and entries of lists are compressed rows
  pub compressed_rows : (n : ℕ) (f : ℕ → List A) → CompressedRows n (starts_of n f) (concatenate n f)
  compressed_rows n f = record {
    size = length_starts n f;
    first = starts_at n f 0 (omega arith) ∙ start_zero f;
    ascend = λ v lt. omega (arith, starts_at n f v (omega arith), starts_at n f (suc v) lt, start_suc f v);
    last = starts_at n f n (omega arith) ∙ sym (length_concatenate n f);
  }

  -- ---- compressed rows
  module _ (n : ℕ) (S : List ℕ) (E : List A) (r : CompressedRows n S E) where
    climb : (k u v : ℕ) → u + k ≡ v → v ≤ n → get_or S u 0 ≤ get_or S v 0
    climb zero u v e h = let q : u ≡ v = omega arith in let t = ap (λ (i : ℕ). get_or S i 0) q in omega arith
    climb (suc k) u v e h = let i = climb k (suc u) v (omega arith) h in let t = r.ascend u (omega arith) in omega arith

    pub rows_ascend : (u v : ℕ) → u ≤ v → v ≤ n → get_or S u 0 ≤ get_or S v 0
    rows_ascend u v h k = climb (v - u) u v (omega arith) k

    pub rows_within : (v : ℕ) → v ≤ n → get_or S v 0 ≤ length E
    rows_within v h = let k = rows_ascend v n h (omega arith) in omega (arith, r.last)

    pub part_length : (v : ℕ) → v < n → length (part S E v) ≡ get_or S (suc v) 0 - get_or S v 0
    unfolding part
    part_length v h = length-slice (get_or S v 0) (get_or S (suc v) 0) E (rows_within (suc v) h)

    -- entry t of the list v
    pub part_at : (v t : ℕ) (d : A) → get_or S v 0 + t < get_or S (suc v) 0 → get_or (part S E v) t d ≡ get_or E (get_or S v 0 + t) d
    unfolding part
    part_at v t d lt = get_or-drop (get_or S v 0) (take (get_or S (suc v) 0) E) t d ∙ get_or-take (get_or S (suc v) 0) E (get_or S v 0 + t) d lt

    pub part_start : (v : ℕ) → v ≤ n → start_of (part S E) v ≡ get_or S v 0
    unfolding start_of sum_below
    part_start zero h = sym r.first
    part_start (suc v) h = let s = part_start v (omega arith) in let l = part_length v h in let t = r.ascend v h in omega arith

    pub rows_entries : (d : A) → concatenate n (part S E) ≡ E
    rows_entries d = sym (concatenate_unique n (part S E) E d (sym r.last ∙ sym (part_start n (omega arith)))
        (λ v t lv lt. ap (λ (z : ℕ). get_or E (z + t) d) (part_start v (omega arith)) ∙ sym (part_at v t d (omega (arith, part_length v lv)))))

  take_member : (k : ℕ) (l : List A) (a : A) → Memᴰ a (take k l) → Memᴰ a l
  take_member zero l a m = absurd (Memᴰ.not-nil m)
  take_member (suc k) [] a m = m
  take_member (suc k) (x ∷ l) a (Memᴰ.head e) = Memᴰ.head e
  take_member (suc k) (x ∷ l) a (Memᴰ.tail m) = Memᴰ.tail (take_member k l a m)

  drop_member : (k : ℕ) (l : List A) (a : A) → Memᴰ a (drop k l) → Memᴰ a l
  drop_member zero l a m = m
  drop_member (suc k) [] a m = m
  drop_member (suc k) (x ∷ l) a m = Memᴰ.tail (drop_member k l a m)

  -- a member of a part is an entry
  pub part_member : (S : List ℕ) (E : List A) (v : ℕ) (a : A) → Memᴰ a (part S E v) → Memᴰ a E
  unfolding part
  part_member S E v a m = take_member (get_or S (suc v) 0) E a (drop_member (get_or S v 0) (take (get_or S (suc v) 0) E) a m)

module _ {A B : Type 0} where
  -- the lists g v are the lists f v written in blocks of the width w, and the starts count blocks
  pub start_scaled : (w n : ℕ) (f : ℕ → List B) (g : ℕ → List A) → ((v : ℕ) → v < n → length (g v) ≡ length (f v) * w) → start_of g n ≡ start_of f n * w
  unfolding start_of sum_below
  start_scaled w zero f g h = omega arith
  start_scaled w (suc n) f g h = let r = start_scaled w n f g (λ v lt. h v (omega arith)) in let k = h n (omega arith) in omega arith

  pub concatenate_block_part : (w n : ℕ) (f : ℕ → List B) (g : ℕ → List A) → ((v : ℕ) → v < n → length (g v) ≡ length (f v) * w) → (v : ℕ) → v < n
      → block_part w (starts_of n f) (concatenate n g) v ≡ g v
  unfolding block_part
  concatenate_block_part w n f g h v lt =
      rw (starts_at n f v (omega arith), starts_at n f (suc v) lt, ← start_scaled w v f g (λ u lu. h u (omega arith)), ← start_scaled w (suc v) f g (λ u lu. h u (omega arith)))
      (slice_of_concatenate n g v lt)
