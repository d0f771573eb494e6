-- Laws of lists given by index, of blocks, and of loops that write from the front. Assumes nothing.
-- To show that a list is a table: `tabulate_unique`. To read a table: `tabulate_at`, `length_tabulate`. Two lists are equal by their elements: the library's `ext_get_or`.
-- A loop that fills place k at turn k: `overwritten_none`, `overwritten_set` at each turn, `overwritten_all` at the end (the surplus is untouched), `overwritten_whole` where there is none.
-- A store of a whole block: `updated_by_sets`; for a vector `updated_by_three`.
use Prim.Native.Nat.{ℕ, zero, suc, ◌+◌, ◌-◌, ◌*◌, ◌≤◌, ◌<◌}
use native.Mathlib.Nat.{not-suc-le-zero, le_of_suc-le-suc, mul-le-mul_right}
use native.Mathlib.Omega.{arith}
use native.Mathlib.Decide.{dec_lt}
use native.Mathlib.Numerals.{add-one, add-two}
use mathlib.Core.Path.{◌≡◌, refl, sym, ap, subst, ◌∙◌}
use mathlib.Core.Logic.{◌⊎◌, inl, inr, ◌≢◌}
use mathlib.Core.List.{List, [], ◌∷◌, ◌++◌, append-nil, append_assoc, Memᴰ}
use lib.ListN.{length, get_or, set, take, drop, length-append, length-drop, length-set, get_or-append, drop_of_length-le}
use lib.Seq.{ext_get_or, get_or-append-add, get_or-take, get_or-drop, drop-drop, length-take-le, get_or-set_same, get_or-set_other, take_at, drop_at, slice, sets, take-nil}
use Rattle.sequences.specs.Range.{Updated}
use Rattle.sequences.specs.Tabulate.{tabulate, block, overwrite, Overwritten}
use Rattle.sequences.proofs.Range.{last_or_below}

module _ {A : Type 0} where
  -- ---- tables
  pub length_tabulate : (n : ℕ) (f : ℕ → A) → length (tabulate n f) ≡ n
  unfolding tabulate
  length_tabulate zero f = refl
  length_tabulate (suc n) f = let r = length_tabulate n f in simp length-append (omega arith)

  pub tabulate_at : (n : ℕ) (f : ℕ → A) (i : ℕ) (d : A) → i < n → get_or (tabulate n f) i d ≡ f i
  unfolding tabulate
  tabulate_at zero f i d h = absurd (not-suc-le-zero h)
  tabulate_at (suc n) f i d h = go (tabulate_at n f i d) (last_or_below i n h)
    where
      go : (i < n → get_or (tabulate n f) i d ≡ f i) → (i ≡ n) ⊎ (i < n) → get_or (tabulate n f ++ (f n ∷ [])) i d ≡ f i
      go below (inl e) =
          let k : i ≡ length (tabulate n f) + 0 = omega (arith, length_tabulate n f) in
          ap (λ (j : ℕ). get_or (tabulate n f ++ (f n ∷ [])) j d) k ∙ get_or-append-add (tabulate n f) (f n ∷ []) 0 d ∙ ap f (sym e)
      go below (inr k) = get_or-append (tabulate n f) (f n ∷ []) d i (omega (arith, length_tabulate n f)) ∙ below k

  -- a list with the right length and the right elements is the table
  pub tabulate_unique : (n : ℕ) (f : ℕ → A) (l : List A) (d : A) → length l ≡ n → ((i : ℕ) → i < n → get_or l i d ≡ f i) → l ≡ tabulate n f
  tabulate_unique n f l d e h = ext_get_or d l (tabulate n f) (e ∙ sym (length_tabulate n f)) (λ i lt. let k : i < n = omega arith in h i k ∙ sym (tabulate_at n f i d k))

  pub tabulate_extensional : (n : ℕ) (f g : ℕ → A) → ((i : ℕ) → i < n → f i ≡ g i) → tabulate n f ≡ tabulate n g
  unfolding tabulate
  tabulate_extensional zero f g h = refl
  tabulate_extensional (suc n) f g h = rw (tabulate_extensional n f g (λ i lt. h i (omega arith)), h n (omega arith))

  -- a list is the table of its elements
  pub tabulate_elements : (l : List A) (d : A) → tabulate (length l) (λ i. get_or l i d) ≡ l
  tabulate_elements l d = sym (tabulate_unique (length l) (λ i. get_or l i d) l d refl (λ i lt. refl))

  pub tabulate_suc : (n : ℕ) (f : ℕ → A) → tabulate (suc n) f ≡ tabulate n f ++ (f n ∷ [])
  unfolding tabulate
  tabulate_suc n f = refl

  pub tabulate_add : (m n : ℕ) (f : ℕ → A) → tabulate (m + n) f ≡ tabulate m f ++ tabulate n (λ i. f (m + i))
  unfolding tabulate
  tabulate_add m zero f = let e : m + 0 ≡ m = omega arith in ap (λ (k : ℕ). tabulate k f) e ∙ sym (append-nil (tabulate m f))
  tabulate_add m (suc n) f =
      let e : m + suc n ≡ suc (m + n) = omega arith in
      ap (λ (k : ℕ). tabulate k f) e ∙ ap (λ (l : List A). l ++ (f (m + n) ∷ [])) (tabulate_add m n f)
      ∙ append_assoc (tabulate m f) (tabulate n (λ i. f (m + i))) (f (m + n) ∷ [])

  -- ---- members are the elements at the places
  pub get_d_member : (l : List A) (i : ℕ) (d : A) → i < length l → Memᴰ (get_or l i d) l
  get_d_member [] i d h = absurd (not-suc-le-zero h)
  get_d_member (x ∷ xs) zero d h = Memᴰ.head refl
  get_d_member (x ∷ xs) (suc i) d h = Memᴰ.tail (get_d_member xs i d (le_of_suc-le-suc h))

  pub member_get_d : (a : A) (l : List A) (d : A) → Memᴰ a l → (i : ℕ) × (i < length l) × (get_or l i d ≡ a)
  member_get_d a (x ∷ xs) d (Memᴰ.head e) = (0, omega arith, sym e)
  member_get_d a (x ∷ xs) d (Memᴰ.tail m) = let r = member_get_d a xs d m in (suc r.0, omega arith, r.2)
  member_get_d a [] d x' = elim x' [ ]

  pub tabulate_member : (n : ℕ) (f : ℕ → A) (a : A) → Memᴰ a (tabulate n f) → (i : ℕ) × (i < n) × (f i ≡ a)
  tabulate_member n f a m =
      let r = member_get_d a (tabulate n f) a m in
      let lt : r.0 < n = omega (arith, length_tabulate n f) in
      (r.0, lt, sym (tabulate_at n f r.0 a lt) ∙ r.2)

  pub member_tabulate : (n : ℕ) (f : ℕ → A) (i : ℕ) → i < n → Memᴰ (f i) (tabulate n f)
  member_tabulate n f i lt =
      subst (λ (a : A). Memᴰ a (tabulate n f)) (tabulate_at n f i (f i) lt) (get_d_member (tabulate n f) i (f i) (omega (arith, length_tabulate n f)))

  -- ---- blocks
  pub length_block : (w : ℕ) (l : List A) (d : A) (i : ℕ) → length (block w l d i) ≡ w
  unfolding block
  length_block w l d i = length_tabulate w (λ k. get_or l (i * w + k) d)

  pub block_at : (w : ℕ) (l : List A) (d : A) (i k : ℕ) (e : A) → k < w → get_or (block w l d i) k e ≡ get_or l (i * w + k) d
  unfolding block
  block_at w l d i k e lt = tabulate_at w (λ k. get_or l (i * w + k) d) k e lt

  pub block_unique : (w : ℕ) (l : List A) (d : A) (i : ℕ) (xs : List A) → length xs ≡ w → ((k : ℕ) → k < w → get_or xs k d ≡ get_or l (i * w + k) d) → xs ≡ block w l d i
  unfolding block
  block_unique w l d i xs e h = tabulate_unique w (λ k. get_or l (i * w + k) d) xs d e h

  -- a block is a part of the list
  pub block_as_take : (w : ℕ) (l : List A) (d : A) (i : ℕ) → suc i * w ≤ length l → block w l d i ≡ take w (drop (i * w) l)
  block_as_take w l d i room =
      sym (block_unique w l d i (take w (drop (i * w) l)) (length-take-le w (drop (i * w) l) (simp length-drop (omega arith)))
      (λ k lt. get_or-take w (drop (i * w) l) k d lt ∙ get_or-drop (i * w) l k d))

  -- equal blocks have equal elements
  pub blocks_agree : (w : ℕ) (l r : List A) (d : A) (i j : ℕ) → block w l d i ≡ block w r d j → (k : ℕ) → k < w → get_or l (i * w + k) d ≡ get_or r (j * w + k) d
  blocks_agree w l r d i j e k lt = sym (block_at w l d i k d lt) ∙ ap (λ (b : List A). get_or b k d) e ∙ block_at w r d j k d lt

  get_d_sets_outside : (vs l : List A) (i j : ℕ) (d : A) → (j < i) ⊎ (i + length vs ≤ j) → get_or (sets l i vs) j d ≡ get_or l j d
  get_d_sets_outside [] l i j d h = refl
  get_d_sets_outside (v ∷ vs) l i j d (inl h) = get_d_sets_outside vs (set l i v) (suc i) j d (inl (omega arith)) ∙ get_or-set_other l i j v d (λ e. omega arith)
  get_d_sets_outside (v ∷ vs) l i j d (inr h) = get_d_sets_outside vs (set l i v) (suc i) j d (inr (omega arith)) ∙ get_or-set_other l i j v d (λ e. omega arith)

  get_d_sets_inside : (vs l : List A) (i k : ℕ) (d : A) → k < length vs → i + length vs ≤ length l → get_or (sets l i vs) (i + k) d ≡ get_or vs k d
  get_d_sets_inside [] l i k d h room = absurd (not-suc-le-zero h)
  get_d_sets_inside (v ∷ vs) l i zero d h room =
      let e : i + 0 ≡ i = omega arith in
      ap (λ (j : ℕ). get_or (sets (set l i v) (suc i) vs) j d) e ∙ get_d_sets_outside vs (set l i v) (suc i) i d (inl (omega arith)) ∙ get_or-set_same l i v d (omega arith)
  get_d_sets_inside (v ∷ vs) l i (suc k) d h room =
      let e : i + suc k ≡ suc i + k = omega arith in
      ap (λ (j : ℕ). get_or (sets (set l i v) (suc i) vs) j d) e ∙ get_d_sets_inside vs (set l i v) (suc i) k d (le_of_suc-le-suc h) (omega (arith, length-set l i v))

  -- the blocks before and after the stores of a whole block
  pub updated_by_sets : (w n : ℕ) (l : List A) (i : ℕ) (xs : List A) (d : A) → length xs ≡ w → suc i * w ≤ length l → Updated n (block w l d) (block w (sets l (i * w) xs) d) i xs
  updated_by_sets w n l i xs d e room = record {
    here = sym (block_unique w (sets l (i * w) xs) d i xs e (λ k lt. sym (get_d_sets_inside xs l (i * w) k d (omega arith) (omega arith))));
    elsewhere = λ j lj ne. block_unique w l d j (block w (sets l (i * w) xs) d j) (length_block w (sets l (i * w) xs) d j) (λ k lt.
        block_at w (sets l (i * w) xs) d j k d lt ∙ get_d_sets_outside xs l (i * w) (j * w + k) d (apart j k ne lt (dec_lt j i)));
  }
    where
      apart : (j k : ℕ) → j ≢ i → k < w → Dec (j < i) → (j * w + k < i * w) ⊎ (i * w + length xs ≤ j * w + k)
      apart j k ne lt (yes h) = inl (omega (arith, mul-le-mul_right w h))
      apart j k ne lt (no h) = let g : suc i ≤ j = omega (arith, ne) in inr (omega (arith, mul-le-mul_right w g))

  pub updated_by_three : (n : ℕ) (l : List A) (i : ℕ) (x y z d : A) → suc i * 3 ≤ length l
      → Updated n (block 3 l d) (block 3 (set (set (set l (i * 3) x) (i * 3 + 1) y) (i * 3 + 2) z) d) i (x ∷ y ∷ z ∷ [])
  updated_by_three n l i x y z d room = rw (add-one, add-two) (updated_by_sets 3 n l i (x ∷ y ∷ z ∷ []) d refl room)

  -- ---- parts
  -- a part of a list, as the library has it and as code reads it
  pub slice_as_take : (f t : ℕ) (l : List A) → slice f t l ≡ take (t - f) (drop f l)
  slice_as_take zero t l = let e : t - 0 ≡ t = omega arith in rw e refl
  slice_as_take (suc f) zero l = let e : 0 - suc f ≡ 0 = omega arith in rw e refl
  slice_as_take (suc f) (suc t) [] = sym (take-nil (suc t - suc f))
  slice_as_take (suc f) (suc t) (x ∷ l) = let e : suc t - suc f ≡ t - f = omega arith in slice_as_take f t l ∙ ap (λ (k : ℕ). take k (drop f l)) (sym e)

  -- ---- writing from the front
  pub length_overwrite : (new old : List A) → length new ≤ length old → length (overwrite new old) ≡ length old
  unfolding overwrite
  length_overwrite new old h = simp (length-append, length-drop) (omega arith)

  -- what was written, cut to its length, is itself
  pub take_overwrite : (new old : List A) (n : ℕ) → length new ≡ n → take n (overwrite new old) ≡ new
  unfolding overwrite
  take_overwrite new old n e = take_at new (drop (length new) old) n e

  pub drop_overwrite : (new old : List A) (n : ℕ) → length new ≡ n → drop n (overwrite new old) ≡ drop n old
  unfolding overwrite
  drop_overwrite new old n e = drop_at new (drop (length new) old) n e ∙ ap (λ (k : ℕ). drop k old) e

  pub overwrite_at : (new old : List A) (i : ℕ) (d : A) → i < length new → get_or (overwrite new old) i d ≡ get_or new i d
  unfolding overwrite
  overwrite_at new old i d lt = get_or-append new (drop (length new) old) d i lt

  -- a buffer whose first n places were set by index, such as cleared marks
  pub overwrite_tabulate_at : (n : ℕ) (f : ℕ → A) (old : List A) (i : ℕ) (d : A) → i < n → get_or (overwrite (tabulate n f) old) i d ≡ f i
  overwrite_tabulate_at n f old i d lt = overwrite_at (tabulate n f) old i d (omega (arith, length_tabulate n f)) ∙ tabulate_at n f i d lt

  pub overwrite_beyond : (new old : List A) (i : ℕ) (d : A) → length new ≤ i → get_or (overwrite new old) i d ≡ get_or old i d
  unfolding overwrite
  overwrite_beyond new old i d h =
      let e : i ≡ length new + (i - length new) = omega arith in
      ap (λ (j : ℕ). get_or (new ++ drop (length new) old) j d) e ∙ get_or-append-add new (drop (length new) old) (i - length new) d
      ∙ get_or-drop (length new) old (i - length new) d ∙ ap (λ (j : ℕ). get_or old j d) (sym e)

  -- more is written behind it: the part lent is what stood there, and the buffer is cut round it
  pub overwrite_append : (new more old : List A) (n m : ℕ) → length new ≡ n → length more ≡ m
      → take n (overwrite new old) ++ more ++ drop (n + m) (overwrite new old) ≡ overwrite (new ++ more) old
  unfolding overwrite
  overwrite_append new more old n m e f =
      let a : take n (new ++ drop (length new) old) ≡ new = take_at new (drop (length new) old) n e in
      let b : drop (n + m) (new ++ drop (length new) old) ≡ drop (n + m) old =
      sym (drop-drop m n (new ++ drop (length new) old)) ∙ ap (drop m) (drop_at new (drop (length new) old) n e ∙ ap (λ (k : ℕ). drop k old) e) ∙ drop-drop m n old in
      let c : n + m ≡ length (new ++ more) = simp length-append (omega arith) in
      rw (a, b, c) refl

  -- where nothing is left over, what was written is all
  pub overwrite_whole : (new old : List A) → length old ≤ length new → overwrite new old ≡ new
  unfolding overwrite
  overwrite_whole new old h = ap (λ (l : List A). new ++ l) (drop_of_length-le old h) ∙ append-nil new

  pub overwritten_none : {new old : List A} {d : A} → Overwritten new old old 0 d
  overwritten_none = record { same_length = refl; written = λ i lt. absurd (not-suc-le-zero lt); untouched = λ i h. refl }

  -- turn k stores the element k
  pub overwritten_set : {new old now : List A} {k : ℕ} {d x : A} → k < length old → x ≡ get_or new k d → Overwritten new old now k d → Overwritten new old (set now k x) (k + 1) d
  overwritten_set {new} {old} {now} {k} {d} {x} lt e o = record {
    same_length = length-set now k x ∙ o.same_length;
    written = λ i h. below i (last_or_below i k (omega arith));
    untouched = λ i h. get_or-set_other now k i x d (λ q. omega arith) ∙ o.untouched i (omega arith);
  }
    where
      below : (i : ℕ) → (i ≡ k) ⊎ (i < k) → get_or (set now k x) i d ≡ get_or new i d
      below i (inl q) = ap (λ (j : ℕ). get_or (set now k x) j d) q ∙ get_or-set_same now k x d (omega (arith, o.same_length)) ∙ e ∙ ap (λ (j : ℕ). get_or new j d) (sym q)
      below i (inr h) = get_or-set_other now k i x d (λ q. omega arith) ∙ o.written i h

  -- the whole of `new` is written
  pub overwritten_all : {new old now : List A} {k : ℕ} {d : A} → length new ≡ k → k ≤ length old → Overwritten new old now k d → now ≡ overwrite new old
  overwritten_all {new} {old} {now} {k} {d} e room o =
      ext_get_or d now (overwrite new old) (o.same_length ∙ sym (length_overwrite new old (omega arith))) (λ i lt. each i (dec_lt i k))
    where
      each : (i : ℕ) → Dec (i < k) → get_or now i d ≡ get_or (overwrite new old) i d
      each i (yes h) = o.written i h ∙ sym (overwrite_at new old i d (omega arith))
      each i (no h) = o.untouched i (omega arith) ∙ sym (overwrite_beyond new old i d (omega arith))

  -- and nothing is left over
  pub overwritten_whole : {new old now : List A} {k : ℕ} {d : A} → length new ≡ k → length old ≡ k → Overwritten new old now k d → now ≡ new
  overwritten_whole {new} {old} e f o = overwritten_all e (omega arith) o ∙ overwrite_whole new old (omega arith)
