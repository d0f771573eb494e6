-- Relations of each element of a list to those behind it, over lists one behind another; filters and lengths of such lists; lists without repeats. Assumes nothing.
-- Ordered families: `pairwise_concatenate`, `pairwise_flat_map`; room for a list without repeats: `distinct_shorter`, `ascending_within`, `distinct_length`.
use Prim.Native.Nat.{ℕ, zero, suc, ◌≤◌, ◌<◌}
use native.Mathlib.Omega.{arith}
use mathlib.Core.Path.{◌≡◌, refl, sym, ap, ◌∙◌}
use mathlib.Core.Logic.{◌≢◌}
use mathlib.Core.Bool.{Bool, true, false, ◌&&◌, cond}
use mathlib.Core.List.Memᴰ
use mathlib.Core.List.{List, [], ◌∷◌, ◌++◌, map, flat_map, Memᴰ}
use lib.ListN.{length, length-append}
use Rattle.sequences.specs.Range.{sum_below}
use Rattle.sequences.specs.Tabulate.{tabulate}
use Rattle.sequences.specs.Starts.{concatenate}
use Rattle.sequences.specs.Permutation.{Bijection}
use Rattle.sequences.specs.Ascending.{Pairwise, Distinct, SameMembers, Ascending, is_member, sort}
use Rattle.sequences.specs.Filter.{filter}
use Rattle.sequences.proofs.Starts.{concatenate_member}
use Rattle.sequences.proofs.Permutation.{bijection_injective}
use Rattle.sequences.proofs.Ascending.{pairwise_append, distinct_map, ascending_distinct, ascending_unique, is_member_true, member_is_member, sort_members, sort_distinct, sort_unique, length_sort}
use Rattle.sequences.proofs.Filter.{filter_member, member_filter, filter_append, pairwise_filter, length_filter, flat_map_member}

-- ---- relations along lists one behind another
module _ {A : Type 0} where
  -- each element of the first list stands in the relation to each of the second
  pub pairwise_across : (R : A → A → Type 0) (l r : List A) (x y : A) → Pairwise R (l ++ r) → Memᴰ x l → Memᴰ y r → R x y
  pairwise_across R [] r x y h x5 my = elim x5 [ ]
  pairwise_across R (z ∷ l) r x y h (Memᴰ.head e) my = rw e (h.0 y (after l my))
    where
      after : (l : List A) → Memᴰ y r → Memᴰ y (l ++ r)
      after [] m = m
      after (w ∷ l) m = Memᴰ.tail (after l m)
  pairwise_across R (z ∷ l) r x y h (Memᴰ.tail mx) my = pairwise_across R l r x y h.1 mx my

  pub pairwise_right : (R : A → A → Type 0) (l r : List A) → Pairwise R (l ++ r) → Pairwise R r
  pairwise_right R [] r h = h
  pairwise_right R (x ∷ l) r h = pairwise_right R l r h.1

  pub pairwise_concatenate : (R : A → A → Type 0) (n : ℕ) (f : ℕ → List A) → ((v : ℕ) → v < n → Pairwise R (f v))
      → ((u v : ℕ) (x y : A) → u < v → v < n → Memᴰ x (f u) → Memᴰ y (f v) → R x y) → Pairwise R (concatenate n f)
  unfolding concatenate
  pairwise_concatenate R zero f inside across = tt
  pairwise_concatenate R (suc n) f inside across =
      pairwise_append R (concatenate n f) (f n)
      (pairwise_concatenate R n f (λ v lt. inside v (omega arith)) (λ u v x y luv lv mx my. across u v x y luv (omega arith) mx my))
      (inside n (omega arith))
      (λ x y mx my. let r = concatenate_member n f x mx in across r.0 n x y r.1 (omega arith) r.2 my)

  -- ---- filters of lists one behind another, and their lengths
  pub filter_concatenate : (p : A → Bool) (n : ℕ) (f : ℕ → List A) → filter p (concatenate n f) ≡ concatenate n (λ v. filter p (f v))
  unfolding concatenate filter
  filter_concatenate p zero f = refl
  filter_concatenate p (suc n) f = filter_append p (concatenate n f) (f n) ∙ ap (λ (l : List A). l ++ filter p (f n)) (filter_concatenate p n f)

  pub filter_filter : (p q : A → Bool) (l : List A) → filter p (filter q l) ≡ filter (λ x. q x && p x) l
  unfolding filter
  filter_filter p q [] = refl
  filter_filter p q (x ∷ l) = go (q x) (filter_filter p q l)
    where
      go : (b : Bool) → filter p (filter q l) ≡ filter (λ x. q x && p x) l → filter p (cond b (x ∷ filter q l) (filter q l)) ≡ cond (b && p x) (x ∷ filter (λ x. q x && p x) l) (filter (λ x. q x && p x) l)
      go true e = ap (λ (r : List A). cond (p x) (x ∷ r) r) e
      go false e = e

  pub length_filter_tabulate : (p : A → Bool) (n : ℕ) (f : ℕ → A) → length (filter p (tabulate n f)) ≡ sum_below (λ i. cond (p (f i)) 1 0) n
  unfolding tabulate sum_below filter
  length_filter_tabulate p zero f = refl
  length_filter_tabulate p (suc n) f =
      ap length (filter_append p (tabulate n f) (f n ∷ [])) ∙ length-append (filter p (tabulate n f)) (filter p (f n ∷ []))
      ∙ (let e = length_filter_tabulate p n f in let s = one (p (f n)) in omega arith)
    where
      one : (b : Bool) → length (cond b (f n ∷ []) []) ≡ cond b 1 0
      one true = refl
      one false = refl

-- lists without repeats that have the same members are as long
pub distinct_length : (l r : List ℕ) → Distinct l → Ascending r → SameMembers l r → length l ≡ length r
distinct_length l r d a s = sym (length_sort l) ∙ ap length (sort_unique l r d a s)

-- an ascending list whose members stand in another is no longer than it: what a list that is filled in order needs of its room
pub ascending_within : (l r : List ℕ) → Ascending l → Ascending r → ((x : ℕ) → Memᴰ x l → Memᴰ x r) → length l ≤ length r
ascending_within l r al ar within =
    rw (ascending_unique l kept al (pairwise_filter (λ x y. x < y) (λ x. is_member x l) r ar) members) (length_filter (λ x. is_member x l) r)
  where
    kept : List ℕ
    kept = filter (λ x. is_member x l) r

    members : SameMembers l kept
    members = record {
      forth = λ x m. member_filter (λ x. is_member x l) r x (within x m) (member_is_member x l m);
      back = λ x m. is_member_true x l (filter_member (λ x. is_member x l) r x m).1;
    }

pub pairwise_flat_map : {A B : Type 0} (S : A → A → Type 0) (R : B → B → Type 0) (f : A → List B) (l : List A) → Pairwise S l
    → ((a : A) → Memᴰ a l → Pairwise R (f a)) → ((a b : A) → S a b → (x y : B) → Memᴰ x (f a) → Memᴰ y (f b) → R x y) → Pairwise R (flat_map f l)
unfolding flat_map
pairwise_flat_map S R f [] s inside across = tt
pairwise_flat_map S R f (a ∷ l) s inside across =
    pairwise_append R (f a) (flat_map f l) (inside a (Memᴰ.head refl)) (pairwise_flat_map S R f l s.1 (λ b m. inside b (Memᴰ.tail m)) across)
    (λ x y hx hy. let from = flat_map_member f l y hy in across a from.0 (s.0 from.0 from.1) x y hx from.2)

-- ---- through a bijection and back
-- taken through p and back, an ascending list of numbers below n is as it was
pub sort_map_inverse : {n : ℕ} {p b : ℕ → ℕ} → Bijection n p b → (t : List ℕ) → Ascending t → ((x : ℕ) → Memᴰ x t → x < n) → sort (map b (sort (map p t))) ≡ t
sort_map_inverse {n} {p} {b} h t up below =
    sort_unique (map b (sort (map p t))) t
    (distinct_map b (sort (map p t)) (λ x y hx hy e. back_injective x y (from x hx) (from y hy) e)
    (sort_distinct (map p t) (distinct_map p t (λ x y hx hy e. bijection_injective h x y (below x hx) (below y hy) e) (ascending_distinct t up)))) up
    (record {
      forth = λ x m.
          let u = Memᴰ.of_map b (sort (map p t)) m in
          let v = from u.0 u.1 in
          Memᴰ.cast (sym u.2 ∙ ap b (sym v.2) ∙ h.left_inverse v.0 (below v.0 v.1)) v.1;
      back = λ x m. Memᴰ.cast (sym (h.left_inverse x (below x m))) (Memᴰ.map b ((sort_members (map p t)).back (p x) (Memᴰ.map p m)));
    })
  where
    from : (x : ℕ) → Memᴰ x (sort (map p t)) → (u : ℕ) × Memᴰ u t × (p u ≡ x)
    from x m = Memᴰ.of_map p t ((sort_members (map p t)).forth x m)

    back_injective : (x y : ℕ) → (u : ℕ) × Memᴰ u t × (p u ≡ x) → (v : ℕ) × Memᴰ v t × (p v ≡ y) → b x ≡ b y → x ≡ y
    back_injective x y u v e =
        sym u.2 ∙ ap p (sym (h.left_inverse u.0 (below u.0 u.1)) ∙ ap b u.2 ∙ e ∙ ap b (sym v.2) ∙ h.left_inverse v.0 (below v.0 v.1)) ∙ v.2

-- ---- a list without repeats is no longer than one that has all its members
module _ {A : Type 0} where
  -- the list without one member
  without : {a : A} (l : List A) → Memᴰ a l → List A
  without (x ∷ l) (Memᴰ.head e) = l
  without (x ∷ l) (Memᴰ.tail m) = x ∷ without l m
  without {a = a} [] x' = elim x' [ ]

  length_without : {a : A} (l : List A) (m : Memᴰ a l) → length l ≡ suc (length (without l m))
  unfolding without
  length_without (x ∷ l) (Memᴰ.head e) = refl
  length_without (x ∷ l) (Memᴰ.tail m) = ap suc (length_without l m)
  length_without {a = a} [] m = elim m [ ]

  member_without : {a : A} (l : List A) (m : Memᴰ a l) (b : A) → a ≢ b → Memᴰ b l → Memᴰ b (without l m)
  unfolding without
  member_without (x ∷ l) (Memᴰ.head e) b other (Memᴰ.head f) = absurd (other (e ∙ sym f))
  member_without (x ∷ l) (Memᴰ.head e) b other (Memᴰ.tail k) = k
  member_without (x ∷ l) (Memᴰ.tail m) b other (Memᴰ.head f) = Memᴰ.head f
  member_without (x ∷ l) (Memᴰ.tail m) b other (Memᴰ.tail k) = Memᴰ.tail (member_without l m b other k)
  member_without {a = a} [] m b other _ = elim m [ ]

  pub distinct_shorter : (l r : List A) → Distinct l → ((a : A) → Memᴰ a l → Memᴰ a r) → length l ≤ length r
  distinct_shorter [] r d inside = omega arith
  distinct_shorter (x ∷ l) r d inside =
      let here = inside x (Memᴰ.head refl) in
      let rest = distinct_shorter l (without r here) d.1 (λ a m. member_without r here a (d.0 a m) (inside a (Memᴰ.tail m))) in
      omega (arith, length_without r here)
