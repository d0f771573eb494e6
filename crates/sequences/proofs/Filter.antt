-- Laws of the elements that pass a test. Assumes nothing.
-- Members: `filter_member`, `member_filter`, `filter_range_member`, `member_filter_range`.
-- A loop over the numbers: the number v goes to the place `length (filter_range p v)`, by `filter_range_place`.
-- Ids renamed by a bijection: `filter_range_bijection`, the earlier ones taken through p and sorted.
use Prim.Native.Nat.{ℕ, suc, ◌+◌, ◌-◌, ◌≤◌, ◌<◌}
use native.Mathlib.Omega.{arith}
use mathlib.Core.Path.{◌≡◌, refl, sym, ap, subst, ◌∙◌}
use mathlib.Core.Logic.{◌⊎◌, inl, inr}
use mathlib.Core.Bool.{Bool, true, false, cond}
use mathlib.Core.List.Memᴰ
use mathlib.Core.List.{List, [], ◌∷◌, ◌++◌, map, flat_map, append-nil, append_assoc, Memᴰ}
use lib.ListN.{length, get_or, length-append}
use lib.Seq.{get_or-append_seam}
use Rattle.sequences.specs.Tabulate.{tabulate}
use Rattle.sequences.specs.Permutation.{Bijection}
use Rattle.sequences.specs.Ascending.{Pairwise, Ascending, sort}
use Rattle.sequences.specs.Filter.{filter, filter_range}
use Rattle.sequences.proofs.Tabulate.{tabulate_add, tabulate_suc, tabulate_member, member_tabulate}
use Rattle.sequences.proofs.Permutation.{bijection_injective}
use Rattle.sequences.proofs.Ascending.{pairwise_tabulate, ascending_distinct, sort_unique, distinct_map}

module _ {A : Type 0} where
  pub filter_member : (p : A → Bool) (l : List A) (a : A) → Memᴰ a (filter p l) → Memᴰ a l × (p a ≡ true)
  unfolding filter
  filter_member p [] a m = absurd (Memᴰ.not-nil m)
  filter_member p (x ∷ xs) a m = go (p x) refl (filter_member p xs a) m
    where
      first : p x ≡ true → (Memᴰ a (filter p xs) → Memᴰ a xs × (p a ≡ true)) → (a ≡ x) ⊎ Memᴰ a (filter p xs) → Memᴰ a (x ∷ xs) × (p a ≡ true)
      first e below (inl q) = (Memᴰ.head q, ap p q ∙ e)
      first e below (inr k) = let r = below k in (Memᴰ.tail r.0, r.1)

      go : (b : Bool) → p x ≡ b → (Memᴰ a (filter p xs) → Memᴰ a xs × (p a ≡ true)) → Memᴰ a (cond b (x ∷ filter p xs) (filter p xs)) → Memᴰ a (x ∷ xs) × (p a ≡ true)
      go true e below k = first e below (Memᴰ.cases_cons k)
      go false e below k = let r = below k in (Memᴰ.tail r.0, r.1)

  pub member_filter : (p : A → Bool) (l : List A) (a : A) → Memᴰ a l → p a ≡ true → Memᴰ a (filter p l)
  unfolding filter
  member_filter p [] a x'' t = elim x'' [ ]
  member_filter p (x ∷ xs) a (Memᴰ.head e) t = rw (ap p (sym e) ∙ t) (Memᴰ.head e)
  member_filter p (x ∷ xs) a (Memᴰ.tail m) t = go (p x) (member_filter p xs a m t)
    where
      go : (b : Bool) → Memᴰ a (filter p xs) → Memᴰ a (cond b (x ∷ filter p xs) (filter p xs))
      go true k = Memᴰ.tail k
      go false k = k

  pub filter_append : (p : A → Bool) (l r : List A) → filter p (l ++ r) ≡ filter p l ++ filter p r
  unfolding filter
  filter_append p [] r = refl
  filter_append p (x ∷ l) r = go (p x) (filter_append p l r)
    where
      go : (b : Bool) → filter p (l ++ r) ≡ filter p l ++ filter p r → cond b (x ∷ filter p (l ++ r)) (filter p (l ++ r)) ≡ cond b (x ∷ filter p l) (filter p l) ++ filter p r
      go true e = ap (λ (t : List A). x ∷ t) e
      go false e = e

  -- one more element
  pub filter_true : (p : A → Bool) (l : List A) (a : A) → p a ≡ true → filter p (l ++ (a ∷ [])) ≡ filter p l ++ (a ∷ [])
  unfolding filter
  filter_true p l a e = filter_append p l (a ∷ []) ∙ (rw e refl)

  pub filter_false : (p : A → Bool) (l : List A) (a : A) → p a ≡ false → filter p (l ++ (a ∷ [])) ≡ filter p l
  unfolding filter
  filter_false p l a e = filter_append p l (a ∷ []) ∙ (rw e (append-nil (filter p l)))

  -- only what the test says of the members matters
  pub filter_extensional : (p q : A → Bool) (l : List A) → ((a : A) → Memᴰ a l → p a ≡ q a) → filter p l ≡ filter q l
  unfolding filter
  filter_extensional p q [] h = refl
  filter_extensional p q (x ∷ xs) h = rw (h x (Memᴰ.head refl), filter_extensional p q xs (λ a m. h a (Memᴰ.tail m))) refl

  pub pairwise_filter : (R : A → A → Type 0) (p : A → Bool) (l : List A) → Pairwise R l → Pairwise R (filter p l)
  unfolding filter
  pairwise_filter R p [] h = tt
  pairwise_filter R p (x ∷ xs) h = go (p x) (pairwise_filter R p xs h.1)
    where
      go : (b : Bool) → Pairwise R (filter p xs) → Pairwise R (cond b (x ∷ filter p xs) (filter p xs))
      go true r = (λ y m. h.0 y (filter_member p xs y m).0, r)
      go false r = r

  pub length_filter : (p : A → Bool) (l : List A) → length (filter p l) ≤ length l
  unfolding filter
  length_filter p [] = omega arith
  length_filter p (x ∷ xs) = go (p x) (length_filter p xs)
    where
      go : (b : Bool) → length (filter p xs) ≤ length xs → length (cond b (x ∷ filter p xs) (filter p xs)) ≤ suc (length xs)
      go true r = omega arith
      go false r = omega arith

-- ---- lists made of each element
pub flat_map_member : {A B : Type 0} (f : A → List B) (l : List A) (b : B) → Memᴰ b (flat_map f l) → (a : A) × Memᴰ a l × Memᴰ b (f a)
unfolding flat_map
flat_map_member f [] b m = absurd (Memᴰ.not-nil m)
flat_map_member {A} {B} f (x ∷ xs) b m = go (flat_map_member f xs b) (Memᴰ.append_cases (f x) m)
  where
    go : (Memᴰ b (flat_map f xs) → (a : A) × Memᴰ a xs × Memᴰ b (f a)) → Memᴰ b (f x) ⊎ Memᴰ b (flat_map f xs) → (a : A) × Memᴰ a (x ∷ xs) × Memᴰ b (f a)
    go below (inl k) = (x, Memᴰ.head refl, k)
    go below (inr k) = let r = below k in (r.0, Memᴰ.tail r.1, r.2)

pub member_flat_map : {A B : Type 0} (f : A → List B) (l : List A) (a : A) (b : B) → Memᴰ a l → Memᴰ b (f a) → Memᴰ b (flat_map f l)
unfolding flat_map
member_flat_map {A} {B} f (x ∷ xs) a b (Memᴰ.head e) k = Memᴰ.append_left (flat_map f xs) (subst (λ (z : A). Memᴰ b (f z)) e k)
member_flat_map f (x ∷ xs) a b (Memᴰ.tail m) k = Memᴰ.append_right (f x) (member_flat_map f xs a b m k)
member_flat_map {A = A} {B = B} f [] a b x'' k = elim x'' [ ]

-- ---- of the numbers below n
pub filter_range_member : (p : ℕ → Bool) (n x : ℕ) → Memᴰ x (filter_range p n) → (x < n) × (p x ≡ true)
unfolding filter_range
filter_range_member p n x m =
    let r = filter_member p (tabulate n (λ i. i)) x m in
    let t = tabulate_member n (λ i. i) x r.0 in
    (omega arith, r.1)

pub member_filter_range : (p : ℕ → Bool) (n x : ℕ) → x < n → p x ≡ true → Memᴰ x (filter_range p n)
unfolding filter_range
member_filter_range p n x lt e = member_filter p (tabulate n (λ i. i)) x (member_tabulate n (λ i. i) x lt) e

pub filter_range_ascending : (p : ℕ → Bool) (n : ℕ) → Ascending (filter_range p n)
unfolding filter_range
filter_range_ascending p n = pairwise_filter (λ x y. x < y) p (tabulate n (λ i. i)) (pairwise_tabulate (λ x y. x < y) n (λ i. i) (λ i j lij lj. lij))

pub filter_range_zero : (p : ℕ → Bool) → filter_range p 0 ≡ []
unfolding filter_range filter tabulate
filter_range_zero p = refl

pub filter_range_true : (p : ℕ → Bool) (n : ℕ) → p n ≡ true → filter_range p (suc n) ≡ filter_range p n ++ (n ∷ [])
unfolding filter_range
filter_range_true p n e = ap (filter p) (tabulate_suc n (λ i. i)) ∙ filter_true p (tabulate n (λ i. i)) n e

pub filter_range_extensional : (p q : ℕ → Bool) (n : ℕ) → ((i : ℕ) → i < n → p i ≡ q i) → filter_range p n ≡ filter_range q n
unfolding filter_range
filter_range_extensional p q n h = filter_extensional p q (tabulate n (λ i. i)) (λ a m. let r = tabulate_member n (λ i. i) a m in h a (omega arith))

filter_range_add : (p : ℕ → Bool) (m n : ℕ) → filter_range p (m + n) ≡ filter_range p m ++ filter p (tabulate n (λ i. m + i))
unfolding filter_range
filter_range_add p m n = ap (filter p) (tabulate_add m n (λ i. i)) ∙ filter_append p (tabulate m (λ i. i)) (tabulate n (λ i. m + i))

-- the number v goes behind those before it: there is room for it, and it stands there in the end
pub filter_range_place : (p : ℕ → Bool) (n v d : ℕ) → v < n → p v ≡ true → (length (filter_range p v) < length (filter_range p n)) × (get_or (filter_range p n) (length (filter_range p v)) d ≡ v)
filter_range_place p n v d lt e =
    let q : suc v + (n - suc v) ≡ n = omega arith in
    let rest : List ℕ = filter p (tabulate (n - suc v) (λ i. suc v + i)) in
    let s : filter_range p n ≡ filter_range p v ++ (v ∷ []) ++ rest = ap (filter_range p) (sym q) ∙ filter_range_add p (suc v) (n - suc v) ∙ ap (λ (l : List ℕ). l ++ rest) (filter_range_true p v e) in
    let t : filter_range p n ≡ filter_range p v ++ (v ∷ rest) = s ∙ append_assoc (filter_range p v) (v ∷ []) rest in
    let k = ap length t ∙ length-append (filter_range p v) (v ∷ rest) in
    (omega arith, ap (λ (l : List ℕ). get_or l (length (filter_range p v)) d) t ∙ get_or-append_seam (filter_range p v) v rest d)

-- ---- renamed by a bijection
pub filter_range_bijection : {n : ℕ} {p b : ℕ → ℕ} (t : ℕ → Bool) → Bijection n p b → sort (map p (filter_range t n)) ≡ filter_range (λ i. t (b i)) n
filter_range_bijection {n} {p} {b} t h =
    sort_unique (map p (filter_range t n)) (filter_range (λ i. t (b i)) n)
    (distinct_map p (filter_range t n) (λ x y mx my e. bijection_injective h x y (filter_range_member t n x mx).0 (filter_range_member t n y my).0 e)
    (ascending_distinct (filter_range t n) (filter_range_ascending t n)))
    (filter_range_ascending (λ i. t (b i)) n)
    (record { forth = λ y m. forth y (Memᴰ.of_map p (filter_range t n) m); back = back })
  where
    forth : (y : ℕ) → (x : ℕ) × Memᴰ x (filter_range t n) × (p x ≡ y) → Memᴰ y (filter_range (λ i. t (b i)) n)
    forth y r =
        let k = filter_range_member t n r.0 r.1 in
        let m = h.maps r.0 k.0 in
        member_filter_range (λ i. t (b i)) n y (omega arith) (ap (λ (z : ℕ). t (b z)) (sym r.2) ∙ ap t (h.left_inverse r.0 k.0) ∙ k.1)

    back : (y : ℕ) → Memᴰ y (filter_range (λ i. t (b i)) n) → Memᴰ y (map p (filter_range t n))
    back y m =
        let k = filter_range_member (λ i. t (b i)) n y m in
        Memᴰ.cast (sym (h.right_inverse y k.0)) (Memᴰ.map p (member_filter_range t n (b y) (h.inverse_maps y k.0) k.1))
