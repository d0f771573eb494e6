-- Laws of the first element with the least key. Assumes nothing.
-- It is a member (`least_member`), none has a smaller key (`least_lowest`), and those of its key come behind it (`least_first`; in an ascending list it is the lowest, `least_ascending`).
-- Whatever the order, the least key is the same, and where one alone has it, so is the element: `least_related`, for candidates renamed and put in another order.
use Prim.Native.Nat.{ℕ, zero, suc, ◌≤◌, ◌<◌}
use native.Mathlib.Omega.{arith}
use mathlib.Core.Path.{◌≡◌, refl, sym, ap, ◌∙◌}
use mathlib.Core.Logic.{◌⊎◌, inl, inr}
use mathlib.Core.Bool.{Bool, true, false, cond}
use mathlib.Core.List.Memᴰ
use mathlib.Core.List.{List, [], ◌∷◌, Memᴰ}
use lib.Dec.{ltb}
use lib.ListN.{length, get_or, drop}
use lib.Seq.{drop-cons}
use borrow.Author.Tests.{ltb-true, ltb-false, lt-ltb, le-ltb}
use Rattle.sequences.specs.Ascending.{Pairwise, Ascending}
use Rattle.sequences.specs.Least.{least, Alone}

module _ {A : Type 0} (key : A → ℕ) where
  pub least_member : (best : A) (l : List A) → Memᴰ (least key best l) (best ∷ l)
  unfolding least
  least_member best [] = Memᴰ.head refl
  least_member best (x ∷ xs) = go (ltb (key x) (key best)) (least_member (cond (ltb (key x) (key best)) x best) xs)
    where
      down : (y c : A) → (c ≡ best) ⊎ (c ≡ x) → (y ≡ c) ⊎ Memᴰ y xs → Memᴰ y (best ∷ x ∷ xs)
      down y c (inl e) (inl q) = Memᴰ.head (q ∙ e)
      down y c (inr e) (inl q) = Memᴰ.tail (Memᴰ.head (q ∙ e))
      down y c k (inr h) = Memᴰ.tail (Memᴰ.tail h)

      go : (t : Bool) → Memᴰ (least key (cond t x best) xs) (cond t x best ∷ xs) → Memᴰ (least key (cond t x best) xs) (best ∷ x ∷ xs)
      go true h = down (least key x xs) x (inr refl) (Memᴰ.cases_cons h)
      go false h = down (least key best xs) best (inl refl) (Memᴰ.cases_cons h)

  pub least_lowest : (best : A) (l : List A) (y : A) → Memᴰ y (best ∷ l) → key (least key best l) ≤ key y
  unfolding least
  least_lowest best [] y h = only (Memᴰ.cases_cons h)
    where
      only : (y ≡ best) ⊎ Memᴰ y [] → key best ≤ key y
      only (inl e) = let q = ap key e in omega arith
      only (inr h) = absurd (Memᴰ.not-nil h)
  least_lowest best (x ∷ xs) y h = go (ltb (key x) (key best)) refl (least_lowest (cond (ltb (key x) (key best)) x best) xs) (Memᴰ.cases_cons h)
    where
      go : (t : Bool) → ltb (key x) (key best) ≡ t → ((y : A) → Memᴰ y (cond t x best ∷ xs) → key (least key (cond t x best) xs) ≤ key y)
          → (y ≡ best) ⊎ Memᴰ y (x ∷ xs) → key (least key (cond t x best) xs) ≤ key y
      go true e low (inl q) = let k = low x (Memᴰ.head refl) in let z = ap key q in omega (arith, ltb-true (key x) (key best) e)
      go true e low (inr h) = low y h
      go false e low (inl q) = low y (Memᴰ.head q)
      go false e low (inr h) = rest (Memᴰ.cases_cons h)
        where
          rest : (y ≡ x) ⊎ Memᴰ y xs → key (least key best xs) ≤ key y
          rest (inl q) = let k = low best (Memᴰ.head refl) in let z = ap key q in omega (arith, ltb-false (key x) (key best) e)
          rest (inr h) = low y (Memᴰ.tail h)

  -- one whose key none behind it undercuts stays the best
  pub least_keeps : (best : A) (l : List A) → ((y : A) → Memᴰ y l → key best ≤ key y) → least key best l ≡ best
  unfolding least
  least_keeps best [] h = refl
  least_keeps best (x ∷ xs) h = rw (le-ltb (key x) (key best) (h x (Memᴰ.head refl))) (least_keeps best xs (λ y m. h y (Memᴰ.tail m)))

  -- those before it don't matter where the best so far and they have keys from a bound on, and its own key is below
  pub least_from : (bound : ℕ) (best : A) (l : List A) (i : ℕ) (d : A) → bound ≤ key best → ((j : ℕ) → j < i → bound ≤ key (get_or l j d)) → i < length l → key (get_or l i d) < bound
      → least key best l ≡ least key (get_or l i d) (drop (suc i) l)
  unfolding least
  least_from bound best (x ∷ xs) zero d b over inside under = rw (lt-ltb (key x) (key best) (omega arith)) refl
  least_from bound best (x ∷ xs) (suc i) d b over inside under =
      least_from bound (cond (ltb (key x) (key best)) x best) xs i d (go (ltb (key x) (key best))) (λ j h. over (suc j) (omega arith)) (omega arith) under
    where
      go : (t : Bool) → bound ≤ key (cond t x best)
      go true = over 0 (omega arith)
      go false = b
  least_from bound best [] i d b over inside under = absurd (let z : ⊥ = omega arith in z)

  -- the first of equals: R is any relation of each element to those behind it
  pub least_first : (R : A → A → Type 0) (best : A) (l : List A) → Pairwise R (best ∷ l) → (y : A) → Memᴰ y (best ∷ l) → key y ≡ key (least key best l) → (y ≡ least key best l) ⊎ R (least key best l) y
  unfolding least
  least_first R best [] p y h q = only (Memᴰ.cases_cons h)
    where
      only : (y ≡ best) ⊎ Memᴰ y [] → (y ≡ best) ⊎ R best y
      only (inl e) = inl e
      only (inr h) = absurd (Memᴰ.not-nil h)
  least_first R best (x ∷ xs) p y h q =
      go (ltb (key x) (key best)) refl (least_first R (cond (ltb (key x) (key best)) x best) xs) (least_lowest (cond (ltb (key x) (key best)) x best) xs) q (Memᴰ.cases_cons h)
    where
      go : (t : Bool) → ltb (key x) (key best) ≡ t
          → (Pairwise R (cond t x best ∷ xs) → (y : A) → Memᴰ y (cond t x best ∷ xs) → key y ≡ key (least key (cond t x best) xs) → (y ≡ least key (cond t x best) xs) ⊎ R (least key (cond t x best) xs) y)
          → ((y : A) → Memᴰ y (cond t x best ∷ xs) → key (least key (cond t x best) xs) ≤ key y)
          → key y ≡ key (least key (cond t x best) xs) → (y ≡ best) ⊎ Memᴰ y (x ∷ xs) → (y ≡ least key (cond t x best) xs) ⊎ R (least key (cond t x best) xs) y
      go true e ih low q (inl z) = let k = low x (Memᴰ.head refl) in let w = ap key z in absurd (let c : ⊥ = omega (arith, ltb-true (key x) (key best) e) in c)
      go true e ih low q (inr h) = ih p.1 y h q
      go false e ih low q k = rest k
        where
          without_x : Pairwise R (best ∷ xs)
          without_x = (λ z m. p.0 z (Memᴰ.tail m), p.1.1)

          -- x has the least key only where best has it too
          in_tail : (y ≡ x) ⊎ Memᴰ y xs → (y ≡ least key best xs) ⊎ R (least key best xs) y
          in_tail (inl z) =
              let w = ap key z in
              let stays : least key best xs ≡ best = least_keeps best xs (λ u m. let k = low u (Memᴰ.tail m) in omega (arith, ltb-false (key x) (key best) e)) in
              inr (rw (stays, z) (p.0 x (Memᴰ.head refl)))
          in_tail (inr h) = ih without_x y (Memᴰ.tail h) q

          rest : (y ≡ best) ⊎ Memᴰ y (x ∷ xs) → (y ≡ least key best xs) ⊎ R (least key best xs) y
          rest (inl z) = ih without_x y (Memᴰ.head z) q
          rest (inr h) = in_tail (Memᴰ.cases_cons h)

  -- one turn of a scan: what is left to compare
  pub least_scan : (best : A) (l : List A) (i : ℕ) (d : A) → i < length l → least key best (drop i l) ≡ least key (cond (ltb (key (get_or l i d)) (key best)) (get_or l i d) best) (drop (suc i) l)
  unfolding least
  least_scan best l i d lt = ap (least key best) (drop-cons l i d lt)

-- in an ascending list the lowest of those that have the least key
pub least_ascending : (key : ℕ → ℕ) (best : ℕ) (l : List ℕ) → Ascending (best ∷ l) → (j : ℕ) → Memᴰ j (best ∷ l) → key j ≡ key (least key best l) → least key best l ≤ j
least_ascending key best l a j m e = go (least_first key (λ x y. x < y) best l a j m e)
  where
    go : (j ≡ least key best l) ⊎ (least key best l < j) → least key best l ≤ j
    go (inl q) = omega arith
    go (inr k) = omega arith

-- two lists of candidates whose members correspond under f, with equal keys, in any order
module _ {A B : Type 0} (key : A → ℕ) (key-after : B → ℕ) (f : A → B) (best : A) (l : List A) (best-after : B) (after : List B)
    (there : (x : A) → Memᴰ x (best ∷ l) → Memᴰ (f x) (best-after ∷ after))
    (back : (y : B) → Memᴰ y (best-after ∷ after) → (x : A) × Memᴰ x (best ∷ l) × (f x ≡ y))
    (same_key : (x : A) → Memᴰ x (best ∷ l) → key-after (f x) ≡ key x) where
  -- the least keys are equal
  pub least_related_key : key-after (least key-after best-after after) ≡ key (least key best l)
  least_related_key =
      let m = least_member key best l in
      let u = back (least key-after best-after after) (least_member key-after best-after after) in
      let one = least_lowest key best l u.0 u.1 in
      let two = least_lowest key-after best-after after (f (least key best l)) (there (least key best l) m) in
      let e = ap key-after (sym u.2) ∙ same_key u.0 u.1 in
      let g = same_key (least key best l) m in
      omega arith

  -- and where one alone has it, the later element is f of the earlier
  pub least_related : Alone key (best ∷ l) (least key best l) (key (least key best l)) → least key-after best-after after ≡ f (least key best l)
  least_related alone =
      let u = back (least key-after best-after after) (least_member key-after best-after after) in
      sym u.2 ∙ ap f (alone u.0 u.1 (sym (same_key u.0 u.1) ∙ ap key-after u.2 ∙ least_related_key))
