-- Laws of a list that is read: members, lists read one behind another. Assumes nothing.
use Prim.Native.Nat.{ℕ, ◌≤◌}
use native.Mathlib.Omega.{arith}
use mathlib.Core.Path.{◌≡◌, refl, sym, ap, subst, ◌∙◌}
use mathlib.Core.Logic.{◌⊎◌, inl, inr}
use mathlib.Core.Bool.{Bool, true, false, cond}
use mathlib.Core.List.Memᴰ
use mathlib.Core.List.{List, [], ◌∷◌, ◌++◌, Memᴰ}
use lib.ListN.{length, take}
use Rattle.std.proofs.lemmas.List.{length-take, take-append-le}
use Rattle.sequences.specs.Ascending.{is_member}
use Rattle.sequences.proofs.Ascending.{is_member_true, member_is_member}
use Rattle.walk.specs.Walk.{enter, entered}

-- ---- members
enter_keeps_member : (q : List ℕ) (v x : ℕ) → Memᴰ x q → Memᴰ x (enter q v)
unfolding enter
enter_keeps_member q v x m = go (is_member v q)
  where
    go : (b : Bool) → Memᴰ x (cond b q (q ++ (v ∷ [])))
    go true = m
    go false = Memᴰ.append_left (v ∷ []) m

enter_has : (q : List ℕ) (v : ℕ) → Memᴰ v (enter q v)
unfolding enter
enter_has q v = go (is_member v q) refl
  where
    go : (b : Bool) → is_member v q ≡ b → Memᴰ v (cond b q (q ++ (v ∷ [])))
    go true e = is_member_true v q e
    go false e = Memᴰ.append_right q (Memᴰ.head refl)

enter_member_from : (q : List ℕ) (v x : ℕ) → Memᴰ x (enter q v) → Memᴰ x q ⊎ (x ≡ v)
unfolding enter
enter_member_from q v x m = go (is_member v q) m
  where
    last : Memᴰ x q ⊎ Memᴰ x (v ∷ []) → Memᴰ x q ⊎ (x ≡ v)
    last (inl k) = inl k
    last (inr k) = inr (Memᴰ.eq_of_singleton k)

    go : (b : Bool) → Memᴰ x (cond b q (q ++ (v ∷ []))) → Memᴰ x q ⊎ (x ≡ v)
    go true k = inl k
    go false k = last (Memᴰ.append_cases q k)

-- what stood in the queue stays there
pub entered_keeps_member : (q list : List ℕ) (x : ℕ) → Memᴰ x q → Memᴰ x (entered q list)
unfolding entered
entered_keeps_member q [] x m = m
entered_keeps_member q (v ∷ vs) x m = entered_keeps_member (enter q v) vs x (enter_keeps_member q v x m)

-- and so does what was read
pub entered_has : (q list : List ℕ) (x : ℕ) → Memᴰ x list → Memᴰ x (entered q list)
unfolding entered
entered_has q [] x m = absurd (Memᴰ.not-nil m)
entered_has q (v ∷ vs) x m = go (entered_has (enter q v) vs x) (Memᴰ.cases_cons m)
  where
    go : (Memᴰ x vs → Memᴰ x (entered (enter q v) vs)) → (x ≡ v) ⊎ Memᴰ x vs → Memᴰ x (entered (enter q v) vs)
    go later (inl e) = entered_keeps_member (enter q v) vs x (subst (λ (y : ℕ). Memᴰ y (enter q v)) (sym e) (enter_has q v))
    go later (inr k) = later k

-- nothing else is there
pub entered_from : (q list : List ℕ) (x : ℕ) → Memᴰ x (entered q list) → Memᴰ x q ⊎ Memᴰ x list
unfolding entered
entered_from q [] x m = inl m
entered_from q (v ∷ vs) x m = go (entered_from (enter q v) vs x m)
  where
    first : Memᴰ x q ⊎ (x ≡ v) → Memᴰ x q ⊎ Memᴰ x (v ∷ vs)
    first (inl k) = inl k
    first (inr e) = inr (Memᴰ.head e)

    go : Memᴰ x (enter q v) ⊎ Memᴰ x vs → Memᴰ x q ⊎ Memᴰ x (v ∷ vs)
    go (inl k) = first (enter_member_from q v x k)
    go (inr k) = inr (Memᴰ.tail k)

-- ---- lists one behind another
pub entered_append : (q l r : List ℕ) → entered q (l ++ r) ≡ entered (entered q l) r
unfolding entered
entered_append q [] r = refl
entered_append q (v ∷ vs) r = entered_append (enter q v) vs r

-- nothing enters where all has entered before
pub entered_known : (q list : List ℕ) → ((x : ℕ) → Memᴰ x list → Memᴰ x q) → entered q list ≡ q
unfolding entered enter
entered_known q [] known = refl
entered_known q (v ∷ vs) known =
    (rw (member_is_member v q (known v (Memᴰ.head refl)))) ∙ entered_known q vs (λ x m. known x (Memᴰ.tail m))

-- a front of the queue stays its front
enter_front : (f q : List ℕ) (v : ℕ) → take (length f) q ≡ f → take (length f) (enter q v) ≡ f
unfolding enter
enter_front f q v e = go (is_member v q)
  where
    le : length f ≤ length q
    le = let r = ap length e in let s = length-take (length f) q in omega arith

    go : (b : Bool) → take (length f) (cond b q (q ++ (v ∷ []))) ≡ f
    go true = e
    go false = take-append-le (length f) q (v ∷ []) le ∙ e

pub entered_front : (f q list : List ℕ) → take (length f) q ≡ f → take (length f) (entered q list) ≡ f
unfolding entered
entered_front f q [] e = e
entered_front f q (v ∷ vs) e = entered_front f (enter q v) vs (enter_front f q v e)
