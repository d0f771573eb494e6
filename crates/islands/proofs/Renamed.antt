-- A walk commutes with a renaming of ids that is injective on a set closed under the lists. Assumes nothing.
use Prim.Native.Nat.{ℕ, zero, suc, ◌+◌}
use native.Mathlib.Omega.{arith}
use native.Mathlib.Decide.{ℕ_discrete}
use mathlib.Core.Path.{◌≡◌, refl, sym, ap, ◌∙◌}
use mathlib.Core.Logic.{inl, inr}
use mathlib.Core.Bool.{Bool, true, false, cond}
use mathlib.Core.List.Memᴰ
use mathlib.Core.List.{List, [], ◌∷◌, ◌++◌, map, Memᴰ}
use lib.Dec.{eqb}
use lib.ListN.{length, get_or, length-map}
use borrow.Author.Tests.{eq-eqb, ne_eqb}
use Rattle.std.proofs.lemmas.List.{map-append, get_or-map}
use Rattle.sequences.specs.Ascending.{is_member}
use Rattle.sequences.proofs.Tabulate.{get_d_member}
use Rattle.walk.specs.Walk.{Visit, enter, entered, begun, continued}
use Rattle.walk.proofs.Reading.{entered_from}
use Rattle.walk.proofs.Continued.{continued_step, continued_next, continued_stays}
use Rattle.walk.proofs.Reached.{continued_from}

module _ (f : ℕ → ℕ) (In : ℕ → Type 0) (injective : (x y : ℕ) → In x → In y → f x ≡ f y → x ≡ y) where
  abbrev Inside : List ℕ → Type 0
  Inside l = (x : ℕ) → Memᴰ x l → In x

  -- ---- reading a list
  same_test : (x y : ℕ) → In x → In y → eqb (f x) (f y) ≡ eqb x y
  same_test x y ix iy = elim (ℕ_discrete x y) [
    | yes e ↦ eq-eqb (f x) (f y) (ap f e) ∙ sym (eq-eqb x y e)
    | no ne ↦ ne_eqb (f x) (f y) (λ e. ne (injective x y ix iy e)) ∙ sym (ne_eqb x y ne)
  ]

  same_member : (x : ℕ) (l : List ℕ) → In x → Inside l → is_member (f x) (map f l) ≡ is_member x l
  unfolding is_member
  same_member x [] ix all = refl
  same_member x (y ∷ l) ix all = rw (same_test x y ix (all y (Memᴰ.head refl)), same_member x l ix (λ z m. all z (Memᴰ.tail m))) refl

  enter_renamed : (q : List ℕ) (v : ℕ) → In v → Inside q → enter (map f q) (f v) ≡ map f (enter q v)
  unfolding enter
  enter_renamed q v iv all = (rw (same_member v q iv all)) ∙ go (is_member v q)
    where
      go : (b : Bool) → cond b (map f q) (map f q ++ (f v ∷ [])) ≡ map f (cond b q (q ++ (v ∷ [])))
      go true = refl
      go false = sym (map-append f q (v ∷ []))

  entered_inside : (q list : List ℕ) → Inside q → Inside list → Inside (entered q list)
  entered_inside q list all more x m = elim (entered_from q list x m) [ inl k ↦ all x k | inr k ↦ more x k ]

  entered_renamed : (q list : List ℕ) → Inside q → Inside list → entered (map f q) (map f list) ≡ map f (entered q list)
  unfolding entered
  entered_renamed q [] all more = refl
  entered_renamed q (v ∷ vs) all more =
      let one : Inside (enter q v) = entered_inside q (v ∷ []) all (λ x m. more x (head_of x m)) in
      ap (λ (l : List ℕ). entered l (map f vs)) (enter_renamed q v (more v (Memᴰ.head refl)) all) ∙ entered_renamed (enter q v) vs one (λ x m. more x (Memᴰ.tail m))
    where
      head_of : (x : ℕ) → Memᴰ x (v ∷ []) → Memᴰ x (v ∷ vs)
      head_of x m = Memᴰ.head (Memᴰ.eq_of_singleton m)

  -- ---- the walk, from the place `from` of a queue
  module _ (lists renamed : ℕ → List ℕ) (closed : (w : ℕ) → In w → Inside (lists w)) (agree : (w : ℕ) → In w → renamed (f w) ≡ map f (lists w)) (first : List ℕ) (inside : Inside first) (from : ℕ) where
    abbrev after : ℕ → List ℕ
    after k = (continued lists (begun first) from k).queue

    pub walk_renamed : (k : ℕ) → (continued renamed (begun (map f first)) from k).queue ≡ map f (continued lists (begun first) from k).queue
    unfolding continued
    walk_renamed zero = refl
    walk_renamed (suc k) =
        let h : Inside (after k) = continued_from lists (begun first) from In inside (λ w x iw. closed w iw x) k in
        let same = walk_renamed k in
        let size = ap length same ∙ length-map (after k) f in
        let w = get_or (after k) (from + k) 0 in
        continued_step lists (begun first) from (λ (v : Visit). (continued renamed (begun (map f first)) from (suc k)).queue ≡ map f v.queue) k
        (λ lt.
        let iw = h w (get_d_member (after k) (from + k) 0 lt) in
        let here = get_or-map f (after k) (from + k) 0 0 lt in
        ap (λ (v : Visit). v.queue) (continued_next renamed (begun (map f first)) from k (omega arith))
        ∙ ap (λ (l : List ℕ). entered l (renamed (get_or l (from + k) 0))) same
        ∙ ap (λ (x : ℕ). entered (map f (after k)) (renamed x)) here
        ∙ ap (entered (map f (after k))) (agree w iw)
        ∙ entered_renamed (after k) (lists w) h (closed w iw))
        (λ le. ap (λ (v : Visit). v.queue) (continued_stays renamed (begun (map f first)) from k (omega arith)) ∙ same)
