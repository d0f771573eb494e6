-- A walk from a root behind a queue is the walk from the root alone, where none but that queue's ids has a neighbour in it: `island_alone`. Assumes nothing.
use Prim.Native.Nat.{ℕ, zero, suc, ◌+◌, ◌<◌}
use native.Mathlib.Omega.{arith}
use mathlib.Core.Path.{◌≡◌, refl, ap, subst, ◌∙◌}
use mathlib.Core.Bool.{Bool, true, false, cond}
use mathlib.Core.List.Memᴰ
use mathlib.Core.List.{List, [], ◌∷◌, ◌++◌, append_assoc, Memᴰ}
use lib.ListN.{length, get_or, length-append}
use lib.Seq.{get_or-append-add}
use borrow.Author.Tests.{ne_eqb}
use Rattle.sequences.specs.Ascending.{is_member}
use Rattle.sequences.proofs.Tabulate.{get_d_member}
use Rattle.walk.specs.Walk.{Visit, enter, entered, begun, continued}
use Rattle.walk.proofs.Continued.{continued_step, continued_next, continued_stays}
use Rattle.walk.proofs.Reached.{continued_from}
use Rattle.islands.specs.Islands.{with_root}

-- ---- reading behind a queue that has nothing of what is read
member_behind : (q s : List ℕ) (v : ℕ) → (Memᴰ v q → ⊥) → is_member v (q ++ s) ≡ is_member v s
unfolding is_member
member_behind [] s v absent = refl
member_behind (x ∷ q) s v absent = rw (ne_eqb v x (λ e. absent (Memᴰ.head e)), member_behind q s v (λ m. absent (Memᴰ.tail m))) refl

enter_behind : (q s : List ℕ) (v : ℕ) → (Memᴰ v q → ⊥) → enter (q ++ s) v ≡ q ++ enter s v
unfolding enter
enter_behind q s v absent = (rw (member_behind q s v absent)) ∙ go (is_member v s)
  where
    go : (b : Bool) → cond b (q ++ s) ((q ++ s) ++ (v ∷ [])) ≡ q ++ cond b s (s ++ (v ∷ []))
    go true = refl
    go false = append_assoc q s (v ∷ [])

entered_behind : (q s list : List ℕ) → ((x : ℕ) → Memᴰ x list → Memᴰ x q → ⊥) → entered (q ++ s) list ≡ q ++ entered s list
unfolding entered
entered_behind q s [] absent = refl
entered_behind q s (v ∷ vs) absent =
    ap (λ (l : List ℕ). entered l vs) (enter_behind q s v (absent v (Memᴰ.head refl))) ∙ entered_behind q (enter s v) vs (λ x m. absent x (Memᴰ.tail m))

-- ---- the walk
module _ (lists : ℕ → List ℕ) {n : ℕ} (below : (v : ℕ) → v < n → (x : ℕ) → Memᴰ x (lists v) → x < n) (found : Visit) (root : ℕ) (root_below : root < n)
    -- nobody else has a neighbour among what was found before, and the root is not among it
    (apart : (w x : ℕ) → w < n → Memᴰ x (lists w) → Memᴰ x found.queue → Memᴰ w found.queue) (outside : Memᴰ root found.queue → ⊥) where
  abbrev alone : ℕ → List ℕ
  alone k = (continued lists (begun (root ∷ [])) 0 k).queue

  abbrev begins : ℕ
  begins = length found.queue

  -- the walk from the root alone has nothing of what was found before
  apart_from_found : (k x : ℕ) → Memᴰ x (alone k) → (x < n) × (Memᴰ x found.queue → ⊥)
  apart_from_found =
      continued_from lists (begun (root ∷ [])) 0 (λ x. (x < n) × (Memᴰ x found.queue → ⊥))
      (λ x m. let e = Memᴰ.eq_of_singleton m in (omega arith, λ old. outside (subst (λ (y : ℕ). Memᴰ y found.queue) e old)))
      (λ w x before m. (below w before.0 x m, λ old. before.1 (apart w x before.0 m old)))

  pub island_apart : (k x : ℕ) → Memᴰ x (continued lists (begun (root ∷ [])) 0 k).queue → Memᴰ x found.queue → ⊥
  island_apart k x m = (apart_from_found k x m).1

  -- that walk behind what was found
  pub island_alone : (k : ℕ) → (continued lists (with_root found root) begins k).queue ≡ found.queue ++ (continued lists (begun (root ∷ [])) 0 k).queue
  unfolding continued
  island_alone zero = refl
  island_alone (suc k) =
      let same = island_alone k in
      let q = found.queue in
      let size = ap length same ∙ length-append q (alone k) in
      let w = get_or (alone k) (0 + k) 0 in
      let here : get_or (q ++ alone k) (begins + k) 0 ≡ w = get_or-append-add q (alone k) k 0 ∙ (let z : k ≡ 0 + k = omega arith in ap (λ (p : ℕ). get_or (alone k) p 0) z) in
      continued_step lists (begun (root ∷ [])) 0 (λ (v : Visit). (continued lists (with_root found root) begins (suc k)).queue ≡ q ++ v.queue) k
      (λ lt.
      let member = get_d_member (alone k) (0 + k) 0 lt in
      ap (λ (v : Visit). v.queue) (continued_next lists (with_root found root) begins k (omega arith))
      ∙ ap (λ (l : List ℕ). entered l (lists (get_or l (begins + k) 0))) same
      ∙ ap (λ (x : ℕ). entered (q ++ alone k) (lists x)) here
      ∙ entered_behind q (alone k) (lists w) (λ x m old. let here = apart_from_found k w member in here.1 (apart w x here.0 m old)))
      (λ le. ap (λ (v : Visit). v.queue) (continued_stays lists (with_root found root) begins k (omega arith)) ∙ same)
