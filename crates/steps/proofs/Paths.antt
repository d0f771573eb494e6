-- Steps are the lengths of shortest paths. Assumes nothing.
use Prim.Native.Nat.{ℕ, zero, suc, ◌≤◌, ◌<◌}
use native.Mathlib.Omega.{arith}
use native.Mathlib.Decide.{dec_lt}
use mathlib.Core.Path.{◌≡◌, refl, sym, subst}
use mathlib.Core.Logic.{inl, inr}
use mathlib.Core.Bool.{Bool}
use mathlib.Core.List.Memᴰ
use mathlib.Core.List.{List, Memᴰ}
use lib.ListN.{length, get_or}
use Rattle.sequences.specs.Ascending.{is_member}
use Rattle.sequences.specs.Search.{first_below}
use Rattle.sequences.proofs.Tabulate.{get_d_member, member_get_d}
use Rattle.sequences.proofs.Starts.{concatenate_member, member_concatenate}
use Rattle.sequences.proofs.Ascending.{is_member_true, is_member_false}
use Rattle.sequences.proofs.Search.{first_below_lem}
use Rattle.walk.specs.Paths.{PathTo, here, onward}
use Rattle.walk.proofs.Reading.{entered_has, entered_keeps_member, entered_from}
use Rattle.steps.specs.Steps.{entries_of, within_steps, steps_to}
use Rattle.steps.specs.Laws.{Shortest}

module _ (lists : ℕ → List ℕ) where
  -- a member of the lists of some ids stands in the list of one of them
  pub lists_of_member : (ids : List ℕ) (x : ℕ) → Memᴰ x (entries_of lists ids) → (w : ℕ) × Memᴰ w ids × Memᴰ x (lists w)
  unfolding entries_of
  lists_of_member ids x m =
      let r = concatenate_member (length ids) (λ i. lists (get_or ids i 0)) x m in
      (get_or ids r.0 0, get_d_member ids r.0 0 r.1, r.2)

  pub member_entries_of : (ids : List ℕ) (w x : ℕ) → Memᴰ w ids → Memᴰ x (lists w) → Memᴰ x (entries_of lists ids)
  unfolding entries_of
  member_entries_of ids w x m k =
      let r = member_get_d w ids 0 m in
      member_concatenate (length ids) (λ i. lists (get_or ids i 0)) x r.0 r.1 (subst (λ (y : ℕ). Memᴰ x (lists y)) (sym r.2) k)

  module _ (v : ℕ) where
    -- within k steps, there is a path of at most k steps
    pub path_within : (k x : ℕ) → Memᴰ x (within_steps lists v k) → (j : ℕ) × (j ≤ k) × PathTo lists v x j
    unfolding within_steps
    path_within zero x m = (0, omega arith, subst (λ (y : ℕ). PathTo lists v y 0) (sym (Memᴰ.eq_of_singleton m)) here)
    path_within (suc k) x m =
        let is_near = within_steps lists v k in
        elim (entered_from is_near (entries_of lists is_near) x m) [
          | inl a ↦ let r = path_within k x a in (r.0, omega arith, r.2)
          | inr a ↦ let w = lists_of_member is_near x a in let r = path_within k w.0 w.1 in (suc r.0, omega arith, onward r.2 w.2)
        ]

    -- within a step more, nothing is lost
    pub within_more : (k x : ℕ) → Memᴰ x (within_steps lists v k) → Memᴰ x (within_steps lists v (suc k))
    unfolding within_steps
    within_more k x m = entered_keeps_member (within_steps lists v k) (entries_of lists (within_steps lists v k)) x m

    pub within_later : (k j x : ℕ) → k ≤ j → Memᴰ x (within_steps lists v k) → Memᴰ x (within_steps lists v j)
    within_later k zero x le m = let e : k ≡ 0 = omega arith in subst (λ (i : ℕ). Memᴰ x (within_steps lists v i)) e m
    within_later k (suc j) x le m = elim (dec_lt j k) [
      | yes lt ↦ let e : k ≡ suc j = omega arith in subst (λ (i : ℕ). Memᴰ x (within_steps lists v i)) e m
      | no nl ↦ within_more j x (within_later k j x (omega arith) m)
    ]

    -- a path of k steps leads to a vertex within k steps
    pub within_path : {x k : ℕ} → PathTo lists v x k → Memᴰ x (within_steps lists v k)
    unfolding within_steps
    within_path here = Memᴰ.head refl
    within_path (onward {w} {x} {k} p m) = entered_has (within_steps lists v k) (entries_of lists (within_steps lists v k)) x (member_entries_of (within_steps lists v k) w x (within_path p) m)

    -- ---- the number of steps
    abbrev pub is_near : ℕ → ℕ → Bool
    is_near x k = is_member x (within_steps lists v k)

    -- is no greater than any that leads there
    pub steps_at_most : (n x j : ℕ) → Memᴰ x (within_steps lists v j) → steps_to lists n v x ≤ j
    unfolding steps_to
    steps_at_most n x j m = elim (dec_lt j (first_below (is_near x) n)) [
      | yes lt ↦ absurd (is_member_false x (within_steps lists v j) ((first_below_lem (is_near x) n).none_before j lt) m)
      | no nl ↦ omega arith
    ]

    -- a vertex is no step away from itself
    pub steps_to_itself : (n : ℕ) → steps_to lists n v v ≡ 0
    unfolding within_steps
    steps_to_itself n = let r = steps_at_most n v 0 (Memᴰ.head refl) in omega arith

    pub steps_shortest : (n x : ℕ) → steps_to lists n v x < n → Shortest lists v x (steps_to lists n v x)
    unfolding steps_to
    steps_shortest n x lt =
        let s = steps_to lists n v x in
        let r = path_within s x (is_member_true x (within_steps lists v s) ((first_below_lem (is_near x) n).passes lt)) in
        let e : r.0 ≡ s = let at_most = steps_at_most n x r.0 (within_path r.2) in omega arith in
        record { path = subst (λ (k : ℕ). PathTo lists v x k) e r.2; least = λ j p. steps_at_most n x j (within_path p) }
