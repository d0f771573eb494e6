-- Levels beside the complete walk: they are fronts of its queue (`front`), and a vertex that it reaches is fewer steps away than there are vertices (`reached_steps`). Assumes nothing.
-- What a walk that stops at a vertex has found and read: `met`, by `met_steps` and `met_entries`; `missed` where it ends without it; `entries_at_most`.
use Prim.Native.Nat.{ℕ, zero, suc, ◌+◌, ◌-◌, ◌≤◌, ◌<◌}
use native.Mathlib.Omega.{arith}
use native.Mathlib.Decide.{dec_lt}
use mathlib.Core.Path.{◌≡◌, refl, sym, ap, subst, ◌∙◌}
use mathlib.Core.Logic.{◌⊎◌, inl, inr, ◌≢◌}
use mathlib.Core.Bool.{Bool, true, false, cond}
use mathlib.Core.List.Memᴰ
use mathlib.Core.List.{List, [], ◌∷◌, ◌++◌, append_assoc, Memᴰ}
use lib.Dec.{eqb, ltb}
use lib.ListN.{length, get_or, take, length-append, get_or-append}
use lib.Seq.{take-length, get_or-append-add}
use borrow.Author.Tests.{eq-eqb, ne_eqb, eqb-true, eqb-false, ltb-true, lt-ltb}
use Rattle.std.proofs.lemmas.Bool.{cases_Bool}
use Rattle.std.proofs.lemmas.List.{length-take, get_or-take}
use Rattle.std.proofs.lemmas.List.Sums.{position_or_len_is}
use Rattle.sequences.specs.Range.{sum_below}
use Rattle.sequences.specs.Starts.{concatenate, start_of}
use Rattle.sequences.specs.Ascending.{is_member}
use Rattle.sequences.specs.Search.{first_below, First}
use Rattle.sequences.proofs.Starts.{length_concatenate, concatenate_member}
use Rattle.sequences.proofs.Tabulate.{get_d_member, member_get_d}
use Rattle.sequences.proofs.Ascending.{is_member_true, member_is_member}
use Rattle.sequences.proofs.Search.{first_below_lem}
use Rattle.sequences.proofs.Range.{sum_extensional}
use Rattle.walk.specs.Walk.{Visit, begun, continued, walk_from}
use Rattle.walk.specs.Buffers.{DistinctIds}
use Rattle.walk.specs.Paths.{PathTo, here, onward}
use Rattle.walk.proofs.Queue.{ids_at_most}
use Rattle.walk.proofs.Continued.{continued_ids, continued_end, walk_ids, one_id, entries_agree, entries_read_at_most}
use Rattle.walk.proofs.Reading.{entered_has, entered_front}
use Rattle.walk.proofs.Reached.{continued_front, continued_entered, path_reached, reached_path, reached_closed}
use Rattle.std.specs.Prelude.{Option, Some, None}
use Rattle.steps.specs.Steps.{entries_of, within_steps, steps_to, first_place, entries_until, steps_with, search_from}
use Rattle.steps.proofs.Levels.{concatenate_add, nearer, nearer_within, level, within_stays}
use Rattle.steps.proofs.Paths.{is_near, member_entries_of, within_later, within_path, steps_at_most, steps_shortest}

-- the first that passes, by what it has
first_is : (p : ℕ → Bool) (n k : ℕ) → k < n → p k ≡ true → ((i : ℕ) → i < k → p i ≡ false) → first_below p n ≡ k
first_is p n k lt passes before = go (dec_lt (first_below p n) k) (dec_lt k (first_below p n))
  where
    f : First p n (first_below p n)
    f = first_below_lem p n

    go : Dec (first_below p n < k) → Dec (k < first_below p n) → first_below p n ≡ k
    go (yes l) d = absurd (let e : true ≡ false = sym (f.passes (omega arith)) ∙ before _ l in let z : ◌≡◌ {A = ℕ} 0 1 = cc in let y : ⊥ = omega arith in y)
    go (no l) (yes g) = absurd (let e : true ≡ false = sym passes ∙ f.none_before k g in let z : ◌≡◌ {A = ℕ} 0 1 = cc in let y : ⊥ = omega arith in y)
    go (no l) (no g) = omega arith

-- a front as long as the whole
front_whole : (f q : List ℕ) → take (length f) q ≡ f → length q ≤ length f → q ≡ f
front_whole f q e le =
    let same : length f ≡ length q = let r = ap length e in let s = length-take (length f) q in omega arith in
    sym (take-length q) ∙ ap (λ (k : ℕ). take k q) (sym same) ∙ e

-- ---- the first place that holds w
abbrev holds_at : ℕ → List ℕ → ℕ → Bool
holds_at w list i = eqb (get_or list i 0) w

place_first : (w : ℕ) (list : List ℕ) → first_place w list ≡ first_below (holds_at w list) (length list)
place_first w list =
    let f = first_below_lem (holds_at w list) (length list) in
    position_or_len_is (λ x. eqb x w) list (first_below (holds_at w list) (length list)) 0 f.at_most (λ k lt. f.none_before k lt) (λ lt. f.passes lt)

place_is : (w : ℕ) (list : List ℕ) (i : ℕ) → i < length list → get_or list i 0 ≡ w → ((j : ℕ) → j < i → get_or list j 0 ≢ w) → first_place w list ≡ i
place_is w list i lt e before = place_first w list ∙ first_is (holds_at w list) (length list) i lt (eq-eqb (get_or list i 0) w e) (λ j l. ne_eqb (get_or list j 0) w (before j l))

pub record FirstPlace (w : ℕ) (list : List ℕ) (i : ℕ) : Type 0 where
  pub there : i < length list
  pub holds : get_or list i 0 ≡ w
  pub first : (j : ℕ) → j < i → get_or list j 0 ≢ w

placed : (w : ℕ) (list : List ℕ) → Memᴰ w list → FirstPlace w list (first_place w list)
placed w list m =
    let f = first_below_lem (holds_at w list) (length list) in
    let r = member_get_d w list 0 m in
    let lt : first_below (holds_at w list) (length list) < length list = elim (dec_lt (first_below (holds_at w list) (length list)) (length list)) [
      | yes l ↦ l
      | no l ↦ absurd (eqb-false (get_or list r.0 0) w (f.none_before r.0 (omega (arith, r.1))) r.2)
    ] in
    subst (FirstPlace w list) (sym (place_first w list)) (record { there = lt; holds = eqb-true _ w (f.passes lt); first = λ j l. eqb-false (get_or list j 0) w (f.none_before j l) })

pub first_place_below : (w : ℕ) (list : List ℕ) → Memᴰ w list → first_place w list < length list
first_place_below w list m = (placed w list m).there

-- what a search of a list answers
abbrev pub place_in : ℕ → List ℕ → Option ℕ
place_in w list = cond (ltb (first_place w list) (length list)) (Some (first_place w list)) None

pub found_place : (w : ℕ) (list : List ℕ) (place : ℕ) → place_in w list ≡ Some place → (place ≡ first_place w list) × Memᴰ w list
found_place w list place e = go (ltb (first_place w list) (length list)) refl e
  where
    go : (b : Bool) → ltb (first_place w list) (length list) ≡ b → cond b (Some (first_place w list)) None ≡ Some place → (place ≡ first_place w list) × Memᴰ w list
    go false q a = absurd (let y : ⊥ = cc in y)
    go true q a =
        let lt = ltb-true (first_place w list) (length list) q in
        let same = place_first w list in
        let f = first_below_lem (holds_at w list) (length list) in
        let e : get_or list (first_below (holds_at w list) (length list)) 0 ≡ w = eqb-true _ w (f.passes (omega arith)) in
        let p : place ≡ first_place w list = cc in
        (p, subst (λ (x : ℕ). Memᴰ x list) e (get_d_member list (first_below (holds_at w list) (length list)) 0 (omega arith)))

pub no_place : (w : ℕ) (list : List ℕ) → place_in w list ≡ None → Memᴰ w list → ⊥
no_place w list e m = let y : ⊥ = (let f : place_in w list ≡ Some (first_place w list) = rw (lt-ltb (first_place w list) (length list) (first_place_below w list m)) refl in cc) in y

-- in the first of two lists
place_front : (w : ℕ) (l r : List ℕ) → Memᴰ w l → first_place w (l ++ r) ≡ first_place w l
place_front w l r m =
    let p = placed w l m in
    place_is w (l ++ r) (first_place w l) (let e = length-append l r in omega (arith, p.there)) (get_or-append l r 0 (first_place w l) p.there ∙ p.holds)
    (λ j lj e. p.first j lj (sym (get_or-append l r 0 j (omega (arith, p.there))) ∙ e))

-- in the second alone
place_behind : (w : ℕ) (l r : List ℕ) → (Memᴰ w l → ⊥) → Memᴰ w r → first_place w (l ++ r) ≡ length l + first_place w r
place_behind w l r absent m =
    let p = placed w r m in
    place_is w (l ++ r) (length l + first_place w r) (let e = length-append l r in omega (arith, p.there)) (get_or-append-add l r (first_place w r) 0 ∙ p.holds) (λ j lj. earlier j lj (dec_lt j (length l)))
  where
    earlier : (j : ℕ) → j < length l + first_place w r → Dec (j < length l) → get_or (l ++ r) j 0 ≢ w
    earlier j lj (yes k) e = absent (subst (λ (x : ℕ). Memᴰ x l) (sym (get_or-append l r 0 j k) ∙ e) (get_d_member l j 0 k))
    earlier j lj (no nk) e =
        let s : length l + (j - length l) ≡ j = omega arith in
        (placed w r m).first (j - length l) (omega arith) (sym (get_or-append-add l r (j - length l) 0) ∙ ap (λ (i : ℕ). get_or (l ++ r) i 0) s ∙ e)

module _ (lists : ℕ → List ℕ) {n : ℕ} (v : ℕ) (lt : v < n) (below : (v : ℕ) → v < n → (x : ℕ) → Memᴰ x (lists v) → x < n) where
  -- ids below n, none twice
  pub within_ids : (k : ℕ) → DistinctIds n (within_steps lists v k)
  within_ids k = rw (level lists v k) at (continued_ids lists (begun (v ∷ [])) 0 (one_id v lt) below (nearer lists v k))

  nearer_few : (k : ℕ) → nearer lists v k ≤ n
  nearer_few k = let a = nearer_within lists v k in let b = ids_at_most (within_ids k) in omega arith

  -- "in the order of a walk begun at the chosen one": the front of the complete walk's queue
  pub front : (k : ℕ) → take (length (within_steps lists v k)) (walk_from n lists v).queue ≡ within_steps lists v k
  unfolding walk_from
  front k =
      let j = n - nearer lists v k in
      let e : nearer lists v k + j ≡ n = let few = nearer_few k in omega arith in
      rw (level lists v k, e) at (continued_front lists (begun (v ∷ [])) 0 (nearer lists v k) j)

  -- ---- how far levels go
  -- each level below k has a vertex, or all that is ever found is found within fewer steps
  levels_end : (k : ℕ) → (k < length (within_steps lists v k)) ⊎ ((j x : ℕ) → Memᴰ x (within_steps lists v j) → (i : ℕ) × (i < k) × Memᴰ x (within_steps lists v i))
  unfolding within_steps nearer
  levels_end zero = inl (omega arith)
  levels_end (suc k) = go (levels_end k) (dec_lt (length (within_steps lists v k)) (length (within_steps lists v (suc k))))
    where
      go : (k < length (within_steps lists v k)) ⊎ ((j x : ℕ) → Memᴰ x (within_steps lists v j) → (i : ℕ) × (i < k) × Memᴰ x (within_steps lists v i)) → Dec (length (within_steps lists v k) < length (within_steps lists v (suc k)))
          → (suc k < length (within_steps lists v (suc k))) ⊎ ((j x : ℕ) → Memᴰ x (within_steps lists v j) → (i : ℕ) × (i < suc k) × Memᴰ x (within_steps lists v i))
      go (inr h) d = inr (λ j x m. let r = h j x m in (r.0, omega arith, r.2))
      go (inl h) (yes l) = inl (omega arith)
      go (inl h) (no nl) = inr (λ j x m. found j x m (dec_lt k j))
        where
          same : within_steps lists v (suc k) ≡ within_steps lists v k
          same = front_whole (within_steps lists v k) (within_steps lists v (suc k)) (entered_front (within_steps lists v k) (within_steps lists v k) _ (take-length (within_steps lists v k))) (omega arith)

          found : (j x : ℕ) → Memᴰ x (within_steps lists v j) → Dec (k < j) → (i : ℕ) × (i < suc k) × Memᴰ x (within_steps lists v i)
          found j x m (no g) = (j, omega arith, m)
          found j x m (yes g) =
              let e : j ≡ suc k + (j - suc k) = omega arith in
              let all = ap (within_steps lists v) e ∙ within_stays lists v (suc k) (j - suc k) (omega arith) ∙ same in
              (k, omega arith, subst (Memᴰ x) all m)

  -- what is found at all is found within fewer than n steps
  pub within_few : (j x : ℕ) → Memᴰ x (within_steps lists v j) → (i : ℕ) × (i < n) × Memᴰ x (within_steps lists v i)
  within_few = elim (levels_end n) [ inl l ↦ absurd (let m = ids_at_most (within_ids n) in let y : ⊥ = omega arith in y) | inr h ↦ h ]

  -- the complete walk reaches a vertex exactly where it is fewer than n steps away
  abbrev ended : length (walk_from n lists v).queue ≤ n
  ended = ids_at_most (walk_ids lists v lt below)

  pub reached_steps : (w : ℕ) → Memᴰ w (walk_from n lists v).queue → steps_to lists n v w < n
  reached_steps w m =
      let p = reached_path lists v n ended w m in
      let r = within_few p.0 w (within_path lists v p.1) in
      let s = steps_at_most lists v n w r.0 r.2 in
      omega arith

  pub steps_reached : (w : ℕ) → steps_to lists n v w < n → Memᴰ w (walk_from n lists v).queue
  steps_reached w l = path_reached lists v n ended (steps_shortest lists v n w l).path

  -- ---- a walk that stops where w is read for the first time
  -- as the list of a vertex k steps away is read: w is one step further
  pub met_steps : (w k p : ℕ) → p < length (within_steps lists v k) → Memᴰ w (lists (get_or (within_steps lists v k) p 0)) → (Memᴰ w (within_steps lists v k) → ⊥) → steps_to lists n v w ≡ suc k
  unfolding steps_to within_steps
  met_steps w k p room m new =
      let q = within_steps lists v k in
      let read : Memᴰ w (within_steps lists v (suc k)) = entered_has q (entries_of lists q) w (member_entries_of lists q (get_or q p 0) w (get_d_member q p 0 room) m) in
      let absent : (i : ℕ) → i < suc k → is_member w (within_steps lists v i) ≡ false =
      λ i l. elim (cases_Bool (is_member w (within_steps lists v i))) [ inl e ↦ absurd (new (within_later lists v i k w (omega arith) (is_member_true w _ e))) | inr e ↦ e ] in
      let r = within_few (suc k) w read in
      let few : suc k < n = elim (dec_lt k r.0) [ yes l ↦ omega (arith, r.1) | no l ↦ absurd (new (within_later lists v r.0 k w (omega arith) r.2)) ] in
      first_is (is_near lists v w) n (suc k) few (member_is_member w _ read) absent

  -- it has read the lists of the places before, and as much of that one as there is to w
  pub met_entries : (w p : ℕ) → p < length (walk_from n lists v).queue → Memᴰ w (lists (get_or (walk_from n lists v).queue p 0))
      → ((i : ℕ) → i < p → Memᴰ w (lists (get_or (walk_from n lists v).queue i 0)) → ⊥)
      → entries_until lists n v w ≡ suc (start_of (λ i. lists (get_or (walk_from n lists v).queue i 0)) p + first_place w (lists (get_or (walk_from n lists v).queue p 0)))
  unfolding entries_until entries_of concatenate
  met_entries w p room m before =
      let q = (walk_from n lists v).queue in
      let f : ℕ → List ℕ = λ i. lists (get_or q i 0) in
      let e : length q ≡ suc p + (length q - suc p) = omega arith in
      let split = ap (λ (k : ℕ). concatenate k f) e ∙ concatenate_add (suc p) (length q - suc p) f ∙ append_assoc (concatenate p f) (f p) (concatenate (length q - suc p) (λ i. f (suc p + i))) in
      let absent : Memᴰ w (concatenate p f) → ⊥ = λ k. let r = concatenate_member p f w k in before r.0 r.1 r.2 in
      ap (λ (l : List ℕ). suc (first_place w l)) split
      ∙ ap suc (place_behind w (concatenate p f) (f p ++ concatenate (length q - suc p) (λ i. f (suc p + i))) absent (Memᴰ.append_left _ m)
      ∙ ap (λ (k : ℕ). length (concatenate p f) + k) (place_front w (f p) (concatenate (length q - suc p) (λ i. f (suc p + i))) m)
      ∙ ap (λ (k : ℕ). k + first_place w (f p)) (length_concatenate p f))

  -- the complete walk has left as many places as it has ids
  pub whole_left : walk_from n lists v ≡ continued lists (begun (v ∷ [])) 0 (length (walk_from n lists v).queue)
  unfolding walk_from
  whole_left =
      let first = begun (v ∷ []) in
      let q = (continued lists first 0 n).queue in
      let k = length q in
      let e : k + (n - k) ≡ n = omega (arith, ended) in
      let grown = rw e at (continued_front lists first 0 k (n - k)) in
      let most : length (continued lists first 0 k).queue ≤ k = let r = ap length grown in let s = length-take (length (continued lists first 0 k).queue) q in omega arith in
      continued_end lists first 0 k n (omega (arith, ended)) (λ l. omega arith)

  -- and so has read the lists of all that it reached
  pub all_lists_read : (walk_from n lists v).entries_read ≡ length (entries_of lists (walk_from n lists v).queue)
  unfolding entries_of start_of
  all_lists_read =
      let q = (walk_from n lists v).queue in
      let k = length q in
      let r = (rw (← whole_left) at (entries_agree lists (begun (v ∷ [])) 0 (one_id v lt) below k)) (omega arith) in
      let s = sum_extensional (λ j. length (lists (get_or q (0 + j) 0))) (λ j. length (lists (get_or q j 0))) k
      (λ j lj. let z : 0 + j ≡ j = omega arith in ap (λ (i : ℕ). length (lists (get_or q i 0))) z) in
      let t = length_concatenate k (λ i. lists (get_or q i 0)) in
      omega arith

  -- no list is read twice
  pub whole_read_at_most : (walk_from n lists v).entries_read ≤ start_of lists n
  whole_read_at_most =
      let r = (rw (← whole_left) at (entries_read_at_most lists (begun (v ∷ [])) 0 (one_id v lt) below (length (walk_from n lists v).queue))) (omega arith) in
      omega arith

  -- a vertex that it reaches, but for its first, stands in one of the lists that it reads
  pub reached_listed : {k : ℕ} (x : ℕ) → PathTo lists v x k → x ≢ v → Memᴰ x (entries_of lists (walk_from n lists v).queue)
  reached_listed x here ne = absurd (ne refl)
  reached_listed x (onward {w} p m) ne = member_entries_of lists (walk_from n lists v).queue w x (path_reached lists v n ended p) m

  -- no search reads more
  pub entries_at_most : (w : ℕ) → Memᴰ w (walk_from n lists v).queue → w ≢ v → entries_until lists n v w ≤ (walk_from n lists v).entries_read
  unfolding entries_until
  entries_at_most w m other =
      let r = first_place_below w (entries_of lists (walk_from n lists v).queue) (reached_listed w (reached_path lists v n ended w m).1 other) in
      omega (arith, all_lists_read)

  -- ---- the walk at a place: its queue is a front of the complete walk's
  module _ (head : ℕ) (few : head ≤ n) where
    whole_front : take (length (continued lists (begun (v ∷ [])) 0 head).queue) (walk_from n lists v).queue ≡ (continued lists (begun (v ∷ [])) 0 head).queue
    unfolding walk_from
    whole_front = let e : head + (n - head) ≡ n = omega arith in rw e at (continued_front lists (begun (v ∷ [])) 0 head (n - head))

    pub whole_at : (i : ℕ) → i < length (continued lists (begun (v ∷ [])) 0 head).queue → get_or (walk_from n lists v).queue i 0 ≡ get_or (continued lists (begun (v ∷ [])) 0 head).queue i 0
    whole_at i l =
        let visit = continued lists (begun (v ∷ [])) 0 head in
        sym (get_or-take (length visit.queue) (walk_from n lists v).queue i 0 l) ∙ ap (λ (l : List ℕ). get_or l i 0) whole_front

    whole_longer : length (continued lists (begun (v ∷ [])) 0 head).queue ≤ length (walk_from n lists v).queue
    whole_longer =
        let a = ap length whole_front in
        let b = length-take (length (continued lists (begun (v ∷ [])) 0 head).queue) (walk_from n lists v).queue in
        omega arith

    -- it has those within k steps at its own front, once all nearer ones were left
    module _ (k : ℕ) (nearer_left : nearer lists v k ≤ head) where
      level_front : take (length (within_steps lists v k)) (continued lists (begun (v ∷ [])) 0 head).queue ≡ within_steps lists v k
      level_front =
          let e : nearer lists v k + (head - nearer lists v k) ≡ head = omega arith in
          rw (level lists v k, e) at (continued_front lists (begun (v ∷ [])) 0 (nearer lists v k) (head - nearer lists v k))

      level_at : (i : ℕ) → i < length (within_steps lists v k) → get_or (within_steps lists v k) i 0 ≡ get_or (continued lists (begun (v ∷ [])) 0 head).queue i 0
      level_at i l =
          let q = within_steps lists v k in
          ap (λ (l : List ℕ). get_or l i 0) (sym level_front) ∙ get_or-take (length q) (continued lists (begun (v ∷ [])) 0 head).queue i 0 l

      pub level_longer : length (within_steps lists v k) ≤ length (continued lists (begun (v ∷ [])) 0 head).queue
      level_longer =
          let a = ap length level_front in
          let b = length-take (length (within_steps lists v k)) (continued lists (begun (v ∷ [])) 0 head).queue in
          omega arith

  -- ---- the same beside the walk at the place where it stops
  module _ (w head : ℕ) (other : w ≢ v) (absent : (i : ℕ) → i < head → Memᴰ w (lists (get_or (continued lists (begun (v ∷ [])) 0 head).queue i 0)) → ⊥) where
    abbrev visit : Visit
    visit = continued lists (begun (v ∷ [])) 0 head

    -- w has not entered
    not_entered : Memᴰ w visit.queue → ⊥
    not_entered m = elim (continued_entered lists (begun (v ∷ [])) 0 head w m) [
      | inl a ↦ other (Memᴰ.eq_of_singleton a)
      | inr r ↦ absent r.0 r.1 (let z : 0 + r.0 ≡ r.0 = omega arith in subst (λ (i : ℕ). Memᴰ w (lists (get_or visit.queue i 0))) z r.3)
    ]

    module _ (few : head ≤ n) where
      -- the walk meets w at head, where a vertex k steps away stands
      pub met : (k : ℕ) → nearer lists v k ≤ head → head < length (within_steps lists v k) → Memᴰ w (lists (get_or visit.queue head 0))
          → search_from n lists v w ≡ Some (steps_with (suc k) (suc (visit.entries_read + first_place w (lists (get_or visit.queue head 0)))))
      unfolding search_from start_of
      met k nearer_left room m =
          let q = within_steps lists v k in
          let longer = level_longer head few k nearer_left in
          let new : Memᴰ w q → ⊥ = λ a. let r = member_get_d w q 0 a in
          not_entered (subst (λ (x : ℕ). Memᴰ x visit.queue) (sym (level_at head few k nearer_left r.0 r.1) ∙ r.2) (get_d_member visit.queue r.0 0 (omega (arith, r.1)))) in
          let steps = met_steps w k head room (subst (λ (x : ℕ). Memᴰ w (lists x)) (sym (level_at head few k nearer_left head room)) m) new in
          let at_head = whole_at head few head (omega arith) in
          let whole = whole_longer head few in
          let entries = met_entries w head (omega arith) (subst (λ (x : ℕ). Memᴰ w (lists x)) (sym at_head) m)
          (λ i l a. absent i l (subst (λ (x : ℕ). Memᴰ w (lists x)) (whole_at head few i (omega arith)) a)) in
          let read = entries_agree lists (begun (v ∷ [])) 0 (one_id v lt) below head (omega arith) in
          let sums = sum_extensional (λ j. length (lists (get_or visit.queue (0 + j) 0))) (λ j. length (lists (get_or (walk_from n lists v).queue j 0))) head
          (λ j lj. let z : 0 + j ≡ j = omega arith in ap (λ (i : ℕ). length (lists (get_or visit.queue i 0))) z ∙ ap (λ (x : ℕ). length (lists x)) (sym (whole_at head few j (omega arith)))) in
          let counted : entries_until lists n v w ≡ suc (visit.entries_read + first_place w (lists (get_or visit.queue head 0))) =
          entries ∙ ap suc (rw at_head (let s : sum_below (λ j. length (lists (get_or (walk_from n lists v).queue j 0))) head ≡ visit.entries_read = omega arith in
          ap (λ (x : ℕ). x + first_place w (lists (get_or visit.queue head 0))) s)) in
          let reached = reached_closed lists v n ended (get_or visit.queue head 0) w
          (subst (λ (x : ℕ). Memᴰ x (walk_from n lists v).queue) at_head (get_d_member (walk_from n lists v).queue head 0 (omega arith))) m in
          rw (member_is_member w (walk_from n lists v).queue reached, steps, counted) refl

      -- the walk has ended without it
      pub missed : length visit.queue ≤ head → search_from n lists v w ≡ None
      unfolding search_from walk_from
      missed over =
          let z : length visit.queue ≤ 0 + head = omega arith in
          let same = continued_end lists (begun (v ∷ [])) 0 head n few (λ l. z) in
          elim (cases_Bool (is_member w (walk_from n lists v).queue)) [
            | inl a ↦ absurd (not_entered (rw same at (is_member_true w (walk_from n lists v).queue a)))
            | inr a ↦ rw a refl
          ]
