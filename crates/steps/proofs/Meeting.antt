-- Where the complete walk meets a vertex: the first place of its queue whose list has it (`meeting`), and what a search tells by that place (`met_there`). Assumes nothing.
use Prim.Native.Nat.{ℕ, zero, suc, ◌+◌, ◌≤◌, ◌<◌}
use native.Mathlib.Omega.{arith}
use native.Mathlib.Decide.{dec_lt}
use mathlib.Core.Path.{◌≡◌, sym, ap, subst, ◌∙◌}
use mathlib.Core.Logic.{◌≢◌}
use mathlib.Core.Bool.{Bool}
use mathlib.Core.List.{List, [], ◌∷◌, Memᴰ}
use lib.ListN.{length, get_or}
use Rattle.std.proofs.lemmas.List.{length-take, get_or-take}
use Rattle.std.specs.Prelude.{Some}
use Rattle.sequences.specs.Ascending.{is_member}
use Rattle.sequences.specs.Search.{first_below}
use Rattle.sequences.proofs.Starts.{concatenate_member}
use Rattle.sequences.proofs.Tabulate.{get_d_member, member_get_d}
use Rattle.sequences.proofs.Ascending.{is_member_true, is_member_false}
use Rattle.sequences.proofs.Search.{first_below_lem}
use Rattle.walk.specs.Walk.{begun, continued, walk_from}
use Rattle.walk.proofs.Queue.{ids_at_most, ids_injective}
use Rattle.walk.proofs.Continued.{walk_ids}
use Rattle.walk.proofs.Reached.{reached_path}
use Rattle.steps.specs.Steps.{entries_of, within_steps, steps_to, first_place, steps_with, search_from}
use Rattle.steps.proofs.Levels.{nearer}
use Rattle.steps.proofs.Paths.{within_later, within_path, steps_at_most, steps_shortest}
use Rattle.steps.proofs.Whole.{front, reached_steps, reached_listed, whole_at, level_longer, met}

module _ (lists : ℕ → List ℕ) {n : ℕ} (v : ℕ) (lt : v < n) (below : (v : ℕ) → v < n → (x : ℕ) → Memᴰ x (lists v) → x < n) where
  abbrev queue : List ℕ
  queue = (walk_from n lists v).queue

  -- the list of the vertex at a place of the complete walk's queue
  abbrev list_there : ℕ → List ℕ
  list_there i = lists (get_or queue i 0)

  -- the first place whose list has w
  pub record Meeting (w place : ℕ) : Type 0 where
    pub reached : place < length queue
    pub has : Memᴰ w (list_there place)
    pub none_before : (i : ℕ) → i < place → Memᴰ w (list_there i) → ⊥

  pub meeting : (w : ℕ) → Memᴰ w queue → w ≢ v → (place : ℕ) × Meeting w place
  unfolding entries_of
  meeting w m other =
      let most = ids_at_most (walk_ids lists v lt below) in
      let has : ℕ → Bool = λ i. is_member w (list_there i) in
      let r = concatenate_member (length queue) list_there w (reached_listed lists v lt below w (reached_path lists v n most w m).1 other) in
      let f = first_below_lem has (length queue) in
      let p = first_below has (length queue) in
      let absent : (i : ℕ) → i < p → Memᴰ w (list_there i) → ⊥ = λ i l. is_member_false w (list_there i) (f.none_before i l) in
      let room : p < length queue = elim (dec_lt p (length queue)) [ yes l ↦ l | no l ↦ absurd (absent r.0 (omega (arith, r.1)) r.2) ] in
      (p, record { reached = room; has = is_member_true w (list_there p) (f.passes room); none_before = absent })

  -- a vertex at a place of the queue: that many vertices are no further than it, and its level has begun there
  module _ (place : ℕ) (reached : place < length queue) where
    abbrev level_of : ℕ
    level_of = steps_to lists n v (get_or queue place 0)

    pub steps_few : level_of < n
    steps_few = reached_steps lists v lt below (get_or queue place 0) (get_d_member queue place 0 reached)

    at_front : (k i : ℕ) → i < length (within_steps lists v k) → get_or (within_steps lists v k) i 0 ≡ get_or queue i 0
    at_front k i l = ap (λ (l : List ℕ). get_or l i 0) (sym (front lists v lt below k)) ∙ get_or-take (length (within_steps lists v k)) queue i 0 l

    pub in_level : (k : ℕ) → level_of ≤ k → place < length (within_steps lists v k)
    in_level k le =
        let q = within_steps lists v k in
        let r = member_get_d (get_or queue place 0) q 0 (within_later lists v level_of k (get_or queue place 0) le (within_path lists v (steps_shortest lists v n (get_or queue place 0) steps_few).path)) in
        let longer : length q ≤ length queue = let a = ap length (front lists v lt below k) in let b = length-take (length q) queue in omega arith in
        let same = ids_injective (walk_ids lists v lt below) r.0 place (omega (arith, r.1)) reached (sym (at_front k r.0 r.1) ∙ r.2) in
        omega (arith, r.1)

    level_begun : (k : ℕ) → k ≤ level_of → nearer lists v k ≤ place
    unfolding nearer
    level_begun zero le = omega arith
    level_begun (suc k) le = elim (dec_lt place (length (within_steps lists v k))) [
      | yes l ↦
          let m = subst (λ (x : ℕ). Memᴰ x (within_steps lists v k)) (at_front k place l) (get_d_member (within_steps lists v k) place 0 l) in
          absurd (let r = steps_at_most lists v n (get_or queue place 0) k m in let y : ⊥ = omega arith in y)
      | no l ↦ omega arith
    ]

  -- w is one step further than the vertex there, and is met in its list
  pub met_there : (w place : ℕ) → w ≢ v → Meeting w place
      → search_from n lists v w ≡ Some (steps_with (suc (steps_to lists n v (get_or queue place 0))) ((continued lists (begun (v ∷ [])) 0 place).entries_read + suc (first_place w (list_there place))))
  met_there w place other here =
      let visit = continued lists (begun (v ∷ [])) 0 place in
      let k = steps_to lists n v (get_or queue place 0) in
      let most = ids_at_most (walk_ids lists v lt below) in
      let few : place ≤ n = omega (arith, here.reached) in
      let room = in_level place here.reached k (omega arith) in
      let begun_there = level_begun place here.reached k (omega arith) in
      let longer = level_longer lists v lt below place few k begun_there in
      let same : (i : ℕ) → i ≤ place → get_or queue i 0 ≡ get_or visit.queue i 0 = λ i l. whole_at lists v lt below place few i (omega arith) in
      let m = met lists v lt below w place other (λ i l a. here.none_before i l (subst (λ (x : ℕ). Memᴰ w (lists x)) (sym (same i (omega arith))) a)) few k begun_there room
      (subst (λ (x : ℕ). Memᴰ w (lists x)) (same place (omega arith)) here.has) in
      let e : suc (visit.entries_read + first_place w (list_there place)) ≡ visit.entries_read + suc (first_place w (list_there place)) = omega arith in
      (rw (← same place (omega arith)) at m) ∙ ap (λ (r : ℕ). Some (steps_with (suc k) r)) e
