-- The laws of both calls, on their outcomes. Assumes nothing.
-- Of the number: `answered_steps` and back `steps_answered`, on which the others stand.
use Prim.Native.Nat.{ℕ, suc, ◌+◌, ◌≤◌, ◌<◌}
use native.Mathlib.Omega.{arith}
use native.Mathlib.Decide.{dec_lt}
use mathlib.Core.Path.{◌≡◌, refl, sym, ap, subst, ◌∙◌}
use mathlib.Core.Logic.{◌≢◌}
use mathlib.Core.List.{List, [], ◌∷◌, Memᴰ}
use lib.ListN.{length, get_or, take}
use Rattle.std.proofs.lemmas.List.{length-take}
use Rattle.std.specs.Prelude.{Result, Ok, Err}
use Rattle.sequences.specs.Tabulate.{overwrite}
use Rattle.sequences.proofs.Tabulate.{take_overwrite, drop_overwrite, length_overwrite, get_d_member}
use Rattle.sequences.proofs.Starts.{length_concatenate}
use Rattle.refusal.specs.declared.Refusal.{Refusal}
use Rattle.refusal.specs.declared.Refusal.TheVariants.{NoPath}
use Rattle.refusal.specs.Refusal.{number_of}
use Rattle.mesh.specs.Mesh.{Mesh, count, neighbours}
use Rattle.mesh.specs.Rows.{adjacency_rows}
use Rattle.mesh.specs.Laws.{IndexTold}
use Rattle.mesh.proofs.Facts.{adjacency_facts}
use Rattle.mesh.proofs.Neighbours.{neighbour_below, entries_of_neighbours}
use Rattle.mesh.proofs.Refusals.{told_none}
use Rattle.walk.specs.Walk.{begun, continued}
use Rattle.walk.specs.Buffers.{DistinctIds}
use Rattle.walk.specs.Paths.{PathTo, here}
use Rattle.walk.proofs.Queue.{ids_at_most}
use Rattle.walk.proofs.Continued.{walk_ids}
use Rattle.steps.specs.declared.Steps.{Steps}
use Rattle.steps.specs.Steps.{entries_of, within_steps, steps_to, first_place, entries_until, steps_with, steps_found}
use Rattle.steps.specs.Outcomes.{steps_between, WithinOutcome, vertices_within}
use Rattle.steps.specs.Laws.{Shortest, StepsAreShortest, walk_of, StepsAreTheWalks, EntriesAreTheWalks, StepsChecked, RefusedWithoutPath, AnsweredByPath, EqualEndsAtOnce, WithinList, ListIsFront, WithinChecked, EveryNumberPasses, RefusedLeavesList, BothCallsAgree, steps_alone, BackAsForth, StepsIndex, WithinIndex}
use Rattle.steps.proofs.Paths.{path_within, within_path, within_later, steps_at_most, steps_to_itself, steps_shortest}
use Rattle.steps.proofs.Whole.{within_ids, within_few, front, reached_steps, steps_reached, all_lists_read, whole_read_at_most, entries_at_most}
use Rattle.steps.proofs.Meeting.{steps_few, in_level, meeting, met_there}
use Rattle.steps.proofs.Mutual.{steps_mutual}
use Rattle.steps.proofs.Outcome.{RowsFound, rows_refuse, searched, rows_found, search_met, steps_made, within_accepted, FoundWithin, rows_refuse_list, listed, found_within, Searched, at_once, met_later, not_met, search_of, search_refuses, refused_alike}

-- an answer is no refusal
answer_only : {A B : Type 0} {s : A} {reason : Refusal} → ◌≡◌ {A = Result A Refusal} (Ok s) (Err reason) → B
answer_only e = absurd (let y : ⊥ = cc in y)

same_answer : {A : Type 0} {s t : A} → ◌≡◌ {A = Result A Refusal} (Ok s) (Ok t) → s ≡ t
same_answer e = cc

same_reason : {A : Type 0} {own reason : Refusal} → ◌≡◌ {A = Result A Refusal} (Err own) (Err reason) → own ≡ reason
same_reason e = cc

-- neighbours are vertices
vertices : (m : Mesh) → adjacency_rows m ≡ Ok tt → (v : ℕ) → v < count m → (x : ℕ) → Memᴰ x (neighbours m v) → x < count m
vertices m rows v lt x k = neighbour_below m (adjacency_facts m rows) v x k

-- ---- the number
-- what is known of a call that is accepted: that its rows pass, and that the number is the least k with the target within k steps
pub record StepsTo (m : Mesh) (from to order_length queue_length : ℕ) (s : Steps) : Type 0 where
  pub checked : StepsChecked m from to order_length queue_length
  pub search : steps_found m from to ≡ Ok s
  pub number : s.steps ≡ steps_to (neighbours m) (count m) from to
  pub few : steps_to (neighbours m) (count m) from to < count m

answered_steps : (m : Mesh) (from to order_length queue_length : ℕ) (s : Steps) → steps_between m from to order_length queue_length ≡ Ok s → StepsTo m from to order_length queue_length s
answered_steps m from to order_length queue_length s e = go (rows_found m from to order_length queue_length)
  where
    search : StepsChecked m from to order_length queue_length → steps_found m from to ≡ Ok s → Searched m from to → StepsTo m from to order_length queue_length s
    search c o (at_once same p) =
        let itself : steps_to (neighbours m) (count m) from to ≡ 0 = subst (λ (w : ℕ). steps_to (neighbours m) (count m) from w ≡ 0) same (steps_to_itself (neighbours m) from (count m)) in
        let number = ap (λ (t : Steps). t.steps) (same_answer (sym o ∙ p)) in
        record { checked = c; search = o; number = omega arith; few = omega (arith, c.from_below) }
    search c o (met_later other met p) =
        record { checked = c; search = o; number = ap (λ (t : Steps). t.steps) (same_answer (sym o ∙ p)); few = reached_steps (neighbours m) from c.from_below (vertices m c.rows) to met }
    search c o (not_met other absent p) = answer_only (sym o ∙ p)

    go : RowsFound m from to order_length queue_length → StepsTo m from to order_length queue_length s
    go (rows_refuse reason r o) = answer_only (sym e ∙ o)
    go (searched c o) = search c (sym o ∙ e) (search_of m from to)

-- and back
steps_answered : (m : Mesh) (from to order_length queue_length : ℕ) → StepsChecked m from to order_length queue_length → steps_to (neighbours m) (count m) from to < count m
    → (s : Steps) × (steps_between m from to order_length queue_length ≡ Ok s) × (s.steps ≡ steps_to (neighbours m) (count m) from to)
steps_answered m from to order_length queue_length c few = go (search_of m from to)
  where
    made : steps_found m from to ≡ steps_between m from to order_length queue_length
    made = steps_made m from to order_length queue_length c

    answers : (s : Steps) → steps_found m from to ≡ Ok s → (s : Steps) × (steps_between m from to order_length queue_length ≡ Ok s) × (s.steps ≡ steps_to (neighbours m) (count m) from to)
    answers s o = let e = sym made ∙ o in (s, e, (answered_steps m from to order_length queue_length s e).number)

    go : Searched m from to → (s : Steps) × (steps_between m from to order_length queue_length ≡ Ok s) × (s.steps ≡ steps_to (neighbours m) (count m) from to)
    go (at_once same p) = answers (steps_with 0 0) p
    go (met_later other met p) = answers (steps_with (steps_to (neighbours m) (count m) from to) (entries_until (neighbours m) (count m) from to)) p
    go (not_met other absent p) =
        absurd (absent (steps_reached (neighbours m) from c.from_below (vertices m c.rows) to few))

-- a path makes the number small
path_few : (m : Mesh) (from to order_length queue_length : ℕ) → StepsChecked m from to order_length queue_length → {k : ℕ} → PathTo (neighbours m) from to k
    → steps_to (neighbours m) (count m) from to < count m
path_few m from to order_length queue_length c p =
    let r = within_few (neighbours m) from c.from_below (vertices m c.rows) _ to (within_path (neighbours m) from p) in
    let s = steps_at_most (neighbours m) from (count m) to r.0 r.2 in
    omega (arith, r.1)

pub steps_are_shortest : StepsAreShortest
steps_are_shortest m from to order_length queue_length s e =
    let r = answered_steps m from to order_length queue_length s e in
    (subst (Shortest (neighbours m) from to) (sym r.number) (steps_shortest (neighbours m) from (count m) to r.few), omega (arith, r.number, r.few))

-- ---- row 15
pub answered_by_path : AnsweredByPath
answered_by_path m from to order_length queue_length = (
  λ a. let r = answered_steps m from to order_length queue_length a.0 a.1 in (r.checked, (steps_to (neighbours m) (count m) from to, (steps_shortest (neighbours m) from (count m) to r.few).path)),
  λ b. let r = steps_answered m from to order_length queue_length b.0 (path_few m from to order_length queue_length b.0 b.1.1) in (r.0, r.1),
)

pub refused_without_path : RefusedWithoutPath
refused_without_path m from to order_length queue_length = (forth (rows_found m from to order_length queue_length), λ b. back b.0 b.1 (search_of m from to))
  where
    forth : RowsFound m from to order_length queue_length → steps_between m from to order_length queue_length ≡ Err NoPath
        → StepsChecked m from to order_length queue_length × ((k : ℕ) → PathTo (neighbours m) from to k → ⊥)
    forth (rows_refuse reason r o) e = absurd (r.not_15 (ap number_of (same_reason (sym o ∙ e))))
    forth (searched c o) e =
        (c, λ k p. let r = steps_answered m from to order_length queue_length c (path_few m from to order_length queue_length c p) in answer_only (sym r.1 ∙ e))

    back : StepsChecked m from to order_length queue_length → ((k : ℕ) → PathTo (neighbours m) from to k → ⊥) → Searched m from to → steps_between m from to order_length queue_length ≡ Err NoPath
    back c none (at_once same p) = absurd (none 0 (subst (λ (w : ℕ). PathTo (neighbours m) from w 0) same here))
    back c none (met_later other met p) =
        absurd (let few = reached_steps (neighbours m) from c.from_below (vertices m c.rows) to met in none _ (steps_shortest (neighbours m) from (count m) to few).path)
    back c none (not_met other absent p) = sym (steps_made m from to order_length queue_length c) ∙ p

pub equal_ends_at_once : EqualEndsAtOnce
equal_ends_at_once m v order_length queue_length c = sym (steps_made m v v order_length queue_length c) ∙ go (search_of m v v)
  where
    go : Searched m v v → steps_found m v v ≡ Ok (steps_with 0 0)
    go (at_once same p) = p
    go (met_later other met p) = absurd (other refl)
    go (not_met other absent p) = absurd (other refl)

-- ---- beside the complete walk
pub steps_are_the_walks : StepsAreTheWalks
steps_are_the_walks m from to order_length queue_length s ne e =
    let r = answered_steps m from to order_length queue_length s e in
    let c = r.checked in
    let lists = neighbours m in
    let below = vertices m c.rows in
    let ids = walk_ids lists from c.from_below below in
    let met = steps_reached lists from c.from_below below to r.few in
    let place = meeting lists from c.from_below below to met (λ same. ne (sym same)) in
    let x = get_or (walk_of m from).queue place.0 0 in
    let there = get_d_member (walk_of m from).queue place.0 0 place.1.reached in
    let nearer = steps_answered m from x order_length queue_length
    (record { rows = c.rows; from_below = c.from_below; to_below = ids.below x there; order_room = c.order_room; queue_room = c.queue_room }) (reached_steps lists from c.from_below below x there) in
    let found_there = steps_with (suc (steps_to lists (count m) from x)) ((continued lists (begun (from ∷ [])) 0 place.0).entries_read + suc (first_place to (lists x))) in
    let told : steps_found m from to ≡ Ok found_there = search_met m from to ne found_there (met_there lists from c.from_below below to place.0 (λ same. ne (sym same)) place.1) in
    let is : s ≡ found_there = same_answer (sym r.search ∙ told) in
    record {
      place = place.0;
      reached = place.1.reached;
      has_target = place.1.has;
      none_before = place.1.none_before;
      nearer = nearer.0;
      answered = nearer.1;
      one_more = omega (arith, ap (λ (t : Steps). t.steps) {y = found_there} is, nearer.2);
      counted = ap (λ (t : Steps). t.entries_read) {y = found_there} is;
    }

pub entries_are_the_walks : EntriesAreTheWalks
unfolding entries_until
entries_are_the_walks m from to order_length queue_length s e =
    let r = answered_steps m from to order_length queue_length s e in
    let facts = adjacency_facts m r.checked.rows in
    let below = vertices m r.checked.rows in
    let few = whole_read_at_most (neighbours m) from r.checked.from_below below in
    record {
      first_reading = first r.search (search_of m from to);
      walk_reads = all_lists_read (neighbours m) from r.checked.from_below below;
      at_most = at_most r.checked r.search (search_of m from to);
      few = omega (arith, length_concatenate (count m) (neighbours m), ap length (entries_of_neighbours m facts));
    }
  where
    first : steps_found m from to ≡ Ok s → Searched m from to → from ≢ to → s.entries_read ≡ suc (first_place to (entries_of (neighbours m) (walk_of m from).queue))
    first o (at_once same p) ne = absurd (ne same)
    first o (met_later other met p) ne = ap (λ (t : Steps). t.entries_read) (same_answer (sym o ∙ p))
    first o (not_met other absent p) ne = answer_only (sym o ∙ p)

    at_most : StepsChecked m from to order_length queue_length → steps_found m from to ≡ Ok s → Searched m from to → s.entries_read ≤ (walk_of m from).entries_read
    at_most c o (at_once same p) = let is = ap (λ (t : Steps). t.entries_read) (same_answer (sym o ∙ p)) in omega arith
    at_most c o (met_later other met p) =
        let is = ap (λ (t : Steps). t.entries_read) (same_answer (sym o ∙ p)) in
        omega (arith, is, entries_at_most (neighbours m) from c.from_below (vertices m c.rows) to met (λ same. other (sym same)))
    at_most c o (not_met other absent p) = answer_only (sym o ∙ p)

-- ---- the list
list_facts : (m : Mesh) (vertex steps order_length : ℕ) (list : List ℕ) (reached : ℕ) → WithinChecked m vertex order_length list → length (within_steps (neighbours m) vertex steps) ≡ reached
    → WithinList m vertex steps reached list (overwrite (within_steps (neighbours m) vertex steps) list)
unfolding within_steps
list_facts m vertex steps order_length list reached c size =
    let lists = neighbours m in
    let below = vertices m c.rows in
    let q = within_steps lists vertex steps in
    let whole = (walk_of m vertex).queue in
    let taken : take reached (overwrite q list) ≡ q = take_overwrite q list reached size in
    let ids = within_ids lists vertex c.below below steps in
    let most = ids_at_most ids in
    let of_walk : take reached whole ≡ q = rw size at (front lists vertex c.below below steps) in
    let few : reached ≤ length whole = let a = ap length of_walk in let b = length-take reached whole in omega arith in
    record {
      few = few;
      front = taken ∙ sym of_walk;
      within = λ w. (λ a. path_within lists vertex steps w (subst (Memᴰ w) taken a), λ b. subst (Memᴰ w) (sym taken) (within_later lists vertex b.0 steps w b.1 (within_path lists vertex b.2)));
      ids = subst (DistinctIds (count m)) (sym taken) ids;
      alone = λ none. taken ∙ subst (λ (k : ℕ). within_steps lists vertex k ≡ vertex ∷ []) (sym none) refl;
      whole = λ le. elim (dec_lt reached (length whole)) [
        | yes l ↦ absurd (let a = steps_few lists vertex c.below below reached l in let b = in_level lists vertex c.below below reached l steps (omega arith) in let y : ⊥ = omega arith in y)
        | no l ↦ omega arith
      ];
      behind = drop_overwrite q list reached size;
      same_length = length_overwrite q list (omega (arith, c.list_room));
    }

pub list_is_front : ListIsFront
list_is_front m vertex steps order_length list reached e = go (found_within m vertex steps order_length list)
  where
    go : FoundWithin m vertex steps order_length list → WithinList m vertex steps reached list (vertices_within m vertex steps order_length list).list
    go (rows_refuse_list reason r o) = answer_only (sym e ∙ ap (λ (w : WithinOutcome). w.answered) o)
    go (listed c o) =
        let size = same_answer (sym (ap (λ (w : WithinOutcome). w.answered) o) ∙ e) in
        subst (WithinList m vertex steps reached list) (sym (ap (λ (w : WithinOutcome). w.list) o)) (list_facts m vertex steps order_length list reached c size)

pub every_number_passes : EveryNumberPasses
every_number_passes m vertex steps order_length list = (
  λ a. go (found_within m vertex steps order_length list) a.0 a.1,
  λ c. (length (within_steps (neighbours m) vertex steps), sym (ap (λ (w : WithinOutcome). w.answered) (within_accepted m vertex steps order_length list c.rows c.below c.order_room c.list_room))),
)
  where
    go : FoundWithin m vertex steps order_length list → (reached : ℕ) → (vertices_within m vertex steps order_length list).answered ≡ Ok reached → WithinChecked m vertex order_length list
    go (rows_refuse_list reason r o) reached e = answer_only (sym e ∙ ap (λ (w : WithinOutcome). w.answered) o)
    go (listed c o) reached e = c

pub refused_leaves_list : RefusedLeavesList
refused_leaves_list m vertex steps order_length list reason e = go (found_within m vertex steps order_length list)
  where
    go : FoundWithin m vertex steps order_length list → (vertices_within m vertex steps order_length list).list ≡ list
    go (rows_refuse_list own r o) = ap (λ (w : WithinOutcome). w.list) o
    go (listed c o) = answer_only (sym (ap (λ (w : WithinOutcome). w.answered) o) ∙ e)

-- ---- both calls
pub both_calls_agree : BothCallsAgree
both_calls_agree m vertex steps within_length list reached w order_length queue_length e order_room queue_room =
    let c = (every_number_passes m vertex steps within_length list).0 (reached, e) in
    let f = list_is_front m vertex steps within_length list reached e in (
      λ a.
          let p = (f.within w).0 a in
          let checked : StepsChecked m vertex w order_length queue_length =
          record { rows = c.rows; from_below = c.below; to_below = f.ids.below w a; order_room = order_room; queue_room = queue_room } in
          let r = steps_answered m vertex w order_length queue_length checked (path_few m vertex w order_length queue_length checked p.2) in
          let least = steps_at_most (neighbours m) vertex (count m) w p.0 (within_path (neighbours m) vertex p.2) in
          (r.0, r.1, omega (arith, r.2, p.1)),
      λ b. (f.within w).1 (b.0.steps, b.2, (steps_are_shortest m vertex w order_length queue_length b.0 b.1).0.path),
    )

pub back_as_forth : BackAsForth
back_as_forth m v w order_length queue_length both = go (rows_found m v w order_length queue_length)
  where
    go : RowsFound m v w order_length queue_length → steps_alone (steps_between m v w order_length queue_length) ≡ steps_alone (steps_between m w v order_length queue_length)
    go (rows_refuse reason r o) = ap steps_alone (o ∙ sym (refused_alike m v w order_length queue_length reason r.not_15 o))
    go (searched c o) =
        let back : StepsChecked m w v order_length queue_length = record { rows = c.rows; from_below = c.to_below; to_below = c.from_below; order_room = c.order_room; queue_room = c.queue_room } in
        let equally = steps_mutual (neighbours m) (vertices m c.rows) (λ v w lv lw. (both v w lv lw).0) v w c.from_below c.to_below in
        elim (dec_lt (steps_to (neighbours m) (count m) v w) (count m)) [
          | yes l ↦
              let r = steps_answered m v w order_length queue_length c l in
              let s = steps_answered m w v order_length queue_length back (omega arith) in
              ap steps_alone r.1 ∙ ap Ok (r.2 ∙ equally ∙ sym s.2) ∙ sym (ap steps_alone s.1)
          | no l ↦
              let r = (refused_without_path m v w order_length queue_length).1 (c, λ k p. l (path_few m v w order_length queue_length c p)) in
              let s = (refused_without_path m w v order_length queue_length).1 (back, λ k p. let few = path_few m w v order_length queue_length back p in l (omega arith)) in
              ap steps_alone (r ∙ sym s)
        ]

-- ---- the index
pub steps_index : StepsIndex
steps_index m from to order_length queue_length reason e = go (rows_found m from to order_length queue_length)
  where
    go : RowsFound m from to order_length queue_length → IndexTold m.starts reason
    go (rows_refuse own r o) = subst (IndexTold m.starts) (same_reason (sym o ∙ e)) r.index_told
    go (searched c o) = told_none m.starts reason (let at_15 = search_refuses m from to reason (sym o ∙ e) in λ z. omega arith)

pub within_index : WithinIndex
within_index m vertex steps order_length list reason e = go (found_within m vertex steps order_length list)
  where
    go : FoundWithin m vertex steps order_length list → IndexTold m.starts reason
    go (rows_refuse_list own r o) = subst (IndexTold m.starts) (same_reason (sym (ap (λ (w : WithinOutcome). w.answered) o) ∙ e)) r.index_told
    go (listed c o) = answer_only (sym (ap (λ (w : WithinOutcome). w.answered) o) ∙ e)
