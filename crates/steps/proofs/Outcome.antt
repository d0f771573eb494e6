-- The outcomes of both calls by what their checks found: one law for each return, and back, what an outcome shows (`rows_found`, `found_within`, `search_of`). Assumes nothing.
use Prim.Native.Nat.{ℕ, ◌≤◌, ◌<◌}
use native.Mathlib.Omega.{arith}
use mathlib.Core.Path.{◌≡◌, refl, ap, subst, ◌∙◌}
use mathlib.Core.Logic.{◌⊎◌, inl, inr, ◌≢◌}
use mathlib.Core.Bool.{Bool, true, false, ◌&&◌, and_comm}
use mathlib.Core.List.{List, Memᴰ}
use lib.Dec.{leb, ltb, eqb}
use lib.ListN.{length, take}
use lib.Seq.{length-take-le}
use borrow.Author.Tests.{le-leb, lt-leb, lt-ltb, le-ltb, eq-eqb, ne_eqb, eqb-true, eqb-false}
use Rattle.std.proofs.lemmas.Bool.{and_from, and_right, and_parts, ltb-true, leb-true}
use Rattle.std.specs.Prelude.{Option, Some, Ok, Err, ok_or}
use Rattle.sequences.specs.Tabulate.{overwrite}
use Rattle.sequences.specs.Starts.{part}
use Rattle.sequences.specs.Ascending.{is_member}
use Rattle.sequences.proofs.Ascending.{is_member_true, is_member_false}
use Rattle.refusal.specs.declared.Refusal.{Refusal}
use Rattle.refusal.specs.declared.Refusal.TheVariants.{Room, Vertex, NoPath}
use Rattle.refusal.specs.Refusal.{number_of, Verdict, answer}
use Rattle.refusal.proofs.Rows.{EachReason, row_passed, then_passed, reasons_passed, reasons_row, reasons_then}
use Rattle.mesh.specs.Laws.{IndexTold}
use Rattle.mesh.proofs.Refusals.{told_none, adjacency_index, adjacency_reasons}
use Rattle.mesh.specs.Mesh.{Mesh, count, neighbours}
use Rattle.mesh.specs.Rows.{adjacency_rows}
use Rattle.walk.specs.Buffers.{Holding}
use Rattle.steps.specs.declared.Steps.{Steps}
use Rattle.steps.specs.Steps.{within_steps, steps_to, entries_until, steps_with, search_from, steps_found}
use Rattle.steps.specs.Outcomes.{longest_taken, steps_rows, steps_between, within_outcome, vertices_within}
use Rattle.steps.specs.Laws.{walk_of, StepsChecked, WithinChecked}

-- both tests, where one fails
one_fails : (a b : Bool) → (a ≡ false) ⊎ (b ≡ false) → (a && b) ≡ false
one_fails a b (inl e) = rw e refl
one_fails a b (inr e) = and_right a b e

one_short : {asked order other room : ℕ} → (order < asked) ⊎ (room < other) → (leb asked order && leb other room) ≡ false
one_short (inl lt) = one_fails _ _ (inl (lt-leb _ _ lt))
one_short (inr lt) = one_fails _ _ (inr (lt-leb _ _ lt))

-- scratch as long as the longest slice has one place a vertex
pub longest_places : (m : Mesh) → count m ≤ longest_taken m
unfolding longest_taken
longest_places m = omega arith

-- the lent order, cut to one place a vertex
pub cut_places : (m : Mesh) {places : ℕ} (order : List ℕ) → places ≡ count m → longest_taken m ≤ length order → length (take places order) ≡ count m
cut_places m {places} order counted room = length-take-le places order (let r = longest_places m in omega arith) ∙ counted

module _ (m : Mesh) (from to order_length queue_length : ℕ) where
  pub steps_refused : (reason : Refusal) → adjacency_rows m ≡ Err reason → Err reason ≡ steps_between m from to order_length queue_length
  unfolding steps_between steps_rows
  steps_refused reason e = rw e refl

  module _ (passed : adjacency_rows m ≡ Ok tt) where
    pub steps_vertex : (count m ≤ from) ⊎ (count m ≤ to) → Err Vertex ≡ steps_between m from to order_length queue_length
    unfolding steps_between steps_rows
    steps_vertex not_given = rw (passed, one_fails (ltb from (count m)) (ltb to (count m)) (elim not_given [ inl le ↦ inl (le-ltb _ _ le) | inr le ↦ inr (le-ltb _ _ le) ])) refl

    module _ (from_given : from < count m) (to_given : to < count m) where
      given : (ltb from (count m) && ltb to (count m)) ≡ true
      given = and_from _ _ (lt-ltb _ _ from_given) (lt-ltb _ _ to_given)

      pub steps_short : (order_length < longest_taken m) ⊎ (queue_length < longest_taken m) → Err Room ≡ steps_between m from to order_length queue_length
      unfolding steps_between steps_rows
      steps_short short = rw (passed, given, one_short short) refl

      module _ (order_room : longest_taken m ≤ order_length) (queue_room : longest_taken m ≤ queue_length) where
        pub accepted : steps_found m from to ≡ steps_between m from to order_length queue_length
        unfolding steps_between steps_rows
        accepted = rw (passed, given, and_from (leb (longest_taken m) order_length) (leb (longest_taken m) queue_length) (le-leb _ _ order_room) (le-leb _ _ queue_room)) refl

        pub steps_none : from ≡ to → Ok (steps_with 0 0) ≡ steps_between m from to order_length queue_length
        unfolding steps_found
        steps_none e = rw (← accepted, eq-eqb from to e) refl

        pub steps_some : from ≢ to → ok_or (search_from (count m) (part m.starts m.entries) from to) NoPath ≡ steps_between m from to order_length queue_length
        unfolding steps_found neighbours
        steps_some ne = rw (← accepted, ne_eqb from to ne) refl

module _ (m : Mesh) (vertex steps order_length : ℕ) (list : List ℕ) where
  pub within_refused : (reason : Refusal) → adjacency_rows m ≡ Err reason → within_outcome (Err reason) list ≡ vertices_within m vertex steps order_length list
  unfolding vertices_within steps_rows
  within_refused reason e = rw e refl

  module _ (passed : adjacency_rows m ≡ Ok tt) where
    pub within_vertex : count m ≤ vertex → within_outcome (Err Vertex) list ≡ vertices_within m vertex steps order_length list
    unfolding vertices_within steps_rows
    within_vertex le = rw (passed, le-ltb vertex (count m) le) refl

    module _ (given : vertex < count m) where
      pub within_short : (order_length < longest_taken m) ⊎ (length list < count m) → within_outcome (Err Room) list ≡ vertices_within m vertex steps order_length list
      unfolding vertices_within steps_rows
      within_short short = rw (passed, lt-ltb vertex (count m) given, one_short short) refl

      module _ (order_room : longest_taken m ≤ order_length) (list_room : count m ≤ length list) where
        pub within_accepted : within_outcome (Ok (length (within_steps (neighbours m) vertex steps))) (overwrite (within_steps (neighbours m) vertex steps) list)
            ≡ vertices_within m vertex steps order_length list
        unfolding vertices_within steps_rows
        within_accepted =
            rw (passed, lt-ltb vertex (count m) given, and_from (leb (longest_taken m) order_length) (leb (count m) (length list)) (le-leb _ _ order_room) (le-leb _ _ list_room)) refl

        pub within_made : {reached : ℕ} {order filled : List ℕ}
            → Holding (count m) (within_steps (part m.starts m.entries) vertex steps) list reached order filled → within_outcome (Ok reached) filled ≡ vertices_within m vertex steps order_length list
        unfolding neighbours
        within_made done = rw (← within_accepted, ← done.size, done.queued) refl

-- ---- what a call found
-- the rows of both calls
rows_passed : (m : Mesh) (given fits : Bool) → steps_rows m given fits ≡ Ok tt → (adjacency_rows m ≡ Ok tt) × (given ≡ true) × (fits ≡ true)
unfolding steps_rows
rows_passed m given fits e =
    let rows = then_passed (adjacency_rows m) _ e in
    let vertices = row_passed given Vertex _ rows.1 in
    (rows.0, vertices.0, (row_passed fits Room (Ok tt) vertices.1).0)

rows_reasons : (P : Refusal → Type 0) (m : Mesh) (given fits : Bool) → EachReason P (adjacency_rows m) → P Vertex → P Room → EachReason P (steps_rows m given fits)
unfolding steps_rows
rows_reasons P m given fits of_mesh at_14 at_8 =
    reasons_then P (adjacency_rows m) _ of_mesh (reasons_row P given Vertex _ (λ e. at_14) (λ e. reasons_row P fits Room (Ok tt) (λ e. at_8) (λ e. reasons_passed P)))

-- what is known of a reason of theirs: 18 carries the index of the first start that falls, and none is 15
pub record RowsReason (m : Mesh) (reason : Refusal) : Type 0 where
  pub index_told : IndexTold m.starts reason
  pub not_15 : number_of reason ≢ 15

rows_reason : (m : Mesh) (given fits : Bool) → EachReason (RowsReason m) (steps_rows m given fits)
rows_reason m given fits reason e = record {
  index_told = rows_reasons (IndexTold m.starts) m given fits (adjacency_index m) (told_none m.starts Vertex (λ z. omega arith)) (told_none m.starts Room (λ z. omega arith)) reason e;
  not_15 = rows_reasons (λ own. number_of own ≢ 15) m given fits
      (adjacency_reasons (λ own. number_of own ≢ 15) m (λ z. omega arith) (λ z. omega arith) (λ z. omega arith) (λ index falls z. omega arith) (λ z. omega arith))
      (λ z. omega arith) (λ z. omega arith) reason e;
}

-- they refuse, or the search was made
pub data RowsFound (m : Mesh) (from to order_length queue_length : ℕ) : Type 0 where
  rows_refuse : (reason : Refusal) → RowsReason m reason → steps_between m from to order_length queue_length ≡ Err reason → RowsFound m from to order_length queue_length
  searched : StepsChecked m from to order_length queue_length → steps_between m from to order_length queue_length ≡ steps_found m from to → RowsFound m from to order_length queue_length

pub rows_found : (m : Mesh) (from to order_length queue_length : ℕ) → RowsFound m from to order_length queue_length
unfolding steps_between
rows_found m from to order_length queue_length = go (steps_rows m given fits) refl
  where
    given : Bool
    given = ltb from (count m) && ltb to (count m)

    fits : Bool
    fits = leb (longest_taken m) order_length && leb (longest_taken m) queue_length

    go : (v : Verdict) → steps_rows m given fits ≡ v → RowsFound m from to order_length queue_length
    go (Err reason) p = rows_refuse reason (rows_reason m given fits reason p) (rw p refl)
    go (Ok _) p =
        let passed = rows_passed m given fits p in
        let both = and_parts _ _ passed.1 in
        let room = and_parts _ _ passed.2 in
        searched (record { rows = passed.0; from_below = ltb-true _ _ both.0; to_below = ltb-true _ _ both.1; order_room = leb-true _ _ room.0; queue_room = leb-true _ _ room.1 }) (rw p refl)

-- a search between two vertices
search_told : (m : Mesh) (from to : ℕ) → from ≢ to → steps_found m from to ≡ ok_or (search_from (count m) (neighbours m) from to) NoPath
unfolding steps_found
search_told m from to ne = rw (ne_eqb from to ne) refl

pub search_met : (m : Mesh) (from to : ℕ) → from ≢ to → (s : Steps) → search_from (count m) (neighbours m) from to ≡ Some s → steps_found m from to ≡ Ok s
search_met m from to ne s e = search_told m from to ne ∙ ap (λ (met : Option Steps). ok_or met NoPath) e

-- so where its rows pass
pub steps_made : (m : Mesh) (from to order_length queue_length : ℕ) → StepsChecked m from to order_length queue_length → steps_found m from to ≡ steps_between m from to order_length queue_length
steps_made m from to order_length queue_length c = accepted m from to order_length queue_length c.rows c.from_below c.to_below c.order_room c.queue_room

-- the same of the other call
pub data FoundWithin (m : Mesh) (vertex steps order_length : ℕ) (list : List ℕ) : Type 0 where
  rows_refuse_list : (reason : Refusal) → RowsReason m reason → vertices_within m vertex steps order_length list ≡ within_outcome (Err reason) list → FoundWithin m vertex steps order_length list
  listed : WithinChecked m vertex order_length list
      → vertices_within m vertex steps order_length list ≡ within_outcome (Ok (length (within_steps (neighbours m) vertex steps))) (overwrite (within_steps (neighbours m) vertex steps) list)
      → FoundWithin m vertex steps order_length list

pub found_within : (m : Mesh) (vertex steps order_length : ℕ) (list : List ℕ) → FoundWithin m vertex steps order_length list
unfolding vertices_within
found_within m vertex steps order_length list = go (steps_rows m given fits) refl
  where
    given : Bool
    given = ltb vertex (count m)

    fits : Bool
    fits = leb (longest_taken m) order_length && leb (count m) (length list)

    go : (v : Verdict) → steps_rows m given fits ≡ v → FoundWithin m vertex steps order_length list
    go (Err reason) p = rows_refuse_list reason (rows_reason m given fits reason p) (rw p refl)
    go (Ok _) p =
        let passed = rows_passed m given fits p in
        let room = and_parts _ _ passed.2 in
        listed (record { rows = passed.0; below = ltb-true _ _ passed.1; order_room = leb-true _ _ room.0; list_room = leb-true _ _ room.1 }) (rw p refl)

-- ---- what the search found
-- both ends are one vertex, or the complete walk has the target, or it has not
pub data Searched (m : Mesh) (from to : ℕ) : Type 0 where
  at_once : from ≡ to → steps_found m from to ≡ Ok (steps_with 0 0) → Searched m from to
  met_later : from ≢ to → Memᴰ to (walk_of m from).queue
      → steps_found m from to ≡ Ok (steps_with (steps_to (neighbours m) (count m) from to) (entries_until (neighbours m) (count m) from to)) → Searched m from to
  not_met : from ≢ to → (Memᴰ to (walk_of m from).queue → ⊥) → steps_found m from to ≡ Err NoPath → Searched m from to

pub search_of : (m : Mesh) (from to : ℕ) → Searched m from to
unfolding steps_found search_from
search_of m from to = go (eqb from to) refl (is_member to (walk_of m from).queue) refl
  where
    go : (b : Bool) → eqb from to ≡ b → (c : Bool) → is_member to (walk_of m from).queue ≡ c → Searched m from to
    go true p c r = at_once (eqb-true from to p) (rw p refl)
    go false p true r = met_later (eqb-false from to p) (is_member_true to (walk_of m from).queue r) (rw (p, r) refl)
    go false p false r = not_met (eqb-false from to p) (is_member_false to (walk_of m from).queue r) (rw (p, r) refl)

-- ---- both directions are refused alike, by every row but 15
-- a search refuses by row 15 alone
pub search_refuses : (m : Mesh) (from to : ℕ) (reason : Refusal) → steps_found m from to ≡ Err reason → number_of reason ≡ 15
search_refuses m from to reason e = go (search_of m from to)
  where
    go : Searched m from to → number_of reason ≡ 15
    go (at_once same o) = absurd (let y : ⊥ = cc in y)
    go (met_later other met o) = absurd (let y : ⊥ = cc in y)
    go (not_met other absent o) = let same : NoPath ≡ reason = cc in subst (λ (own : Refusal). number_of own ≡ 15) same refl

pub refused_alike : (m : Mesh) (v w order_length queue_length : ℕ) (reason : Refusal) → number_of reason ≢ 15
    → steps_between m v w order_length queue_length ≡ Err reason → steps_between m w v order_length queue_length ≡ Err reason
unfolding steps_between
refused_alike m v w order_length queue_length reason not_15 e = go (steps_rows m (ltb v (count m) && ltb w (count m)) fits) refl e
  where
    fits : Bool
    fits = leb (longest_taken m) order_length && leb (longest_taken m) queue_length

    go : (x : Verdict) → steps_rows m (ltb v (count m) && ltb w (count m)) fits ≡ x → answer x Err (steps_found m v w) ≡ Err reason
        → answer (steps_rows m (ltb w (count m) && ltb v (count m)) fits) Err (steps_found m w v) ≡ Err reason
    go (Err own) p a = rw (and_comm (ltb w (count m)) (ltb v (count m)), p) a
    go (Ok _) p a = absurd (not_15 (search_refuses m v w reason a))
