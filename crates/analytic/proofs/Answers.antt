-- Laws of the analytic queries: which row answers, and that every id given out is below the vertex count. Assumes nothing.
use Rattle.std.specs.Prelude.{Result, Ok, Err}
use Rattle.std.proofs.Common.{◌≡◌, ℕ, ◌*◌, ◌<◌, Bool, true, false, cond, ◌&&◌, ltb, leb, List, length, sym, ap, refl, arith, ltb-true}
use Rattle.std.proofs.lemmas.Bool.{and_parts}
use Rattle.refusal.specs.declared.Refusal.{Refusal}
use Rattle.refusal.specs.declared.Refusal.TheVariants.{Frequency, Room, Direction, Flags, Id}
use Rattle.refusal.specs.Refusal.{row, answer}
use Rattle.refusal.proofs.Rows.{answer_accepted}
use Rattle.binary64.specs.TotalOrder.{rank_of}
use Rattle.vector.specs.declared.Vector3.{Vector3}
use Rattle.vector.specs.Direction.{admissible, direction_of}
use Rattle.icosahedron.specs.Slots.{frequency_fits, slots_per_face, lattice_vertex_count}
use Rattle.icosahedron.specs.Frequency.{frequency_of}
use Rattle.icosahedron.proofs.Range.{frequency_passed}
use Rattle.vector.specs.declared.Triple.{Triple}
use Rattle.vector.specs.declared.Weights.{Weights}
use Rattle.analytic.specs.declared.Located.{Located}
use Rattle.master_face.specs.MasterFace.{master_face_of}
use Rattle.analytic.specs.FaceChoice.{signs_of, outside_first, flag_sum, flags_fit, mapped_face, choose_face, face_choice_of}
use Rattle.analytic.specs.SubTriangle.{SubTriangle, sub_triangle_on}
use Rattle.analytic.specs.Laws.{TripleBelow}
use Rattle.analytic.specs.Location.{corner_ids, triple_below, triple_located, locate_on, query_rows, analytic_locate, last_greatest, corner_of, analytic_nearest}

-- ---- the choice of a face
-- an answer behind one row was accepted exactly where the row passed
by_row_accepted : {A : Type 0} (test : Bool) (reason : Refusal) (chosen x : A) → answer (row test reason (Ok tt)) Err (Ok chosen) ≡ Ok x → (test ≡ true) × (x ≡ chosen)
by_row_accepted true reason chosen x e = (refl, cc)
by_row_accepted false reason chosen x e = cc

by_row_refused : {A : Type 0} (test : Bool) (own reason : Refusal) (chosen : A) → answer (row test own (Ok tt)) Err (Ok chosen) ≡ Err reason → (test ≡ false) × (reason ≡ own)
by_row_refused true own reason chosen e = cc
by_row_refused false own reason chosen e = (refl, cc)

module _ (p : Vector3) where
  pub face_chosen : (face : ℕ) → face_choice_of p ≡ Ok face → (flags_fit (outside_first p) ≡ true) × (face ≡ mapped_face (signs_of p) (flag_sum (outside_first p)))
  unfolding face_choice_of choose_face
  face_chosen face e = by_row_accepted (flags_fit (outside_first p)) Flags _ face e

  pub face_refused : (reason : Refusal) → face_choice_of p ≡ Err reason → (flags_fit (outside_first p) ≡ false) × (reason ≡ Flags)
  unfolding face_choice_of choose_face
  face_refused reason e = by_row_refused (flags_fit (outside_first p)) Flags reason _ e

-- ---- each row answers where it fails and all earlier ones pass
module _ (n : ℕ) (ids : List ℕ) (p : Vector3) where
  pub refused_1 : frequency_fits n ≡ false → Err Frequency ≡ analytic_locate n ids p
  unfolding query_rows analytic_locate
  refused_1 h = rw h

  module _ (row_1 : frequency_fits n ≡ true) where
    pub refused_8 : leb (20 * slots_per_face n) (length ids) ≡ false → Err Room ≡ analytic_locate n ids p
    unfolding query_rows analytic_locate
    refused_8 h = rw (row_1, h)

    module _ (row_8 : leb (20 * slots_per_face n) (length ids) ≡ true) where
      pub refused_9 : admissible p ≡ false → Err Direction ≡ analytic_locate n ids p
      unfolding query_rows analytic_locate
      refused_9 h = rw (row_1, row_8, h)

      module _ (row_9 : admissible p ≡ true) where
        pub refused_10 : flags_fit (outside_first p) ≡ false → Err Flags ≡ analytic_locate n ids p
        unfolding query_rows analytic_locate
        refused_10 h = rw (row_1, row_8, row_9, h)

        pub location_accepted : flags_fit (outside_first p) ≡ true → locate_on n ids (mapped_face (signs_of p) (flag_sum (outside_first p))) p ≡ analytic_locate n ids p
        unfolding query_rows analytic_locate
        location_accepted h = rw (row_1, row_8, row_9, h)

-- ---- every id given out is below the vertex count
triple_below_lem : (bound : ℕ) (t : Triple) → triple_below bound t ≡ true → TripleBelow bound t
unfolding triple_below
triple_below_lem bound t e =
    let outer = and_parts (ltb t.first bound && ltb t.second bound) (ltb t.third bound) e in
    let inner = and_parts (ltb t.first bound) (ltb t.second bound) outer.0 in
    record { first_below = ltb-true _ _ inner.0; second_below = ltb-true _ _ inner.1; third_below = ltb-true _ _ outer.1 }

no_refusal : (reason : Refusal) (l : Located) → ◌≡◌ {A = Result Located Refusal} (Err reason) (Ok l) → ⊥
no_refusal reason l e = cc

located_on_below : (n : ℕ) (ids : List ℕ) (face : ℕ) (p : Vector3) (l : Located) → locate_on n ids face p ≡ Ok l → TripleBelow (lattice_vertex_count n) l.triple
unfolding locate_on
located_on_below n ids face p l e =
    let t = sub_triangle_on n (master_face_of face) p in
    let triple = corner_ids n ids face t in
    let k = by_row_accepted (triple_below (lattice_vertex_count n) triple) Id (triple_located triple t.weights) l e in
    let same : l.triple ≡ triple = ap (λ (x : Located). x.triple) k.1 in
    rw same (triple_below_lem (lattice_vertex_count n) triple k.0)

-- The ids of a located triple are ids of the lattice, whatever the table holds.
pub located_below : (n : ℕ) (ids : List ℕ) (p : Vector3) (l : Located) → analytic_locate n ids p ≡ Ok l → TripleBelow (lattice_vertex_count n) l.triple
unfolding analytic_locate
located_below n ids p l e =
    let face = mapped_face (signs_of p) (flag_sum (outside_first p)) in
    let k = answer_accepted (query_rows n ids p) Err (locate_on n ids face p) (Ok l) (λ reason. no_refusal reason l) e in
    located_on_below n ids face p l k.1

-- The nearest vertex is a corner, so it is an id of the lattice too.
last_greatest_below : (bound : ℕ) (t : Triple) (w : Weights) → TripleBelow bound t → last_greatest t w < bound
unfolding last_greatest
last_greatest_below bound t w h = pick (leb (rank_of w.u) (rank_of w.w) && leb (rank_of w.v) (rank_of w.w)) (leb (rank_of w.u) (rank_of w.v))
  where
    pick : (a b : Bool) → cond a t.third (cond b t.second t.first) < bound
    pick true b = h.third_below
    pick false true = h.second_below
    pick false false = h.first_below

vertex_below : (bound : ℕ) (found : Result Located Refusal) (v : ℕ) → ((l : Located) → found ≡ Ok l → TripleBelow bound l.triple) → corner_of found ≡ Ok v → v < bound
unfolding corner_of
vertex_below bound (Err reason) v h e = cc
vertex_below bound (Ok l) v h e = let same : last_greatest l.triple l.weights ≡ v = cc in omega (arith, last_greatest_below bound l.triple l.weights (h l refl))

pub nearest_below : (n : ℕ) (ids : List ℕ) (p : Vector3) (v : ℕ) → analytic_nearest n ids p ≡ Ok v → v < lattice_vertex_count n
unfolding analytic_nearest
nearest_below n ids p v e = vertex_below (lattice_vertex_count n) (analytic_locate n ids p) v (located_below n ids p) e

-- ---- what each step of a query tells where it passes, and where it refuses
pub direction_passed : (v p : Vector3) → Ok p ≡ direction_of v → (admissible v ≡ true) × (p ≡ v)
unfolding direction_of
direction_passed v p e = by_row_accepted (admissible v) Direction v p (sym e)

pub direction_refused : (v : Vector3) (reason : Refusal) → Err reason ≡ direction_of v → (admissible v ≡ false) × (reason ≡ Direction)
unfolding direction_of
direction_refused v reason e = by_row_refused (admissible v) Direction reason v (sym e)

-- behind the four rows: row 4 on the triangle's ids, as they are read from the table
pub answered : (n m table_n : ℕ) (ids table_ids : List ℕ) (v p : Vector3) (face : ℕ) (t : SubTriangle) (triple : Triple) (below : Bool)
    → ◌≡◌ {A = Result ℕ Refusal} (Ok m) (frequency_of n) → table_n ≡ m → table_ids ≡ ids → leb (20 * slots_per_face m) (length ids) ≡ true → Ok p ≡ direction_of v → Ok face ≡ face_choice_of p
    → t ≡ sub_triangle_on m (master_face_of face) p → triple ≡ corner_ids table_n table_ids face t → below ≡ triple_below (lattice_vertex_count m) triple
    → answer (row below Id (Ok tt)) Err (Ok (triple_located triple t.weights)) ≡ analytic_locate n ids v
unfolding locate_on
answered n m table_n ids table_ids v p face t triple below frequency same_n same_ids room direction choice is_t is_triple is_below =
    let f = frequency_passed n m frequency in
    let d = direction_passed v p direction in
    let k = face_chosen v face (sym (rw d.1 at choice)) in
    rw (is_below, is_triple, is_t, same_n, same_ids, f.0, d.1, k.1) (location_accepted n ids v f.1 (rw f.0 at room) d.0 k.0)
