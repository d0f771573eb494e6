-- The triangle kept does not depend on the sign of a least that is a zero: `kept_whichever_zero`, of a whole location `located_whichever_zero`.
-- Rules of which they speak: any pair of minima that leave the sign of a zero open (`any_minimum_open`), and document 01's earlier rule (`earlier_open`). Assumes nothing.
use Rattle.std.proofs.Common.{◌≡◌, ℕ, suc, Bool, true, false, cond, List, [], ◌∷◌, refl, ◌∙◌, inl, true≢false}
use mathlib.Core.Bool.{false≢true}
use lib.Ieee.{Float, lt}
use Rattle.std.specs.Prelude.{Option, None, Err, ok_or}
use Rattle.refusal.specs.declared.Refusal.TheVariants.{NoTriangle}
use Rattle.refusal.proofs.Rows.{answers_relate}
use Rattle.binary64.specs.Minimum.{SameButZeroSign}
use Rattle.binary64.proofs.Zeros.{same_above, same_below}
use Rattle.binary64.proofs.Minimum.{earlier_same, minima_same}
use Rattle.vector.specs.declared.Vector3.{Vector3}
use Rattle.vector.specs.Vector.{normalized}
use Rattle.vector.specs.declared.Weights.{Weights}
use Rattle.barycentric.specs.LeastWeight.{least_weight}
use Rattle.grid_query.specs.declared.LocatedTriangle.{LocatedTriangle}
use Rattle.grid_query.specs.Cell.{cell_of_query, candidates, triples_at, cell_rows}
use Rattle.grid_query.specs.Nearest.{nearest_of}
use Rattle.grid_query.specs.Locate.{weighed_by, weighed, least_kept, kept_by, kept_of, triangle_rows, located_at, grid_locate}
use Rattle.grid_query.specs.KeptTriangle.{SameTriangle, OpenAtZero, KeptWhicheverZero, locate_by, LocatedWhicheverZero, earlier_of_equals, AnyMinimumIsOpen, EarlierIsOpen}

-- ---- along the list, the leasts too differ in the sign of a zero at most
abbrev Alike : Option LocatedTriangle → Option LocatedTriangle → Type 0
Alike kept kept' = SameTriangle (ok_or kept NoTriangle) (ok_or kept' NoTriangle) × SameButZeroSign (least_kept kept) (least_kept kept')

module _ (positions : List Float) (direction : Vector3) where
  weighed_alike : (rule : Weights → Float) → ((t : Weights) → SameButZeroSign (least_weight t) (rule t)) → (t : List ℕ) → Alike (weighed positions direction t) (weighed_by rule positions direction t)
  unfolding weighed_by
  weighed_alike rule same [] = (refl, inl refl)
  weighed_alike rule same (a ∷ []) = (refl, inl refl)
  weighed_alike rule same (a ∷ b ∷ []) = (refl, inl refl)
  weighed_alike rule same (a ∷ b ∷ c ∷ rest) = ((refl, refl), same _)

  kept_alike : (rule : ℕ → Weights → Float) → OpenAtZero rule → (kept kept' : Option LocatedTriangle) (triples : List (List ℕ)) → Alike kept kept'
      → Alike (kept_of positions direction kept triples) (kept_by rule positions direction kept' triples)
  unfolding kept_by
  kept_alike rule unsettled kept kept' [] h = h
  kept_alike rule unsettled kept kept' (t ∷ ts) h =
      kept_alike (λ i. rule (suc i)) (λ i. unsettled (suc i)) _ _ ts
      (better (weighed positions direction t) (weighed_by (rule 0) positions direction t) (weighed_alike (rule 0) (unsettled 0) t))
    where
      choose : (b c : Bool) (next next' : Option LocatedTriangle) → b ≡ c → Alike next next' → Alike (cond b next kept) (cond c next' kept')
      choose true true next next' e n = n
      choose false false next next' e n = h
      choose true false next next' e n = absurd (true≢false e)
      choose false true next next' e n = absurd (false≢true e)

      better : (next next' : Option LocatedTriangle) → Alike next next' → Alike (cond (lt (least_kept kept) (least_kept next)) next kept) (cond (lt (least_kept kept') (least_kept next')) next' kept')
      better next next' n =
          choose (lt (least_kept kept) (least_kept next)) (lt (least_kept kept') (least_kept next')) next next'
          (same_below (least_kept kept) (least_kept kept') (least_kept next) h.1 ∙ same_above (least_kept next) (least_kept next') (least_kept kept') n.1) n

pub kept_whichever_zero : KeptWhicheverZero
kept_whichever_zero rule unsettled positions direction triples = (kept_alike positions direction rule unsettled None None triples (refl, inl refl)).0

-- ---- a whole location: its rows come before any least is taken
pub located_whichever_zero : LocatedWhicheverZero
unfolding grid_locate located_at locate_by
located_whichever_zero rule unsettled grid positions direction =
    let d = normalized direction in
    let v = nearest_of positions d (candidates grid (cell_of_query grid direction)) in
    answers_relate SameTriangle (cell_rows grid positions direction) Err _ Err _ (λ reason. refl)
    (answers_relate SameTriangle (triangle_rows grid positions v) Err _ Err _ (λ reason. refl) (kept_whichever_zero rule unsettled positions d (triples_at grid v)))

-- ---- rules that are open at zero
pub any_minimum_open : AnyMinimumIsOpen
unfolding least_weight
any_minimum_open first second f s i t = minima_same (first i) (second i) (f i) (s i) t.u t.v t.w

pub earlier_open : EarlierIsOpen
unfolding earlier_of_equals
earlier_open = any_minimum_open (λ i. earlier_of_equals) (λ i. earlier_of_equals) (λ i. earlier_same) (λ i. earlier_same)
