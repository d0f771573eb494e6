-- What a location's answer tells: `triangle_located`. The corners are below the vertex count, and the least is that of the weights and above minus infinity. Assumes nothing.
use Rattle.std.proofs.Common.{◌≡◌, ℕ, suc, ◌<◌, Bool, true, false, cond, List, [], ◌∷◌, length, get_or, refl, subst, arith}
use lib.Ieee.{Float, inf, lt}
use lib.Ieee.Bits.{is_true}
use Rattle.std.proofs.lemmas.Float.{T_from_true, lt_of_le_of_lt}
use Rattle.sequences.specs.Starts.{block_part}
use Rattle.binary64.proofs.FloatOrder.{lt_left_number, infinity_least}
use Rattle.std.specs.Prelude.{Option, Some, None, Ok, Err, ok_or}
use Rattle.refusal.specs.declared.Refusal.TheVariants.{Starts, StartsFall, Id, NoTriangle}
use Rattle.refusal.proofs.Rows.{row_passed, answer_accepted}
use Rattle.vector.specs.declared.Vector3.{Vector3}
use Rattle.vector.specs.Vector.{normalized}
use Rattle.mesh.specs.Mesh.{vertex_count}
use Rattle.mesh.specs.Rows.{not_falling, ids_below}
use Rattle.grid_query.specs.declared.LocatedTriangle.{LocatedTriangle}
use Rattle.grid_query.specs.Cell.{cell_of_query, part_within, candidates, in_triples, triples_at, cell_rows}
use Rattle.grid_query.specs.Nearest.{nearest_of}
use Rattle.grid_query.specs.Locate.{weighed_by, weighed, least_kept, kept_by, kept_of, triangle_rows, located_at, grid_locate}
use Rattle.grid_query.specs.Told.{LocatedFacts, TriangleIsLocated}
use Rattle.mesh.proofs.IdsBelow.{ids_below_at}

-- what exceeds anything is above minus infinity
exceeds_minus_infinity : (x y : Float) → lt x y ≡ true → lt (inf true) y ≡ true
exceeds_minus_infinity x y h = is_true _ (lt_of_le_of_lt (inf true) x y (T_from_true _ (infinity_least x (lt_left_number x y h))) (T_from_true _ h))

-- of the triangle kept, if any
abbrev Sound : ℕ → Option LocatedTriangle → Type 0
Sound n None = Unit {0}
Sound n (Some located) = LocatedFacts n located

kept_sound : (n : ℕ) (positions : List Float) (direction : Vector3) (kept : Option LocatedTriangle) (l : List ℕ) → ((i : ℕ) → i < length l → get_or l i 0 < n) → Sound n kept
    → Sound n (kept_of positions direction kept (in_triples l))
unfolding kept_by weighed_by in_triples
kept_sound n positions direction kept [] below sound = sound
kept_sound n positions direction kept (a ∷ []) below sound = sound
kept_sound n positions direction kept (a ∷ b ∷ []) below sound = sound
kept_sound n positions direction kept (a ∷ b ∷ c ∷ rest) below sound =
    kept_sound n positions direction (cond (lt (least_kept kept) (least_kept next)) next kept) rest (λ i lt. below (suc (suc (suc i))) (omega arith)) (better (lt (least_kept kept) (least_kept next)) refl)
  where
    next : Option LocatedTriangle
    next = weighed positions direction (a ∷ b ∷ c ∷ [])

    better : (t : Bool) → lt (least_kept kept) (least_kept next) ≡ t → Sound n (cond t next kept)
    better true e = record {
      first_below = below 0 (omega arith);
      second_below = below 1 (omega arith);
      third_below = below 2 (omega arith);
      is_least = refl;
      above = exceeds_minus_infinity (least_kept kept) _ e;
    }
    better false e = sound

kept_is : (kept : Option LocatedTriangle) (located : LocatedTriangle) → ok_or kept NoTriangle ≡ Ok located → kept ≡ Some located
kept_is None located h = cc
kept_is (Some triangle) located h = cc

-- every triangle that a location answers
pub triangle_located : TriangleIsLocated
unfolding grid_locate located_at triangle_rows triples_at
triangle_located grid positions direction located h =
    let v = nearest_of positions (normalized direction) (candidates grid (cell_of_query grid direction)) in
    let ids = block_part 3 grid.triangle_starts grid.triples v in
    let cell = answer_accepted (cell_rows grid positions direction) Err (located_at grid positions (normalized direction) v) _ (λ reason q. cc) h in
    let at = answer_accepted (triangle_rows grid positions v) Err _ _ (λ reason q. cc) cell.1 in
    let ascends = row_passed (not_falling grid.triangle_starts v) (StartsFall (suc v)) _ at.0 in
    let within = row_passed (part_within 3 grid.triangle_starts (length grid.triples) v) Starts _ ascends.1 in
    let below = row_passed (ids_below (vertex_count positions) ids) Id (Ok tt) within.1 in
    subst (Sound (vertex_count positions)) (kept_is _ located at.1)
    (kept_sound (vertex_count positions) positions (normalized direction) None ids (λ i lt. ids_below_at (vertex_count positions) ids i below.0 lt) tt)
