-- What is packed by an accepted call: ids below the count, `ids_packed`, and finite floats, `component_finite` and `finite_packed`. Assumes nothing.
use Rattle.std.proofs.Common.{◌≡◌, ℕ, zero, suc, ◌+◌, ◌*◌, ◌/◌, ◌%◌, ◌^◌, ◌<◌, true, false, List, length, get_or, take, drop, refl, sym, ap, subst, ◌∙◌, T, arith}
use Rattle.std.specs.Float.{Float, nan, inf, fin, binary32}
use Rattle.std.specs.Float.Ieee.{le, lt, mul, up, down, round}
use Rattle.std.specs.Float.Ieee.Scale.{finite}
use Rattle.std.specs.Prelude.{All, IsTrue, Ok}
use lib.IntN.{pos}
use lib.Ieee.Fits.{down_pos}
use lib.Ieee.Bits.{is_true}
use Rattle.std.proofs.lemmas.Float.{T_from_true, lt_of_le_of_lt}
use Rattle.std.proofs.lemmas.List.{get_or-map}
use Rattle.std.proofs.lemmas.List.Elements.{All-from_get_or}
use Rattle.sequences.proofs.Range.{all_below_at}
use Rattle.binary64.specs.Absolute.{abs}
use Rattle.binary64.proofs.SignedOrder.{signed_of_le}
use Rattle.binary32.specs.Convert.{convert_format}
use Rattle.binary32.proofs.Convert.{convert_finite}
use Rattle.vector.specs.Vector.{squared_length}
use Rattle.vector.specs.Direction.{greatest_squared_length}
use Rattle.vector.proofs.Admissible.{admissible_parts}
use Rattle.vector.proofs.Extent.{Within, within_of_squared_length}
use Rattle.mesh.specs.Mesh.{vertex_count, position_of}
use Rattle.mesh.specs.Rows.{ids_below, positions_admissible}
use Rattle.mesh.proofs.IdsBelow.{ids_below_at}
use Rattle.grid.specs.Grid.{Grid}
use Rattle.packing.specs.declared.Taken.{Taken}
use Rattle.packing.specs.Packing.{packed_floats, level_record}
use Rattle.packing.specs.Laws.{PackedIdsAreBelow, AdmissibleStaysFinite, PackedIsFinite}
use Rattle.packing.proofs.Passed.{rows_passed}
use Rattle.packing.proofs.Outcome.{rows, packed}
use Rattle.packing.proofs.Parts.{length_floats}
use Rattle.packing.proofs.Record.{record_facts, stands, of_accepted}

-- ---- ids
all_below_count : (n : ℕ) (ids : List ℕ) → ids_below n ids ≡ true → All (λ id. id < n) ids
all_below_count n ids h = All-from_get_or (λ id. id < n) ids 0 (λ i inside. ids_below_at n ids i h inside)

pub ids_packed : PackedIdsAreBelow
unfolding level_record
ids_packed =
    of_accepted (λ grid positions taken words floats level outcome. All (λ id. id < level.vertices) (take (length grid.cell_ids) (drop level.cell_ids outcome.words)) × All (λ id. id < level.vertices) (take (length grid.triples) (drop level.triples outcome.words))) below
  where
    below : (grid : Grid) (positions : List Float) (taken : Taken) (words : List ℕ) (floats : List Float) → rows grid positions taken words floats ≡ Ok tt →
        let level = level_record grid positions taken in
        let outcome = packed grid positions taken words floats in
        All (λ id. id < level.vertices) (take (length grid.cell_ids) (drop level.cell_ids outcome.words)) × All (λ id. id < level.vertices) (take (length grid.triples) (drop level.triples outcome.words))
    below grid positions taken words floats passed =
        let n = vertex_count positions in
        let rows = rows_passed grid positions taken (length words) (length floats) passed in
        let parts = stands grid positions taken words floats passed in
        (subst (All (λ id. id < n)) (sym parts.cell_ids) (all_below_count n grid.cell_ids rows.cell_ids), subst (All (λ id. id < n)) (sym parts.triples) (all_below_count n grid.triples rows.triples))

-- ---- floats
-- far below the greatest binary32
bounded_finite : (x : Float) → T (finite x) → T (le (abs x) (fin false 1 (pos 21))) → IsTrue (finite (convert_format binary32 x))
unfolding abs
bounded_finite nan h k = absurd h
bounded_finite (inf s) h k = absurd h
bounded_finite (fin s m e) h k =
    let bound = signed_of_le (fin false m e) (fin false 1 (pos 21)) false (m * up e) (down e) false (2 ^ 21) 1 (refl, refl) (refl, refl) k in
    let some = down_pos e in
    is_true _ (convert_finite binary32 s m e (omega arith))

-- The components of an admissible position are at most 2 ^ 21 in magnitude: their squares are, of which one alone would exceed 2 ^ 40.
pub component_finite : AdmissibleStaysFinite
unfolding mul lt round
component_finite v h =
    let parts = admissible_parts v (T_from_true _ h) in
    let f = parts.components in
    let within : Within (fin false 1 (pos 21)) v = within_of_squared_length v (fin false 1 (pos 21)) tt f (is_true _ (lt_of_le_of_lt (squared_length v) greatest_squared_length (fin false 1 (pos 42)) parts.not_above (T_from_true _ refl))) in
    (bounded_finite v.x f.x_finite within.x_within, bounded_finite v.y f.y_finite within.y_within, bounded_finite v.z f.z_finite within.z_within)

module _ (positions : List Float) (passed : positions_admissible positions ≡ true) where
  -- the coordinate of a vertex on one of the three axes
  coordinate_finite : (vertex axis : ℕ) → vertex < vertex_count positions → axis < 3 → IsTrue (finite (convert_format binary32 (get_or positions (vertex * 3 + axis) nan)))
  unfolding positions_admissible position_of
  coordinate_finite vertex axis below low =
      let all = component_finite (position_of positions vertex) (all_below_at _ (vertex_count positions) vertex passed below) in
      go axis low all
    where
      go : (axis : ℕ) → axis < 3 → IsTrue (finite (convert_format binary32 (get_or positions (vertex * 3) nan))) × IsTrue (finite (convert_format binary32 (get_or positions (vertex * 3 + 1) nan))) × IsTrue (finite (convert_format binary32 (get_or positions (vertex * 3 + 2) nan)))
          → IsTrue (finite (convert_format binary32 (get_or positions (vertex * 3 + axis) nan)))
      go zero low all = let e : vertex * 3 ≡ vertex * 3 + zero = omega arith in subst (λ (i : ℕ). IsTrue (finite (convert_format binary32 (get_or positions i nan)))) e all.0
      go (suc zero) low all = all.1
      go (suc (suc zero)) low all = all.2
      go (suc (suc (suc k))) low all = absurd (omega arith)

  all_finite : length positions ≡ vertex_count positions * 3 → All (λ x. IsTrue (finite x)) (packed_floats positions)
  unfolding packed_floats
  all_finite whole =
      All-from_get_or (λ x. IsTrue (finite x)) (packed_floats positions) nan (λ i inside.
      let below : i < length positions = omega (arith, length_floats positions) in
      let at : i / 3 * 3 + i % 3 ≡ i = omega arith in
      subst (λ (x : Float). IsTrue (finite x)) (sym (get_or-map (convert_format binary32) positions i nan nan below))
      (subst (λ (k : ℕ). IsTrue (finite (convert_format binary32 (get_or positions k nan)))) at (coordinate_finite (i / 3) (i % 3) (omega arith) (omega arith))))

pub finite_packed : PackedIsFinite
unfolding level_record
finite_packed =
    of_accepted (λ grid positions taken words floats level outcome. All (λ x. IsTrue (finite x)) (take (level.vertices * 3) (drop level.positions outcome.floats))) all
  where
    all : (grid : Grid) (positions : List Float) (taken : Taken) (words : List ℕ) (floats : List Float) → rows grid positions taken words floats ≡ Ok tt →
        let level = level_record grid positions taken in
        All (λ x. IsTrue (finite x)) (take (level.vertices * 3) (drop level.positions (packed grid positions taken words floats).floats))
    all grid positions taken words floats passed =
        let rows = rows_passed grid positions taken (length words) (length floats) passed in
        let facts = record_facts grid positions taken words floats passed in
        let parts = stands grid positions taken words floats passed in
        let places : vertex_count positions * 3 ≡ length (packed_floats positions) = facts.vertices_counted ∙ sym (length_floats positions) in
        subst (All (λ x. IsTrue (finite x))) (sym (ap (λ (k : ℕ). take k (drop taken.floats (packed grid positions taken words floats).floats)) places ∙ parts.converted))
        (all_finite positions rows.admissible (sym facts.vertices_counted))
