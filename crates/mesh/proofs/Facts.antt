-- What the mesh rows let pass, as facts, and back: `list_facts`, `list_passed` for rows 3 and 4, `adjacency_facts`, `adjacency_passed` for rows 2 to 4, `mesh_facts`, `mesh_passed` for rows 2 to 5. Assumes nothing.
use Prim.Native.Nat.{ℕ, zero, suc, ◌-◌, ◌*◌, ◌%◌, ◌≤◌, ◌<◌}
use native.Mathlib.Omega.{arith}
use mathlib.Core.Path.{◌≡◌, refl}
use mathlib.Core.Bool.{true}
use mathlib.Core.List.{List}
use lib.Dec.{leb, eqb}
use lib.ListN.{length, get_or}
use lib.Ieee.{Float}
use borrow.Author.Tests.{leb-true, eqb-true, lt-ltb, le-leb, eq-eqb}
use Rattle.std.proofs.lemmas.Bool.{and_parts, and_from}
use Rattle.sequences.specs.Starts.{CompressedRows}
use Rattle.sequences.proofs.Range.{all_below_at, all_below_intro}
use Rattle.std.specs.Prelude.{Ok}
use Rattle.refusal.specs.declared.Refusal.TheVariants.{Count, Starts, Id, Position, StartsSpan}
use Rattle.refusal.proofs.Rows.{row_passed, then_passed}
use Rattle.vector.specs.Direction.{admissible}
use Rattle.mesh.specs.Mesh.{Mesh, vertex_count, count, position_of}
use Rattle.mesh.specs.Rows.{greatest_count, longest_list, positions_fit, starts_counted, starts_span, starts_ascend, lists_limited, ids_below, list_rows, positions_admissible, adjacency_rows, mesh_rows}
use Rattle.mesh.proofs.Falls.{fall_row_passed, no_fall}
use Rattle.mesh.proofs.IdsBelow.{ids_below_at}

-- rows 3 and 4, of the lists of n vertices
pub record ListFacts (n : ℕ) (starts entries : List ℕ) : Type 0 where
  pub rows : CompressedRows n starts entries
  pub limited : (v : ℕ) → v < n → get_or starts (suc v) 0 - get_or starts v 0 ≤ longest_list
  pub ids_below_lem : (i : ℕ) → i < length entries → get_or entries i 0 < n

-- rows 2 to 4
pub record AdjacencyFacts (m : Mesh) : Type 0 where
  pub three_each : length m.positions ≡ count m * 3
  pub some : 1 ≤ count m
  pub few : count m ≤ greatest_count
  pub rows : CompressedRows (count m) m.starts m.entries
  pub limited : (v : ℕ) → v < count m → get_or m.starts (suc v) 0 - get_or m.starts v 0 ≤ longest_list
  pub ids_below_lem : (i : ℕ) → i < length m.entries → get_or m.entries i 0 < count m

-- rows 2 to 5
pub record MeshFacts (m : Mesh) : Type 0 where
  pub adjacency : AdjacencyFacts m
  pub admissible_positions : (v : ℕ) → v < count m → admissible (position_of m.positions v) ≡ true

module _ (n : ℕ) (starts entries : List ℕ) where
  pub list_facts : list_rows n starts entries ≡ Ok tt → ListFacts n starts entries
  unfolding list_rows starts_counted starts_span starts_ascend lists_limited
  list_facts h =
      let counted = row_passed (starts_counted n starts) Starts _ h in
      let span = row_passed (starts_span n starts entries) StartsSpan _ counted.1 in
      let ascend = fall_row_passed n starts _ (eqb-true _ _ counted.0) span.1 in
      let limit = row_passed (lists_limited n starts) Starts _ ascend.1 in
      let ids = row_passed (ids_below n entries) Id _ limit.1 in
      let ends = and_parts (eqb (get_or starts 0 0) 0) _ span.0 in
      record {
        rows = record {
          size = eqb-true _ _ counted.0;
          first = eqb-true _ _ ends.0;
          ascend = λ v lt. leb-true _ _ (all_below_at _ _ v ascend.0 lt);
          last = eqb-true _ _ ends.1;
        };
        limited = λ v lt. leb-true _ _ (all_below_at _ _ v limit.0 lt);
        ids_below_lem = λ i lt. ids_below_at n entries i ids.0 lt;
      }

  module _ (facts : ListFacts n starts entries) where
    starts_counted_lem : starts_counted n starts ≡ true
    unfolding starts_counted
    starts_counted_lem = eq-eqb _ _ facts.rows.size

    starts_span_lem : starts_span n starts entries ≡ true
    unfolding starts_span
    starts_span_lem = and_from _ _ (eq-eqb _ _ facts.rows.first) (eq-eqb _ _ facts.rows.last)

    starts_ascend_lem : starts_ascend n starts ≡ true
    unfolding starts_ascend
    starts_ascend_lem = all_below_intro _ _ (λ v lt. le-leb _ _ (facts.rows.ascend v lt))

    lists_limited_lem : lists_limited n starts ≡ true
    unfolding lists_limited
    lists_limited_lem = all_below_intro _ _ (λ v lt. le-leb _ _ (facts.limited v lt))

    ids_below_lem : ids_below n entries ≡ true
    unfolding ids_below
    ids_below_lem = all_below_intro _ _ (λ i lt. lt-ltb _ _ (facts.ids_below_lem i lt))

    pub list_passed : list_rows n starts entries ≡ Ok tt
    unfolding list_rows
    list_passed = rw (starts_counted_lem, starts_span_lem, no_fall n starts facts.rows.size starts_ascend_lem, lists_limited_lem, ids_below_lem) refl

-- row 2
pub positions_facts : (positions : List Float) → positions_fit positions ≡ true → (length positions ≡ vertex_count positions * 3) × (1 ≤ vertex_count positions) × (vertex_count positions ≤ greatest_count)
unfolding positions_fit
positions_facts positions h =
    let whole = and_parts (eqb (length positions % 3) 0) _ h in
    let range = and_parts (leb 1 (vertex_count positions)) (leb (vertex_count positions) greatest_count) whole.1 in
    let rest : length positions % 3 ≡ 0 = eqb-true _ _ whole.0 in
    (omega arith, leb-true _ _ range.0, leb-true _ _ range.1)

pub adjacency_facts : (m : Mesh) → adjacency_rows m ≡ Ok tt → AdjacencyFacts m
unfolding adjacency_rows
adjacency_facts m h =
    let fit = row_passed (positions_fit m.positions) Count _ h in
    let positions = positions_facts m.positions fit.0 in
    let lists = list_facts (count m) m.starts m.entries fit.1 in
    record {
      three_each = positions.0;
      some = positions.1;
      few = positions.2;
      rows = lists.rows;
      limited = lists.limited;
      ids_below_lem = lists.ids_below_lem;
    }

pub mesh_facts : (m : Mesh) → mesh_rows m ≡ Ok tt → MeshFacts m
unfolding mesh_rows positions_admissible
mesh_facts m h =
    let both = then_passed (adjacency_rows m) _ h in
    let admitted = row_passed (positions_admissible m.positions) Position _ both.1 in
    record {
      adjacency = adjacency_facts m both.0;
      admissible_positions = λ v lt. all_below_at _ _ v admitted.0 lt;
    }

module _ (m : Mesh) (facts : AdjacencyFacts m) where
  pub positions_fit_lem : positions_fit m.positions ≡ true
  unfolding positions_fit
  positions_fit_lem =
      let rest : length m.positions % 3 ≡ 0 = omega (arith, facts.three_each) in
      and_from _ _ (eq-eqb _ _ rest) (and_from _ _ (le-leb _ _ facts.some) (le-leb _ _ facts.few))

  pub adjacency_passed : adjacency_rows m ≡ Ok tt
  unfolding adjacency_rows
  adjacency_passed =
      let lists : ListFacts (count m) m.starts m.entries = record { rows = facts.rows; limited = facts.limited; ids_below_lem = facts.ids_below_lem } in
      rw (positions_fit_lem, list_passed (count m) m.starts m.entries lists) refl

pub mesh_passed : (m : Mesh) → MeshFacts m → mesh_rows m ≡ Ok tt
unfolding mesh_rows positions_admissible
mesh_passed m facts = rw (adjacency_passed m facts.adjacency, all_below_intro (λ v. admissible (position_of m.positions v)) (count m) facts.admissible_positions) refl

-- no list is over 32, so that their entries are few
pub entries_limited : (m : Mesh) → AdjacencyFacts m → length m.entries ≤ count m * longest_list
entries_limited m facts = omega (arith, facts.rows.last, before (count m) (omega arith))
  where
    before : (v : ℕ) → v ≤ count m → get_or m.starts v 0 ≤ v * longest_list
    before zero le = omega (arith, facts.rows.first)
    before (suc v) le = omega (arith, before v (omega arith), facts.limited v (omega arith))
