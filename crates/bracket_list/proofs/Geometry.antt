-- The slices that are lent for a lattice of frequency 1 to 4 are long enough, so that the call fills them. Assumes nothing.
use Prim.Native.Nat.{ℕ, ◌+◌, ◌*◌, ◌≤◌}
use native.Mathlib.Nat.{mul-le-mul}
use native.Mathlib.Omega.{arith}
use mathlib.Core.Path.{◌≡◌, refl, ap, ◌∙◌}
use mathlib.Core.Bool.{Bool, true}
use mathlib.Core.List.{List}
use lib.ListN.{length, take}
use lib.Ieee.{Float}
use borrow.Author.Tests.{le-leb}
use Rattle.sequences.specs.Tabulate.{overwrite}
use Rattle.sequences.proofs.Tabulate.{length_overwrite, take_overwrite}
use Rattle.std.specs.Prelude.{Ok}
use Rattle.refusal.specs.Refusal.{Verdict}
use Rattle.icosahedron.specs.Slots.{slots_per_face}
use Rattle.lattice.specs.Lattice.{LatticeSlices, LatticeOutcome, lattice_mesh, id_table, lattice_slices_fit, filled_lattice, lattice_geometry, lattice_outcome}
use Rattle.lattice.proofs.Counts.{lattice_vertex_count_lem}
use Rattle.lattice.proofs.Neighbours.{length_positions, mesh_count}
use Rattle.lattice.proofs.ListLengths.{lattice_entry_count}
use Rattle.lattice.proofs.Slots.{length_id_table}
use Rattle.icosahedron.proofs.Range.{frequency_fits_lem}
use Rattle.bracket_list.proofs.Listing.{listable}

module _ (n : ℕ) (lo : 1 ≤ n) (hi : n ≤ 4) where
  pub starts_length : length (lattice_mesh n).starts ≡ 10 * (n * n) + 3
  starts_length = omega (arith, (listable n lo hi).starts_size, mesh_count n, lattice_vertex_count_lem n lo)

  pub square_few : n * n ≤ 16
  square_few = let square : n * n ≤ 4 * 4 = mul-le-mul hi hi in omega arith

  ids_few : length (id_table n) ≤ 300
  unfolding slots_per_face
  ids_few =
      let first : n + 1 ≤ 5 = omega arith in
      let second : n + 2 ≤ 6 = omega arith in
      let slots : (n + 1) * (n + 2) ≤ 5 * 6 = mul-le-mul first second in
      omega (arith, length_id_table n)

  module _ (lent : LatticeSlices) (p : 486 ≤ length lent.positions) (s : 163 ≤ length lent.starts) (e : 960 ≤ length lent.entries) (t : 300 ≤ length lent.ids) where
    long : lattice_slices_fit n lent ≡ true
    unfolding lattice_slices_fit
    long =
        let positions : length (lattice_mesh n).positions ≤ length lent.positions = omega (arith, length_positions n, lattice_vertex_count_lem n lo, square_few) in
        let starts : length (lattice_mesh n).starts ≤ length lent.starts = omega (arith, starts_length, square_few) in
        let entries : length (lattice_mesh n).entries ≤ length lent.entries = omega (arith, (listable n lo hi).entries) in
        let ids : length (id_table n) ≤ length lent.ids = omega (arith, ids_few) in
        rw (le-leb _ _ positions, le-leb _ _ starts, le-leb _ _ entries, le-leb _ _ ids) refl

    pub geometry_filled : (mark : Bool) → lattice_geometry n lent mark ≡ record { answered = Ok tt; slices = filled_lattice n lent; mark = true }
    unfolding lattice_geometry
    geometry_filled mark = rw (frequency_fits_lem n lo (omega arith), long) refl

-- what a call leaves in the slices that are read on
pub record Filled (n : ℕ) (verdict : Verdict) (starts entries : List ℕ) : Type 0 where
  pub accepted : verdict ≡ Ok tt
  pub starts_room : 10 * (n * n) + 3 ≤ length starts
  pub starts_front : take (10 * (n * n) + 3) starts ≡ (lattice_mesh n).starts
  pub entries_room : 60 * (n * n) ≤ length entries
  pub entries_front : take (60 * (n * n)) entries ≡ (lattice_mesh n).entries

pub geometry_left : (n : ℕ) → 1 ≤ n → n ≤ 4 → {verdict : Verdict} {positions : List Float} {starts entries ids : List ℕ} {mark₁ : Bool} (mark : Bool) (lent : LatticeSlices) → 486 ≤ length lent.positions
    → 163 ≤ length lent.starts → 960 ≤ length lent.entries → 300 ≤ length lent.ids → lattice_outcome verdict positions starts entries mark₁ ids ≡ lattice_geometry n lent mark → Filled n verdict starts entries
unfolding filled_lattice
geometry_left n lo hi {verdict} {positions} {starts} {entries} {ids} mark lent p s e t h =
    let left = h ∙ geometry_filled n lo hi lent p s e t mark in
    let starts_are : starts ≡ overwrite (lattice_mesh n).starts lent.starts = ap (λ (o : LatticeOutcome). o.slices.starts) left in
    let entries_are : entries ≡ overwrite (lattice_mesh n).entries lent.entries = ap (λ (o : LatticeOutcome). o.slices.entries) left in
    let starts_size = starts_length n lo hi in
    let entries_size = lattice_entry_count n lo in
    let square = square_few n lo hi in
    record {
      accepted = ap (λ (o : LatticeOutcome). o.answered) left;
      starts_room = omega (arith, ap length starts_are, length_overwrite (lattice_mesh n).starts lent.starts (omega arith));
      starts_front = ap (take (10 * (n * n) + 3)) starts_are ∙ take_overwrite (lattice_mesh n).starts lent.starts (10 * (n * n) + 3) starts_size;
      entries_room = omega (arith, ap length entries_are, length_overwrite (lattice_mesh n).entries lent.entries (omega arith));
      entries_front = ap (take (60 * (n * n))) entries_are ∙ take_overwrite (lattice_mesh n).entries lent.entries (60 * (n * n)) entries_size;
    }
