-- Laws of a loop that writes ids, point by point. Assumes nothing.
use Rattle.std.proofs.Common.{◌≡◌, ℕ, ◌+◌, ◌*◌, ◌<◌, ◌≤◌, ◌≢◌, List, length, get_or, set, sym, ◌∙◌, arith}
use Rattle.sequences.specs.Tabulate.{Overwritten, overwrite}
use Rattle.sequences.proofs.Tabulate.{overwritten_none, overwritten_set, overwritten_all}
use Rattle.icosahedron.specs.Slots.{IsFrequency, slots_per_face}
use Rattle.lattice.specs.Lattice.{LatticePoint, id_table}
use Rattle.lattice.specs.Appearances.{OnLattice}
use Rattle.lattice.specs.Shared.{firsts_before}
use Rattle.lattice.specs.Naming.{place_of, naming}
use Rattle.lattice.proofs.Order.{firsts_before_none}
use Rattle.lattice.proofs.Slots.{length_id_table}
use Rattle.lattice.proofs.Rows.{vertex_count_bounds}
use Rattle.lattice.proofs.Naming.{place_below, named_own, named_before}

-- the ids of the points before a place, and how many vertices they are
pub record IdsFilled (n : ℕ) (old now : List ℕ) (place next : ℕ) : Type 0 where
  pub counted : next ≡ firsts_before n place
  pub ids_so_far : Overwritten (id_table n) old now place 0

pub no_ids_yet : {n : ℕ} {ids : List ℕ} → IdsFilled n ids ids 0 0
no_ids_yet {n} = record { counted = sym (firsts_before_none n); ids_so_far = overwritten_none }

pub ids_all : {n : ℕ} {old now : List ℕ} {place next : ℕ} → 20 * slots_per_face n ≤ length old → place ≡ 20 * slots_per_face n → IdsFilled n old now place next → now ≡ overwrite (id_table n) old
ids_all {n} room e h = overwritten_all (length_id_table n ∙ sym e) (omega arith) h.ids_so_far

module _ {n : ℕ} {old now : List ℕ} {place next : ℕ} {p : LatticePoint} (range : IsFrequency n) (room : 20 * slots_per_face n ≤ length old) (on : OnLattice n p) (here : place ≡ place_of n p)
    (h : IdsFilled n old now place next) where
  pub id_room : place < length now
  id_room = omega (arith, here, place_below n p on, h.ids_so_far.same_length)

  -- a point that is its own naming has the next id
  pub new_id_small : (named : ℕ) → named ≡ place_of n (naming n p) → named ≡ place → next < 64002
  new_id_small named found e = omega (arith, (named_own range.0 on here h.counted named found e).below, (vertex_count_bounds n range.0 range.1).1)

  pub ids_new : (named : ℕ) → named ≡ place_of n (naming n p) → named ≡ place → IdsFilled n old (set now place next) (place + 1) (next + 1)
  ids_new named found e =
      let own = named_own range.0 on here h.counted named found e in
      record { counted = own.counts; ids_so_far = overwritten_set (omega (arith, here, place_below n p on)) own.is_id h.ids_so_far }

  -- any other has that of its naming, which stands before it
  pub named_earlier : (named : ℕ) → named ≡ place_of n (naming n p) → named ≢ place → named < place
  named_earlier named found d = (named_before range.0 on here h.counted named found d).is_before

  pub ids_known : (named : ℕ) → named ≡ place_of n (naming n p) → named ≢ place → IdsFilled n old (set now place (get_or now named 0)) (place + 1) next
  ids_known named found d =
      let earlier = named_before range.0 on here h.counted named found d in
      record { counted = earlier.counts; ids_so_far = overwritten_set (omega (arith, here, place_below n p on)) (h.ids_so_far.written named earlier.is_before ∙ earlier.is_id) h.ids_so_far }
