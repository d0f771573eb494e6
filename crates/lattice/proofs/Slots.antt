-- Laws of slots and of the id table: where a point stands among its face's points and among all. Assumes nothing.
use Rattle.std.proofs.Common.{◌≡◌, ℕ, zero, suc, ◌+◌, ◌-◌, ◌*◌, ◌<◌, ◌≤◌, List, length, get_or, sym, ap, ◌∙◌, mul-le-mul_right, mul_comm, add-mul, mul-suc, mul-add, mul_left_comm, arith}
use lib.ListN.{length-map}
use Rattle.std.proofs.lemmas.List.{get_or-map}
use Rattle.sequences.specs.Starts.{start_of}
use Rattle.sequences.proofs.Tabulate.{length_tabulate, tabulate_at}
use Rattle.sequences.proofs.Starts.{concatenate_at, length_concatenate, start_suc, start_zero, concatenate_even_length, concatenate_even_at}
use Rattle.icosahedron.specs.Slots.{slot_of, slots_per_face}
use Rattle.icosahedron.proofs.Slots.{slot_below}
use Rattle.lattice.specs.Lattice.{LatticePoint, point_at, lattice_points, id_of, id_table}
use Rattle.lattice.proofs.Points.{row_points, face_points, points_by_face}

-- ---- where a row starts: a(n + 1) − a(a − 1)/2
row_step : (s d a n : ℕ) → 2 * s + a * (a - 1) ≡ 2 * (a * (n + 1)) → d + a ≡ n → 2 * (s + suc d) + suc a * (suc a - 1) ≡ 2 * (suc a * (n + 1))
row_step s d zero n e f = simp (mul-add, mul-suc, mul_left_comm) (omega arith)
row_step s d (suc a) n e f =
    let g : 2 * s + suc a * a ≡ 2 * (suc a * (n + 1)) = rw (let z : suc a - 1 ≡ a = omega arith in z) at e in
    rw (let z : suc (suc a) - 1 ≡ suc a = omega arith in z)
    (simp (mul-add, mul-suc, mul_comm, mul_left_comm) (omega (arith, simp (mul-add, mul-suc, mul_comm, mul_left_comm) at g)))

row_start_twice : (n face a : ℕ) → a ≤ suc n → 2 * start_of (row_points n face) a + a * (a - 1) ≡ 2 * (a * (n + 1))
row_start_twice n face zero le = let z = start_zero (row_points n face) in omega arith
row_start_twice n face (suc a) le =
    rw (start_suc (row_points n face) a, length_tabulate (suc (n - a)) (λ b. point_at face a b))
    (row_step (start_of (row_points n face) a) (n - a) a n (row_start_twice n face a (omega arith)) (omega arith))

-- a row starts at the slot of its first point
pub row_start : (n face a b : ℕ) → a ≤ suc n → start_of (row_points n face) a + b ≡ slot_of n a b
unfolding slot_of
row_start n face a b le = let e = row_start_twice n face a le in omega arith

-- a face has (n + 1)(n + 2)/2 points
slots_closed : (n s : ℕ) → 2 * s + suc n * (suc n - 1) ≡ 2 * (suc n * (n + 1)) → 2 * s ≡ (n + 1) * (n + 2)
slots_closed n s e =
    let g : 2 * s + suc n * n ≡ 2 * (suc n * (n + 1)) = rw (let z : suc n - 1 ≡ n = omega arith in z) at e in
    simp (add-mul, mul-add, mul_comm) (omega (arith, simp (mul-add, mul-suc, mul_comm, mul_left_comm) at g))

pub length_face_points : (n face : ℕ) → length (face_points n face) ≡ slots_per_face n
unfolding slots_per_face
length_face_points n face =
    length_concatenate (suc n) (row_points n face)
    ∙ (let e = slots_closed n (start_of (row_points n face) (suc n)) (row_start_twice n face (suc n) (omega arith)) in omega arith)

module _ (n face a b : ℕ) (within : a + b ≤ n) where
  -- "Slot of (a, b) in its face"
  pub slot_place : (d : LatticePoint) → get_or (face_points n face) (slot_of n a b) d ≡ point_at face a b
  slot_place d =
      ap (λ (i : ℕ). get_or (face_points n face) i d) (sym (row_start n face a b (omega arith)))
      ∙ concatenate_at (suc n) (row_points n face) a b d (omega arith) (rw (length_tabulate (suc (n - a)) (λ b. point_at face a b)) (omega arith))
      ∙ tabulate_at (suc (n - a)) (λ b. point_at face a b) b d (omega arith)

-- ---- all points: "one face behind another"
pub length_points : (n : ℕ) → length (lattice_points n) ≡ 20 * slots_per_face n
length_points n = ap length (points_by_face n) ∙ concatenate_even_length 20 (slots_per_face n) (face_points n) (λ face lt. length_face_points n face)

-- the place of a point among all
pub point_place : (n face a b : ℕ) (d : LatticePoint) → face < 20 → a + b ≤ n → get_or (lattice_points n) (face * slots_per_face n + slot_of n a b) d ≡ point_at face a b
point_place n face a b d lt within =
    ap (λ (l : List LatticePoint). get_or l (face * slots_per_face n + slot_of n a b) d) (points_by_face n)
    ∙ concatenate_even_at 20 (slots_per_face n) (face_points n) (λ face lt. length_face_points n face) face (slot_of n a b) d lt (slot_below n a b within)
    ∙ slot_place n face a b within d

-- a face's places come before those of a later face, and all below twenty times the slots
pub place_earlier : (n face later a b : ℕ) → face < later → a + b ≤ n → face * slots_per_face n + slot_of n a b < later * slots_per_face n
place_earlier n face later a b lt within =
    let s = slot_below n a b within in
    let m : suc face * slots_per_face n ≤ later * slots_per_face n = mul-le-mul_right (slots_per_face n) lt in
    omega arith

-- ---- the id table
pub length_id_table : (n : ℕ) → length (id_table n) ≡ 20 * slots_per_face n
unfolding id_table
length_id_table n = length-map (lattice_points n) (id_of n) ∙ length_points n

-- the table holds the id of each point at its face and slot
pub id_table_at : (n face a b : ℕ) → face < 20 → a + b ≤ n → get_or (id_table n) (face * slots_per_face n + slot_of n a b) 0 ≡ id_of n (point_at face a b)
unfolding id_table
id_table_at n face a b lt within =
    get_or-map (id_of n) (lattice_points n) (face * slots_per_face n + slot_of n a b) (point_at 0 0 0) 0 (rw (length_points n) (place_earlier n face 20 a b lt within))
    ∙ ap (id_of n) (point_place n face a b (point_at 0 0 0) lt within)
