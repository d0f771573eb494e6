-- Every index into the id table lies below the twenty faces' slots. Assumes nothing.
use Rattle.std.proofs.Common.{ℕ, suc, ◌+◌, ◌-◌, ◌*◌, ◌<◌, min, mul-le-mul_right, suc-mul, arith}
use Rattle.icosahedron.specs.Slots.{slots_per_face}
use Rattle.icosahedron.proofs.Slots.{slot_below}
use Rattle.analytic.specs.declared.LatticeCoordinates.{LatticeCoordinates}
use Rattle.analytic.specs.SubTriangle.{clamped_slot}

pub clamped_slot_below : (n : ℕ) (q : LatticeCoordinates) → clamped_slot n q < slots_per_face n
unfolding clamped_slot
clamped_slot_below n q = slot_below n (min q.a n) (min q.b (n - min q.a n)) (omega arith)

pub index_below : (face slots slot : ℕ) → face < 20 → slot < slots → face * slots + slot < 20 * slots
index_below face slots slot h l = omega (arith, suc-mul face slots, mul-le-mul_right {m = suc face} {n = 20} slots h)
