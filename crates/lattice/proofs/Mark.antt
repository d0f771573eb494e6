-- The lists of every lattice ascend (`lattice_lists_ascend`), so that the mark which its call sets is truthful (`lattice_truthful`); nothing else depends on the mark (`lattice_same`). Assumes nothing.
use Rattle.std.proofs.Common.{◌≡◌, ℕ, Bool, true, length, refl}
use Rattle.sequences.proofs.Tabulate.{take_overwrite}
use Rattle.sequences.proofs.Ascending.{ascending_nondecreasing}
use Rattle.refusal.proofs.Rows.{answers_relate}
use Rattle.mesh.specs.Mark.{lists_ascend, Truthful}
use Rattle.mesh.proofs.Mark.{lists_ascend_lem, mark_truthful}
use Rattle.lattice.specs.Lattice.{lattice_list, lattice_mesh, LatticeSlices, LatticeOutcome, filled_lattice, geometry_rows, lattice_geometry}
use Rattle.lattice.specs.Laws.{mesh_in, without_surplus, mesh_left, SameButMark}
use Rattle.lattice.proofs.Neighbours.{mesh_list, list_ascending}

pub lattice_lists_ascend : (n : ℕ) → lists_ascend (lattice_mesh n) ≡ true
lattice_lists_ascend n = lists_ascend_lem (lattice_mesh n) (λ v lt. rw (mesh_list n v lt) (ascending_nondecreasing (lattice_list n v) (list_ascending n v)))

-- ---- the mesh in an outcome
written : (n : ℕ) (lent : LatticeSlices) → without_surplus n (filled_lattice n lent) ≡ lattice_mesh n
unfolding without_surplus filled_lattice
written n lent =
    let mesh = lattice_mesh n in
    rw (take_overwrite mesh.positions lent.positions (length mesh.positions) refl, take_overwrite mesh.starts lent.starts (length mesh.starts) refl, take_overwrite mesh.entries lent.entries (length mesh.entries) refl)
    refl

pub lattice_truthful : (n : ℕ) (lent : LatticeSlices) (mark : Bool) → Truthful (mesh_in lent) mark → Truthful (mesh_left n (lattice_geometry n lent mark)) (lattice_geometry n lent mark).mark
unfolding lattice_geometry mesh_left
lattice_truthful n lent mark before =
    mark_truthful (mesh_left n) (λ (o : LatticeOutcome). o.mark) (geometry_rows n lent) _ _ (λ reason. before) (λ rows marked. rw (written n lent) (lattice_lists_ascend n))

pub lattice_same : (n : ℕ) (lent : LatticeSlices) (mark other : Bool) → SameButMark (lattice_geometry n lent mark) (lattice_geometry n lent other)
unfolding lattice_geometry
lattice_same n lent mark other =
    answers_relate SameButMark (geometry_rows n lent) _ _ _ _ (λ reason. record { answered = refl; slices = refl }) (record { answered = refl; slices = refl })
