-- `analytic::locate` meets its contract: the rows in their order, then the triangle on the face. Assumes nothing.
use Rattle.std.proofs.Common.{sym}
use Rattle.std.proofs.lemmas.Result.{err_from_is_err_and}
use Rattle.icosahedron.proofs.Range.{frequency_passed, frequency_refused}
use Rattle.analytic.proofs.Answers.{direction_passed, direction_refused, face_refused, refused_1, refused_8, refused_9, refused_10, answered}
use Rattle.analytic.proofs.locate.Goals as goal

pub returns-in_err-lattice : goal.returns-in_err-lattice
returns-in_err-lattice c =
    let s = c.args in
    let f = frequency_refused s.frequency _ c.in_err-lattice.ensures in
    let p = err_from_is_err_and c.from_residual.result c.from_residual.ensures.1 in
    rw (p.1, p.2, f.0) (refused_1 s.frequency s.id_table.now s.direction f.1)

pub returns-in_err-table : goal.returns-in_err-table
returns-in_err-table c =
    let s = c.args in
    let f = frequency_passed s.frequency _ c.in_ok-lattice.ensures in
    let t = c.in_err-table.ensures in
    let p = err_from_is_err_and c.from_residual-in_err-table.result c.from_residual-in_err-table.ensures.1 in
    rw (p.1, p.2, t.0) (refused_8 s.frequency s.id_table.now s.direction f.1 (rw f.0 at t.1))

pub returns-in_err-admitted : goal.returns-in_err-admitted
returns-in_err-admitted c =
    let s = c.args in
    let f = frequency_passed s.frequency _ c.in_ok-lattice.ensures in
    let d = direction_refused s.direction _ c.in_err-admitted.ensures in
    let p = err_from_is_err_and c.from_residual-in_err-admitted.result c.from_residual-in_err-admitted.ensures.1 in
    rw (p.1, p.2, d.1) (refused_9 s.frequency s.id_table.now s.direction f.1 (rw f.0 at c.in_ok-table.ensures.2) d.0)

pub returns-in_err-face : goal.returns-in_err-face
returns-in_err-face c =
    let s = c.args in
    let f = frequency_passed s.frequency _ c.in_ok-lattice.ensures in
    let d = direction_passed s.direction _ c.in_ok-admitted.ensures in
    let none = face_refused s.direction _ (rw d.1 at (sym c.in_err-face.ensures)) in
    let p = err_from_is_err_and c.from_residual-in_err-face.result c.from_residual-in_err-face.ensures.1 in
    rw (p.1, p.2, none.1) (refused_10 s.frequency s.id_table.now s.direction f.1 (rw f.0 at c.in_ok-table.ensures.2) d.0 none.0)

pub returns-then-not-triple_below : goal.returns-then-not-triple_below
returns-then-not-triple_below c =
    let t = c.in_ok-table.ensures in
    let on_face = rw c.master_face_of.ensures at c.rhombus_on-rhombus.ensures in
    let below = rw c.vertex_count.ensures at c.triple_below.ensures in
    rw c.if-not-triple_below.true at
    (answered c.args.frequency _ _ c.args.id_table.now _ c.args.direction _ _ _ _ _ c.in_ok-lattice.ensures t.0 t.1 t.2 c.in_ok-admitted.ensures c.in_ok-face.ensures on_face c.corner_ids-triple.ensures below)

pub returns : goal.returns
returns c =
    let t = c.in_ok-table.ensures in
    let on_face = rw c.master_face_of.ensures at c.rhombus_on-rhombus.ensures in
    let below = rw c.vertex_count.ensures at c.triple_below.ensures in
    rw c.weights.ensures (rw c.if-not-triple_below.false at
    (answered c.args.frequency _ _ c.args.id_table.now _ c.args.direction _ _ _ _ _ c.in_ok-lattice.ensures t.0 t.1 t.2 c.in_ok-admitted.ensures c.in_ok-face.ensures on_face c.corner_ids-triple.ensures below))
