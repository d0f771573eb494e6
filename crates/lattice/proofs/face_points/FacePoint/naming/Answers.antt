-- The first appearance by the weights that are zero.
use Rattle.std.proofs.Common.{refl, eq-eqb, ne_eqb}
use Rattle.lattice.specs.Naming.{naming}
use Rattle.lattice.proofs.face_points.FacePoint.naming.Goals as goal

pub returns-in-true-true-default : goal.returns-in-true-true-default
unfolding naming
returns-in-true-true-default c = record { frequency = c.corner_naming.ensures.frequency; point = rw (eq-eqb _ 0 c.in-true-true-default.is-0, eq-eqb _ 0 c.in-true-true-default.is-1) c.corner_naming.ensures.point }

pub returns-in-true-false-true : goal.returns-in-true-false-true
unfolding naming
returns-in-true-false-true c = record { frequency = c.corner_naming-in-true-false-true.ensures.frequency; point = rw (eq-eqb _ 0 c.in-true-false-true.is-0, ne_eqb _ 0 c.in-true-false-true.is-1, eq-eqb _ _ c.in-true-false-true.is-2) c.corner_naming-in-true-false-true.ensures.point }

pub returns-in-true-false-false : goal.returns-in-true-false-false
unfolding naming
returns-in-true-false-false c = record { frequency = c.edge_naming.ensures.frequency; point = rw (eq-eqb _ 0 c.in-true-false-false.is-0, ne_eqb _ 0 c.in-true-false-false.is-1, ne_eqb _ _ c.in-true-false-false.is-2) c.edge_naming.ensures.point }

pub returns-in-false-true-true : goal.returns-in-false-true-true
unfolding naming
returns-in-false-true-true c = record { frequency = c.corner_naming-in-false-true-true.ensures.frequency; point = rw (ne_eqb _ 0 c.in-false-true-true.is-0, eq-eqb _ 0 c.in-false-true-true.is-1, eq-eqb _ _ c.in-false-true-true.is-2) c.corner_naming-in-false-true-true.ensures.point }

pub returns-in-false-true-false : goal.returns-in-false-true-false
unfolding naming
returns-in-false-true-false c = record { frequency = c.edge_naming-in-false-true-false.ensures.frequency; point = rw (ne_eqb _ 0 c.in-false-true-false.is-0, eq-eqb _ 0 c.in-false-true-false.is-1, ne_eqb _ _ c.in-false-true-false.is-2) c.edge_naming-in-false-true-false.ensures.point }

pub returns-in-false-false-true : goal.returns-in-false-false-true
unfolding naming
returns-in-false-false-true c = record { frequency = c.edge_naming-in-false-false-true.ensures.frequency; point = rw (ne_eqb _ 0 c.in-false-false-true.is-0, ne_eqb _ 0 c.in-false-false-true.is-1, eq-eqb _ _ c.in-false-false-true.is-2) c.edge_naming-in-false-false-true.ensures.point }

pub returns-in-false-false-false : goal.returns-in-false-false-false
unfolding naming
returns-in-false-false-false c = record { frequency = refl; point = rw (ne_eqb _ 0 c.in-false-false-false.is-0, ne_eqb _ 0 c.in-false-false-false.is-1, ne_eqb _ _ c.in-false-false-false.is-2) refl }
