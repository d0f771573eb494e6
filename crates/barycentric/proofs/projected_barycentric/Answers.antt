-- `barycentric::projected_barycentric` meets its contract: the dots that are taken so far are the book's scalars, and the tests pick the book's branch. Assumes nothing.
use Rattle.std.proofs.Common.{refl}
use Rattle.barycentric.specs.Ericson.{region_weights}
use Rattle.barycentric.proofs.Scalars.{weights_of_scalars}
use Rattle.barycentric.proofs.projected_barycentric.Goals as goal

pub returns-then-d1-d2 : goal.returns-then-d1-d2
unfolding region_weights
returns-then-d1-d2 c = rw (← weights_of_scalars c.args.p c.args.a c.args.b c.args.c _ _ _ _ _ _ _ _ _ _ _ c.sub-ab.ensures c.sub-ac.ensures c.sub-ap.ensures refl refl c.dot-d1.ensures c.dot-d2.ensures refl refl refl refl, c.new.ensures, c.if-d1-d2.true)

pub returns-then-d3-d4 : goal.returns-then-d3-d4
unfolding region_weights
returns-then-d3-d4 c = rw (← weights_of_scalars c.args.p c.args.a c.args.b c.args.c _ _ _ _ _ _ _ _ _ _ _ c.sub-ab.ensures c.sub-ac.ensures c.sub-ap.ensures c.sub-bp.ensures refl c.dot-d1.ensures c.dot-d2.ensures c.dot-d3.ensures c.dot-d4.ensures refl refl, c.new-then-d3-d4.ensures, c.if-d1-d2.false, c.if-d3-d4.true)

pub returns-then-vc_at_most_zero-d1 : goal.returns-then-vc_at_most_zero-d1
unfolding region_weights
returns-then-vc_at_most_zero-d1 c = rw (← weights_of_scalars c.args.p c.args.a c.args.b c.args.c _ _ _ _ _ _ _ _ _ _ _ c.sub-ab.ensures c.sub-ac.ensures c.sub-ap.ensures c.sub-bp.ensures refl c.dot-d1.ensures c.dot-d2.ensures c.dot-d3.ensures c.dot-d4.ensures refl refl, c.new-then-vc_at_most_zero-d1.ensures, c.if-d1-d2.false, c.if-d3-d4.false, ← c.product_at_most-vc_at_most_zero.ensures, c.if-vc_at_most_zero-d1.true)

pub returns-then-d6-d5 : goal.returns-then-d6-d5
unfolding region_weights
returns-then-d6-d5 c = rw (← weights_of_scalars c.args.p c.args.a c.args.b c.args.c _ _ _ _ _ _ _ _ _ _ _ c.sub-ab.ensures c.sub-ac.ensures c.sub-ap.ensures c.sub-bp.ensures c.sub-cp.ensures c.dot-d1.ensures c.dot-d2.ensures c.dot-d3.ensures c.dot-d4.ensures c.dot-d5.ensures c.dot-d6.ensures, c.new-then-d6-d5.ensures, c.if-d1-d2.false, c.if-d3-d4.false, ← c.product_at_most-vc_at_most_zero.ensures, c.if-vc_at_most_zero-d1.false, c.if-d6-d5.true)

pub returns-then-vb_at_most_zero-d2 : goal.returns-then-vb_at_most_zero-d2
unfolding region_weights
returns-then-vb_at_most_zero-d2 c = rw (← weights_of_scalars c.args.p c.args.a c.args.b c.args.c _ _ _ _ _ _ _ _ _ _ _ c.sub-ab.ensures c.sub-ac.ensures c.sub-ap.ensures c.sub-bp.ensures c.sub-cp.ensures c.dot-d1.ensures c.dot-d2.ensures c.dot-d3.ensures c.dot-d4.ensures c.dot-d5.ensures c.dot-d6.ensures, c.new-then-vb_at_most_zero-d2.ensures, c.if-d1-d2.false, c.if-d3-d4.false, ← c.product_at_most-vc_at_most_zero.ensures, c.if-vc_at_most_zero-d1.false, c.if-d6-d5.false, ← c.product_at_most-vb_at_most_zero.ensures, c.if-vb_at_most_zero-d2.true)

pub returns-then-va_at_most_zero-d4 : goal.returns-then-va_at_most_zero-d4
unfolding region_weights
returns-then-va_at_most_zero-d4 c = rw (← weights_of_scalars c.args.p c.args.a c.args.b c.args.c _ _ _ _ _ _ _ _ _ _ _ c.sub-ab.ensures c.sub-ac.ensures c.sub-ap.ensures c.sub-bp.ensures c.sub-cp.ensures c.dot-d1.ensures c.dot-d2.ensures c.dot-d3.ensures c.dot-d4.ensures c.dot-d5.ensures c.dot-d6.ensures, c.new-then-va_at_most_zero-d4.ensures, c.if-d1-d2.false, c.if-d3-d4.false, ← c.product_at_most-vc_at_most_zero.ensures, c.if-vc_at_most_zero-d1.false, c.if-d6-d5.false, ← c.product_at_most-vb_at_most_zero.ensures, c.if-vb_at_most_zero-d2.false, ← c.product_at_most-va_at_most_zero.ensures, c.if-va_at_most_zero-d4.true)

pub returns : goal.returns
unfolding region_weights
returns c = rw (← weights_of_scalars c.args.p c.args.a c.args.b c.args.c _ _ _ _ _ _ _ _ _ _ _ c.sub-ab.ensures c.sub-ac.ensures c.sub-ap.ensures c.sub-bp.ensures c.sub-cp.ensures c.dot-d1.ensures c.dot-d2.ensures c.dot-d3.ensures c.dot-d4.ensures c.dot-d5.ensures c.dot-d6.ensures, c.new-2.ensures, c.if-d1-d2.false, c.if-d3-d4.false, ← c.product_at_most-vc_at_most_zero.ensures, c.if-vc_at_most_zero-d1.false, c.if-d6-d5.false, ← c.product_at_most-vb_at_most_zero.ensures, c.if-vb_at_most_zero-d2.false, ← c.product_at_most-va_at_most_zero.ensures, c.if-va_at_most_zero-d4.false, ← c.mul_add-va.ensures, ← c.mul_add-vb.ensures, ← c.mul_add-vc.ensures)
