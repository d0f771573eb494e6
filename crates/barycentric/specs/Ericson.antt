-- Christer Ericson, Real-Time Collision Detection (Morgan Kaufmann, 2005), pp. 141–142, ClosestPtPointTriangle: the barycentric coordinates (u, v, w) of the point of the triangle ABC that is closest to P. Definitions only.
-- Each step is rounded once (IEEE 754-2019, 4.3.1) and bears the book's name. A region is named by the vertex, edge or face that it belongs to.
use Rattle.std.specs.Prelude.{cond, ◌&&◌, Float}
use Rattle.std.specs.Float.{binary64}
use Rattle.std.specs.Float.Ieee.{neg, add, sub, mul, div, le}
use Rattle.binary64.specs.Constants.{positive_zero, one}
use Rattle.fused.specs.Fused.{fused_multiply_add}
use Rattle.vector.specs.declared.Vector3.{Vector3}
use Rattle.vector.specs.Vector.{dot_product, vector_difference}
use Rattle.vector.specs.declared.Weights.{Weights}
use Rattle.vector.specs.Triangle.{weights}

-- The book's va, vb and vc are differences of two products: here the second product is rounded and negated, and the first is fused with it.
abbrev pub fused_difference : Float → Float → Float → Float → Float
fused_difference a b c d = fused_multiply_add binary64 a b (neg (mul binary64 c d))

-- The book's branches in its order, on its scalars d1 to d6.
unfoldable pub region_weights : (d1 d2 d3 d4 d5 d6 : Float) → Weights
region_weights d1 d2 d3 d4 d5 d6 =
    let vc = fused_difference d1 d4 d3 d2 in
    let vb = fused_difference d5 d2 d1 d6 in
    let va = fused_difference d3 d6 d5 d4 in
    let v_on_ab = div binary64 d1 (sub binary64 d1 d3) in
    let w_on_ac = div binary64 d2 (sub binary64 d2 d6) in
    let w_on_bc = div binary64 (sub binary64 d4 d3) (add binary64 (sub binary64 d4 d3) (sub binary64 d5 d6)) in
    let denom = div binary64 one (add binary64 (add binary64 va vb) vc) in
    let v = mul binary64 vb denom in
    let w = mul binary64 vc denom in
    -- the vertex region of A
    cond (le d1 positive_zero && le d2 positive_zero) (weights one positive_zero positive_zero)
    -- the vertex region of B
    (cond (le positive_zero d3 && le d4 d3) (weights positive_zero one positive_zero)
    -- the edge region of AB
    (cond (le vc positive_zero && le positive_zero d1 && le d3 positive_zero) (weights (sub binary64 one v_on_ab) v_on_ab positive_zero)
    -- the vertex region of C
    (cond (le positive_zero d6 && le d5 d6) (weights positive_zero positive_zero one)
    -- the edge region of AC
    (cond (le vb positive_zero && le positive_zero d2 && le d6 positive_zero) (weights (sub binary64 one w_on_ac) positive_zero w_on_ac)
    -- the edge region of BC
    (cond (le va positive_zero && le positive_zero (sub binary64 d4 d3) && le positive_zero (sub binary64 d5 d6)) (weights positive_zero (sub binary64 one w_on_bc) w_on_bc)
    -- the face region
    (weights (sub binary64 (sub binary64 one v) w) v w))))))

-- d1 = Dot(ab, ap), d2 = Dot(ac, ap), d3 = Dot(ab, bp), d4 = Dot(ac, bp), d5 = Dot(ab, cp), d6 = Dot(ac, cp)
unfoldable pub projected_barycentric : (p a b c : Vector3) → Weights
unfolding region_weights
projected_barycentric p a b c =
    let ab = vector_difference b a in
    let ac = vector_difference c a in
    let ap = vector_difference p a in
    let bp = vector_difference p b in
    let cp = vector_difference p c in
    region_weights (dot_product ab ap) (dot_product ac ap) (dot_product ab bp) (dot_product ac bp) (dot_product ab cp) (dot_product ac cp)
