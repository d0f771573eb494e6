-- Ericson's weights from the differences that his scalars d1 to d6 are dots of. Assumes nothing.
use mathlib.Core.Path.{◌≡◌}
use lib.Ieee.{Float}
use Rattle.vector.specs.declared.Vector3.{Vector3}
use Rattle.vector.specs.Vector.{dot_product, vector_difference}
use Rattle.barycentric.specs.Ericson.{region_weights, projected_barycentric}

pub weights_of_scalars : (p a b c ab ac ap bp cp : Vector3) (d1 d2 d3 d4 d5 d6 : Float)
    → ab ≡ vector_difference b a → ac ≡ vector_difference c a → ap ≡ vector_difference p a → bp ≡ vector_difference p b → cp ≡ vector_difference p c
    → d1 ≡ dot_product ab ap → d2 ≡ dot_product ac ap → d3 ≡ dot_product ab bp → d4 ≡ dot_product ac bp → d5 ≡ dot_product ab cp → d6 ≡ dot_product ac cp
    → region_weights d1 d2 d3 d4 d5 d6 ≡ projected_barycentric p a b c
unfolding projected_barycentric
weights_of_scalars p a b c ab ac ap bp cp d1 d2 d3 d4 d5 d6 is_ab is_ac is_ap is_bp is_cp is_d1 is_d2 is_d3 is_d4 is_d5 is_d6 =
    rw (is_d1, is_d2, is_d3, is_d4, is_d5, is_d6, is_ab, is_ac, is_ap, is_bp, is_cp)
