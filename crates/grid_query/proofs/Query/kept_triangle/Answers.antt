use Rattle.std.proofs.Common.{ap, sym, ◌∙◌}
use Rattle.std.specs.Prelude.{None}
use Rattle.mesh.proofs.IdsBelow.{ids_below_at}
use Rattle.grid_query.specs.Locate.{kept_of}
use Rattle.grid_query.proofs.Triples.{chunks_are, triple_at, kept_step, kept_end}
use Rattle.grid_query.proofs.Query.kept_triangle.Goals as goal

pub loop-first-init : goal.loop-first-init
loop-first-init c = ap (kept_of c.args.self.now.positions.now c.args.self.now.direction None) (c.as_chunks.ensures.front ∙ chunks_are _)

pub triangle_weights-weights-requires : goal.triangle_weights-weights-requires
triangle_weights-weights-requires c =
    let three = triple_at _ _ _ c.as_chunks.ensures.front (λ i lt. ids_below_at _ _ i c.requires lt) _ c.loop-first-test.true in
    record { first = three.1; second = three.2; third = three.3 }

pub loop-first-preserved : goal.loop-first-preserved
loop-first-preserved c =
    let three = triple_at _ _ _ c.as_chunks.ensures.front (λ i lt. ids_below_at _ _ i c.requires lt) _ c.loop-first-test.true in
    kept_step _ _ _ _ _ _ _ c.loop-first-test.true three.0 c.triangle_weights-weights.ensures c.keep-kept.ensures ∙ c.loop-first.invariant

pub returns : goal.returns
returns c = sym (kept_end _ _ c.loop-first.kept _ _ c.loop-first-test.false) ∙ c.loop-first.invariant
