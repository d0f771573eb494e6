-- `steps::steps_between` meets its contract: the given vertices, room, equal ends, and the search. Assumes nothing.
use Rattle.std.proofs.Common.{◌∙◌, length, arith, sym, ap, inl, inr}
use Rattle.std.specs.Prelude.{Option, ok_or}
use Rattle.refusal.specs.declared.Refusal.TheVariants.{NoPath}
use Rattle.steps.specs.declared.Steps.{Steps}
use Rattle.mesh.specs.Mesh.{neighbours}
use Rattle.mesh.proofs.Facts.{adjacency_facts, entries_limited}
use Rattle.walk.proofs.Outcome.{mesh_walkable}
use Rattle.steps.proofs.Outcome.{longest_places, cut_places, steps_vertex, steps_short, steps_none, steps_some}
use Rattle.steps.proofs.steps_between.Goals.{then-from-count-via-then-from-count, then-from-count-via-else-from-count+then-to-count, then-scratch-longest-via-then-scratch-longest, then-scratch-longest-via-else-scratch-longest+then-scratch-longest-2}
use Rattle.steps.proofs.steps_between.Goals as goal

pub returns-then-from-count-clause-answered : goal.returns-then-from-count-clause-answered
returns-then-from-count-clause-answered c =
    steps_vertex c.args.mesh.now _ _ _ _ c.count-count.ensures.rows (elim c.then-from-count.branch [
      | then-from-count-via-then-from-count w ↦ inl (omega (arith, c.count-count.ensures.counted, w.if-from-count.true))
      | then-from-count-via-else-from-count+then-to-count w ↦ inr (omega (arith, c.count-count.ensures.counted, w.if-to-count.true))
    ])

pub returns-then-scratch-longest-clause-answered : goal.returns-then-scratch-longest-clause-answered
returns-then-scratch-longest-clause-answered c =
    steps_short c.args.mesh.now _ _ _ _ c.count-count.ensures.rows (omega (arith, c.count-count.ensures.counted)) (omega (arith, c.count-count.ensures.counted)) (elim c.then-scratch-longest.branch [
      | then-scratch-longest-via-then-scratch-longest w ↦ inl (omega (arith, c.longest-longest.ensures, w.if-scratch-longest.true))
      | then-scratch-longest-via-else-scratch-longest+then-scratch-longest-2 w ↦ inr (omega (arith, c.longest-longest.ensures, w.if-scratch-longest-2.true))
    ])

pub returns-then-from-to-clause-answered : goal.returns-then-from-to-clause-answered
returns-then-from-to-clause-answered c =
    steps_none c.args.mesh.now _ _ _ _ c.count-count.ensures.rows
    (omega (arith, c.count-count.ensures.counted)) (omega (arith, c.count-count.ensures.counted)) (omega (arith, c.longest-longest.ensures)) (omega (arith, c.longest-longest.ensures)) c.if-from-to.true

pub slice_bounds-search-end : goal.slice_bounds-search-end
slice_bounds-search-end c = omega (arith, c.count-count.ensures.counted, c.longest-longest.ensures, longest_places c.args.mesh.now)

pub slice_bounds-search-end-2 : goal.slice_bounds-search-end-2
slice_bounds-search-end-2 c = c.count-count.ensures.counted ∙ sym (cut_places c.args.mesh.now c.args.scratch.now.order.now c.count-count.ensures.counted (omega (arith, c.longest-longest.ensures)))

pub search-requires-clause-walkable : goal.search-requires-clause-walkable
search-requires-clause-walkable c =
    mesh_walkable c.args.mesh.now c.count-count.ensures.rows
    (cut_places c.args.mesh.now c.args.scratch.now.order.now c.count-count.ensures.counted (omega (arith, c.longest-longest.ensures)))
    (omega (arith, c.longest-longest.ensures, longest_places c.args.mesh.now))

pub search-requires-clause-places : goal.search-requires-clause-places
search-requires-clause-places c = cut_places c.args.mesh.now c.args.scratch.now.order.now c.count-count.ensures.counted (omega (arith, c.longest-longest.ensures))

pub search-requires-clause-few_entries : goal.search-requires-clause-few_entries
search-requires-clause-few_entries c = let facts = adjacency_facts c.args.mesh.now c.count-count.ensures.rows in omega (arith, facts.few, entries_limited c.args.mesh.now facts)

pub search-requires-clause-there : goal.search-requires-clause-there
search-requires-clause-there c =
    let places = cut_places c.args.mesh.now c.args.scratch.now.order.now c.count-count.ensures.counted (omega (arith, c.longest-longest.ensures)) in
    omega (arith, c.count-count.ensures.counted)

pub returns-clause-answered : goal.returns-clause-answered
unfolding neighbours
returns-clause-answered c =
    let places = cut_places c.args.mesh.now c.args.scratch.now.order.now c.count-count.ensures.counted (omega (arith, c.longest-longest.ensures)) in
    let some = steps_some c.args.mesh.now c.args.from c.args.to (length c.args.scratch.now.order.now) (length c.args.scratch.now.queue.now) c.count-count.ensures.rows
    (omega (arith, c.count-count.ensures.counted)) (omega (arith, c.count-count.ensures.counted)) (omega (arith, c.longest-longest.ensures)) (omega (arith, c.longest-longest.ensures))
    c.if-from-to.false in
    c.ok_or.ensures.value ∙ ap (λ (met : Option Steps). ok_or met NoPath) (rw places at c.search.ensures) ∙ some
