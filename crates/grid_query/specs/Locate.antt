-- The location query of a grid (document 01, "Weights and grid location"). Definitions only.
use Rattle.std.specs.Prelude.{ℕ, suc, true, cond, List, [], ◌∷◌, length, Float, Option, Some, None, Result, Ok, Err, ok_or}
use Rattle.std.specs.Float.{inf}
use Rattle.std.specs.Float.Ieee.{lt}
use Rattle.sequences.specs.Starts.{block_part}
use Rattle.refusal.specs.declared.Refusal.{Refusal}
use Rattle.refusal.specs.declared.Refusal.TheVariants.{Id, NoTriangle}
use Rattle.refusal.specs.Refusal.{Verdict, row, answer}
use Rattle.vector.specs.declared.Vector3.{Vector3}
use Rattle.vector.specs.Vector.{normalized}
use Rattle.vector.specs.Triangle.{triple_of}
use Rattle.vector.specs.declared.Triple.{Triple}
use Rattle.vector.specs.declared.Weights.{Weights}
use Rattle.barycentric.specs.LeastWeight.{least_weight}
use Rattle.barycentric.specs.Ericson.{projected_barycentric}
use Rattle.mesh.specs.Mesh.{vertex_count, position_of}
use Rattle.mesh.specs.Rows.{ids_below}
use Rattle.grid.specs.Grid.{Grid}
use Rattle.grid_query.specs.declared.LocatedTriangle.{LocatedTriangle}
use Rattle.grid_query.specs.Cell.{cell_of_query, candidates, triples_at, part_rows, cell_rows}
use Rattle.grid_query.specs.Nearest.{nearest_of}

-- A triangle as an answer.
abbrev pub located : Triple → Weights → LocatedTriangle
located triple weights = record { triple = triple; weights = weights; least = least_weight weights }

-- A listed triangle, weighed for a direction, its least by a rule. A list that is no triple, which no part of a grid gives, is none.
unfoldable pub weighed_by : (Weights → Float) → List Float → Vector3 → List ℕ → Option LocatedTriangle
weighed_by rule positions direction [] = None
weighed_by rule positions direction (a ∷ []) = None
weighed_by rule positions direction (a ∷ b ∷ []) = None
weighed_by rule positions direction (a ∷ b ∷ c ∷ rest) =
    let weights = projected_barycentric direction (position_of positions a) (position_of positions b) (position_of positions c) in
    Some (record { triple = triple_of a b c; weights = weights; least = rule weights })

abbrev pub weighed : List Float → Vector3 → List ℕ → Option LocatedTriangle
weighed positions direction triple = weighed_by least_weight positions direction triple

-- The least that a triangle has to exceed: that of the one kept, "from minus infinity".
abbrev pub least_kept : Option LocatedTriangle → Float
least_kept None = inf true
least_kept (Some kept) = kept.least

-- "The triangle kept is the first whose least exceeds all earlier leasts". A NaN exceeds nothing, and is no least that a later one would have to exceed.
-- The triangle at the place i of the list has its least by `rule i`: KeptTriangle compares rules. The one of this engine is the least weight, at every place.
unfoldable pub kept_by : (ℕ → Weights → Float) → List Float → Vector3 → Option LocatedTriangle → List (List ℕ) → Option LocatedTriangle
kept_by rule positions direction kept [] = kept
kept_by rule positions direction kept (t ∷ ts) =
    let next = weighed_by (rule 0) positions direction t in
    kept_by (λ i. rule (suc i)) positions direction (cond (lt (least_kept kept) (least_kept next)) next kept) ts

abbrev pub kept_of : List Float → Vector3 → Option LocatedTriangle → List (List ℕ) → Option LocatedTriangle
kept_of positions direction kept triples = kept_by (λ i. least_weight) positions direction kept triples

-- "for a triangle the same at the nearest vertex (3, 4)", which W-209 splits likewise: its part falls (18), then runs past the triples (3); then the ids of every triple there (4).
unfoldable pub triangle_rows : Grid → List Float → ℕ → Verdict
triangle_rows grid positions v =
    part_rows 3 grid.triangle_starts (length grid.triples) v
    (row (ids_below (vertex_count positions) (block_part 3 grid.triangle_starts grid.triples v)) Id (Ok tt))

-- The triangle kept at the vertex v, behind the rows that speak of it. Row 12 refuses where "no least above minus infinity" is found.
unfoldable pub located_at : Grid → List Float → Vector3 → ℕ → Result LocatedTriangle Refusal
located_at grid positions direction v =
    answer (triangle_rows grid positions v) Err (ok_or (kept_of positions direction None (triples_at grid v)) NoTriangle)

-- The whole outcome of a location. Nothing is lent for writing.
unfoldable pub grid_locate : Grid → List Float → Vector3 → Result LocatedTriangle Refusal
grid_locate grid positions direction =
    let nearest = nearest_of positions (normalized direction) (candidates grid (cell_of_query grid direction)) in
    answer (cell_rows grid positions direction) Err (located_at grid positions (normalized direction) nearest)
