-- "Which triangle is kept does not depend on this, and that is to be shown" (W-201): not on the sign of a least that is a zero. Definitions only.
use Rattle.std.specs.Prelude.{◌≡◌, ℕ, cond, List, Float, None, Result, Ok, Err, ok_or}
use Rattle.std.specs.Float.Ieee.{lt, is_nan}
use Rattle.refusal.specs.declared.Refusal.{Refusal}
use Rattle.refusal.specs.declared.Refusal.TheVariants.{NoTriangle}
use Rattle.refusal.specs.Refusal.{answer}
use Rattle.binary64.specs.Minimum.{minimum_number, SameButZeroSign}
use Rattle.vector.specs.declared.Vector3.{Vector3}
use Rattle.vector.specs.Vector.{normalized}
use Rattle.vector.specs.declared.Weights.{Weights}
use Rattle.barycentric.specs.LeastWeight.{least_weight}
use Rattle.grid.specs.Grid.{Grid}
use Rattle.grid_query.specs.declared.LocatedTriangle.{LocatedTriangle}
use Rattle.grid_query.specs.Cell.{cell_of_query, candidates, triples_at, cell_rows}
use Rattle.grid_query.specs.Nearest.{nearest_of}
use Rattle.grid_query.specs.Locate.{kept_by, kept_of, triangle_rows, grid_locate}

-- The same refusal, or the same triangle with the same weights.
abbrev pub SameTriangle : Result LocatedTriangle Refusal → Result LocatedTriangle Refusal → Type 0
SameTriangle (Err reason) (Err reason') = reason ≡ reason'
SameTriangle (Err reason) (Ok located') = ⊥
SameTriangle (Ok located) (Err reason') = ⊥
SameTriangle (Ok located) (Ok located') = (located.triple ≡ located'.triple) × (located.weights ≡ located'.weights)

-- A rule for the least, at each place of a list, that differs from the least weight in the sign of a zero at most.
abbrev pub OpenAtZero : (ℕ → Weights → Float) → Type 0
OpenAtZero rule = (i : ℕ) (t : Weights) → SameButZeroSign (least_weight t) (rule i t)

-- On any list, by the least weight and by any such rule.
abbrev pub KeptWhicheverZero : Type 0
KeptWhicheverZero = (rule : ℕ → Weights → Float) → OpenAtZero rule → (positions : List Float) (direction : Vector3) (triples : List (List ℕ))
    → SameTriangle (ok_or (kept_of positions direction None triples) NoTriangle) (ok_or (kept_by rule positions direction None triples) NoTriangle)

-- A location with its leasts by a rule; `grid_locate` is that by the least weight.
unfoldable pub locate_by : (ℕ → Weights → Float) → Grid → List Float → Vector3 → Result LocatedTriangle Refusal
locate_by rule grid positions direction =
    let nearest = nearest_of positions (normalized direction) (candidates grid (cell_of_query grid direction)) in
    answer (cell_rows grid positions direction) Err
    (answer (triangle_rows grid positions nearest) Err (ok_or (kept_by rule positions (normalized direction) None (triples_at grid nearest)) NoTriangle))

-- The same of a whole location: any grid, positions and direction, accepted or refused.
abbrev pub LocatedWhicheverZero : Type 0
LocatedWhicheverZero = (rule : ℕ → Weights → Float) → OpenAtZero rule → (grid : Grid) (positions : List Float) (direction : Vector3)
    → SameTriangle (grid_locate grid positions direction) (locate_by rule grid positions direction)

-- ---- rules that are open at zero
-- "Rust leaves the sign of such a zero open": a minimum that differs from minimum_number there at most, and may choose anew for each triangle.
abbrev pub OpenMinimum : (ℕ → Float → Float → Float) → Type 0
OpenMinimum minimum = (i : ℕ) (x y : Float) → SameButZeroSign (minimum_number x y) (minimum i x y)

-- The least by one minimum of the first two weights and another of that and the third.
abbrev pub least_by : (ℕ → Float → Float → Float) → (ℕ → Float → Float → Float) → ℕ → Weights → Float
least_by first second i t = second i (first i t.u t.v) t.w

-- Document 01's own rule, which W-201 supersedes: "The least skips NaN, and the earlier of equals stays."
unfoldable pub earlier_of_equals : Float → Float → Float
unfolding is_nan lt
earlier_of_equals x y = cond (is_nan x) y (cond (lt y x) y x)

-- Every least of two such minima is a rule open at zero.
abbrev pub AnyMinimumIsOpen : Type 0
AnyMinimumIsOpen = (first second : ℕ → Float → Float → Float) → OpenMinimum first → OpenMinimum second → OpenAtZero (least_by first second)

-- So is the least by which the earlier of two equal weights stays.
abbrev pub EarlierIsOpen : Type 0
EarlierIsOpen = OpenAtZero (least_by (λ i. earlier_of_equals) (λ i. earlier_of_equals))
