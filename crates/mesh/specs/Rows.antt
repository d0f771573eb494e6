-- Rows 2 to 5, with 17 and 18: what each asks of a mesh, and the chains that operations begin with. Definitions only.
use Rattle.std.specs.Prelude.{ℕ, suc, ◌-◌, ◌%◌, Bool, ◌&&◌, cond, List, leb, ltb, eqb, length, get_or, Float, Option, Some, None, Result, Ok, Err}
use Rattle.sequences.specs.Range.{all_below, first_failing}
use Rattle.refusal.specs.declared.Refusal.{Refusal}
use Rattle.refusal.specs.declared.Refusal.TheVariants.{Count, Starts, Id, Position, StartsSpan, StartsFall}
use Rattle.refusal.specs.Refusal.{Verdict, row, then, answer}
use Rattle.vector.specs.Direction.{admissible}
use Rattle.mesh.specs.Mesh.{Mesh, vertex_count, count, position_of}

-- The greatest count of vertices, and the length of the longest neighbour list.
abbrev pub greatest_count : ℕ
greatest_count = 65536

abbrev pub longest_list : ℕ
longest_list = 32

-- Row 2 refuses no vertex, over 65,536, and positions that are not three a vertex.
unfoldable pub positions_fit : List Float → Bool
positions_fit positions = eqb (length positions % 3) 0 && (leb 1 (vertex_count positions) && leb (vertex_count positions) greatest_count)

-- ---- rows of the neighbour lists, over a count of vertices, starts and entries
-- Row 3 refuses starts of a wrong length, before rows 17 and 18, and a list over 32, behind them. The length:
unfoldable pub starts_counted : ℕ → List ℕ → Bool
starts_counted n starts = eqb (length starts) (suc n)

-- Row 17 refuses starts that don't begin at 0, or whose last isn't the entry count.
unfoldable pub starts_span : ℕ → List ℕ → List ℕ → Bool
starts_span n starts entries = eqb (get_or starts 0 0) 0 && eqb (get_or starts n 0) (length entries)

-- The start behind the one at v is not below it; the same is asked of a list's entries where it ascends.
abbrev pub not_falling : List ℕ → ℕ → Bool
not_falling starts v = leb (get_or starts v 0) (get_or starts (suc v) 0)

-- Row 18 refuses starts that fall.
unfoldable pub starts_ascend : ℕ → List ℕ → Bool
starts_ascend n starts = all_below (not_falling starts) n

-- It carries the index of the first start below the one before it, counted from 0.
unfoldable pub falling_start : List ℕ → Option ℕ
falling_start starts =
    let pairs = length starts - 1 in
    cond (all_below (not_falling starts) pairs) None (Some (suc (first_failing (not_falling starts) pairs)))

abbrev pub fall_row : Option ℕ → Verdict → Verdict
fall_row None next = next
fall_row (Some index) next = Err (StartsFall index)

-- Row 3 again: no list is over 32.
unfoldable pub lists_limited : ℕ → List ℕ → Bool
lists_limited n starts = all_below (λ v. leb (get_or starts (suc v) 0 - get_or starts v 0) longest_list) n

-- Row 4 refuses an id that is not below the count.
unfoldable pub ids_below : ℕ → List ℕ → Bool
ids_below n ids = all_below (λ i. ltb (get_or ids i 0) n) (length ids)

-- Rows 3 and 4 of the lists of n vertices, 17 and 18 among them. They ask nothing of positions.
unfoldable pub list_rows : ℕ → List ℕ → List ℕ → Verdict
list_rows n starts entries =
    row (starts_counted n starts) Starts
    (row (starts_span n starts entries) StartsSpan
    (fall_row (falling_start starts)
    (row (lists_limited n starts) Starts
    (row (ids_below n entries) Id (Ok tt)))))

-- ---- rows of a mesh
-- Row 5 refuses a position with a component that is not finite, or with a computed squared length that is not from 2^−40 to 2^40.
unfoldable pub positions_admissible : List Float → Bool
positions_admissible positions = all_below (λ v. admissible (position_of positions v)) (vertex_count positions)

-- Rows 2 to 4, with which the walk, the renumbering and the reading call begin.
unfoldable pub adjacency_rows : Mesh → Verdict
adjacency_rows m = row (positions_fit m.positions) Count (list_rows (count m) m.starts m.entries)

-- The builder's mesh rows, 2 to 5.
unfoldable pub mesh_rows : Mesh → Verdict
mesh_rows m = then (adjacency_rows m) (row (positions_admissible m.positions) Position (Ok tt))

-- A mesh that rows 2 to 4 let pass, as a value that is checked once.
unfoldable pub checked_mesh : Mesh → Result Mesh Refusal
checked_mesh m = answer (adjacency_rows m) Err (Ok m)
