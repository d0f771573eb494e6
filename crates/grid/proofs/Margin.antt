-- What a margin makes of a grid. `margin_grows`: with a greater one a cell keeps its ids, and may get more. `cell_ids_room`: a vertex is in at most 3·(2·margin + 1)² cells, so that so many cell ids a vertex are room enough. Assumes nothing.
use Rattle.std.proofs.Common.{◌≡◌, ℕ, zero, suc, ◌+◌, ◌-◌, ◌*◌, ◌/◌, ◌%◌, ◌≤◌, true, false, ◌&&◌, leb, List, ℤ, pos, negsuc, refl, ap, ◌∙◌, mul-le-mul, zero-mul, arith, le-leb, leb-true}
use lib.Ieee.{Float, lt}
use Rattle.std.proofs.lemmas.Bool.{and_parts, and_from}
use Rattle.sequences.specs.Range.{sum_below}
use Rattle.sequences.specs.Starts.{start_of}
use Rattle.binary64.specs.Convert.{to_i64}
use Rattle.vector.specs.declared.Vector3.{Vector3}
use Rattle.mesh.specs.Mesh.{count, vertex_count, position_of}
use Rattle.mesh.specs.Rows.{greatest_count}
use Rattle.sequences.proofs.Ascending.{is_member_true, member_is_member}
use Rattle.grid.specs.declared.placement.Placement.{Placement}
use Rattle.binary64.specs.Constants.{positive_zero}
use Rattle.grid.specs.CubeFace.{face_projection}
use Rattle.grid.specs.Settings.{settings_with, greatest_margin}
use Rattle.grid.specs.Cells.{side_of, cell_count, across_cells, near, breadth, cells_of_vertex, placed_in}
use Rattle.grid.specs.Placing.{Placed}
use Rattle.grid.specs.Passes.{ids_during, ids_of_all}
use Rattle.grid.specs.Grid.{ids_in}
use Rattle.grid.specs.Bounds.{CellIdsAreBounded, WiderMarginKeepsIds}
use Rattle.grid.proofs.CubeFace.{three_faces}
use Rattle.grid.proofs.Placing.{some_placement}
use Rattle.grid.proofs.Passes.{total_none, total_face, area_few, total_vertex, total_all}
use Rattle.grid.proofs.Cells.{id_placed, placed_id}
use Rattle.grid.proofs.Builder.{cell_ids_total}

-- ---- a greater margin
near_grows : (margin wider c : ℕ) (z : ℤ) → margin ≤ wider → near margin z c ≡ true → near wider z c ≡ true
unfolding near
near_grows margin wider c (pos k) more h =
    let both = and_parts (leb k (c + margin)) (leb c (k + margin)) h in
    and_from _ _ (le-leb k (c + wider) (omega (arith, leb-true k (c + margin) both.0))) (le-leb c (k + wider) (omega (arith, leb-true c (k + margin) both.1)))
near_grows margin wider c (negsuc k) more h = le-leb (suc k + c) wider (omega (arith, leb-true (suc k + c) margin h))

placed_grows : (margin wider g cell : ℕ) (v : Vector3) → margin ≤ wider → placed_in margin g cell v ≡ true → placed_in wider g cell v ≡ true
unfolding placed_in
placed_grows margin wider g cell v more h =
    let p = face_projection (cell / (g * g)) v in
    let row = cell % (g * g) / g in
    let column = cell % g in
    let u = to_i64 (across_cells g p.u p.d) in
    let w = to_i64 (across_cells g p.w p.d) in
    let front = and_parts (lt positive_zero p.d) (near margin u row && near margin w column) h in
    let both = and_parts (near margin u row) (near margin w column) front.1 in
    and_from (lt positive_zero p.d) (near wider u row && near wider w column) front.0
    (and_from (near wider u row) (near wider w column) (near_grows margin wider row u more both.0) (near_grows margin wider column w more both.1))

pub margin_grows : WiderMarginKeepsIds
margin_grows m factor margin wider cell v more h =
    let placed = id_placed m (settings_with factor margin) cell v (is_member_true v (ids_in m (settings_with factor margin) cell) h) in
    member_is_member v (ids_in m (settings_with factor wider) cell) (placed_id m (settings_with factor wider) cell v placed.0 (placed_grows margin wider _ cell (position_of m.positions v) more placed.1))

-- ---- three faces
module _ (positions : List Float) (margin g v : ℕ) where
  abbrev place : (face : ℕ) → (p : Placement) × Placed margin g face (position_of positions v) p × (lt positive_zero (face_projection face (position_of positions v)).d ≡ false → p.rows.end ≡ p.rows.start)
  place face = some_placement margin g face (position_of positions v)

  -- the cells of the vertex on a face
  abbrev area : ℕ → ℕ
  area face = let p = (place face).0 in (p.rows.end - p.rows.start) * (p.columns.end - p.columns.start)

  area_most : (face : ℕ) → area face ≤ breadth margin * breadth margin
  area_most face = area_few positions margin g v face (place face).0 (place face).1

  area_none : (face : ℕ) → lt positive_zero (face_projection face (position_of positions v)).d ≡ false → area face ≡ 0
  area_none face behind =
      let p = (place face).0 in
      let rows : p.rows.end - p.rows.start ≡ 0 = omega (arith, (place face).2 behind) in
      ap (λ (k : ℕ). k * (p.columns.end - p.columns.start)) rows ∙ zero-mul (p.columns.end - p.columns.start)

  abbrev total : ℕ → ℕ
  total face = start_of (ids_during positions margin g v (face * (g * g))) (cell_count g)

  total_next : (face : ℕ) → face ≤ 5 → total face + area face ≡ total (face + 1)
  total_next face few = total_face positions margin g v face (total face) (place face).0 (place face).1 (omega arith) refl

  six_faces : total 6 ≤ total 0 + cells_of_vertex margin
  unfolding sum_below
  six_faces =
      omega (
        arith,
        total_next 0 (omega arith),
        total_next 1 (omega arith),
        total_next 2 (omega arith),
        total_next 3 (omega arith),
        total_next 4 (omega arith),
        total_next 5 (omega arith),
        three_faces (position_of positions v) area (breadth margin * breadth margin) area_most area_none,
      )

-- ---- all vertices
all_vertices : (positions : List Float) (margin g n : ℕ) → start_of (ids_during positions margin g n (0 * (g * g))) (cell_count g) ≤ n * cells_of_vertex margin
all_vertices positions margin g zero = omega (arith, total_none positions margin g)
all_vertices positions margin g (suc n) =
    let before = all_vertices positions margin g n in
    let six = six_faces positions margin g n in
    let next = total_vertex positions margin g n 6 _ (omega arith) refl in
    let e = ap (λ (k : ℕ). start_of (ids_during positions margin g k (0 * (g * g))) (cell_count g)) (let q : n + 1 ≡ suc n = omega arith in q) in
    omega arith

-- so many ids stand in the cells, at most
pub ids_most : (positions : List Float) (margin g : ℕ) → start_of (ids_of_all positions margin g) (cell_count g) ≤ vertex_count positions * cells_of_vertex margin
ids_most positions margin g =
    let n = vertex_count positions in
    omega (arith, all_vertices positions margin g n, total_all positions margin g n n 0 _ refl refl refl)

-- and where rows 2 and 20 let pass, few enough for a start
pub ids_countable : (positions : List Float) (margin g : ℕ) → vertex_count positions ≤ greatest_count → margin ≤ greatest_margin → start_of (ids_of_all positions margin g) (cell_count g) ≤ greatest_count * 147
ids_countable positions margin g few small =
    let broad : breadth margin ≤ 7 = omega arith in
    let cells : cells_of_vertex margin ≤ 147 = omega (arith, mul-le-mul broad broad) in
    omega (arith, ids_most positions margin g, mul-le-mul few cells)

pub cell_ids_room : CellIdsAreBounded
cell_ids_room m settings = omega (arith, cell_ids_total m settings, ids_most m.positions settings.margin (side_of settings.factor (count m)))
