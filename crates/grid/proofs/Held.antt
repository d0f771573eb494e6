-- Laws of the count of conversions held at an end: face by face and vertex by vertex; at most six a vertex, `held_most`; the same where a mesh is renumbered, `same_held`. Assumes nothing.
use Rattle.std.proofs.Common.{◌≡◌, ℕ, zero, suc, ◌+◌, ◌*◌, ◌≤◌, Bool, true, false, cond, List, sym, refl, ap, ◌∙◌, add-one, arith}
use lib.Ieee.{Float, lt}
use Rattle.sequences.specs.Range.{sum_below}
use Rattle.sequences.proofs.Range.{sum_extensional}
use Rattle.sequences.proofs.Permutation.{sum_bijection}
use Rattle.binary64.specs.declared.Conversion.{Conversion}
use Rattle.binary64.specs.declared.Conversion.TheVariants.{Kept, Cut, Held, NotANumber}
use Rattle.binary64.specs.declared.Converted.{Converted}
use Rattle.binary64.specs.Convert.{conversion_of, converted_of}
use Rattle.binary64.proofs.ConvertedSteps.{how_of}
use Rattle.vector.specs.declared.Vector3.{Vector3}
use Rattle.mesh.specs.Mesh.{Mesh, count, vertex_count, position_of}
use Rattle.mesh.proofs.Renumbered.{Renumbered}
use Rattle.grid.specs.declared.cube_face.Projected.{Projected}
use Rattle.binary64.specs.Constants.{positive_zero}
use Rattle.grid.specs.CubeFace.{face_projection}
use Rattle.grid.specs.Cells.{across_cells}
use Rattle.grid.specs.Held.{held_one, held_on, held_at, held_conversions}
use Rattle.grid.specs.Bounds.{HeldAreBounded}
use Rattle.grid.proofs.CubeFace.{three_faces}

-- ---- one vertex on one face
-- that it is in front of, by what its two conversions gave
pub held_front : (g face : ℕ) (v : Vector3) (p : Projected) (row column : Converted) (h k : ℕ) → p ≡ face_projection face v → lt positive_zero p.d ≡ true
    → row ≡ converted_of (across_cells g p.u p.d) → column ≡ converted_of (across_cells g p.w p.d) → h ≡ held_one row.how → k ≡ held_one column.how
    → h + k ≡ held_on g v face
unfolding held_on
held_front g face v p row column h k e front r c eh ek =
    (λ i. (eh ∙ ap held_one (how_of (across_cells g p.u p.d) row r)) i + (ek ∙ ap held_one (how_of (across_cells g p.w p.d) column c)) i)
    ∙ (λ i. cond (sym front i) (held_one (conversion_of (across_cells g p.u p.d)) + held_one (conversion_of (across_cells g p.w p.d))) 0)
    ∙ (λ i. let q = e i in cond (lt positive_zero q.d) (held_one (conversion_of (across_cells g q.u q.d)) + held_one (conversion_of (across_cells g q.w q.d))) 0)

-- that it is not in front of
pub held_behind : (g face : ℕ) (v : Vector3) → lt positive_zero (face_projection face v).d ≡ false → held_on g v face ≡ 0
unfolding held_on
held_behind g face v behind = rw behind refl

pub one_few : (how : Conversion) → held_one how ≤ 1
one_few Kept = omega arith
one_few Cut = omega arith
one_few Held = omega arith
one_few NotANumber = omega arith

pub held_few : (g : ℕ) (v : Vector3) (face : ℕ) → held_on g v face ≤ 2
unfolding held_on
held_few g v face = go (lt positive_zero p.d)
  where
    p : Projected
    p = face_projection face v

    go : (front : Bool) → cond front (held_one (conversion_of (across_cells g p.u p.d)) + held_one (conversion_of (across_cells g p.w p.d))) 0 ≤ 2
    go true = omega (arith, one_few (conversion_of (across_cells g p.u p.d)), one_few (conversion_of (across_cells g p.w p.d)))
    go false = omega arith

-- ---- the count so far: the vertices below v are done, and of v the faces below `face`
abbrev pub held_so_far : List Float → ℕ → ℕ → ℕ → ℕ
held_so_far positions g v face = sum_below (held_at positions g) v + sum_below (held_on g (position_of positions v)) face

pub held_none : (positions : List Float) (g : ℕ) → 0 ≡ held_so_far positions g 0 0
unfolding sum_below
held_none positions g = refl

pub held_face : (positions : List Float) (g v face total more : ℕ) → more ≡ held_on g (position_of positions v) face → total ≡ held_so_far positions g v face → total + more ≡ held_so_far positions g v (face + 1)
unfolding sum_below
held_face positions g v face total more e h = rw add-one (omega arith)

pub held_vertex : (positions : List Float) (g v face total : ℕ) → face ≡ 6 → total ≡ held_so_far positions g v face → total ≡ held_so_far positions g (v + 1) 0
unfolding sum_below held_at
held_vertex positions g v face total e h =
    h ∙ ap (held_so_far positions g v) e ∙ (let z : held_so_far positions g v 6 ≡ sum_below (held_at positions g) (suc v) + 0 = omega arith in z) ∙ ap (λ (k : ℕ). sum_below (held_at positions g) k + 0) (let y : suc v ≡ v + 1 = omega arith in y)

pub held_all : (positions : List Float) (g v face total : ℕ) → face ≡ 0 → v ≡ vertex_count positions → total ≡ held_so_far positions g v face → total ≡ held_conversions positions g
unfolding sum_below held_conversions
held_all positions g v face total z e h =
    h ∙ ap (held_so_far positions g v) z ∙ (let y : held_so_far positions g v 0 ≡ sum_below (held_at positions g) v = omega arith in y) ∙ ap (sum_below (held_at positions g)) e

-- ---- at most six a vertex: two conversions on each of three faces
at_most_six : (positions : List Float) (g v : ℕ) → held_at positions g v ≤ 6
unfolding held_at
at_most_six positions g v = three_faces (position_of positions v) (held_on g (position_of positions v)) 2 (held_few g (position_of positions v)) (λ face behind. held_behind g face (position_of positions v) behind)

vertices_most : (positions : List Float) (g n : ℕ) → sum_below (held_at positions g) n ≤ n * 6
unfolding sum_below
vertices_most positions g zero = omega arith
vertices_most positions g (suc n) = omega (arith, vertices_most positions g n, at_most_six positions g n)

faces_most : (g : ℕ) (v : Vector3) (face : ℕ) → sum_below (held_on g v) face ≤ face * 2
unfolding sum_below
faces_most g v zero = omega arith
faces_most g v (suc face) = omega (arith, faces_most g v face, held_few g v face)

pub so_far_most : (positions : List Float) (g v face : ℕ) → held_so_far positions g v face ≤ v * 6 + face * 2
so_far_most positions g v face = omega (arith, vertices_most positions g v, faces_most g (position_of positions v) face)

pub held_most : HeldAreBounded
unfolding held_conversions
held_most positions g = vertices_most positions g (vertex_count positions)

-- ---- the same for a mesh renumbered
pub same_held : {m m₁ : Mesh} {p b : ℕ → ℕ} → Renumbered m m₁ p b → (g : ℕ) → held_conversions m₁.positions g ≡ held_conversions m.positions g
unfolding held_conversions held_at
same_held {m} {m₁} {p} r g =
    ap (sum_below (held_at m₁.positions g)) r.same_count ∙ sym (sum_bijection (held_at m₁.positions g) r.bijection)
    ∙ sum_extensional (λ v. held_at m₁.positions g (p v)) (held_at m.positions g) (count m) (λ v lt. ap (λ (x : Vector3). sum_below (held_on g x) 6) (r.positions v lt))
