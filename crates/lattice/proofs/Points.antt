-- Laws of the list of points: its members, and that it goes by faces and has no point twice. Assumes nothing.
use Rattle.std.proofs.Common.{◌≡◌, ℕ, suc, ◌-◌, ◌<◌, ◌≤◌, ◌≢◌, List, sym, refl, ap, arith}
use mathlib.Core.List.{Memᴰ}
use Rattle.sequences.specs.Tabulate.{tabulate}
use Rattle.sequences.specs.Starts.{concatenate}
use Rattle.sequences.specs.Ascending.{Pairwise}
use Rattle.sequences.proofs.Tabulate.{tabulate_member, member_tabulate}
use Rattle.sequences.proofs.Starts.{concatenate_member, member_concatenate}
use Rattle.sequences.proofs.Ascending.{pairwise_tabulate}
use Rattle.sequences.proofs.Relations.{pairwise_concatenate}
use Rattle.lattice.specs.Lattice.{LatticePoint, point_at, lattice_points}
use Rattle.lattice.specs.Appearances.{OnLattice}

-- a row of a face, and a face
abbrev pub row_points : ℕ → ℕ → ℕ → List LatticePoint
row_points n face a = tabulate (suc (n - a)) (λ b. point_at face a b)

abbrev pub face_points : ℕ → ℕ → List LatticePoint
face_points n face = concatenate (suc n) (row_points n face)

pub points_by_face : (n : ℕ) → lattice_points n ≡ concatenate 20 (face_points n)
unfolding lattice_points
points_by_face n = refl

-- ---- members
record InRow (n face a : ℕ) (p : LatticePoint) : Type 0 where
  is_face : p.face ≡ face
  is_a : p.a ≡ a
  b_within : p.b ≤ n - a

in_row : (n face a : ℕ) (p : LatticePoint) → Memᴰ p (row_points n face a) → InRow n face a p
in_row n face a p m =
    let r = tabulate_member (suc (n - a)) (λ b. point_at face a b) p m in
    record {
      is_face = sym (ap (λ (x : LatticePoint). x.face) r.2);
      is_a = sym (ap (λ (x : LatticePoint). x.a) r.2);
      b_within = let e : r.0 ≡ p.b = ap (λ (x : LatticePoint). x.b) r.2 in omega (arith, r.1);
    }

record InFace (n face : ℕ) (p : LatticePoint) : Type 0 where
  a_within : p.a ≤ n
  row : InRow n face p.a p

in_face : (n face : ℕ) (p : LatticePoint) → Memᴰ p (face_points n face) → InFace n face p
in_face n face p m =
    let r = concatenate_member (suc n) (row_points n face) p m in
    let s = in_row n face r.0 p r.2 in
    record { a_within = omega (arith, r.1, s.is_a); row = record { is_face = s.is_face; is_a = refl; b_within = rw s.is_a s.b_within } }

-- the points of the list are those of the lattice, and the other way round
pub point_on_lattice : (n : ℕ) (p : LatticePoint) → Memᴰ p (lattice_points n) → OnLattice n p
unfolding lattice_points
point_on_lattice n p m =
    let r = concatenate_member 20 (face_points n) p m in
    let s = in_face n r.0 p r.2 in
    record { face_below = omega (arith, r.1, s.row.is_face); weights_within = omega (arith, s.a_within, s.row.b_within) }

pub on_lattice_point : (n : ℕ) (p : LatticePoint) → OnLattice n p → Memᴰ p (lattice_points n)
unfolding lattice_points
on_lattice_point n p on =
    member_concatenate 20 (face_points n) p p.face on.face_below
    (member_concatenate (suc n) (row_points n p.face) p p.a (omega (arith, on.weights_within))
    (member_tabulate (suc (n - p.a)) (λ b. point_at p.face p.a b) p.b (omega (arith, on.weights_within))))

-- ---- order
-- q stands before p: on the same face or an earlier one, and not at the same point
pub record Precedes (q p : LatticePoint) : Type 0 where
  pub faces_ascend : q.face ≤ p.face
  pub points_differ : q ≢ p

-- each point stands before those that follow it
pub points_in_order : (n : ℕ) → Pairwise Precedes (lattice_points n)
unfolding lattice_points
points_in_order n = pairwise_concatenate Precedes 20 (face_points n) in_faces across_faces
  where
    in_rows : (face a : ℕ) → Pairwise Precedes (row_points n face a)
    in_rows face a =
        pairwise_tabulate Precedes (suc (n - a)) (λ b. point_at face a b)
        (λ i j lij lj.
        record { faces_ascend = omega arith; points_differ = λ e. let d : i ≡ j = ap (λ (x : LatticePoint). x.b) e in omega arith })

    across_rows : (face u v : ℕ) (x y : LatticePoint) → u < v → v < suc n → Memᴰ x (row_points n face u) → Memᴰ y (row_points n face v) → Precedes x y
    across_rows face u v x y luv lv mx my =
        let r = in_row n face u x mx in
        let s = in_row n face v y my in
        record {
          faces_ascend = omega (arith, r.is_face, s.is_face);
          points_differ = λ e. let d : x.a ≡ y.a = ap (λ (z : LatticePoint). z.a) e in omega (arith, r.is_a, s.is_a);
        }

    in_faces : (face : ℕ) → face < 20 → Pairwise Precedes (face_points n face)
    in_faces face lt = pairwise_concatenate Precedes (suc n) (row_points n face) (λ a la. in_rows face a) (across_rows face)

    across_faces : (u v : ℕ) (x y : LatticePoint) → u < v → v < 20 → Memᴰ x (face_points n u) → Memᴰ y (face_points n v) → Precedes x y
    across_faces u v x y luv lv mx my =
        let r = in_face n u x mx in
        let s = in_face n v y my in
        record {
          faces_ascend = omega (arith, r.row.is_face, s.row.is_face);
          points_differ = λ e. let d : x.face ≡ y.face = ap (λ (z : LatticePoint). z.face) e in omega (arith, r.row.is_face, s.row.is_face);
        }
