-- Laws of shared points, by the tables that a program looks up: on which faces a corner, an edge or an inside stands, and where it is new. Assumes nothing.
use Rattle.std.proofs.Common.{◌≡◌, ℕ, zero, suc, ◌+◌, ◌-◌, ◌/◌, ◌%◌, ◌<◌, ◌≤◌, Bool, true, false, cond, not, ◌&&◌, ◌||◌, eqb, ltb, leb, ◌≢◌, ◌⊎◌, sym, refl, ◌∙◌, inl, inr, arith, ltb-true, le-ltb, lt-ltb, eqb-true, leb-true}
use borrow.Author.Tests.{eqb-false, not-true}
use Rattle.std.proofs.lemmas.Bool.{and_parts, or_cases, both_ways}
use Rattle.sequences.specs.Range.{all_below, some_below}
use Rattle.sequences.proofs.Range.{all_below_at}
use Rattle.icosahedron.specs.Icosahedron.{face_corner}
use Rattle.lattice.specs.Lattice.{LatticePoint, id_of}
use Rattle.lattice.specs.Appearances.{has_corner, has_counted, has_corners, by_support, lies_on, is_new, is_first_appearance}
use Rattle.lattice.specs.Shared.{next_place, corner_at, edge_at, first_corner, other_edge}
use Rattle.lattice.proofs.Keys.{SameWeights}
use Rattle.lattice.proofs.PointKinds.{interior_support, corner_same_weights, against, edge_same_weights}
use Rattle.lattice.proofs.Vertices.{id_same}

-- ---- a test by the support, at a corner and on an edge
at_corner : (ℕ → Bool → Bool → Bool → Bool) → ℕ → ℕ → Bool
at_corner test zero f = test f true false false
at_corner test (suc zero) f = test f false true false
at_corner test (suc (suc s)) f = test f false false true

corner_support : (test : ℕ → Bool → Bool → Bool → Bool) (n f s : ℕ) → 1 ≤ n → by_support test n (corner_at n f s) ≡ at_corner test s f
unfolding corner_at at_corner
corner_support test n f zero le = rw (lt-ltb 0 n le, le-ltb 0 0 (omega arith), le-ltb 0 (n - n - 0) (omega arith)) refl
corner_support test n f (suc zero) le = rw (lt-ltb 0 n le, le-ltb 0 0 (omega arith), le-ltb 0 (n - 0 - n) (omega arith)) refl
corner_support test n f (suc (suc s)) le = rw (le-ltb 0 0 (omega arith), lt-ltb 0 (n - 0 - 0) (omega arith)) refl

on_edge : (ℕ → Bool → Bool → Bool → Bool) → ℕ → ℕ → Bool
on_edge test zero f = test f false true true
on_edge test (suc zero) f = test f true false true
on_edge test (suc (suc s)) f = test f true true false

edge_support : (test : ℕ → Bool → Bool → Bool → Bool) (n f s w : ℕ) → 0 < w → w < n → by_support test n (edge_at n f s w) ≡ on_edge test s f
unfolding edge_at on_edge
edge_support test n f zero w pos lt = rw (le-ltb 0 0 (omega arith), lt-ltb 0 w pos, lt-ltb 0 (n - 0 - w) (omega arith)) refl
edge_support test n f (suc zero) w pos lt = rw (le-ltb 0 0 (omega arith), lt-ltb 0 (n - w) (omega arith), lt-ltb 0 (n - (n - w) - 0) (omega arith)) refl
edge_support test n f (suc (suc s)) w pos lt = rw (lt-ltb 0 w pos, lt-ltb 0 (n - w) (omega arith), le-ltb 0 (n - w - (n - w)) (omega arith)) refl

-- ---- computed tests of the twenty faces, for each place
at_place : (test : ℕ → ℕ → Bool) → all_below (test 0) 20 && (all_below (test 1) 20 && all_below (test 2) 20) ≡ true → (s f : ℕ) → s < 3 → f < 20 → test s f ≡ true
at_place test h zero f sb fb = all_below_at (test 0) 20 f (and_parts (all_below (test 0) 20) _ h).0 fb
at_place test h (suc zero) f sb fb = all_below_at (test 1) 20 f (and_parts (all_below (test 1) 20) _ (and_parts (all_below (test 0) 20) _ h).1).0 fb
at_place test h (suc (suc zero)) f sb fb = all_below_at (test 2) 20 f (and_parts (all_below (test 1) 20) _ (and_parts (all_below (test 0) 20) _ h).1).1 fb
at_place test h (suc (suc (suc s))) f sb fb = absurd (let z : ⊥ = omega arith in z)

-- two tests agree
same_truth : (a b : Bool) → cond a b (not b) ≡ true → a ≡ b
same_truth true b h = sym h
same_truth false true h = absurd (both_ways false refl h)
same_truth false false h = refl

-- ---- inside a face: new
inside_tests : all_below (λ f. is_new f true true true) 20 ≡ true
unfolding all_below is_new some_below has_corners has_counted has_corner face_corner
inside_tests = refl

-- a point inside a face lies on no other
pub interior_first : (n : ℕ) (p : LatticePoint) → p.face < 20 → 0 < p.a → 0 < p.b → p.a + p.b < n → is_first_appearance n p ≡ true
unfolding is_first_appearance
interior_first n p below a b c = interior_support is_new n p a b c ∙ all_below_at (λ f. is_new f true true true) 20 p.face inside_tests below

-- ---- corners: each in five faces
-- ---- corners: the first face that has one
corner_test : ℕ → ℕ → Bool
corner_test s f =
    leb (first_corner f s / 3) f
    && (eqb (face_corner (first_corner f s / 3) (first_corner f s % 3)) (face_corner f s)
    && cond (at_corner is_new s f) (eqb (first_corner f s / 3) f) (not (eqb (first_corner f s / 3) f)))

corner_tests : all_below (corner_test 0) 20 && (all_below (corner_test 1) 20 && all_below (corner_test 2) 20) ≡ true
unfolding all_below corner_test at_corner first_corner is_new some_below has_corners has_counted has_corner face_corner
corner_tests = refl

pub record FirstCornerFace (f s : ℕ) : Type 0 where
  pub face_at_most : first_corner f s / 3 ≤ f
  pub same_corner : face_corner (first_corner f s / 3) (first_corner f s % 3) ≡ face_corner f s
  -- a corner is new exactly where its entry names the face itself
  pub new_where_first : (n : ℕ) → 1 ≤ n → is_first_appearance n (corner_at n f s) ≡ eqb (first_corner f s / 3) f

-- the table of first corners holds what it says
pub corner_first_face : (f s : ℕ) → f < 20 → s < 3 → FirstCornerFace f s
unfolding corner_test is_first_appearance
corner_first_face f s fb sb =
    let h : corner_test s f ≡ true = at_place corner_test corner_tests s f sb fb in
    let r = and_parts (leb (first_corner f s / 3) f) _ h in
    let t = and_parts (eqb (face_corner (first_corner f s / 3) (first_corner f s % 3)) (face_corner f s)) _ r.1 in
    record {
      face_at_most = leb-true _ _ r.0;
      same_corner = eqb-true _ _ t.0;
      new_where_first = λ n le. corner_support is_new n f s le ∙ same_truth (at_corner is_new s f) (eqb (first_corner f s / 3) f) t.1;
    }

-- the id that the corner has on that face
pub corner_id : (n f s : ℕ) → 1 ≤ n → f < 20 → s < 3 → id_of n (corner_at n f s) ≡ id_of n (corner_at n (first_corner f s / 3) (first_corner f s % 3))
corner_id n f s le fb sb =
    let r = corner_first_face f s fb sb in
    id_same n _ _ (corner_same_weights n f s (first_corner f s / 3) (first_corner f s % 3) le fb (omega (arith, r.face_at_most)) sb (omega arith) (sym r.same_corner))

-- ---- edges: the other face that has one
edge_tabled : ℕ → ℕ → Bool
edge_tabled s f =
    (ltb (other_edge f s / 3) 20 && not (eqb (other_edge f s / 3) f))
    && (eqb (face_corner (other_edge f s / 3) (next_place (other_edge f s % 3))) (face_corner f (next_place (next_place s)))
    && eqb (face_corner (other_edge f s / 3) (next_place (next_place (other_edge f s % 3)))) (face_corner f (next_place s)))

-- no third face has the edge
edge_alone : ℕ → ℕ → ℕ → Bool
edge_alone s f g = not (on_edge (has_corners g) s f) || (eqb g f || eqb g (other_edge f s / 3))

edge_test : ℕ → ℕ → Bool
edge_test s f =
    edge_tabled s f && (all_below (edge_alone s f) 20 && cond (on_edge is_new s f) (ltb f (other_edge f s / 3)) (not (ltb f (other_edge f s / 3))))

edge_tests : all_below (edge_test 0) 20 && (all_below (edge_test 1) 20 && all_below (edge_test 2) 20) ≡ true
unfolding all_below edge_test edge_tabled edge_alone on_edge next_place other_edge is_new some_below has_corners has_counted has_corner face_corner
edge_tests = refl

pub record OtherEdgeFace (f s : ℕ) : Type 0 where
  pub face_below : other_edge f s / 3 < 20
  pub face_differs : other_edge f s / 3 ≢ f
  -- it runs along the edge in the opposite direction
  pub next_corner : face_corner (other_edge f s / 3) (next_place (other_edge f s % 3)) ≡ face_corner f (next_place (next_place s))
  pub other_corner : face_corner (other_edge f s / 3) (next_place (next_place (other_edge f s % 3))) ≡ face_corner f (next_place s)
  -- a point between the ends lies on these two faces alone, and is new exactly where the other face comes later
  pub no_third : (n w g : ℕ) → 0 < w → w < n → g < 20 → lies_on n g (edge_at n f s w) ≡ true → (g ≡ f) ⊎ (g ≡ other_edge f s / 3)
  pub new_where_first : (n w : ℕ) → 0 < w → w < n → is_first_appearance n (edge_at n f s w) ≡ ltb f (other_edge f s / 3)

edge_no_third : (f s n w g : ℕ) → all_below (edge_alone s f) 20 ≡ true → 0 < w → w < n → g < 20 → lies_on n g (edge_at n f s w) ≡ true → (g ≡ f) ⊎ (g ≡ other_edge f s / 3)
unfolding edge_alone lies_on
edge_no_third f s n w g alone pos lt gb h = go (or_cases (eqb g f) (eqb g (other_edge f s / 3)) (rw (sym (edge_support (has_corners g) n f s w pos lt) ∙ h) at tested))
  where
    tested : not (on_edge (has_corners g) s f) || (eqb g f || eqb g (other_edge f s / 3)) ≡ true
    tested = all_below_at (edge_alone s f) 20 g alone gb

    go : (eqb g f ≡ true) ⊎ (eqb g (other_edge f s / 3) ≡ true) → (g ≡ f) ⊎ (g ≡ other_edge f s / 3)
    go (inl e) = inl (eqb-true _ _ e)
    go (inr e) = inr (eqb-true _ _ e)

-- the table of edges holds what it says
pub edge_other_face : (f s : ℕ) → f < 20 → s < 3 → OtherEdgeFace f s
unfolding edge_test edge_tabled is_first_appearance
edge_other_face f s fb sb =
    let h : edge_test s f ≡ true = at_place edge_test edge_tests s f sb fb in
    let r = and_parts (edge_tabled s f) _ h in
    let t = and_parts (all_below (edge_alone s f) 20) _ r.1 in
    let u = and_parts (ltb (other_edge f s / 3) 20 && not (eqb (other_edge f s / 3) f)) _ r.0 in
    let v = and_parts (ltb (other_edge f s / 3) 20) _ u.0 in
    let w = and_parts (eqb (face_corner (other_edge f s / 3) (next_place (other_edge f s % 3))) (face_corner f (next_place (next_place s)))) _ u.1 in
    record {
      face_below = ltb-true _ _ v.0;
      face_differs = eqb-false _ _ (not-true _ v.1);
      next_corner = eqb-true _ _ w.0;
      other_corner = eqb-true _ _ w.1;
      no_third = λ n w g. edge_no_third f s n w g t.0;
      new_where_first = λ n w pos lt. edge_support is_new n f s w pos lt ∙ same_truth (on_edge is_new s f) (ltb f (other_edge f s / 3)) t.1;
    }

-- the same vertex on the other face, where the two weights stand the other way round
pub edge_other_weights : (n f s w : ℕ) → f < 20 → s < 3 → w ≤ n → SameWeights n (edge_at n f s w) (edge_at n (other_edge f s / 3) (other_edge f s % 3) (n - w))
edge_other_weights n f s w fb sb le =
    let r = edge_other_face f s fb sb in
    edge_same_weights n f s w (other_edge f s / 3) (other_edge f s % 3) (n - w) fb r.face_below le (omega arith)
    (against (sym r.other_corner) (sym r.next_corner) (omega arith))

-- so it has the id that the point has there
pub edge_id : (n f s w : ℕ) → f < 20 → s < 3 → w ≤ n → id_of n (edge_at n f s w) ≡ id_of n (edge_at n (other_edge f s / 3) (other_edge f s % 3) (n - w))
edge_id n f s w fb sb le = id_same n _ _ (edge_other_weights n f s w fb sb le)
