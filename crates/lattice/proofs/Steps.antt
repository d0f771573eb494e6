-- Laws of the six steps by their numbers: where each leads, and that they are all. Assumes nothing.
use Rattle.std.proofs.Common.{◌≡◌, ℕ, zero, suc, ◌+◌, ◌-◌, ◌<◌, ◌≤◌, ◌≢◌, ◌⊎◌, [], ◌∷◌, get_or, sym, refl, ap, ◌∙◌, inl, inr, arith, eq-eqb, ne_eqb}
use Rattle.std.proofs.lemmas.Bool.{cases_eq}
use Rattle.lattice.specs.Lattice.{LatticePoint, point_at}
use Rattle.lattice.specs.Appearances.{OnLattice}
use Rattle.lattice.specs.declared.face_points.Step as Program
use Rattle.lattice.specs.declared.face_points.Step.TheVariants.{FirstToThird, FirstToSecond, SecondToThird, SecondToFirst, ThirdToSecond, ThirdToFirst}
use Rattle.lattice.specs.Naming.{place_of, step_from, number_of_step}
use Rattle.lattice.proofs.Neighbours.{Step, b_to_a, c_to_a, c_to_b, a_to_b, a_to_c, b_to_c}
use Rattle.lattice.proofs.Order.{point_number}
use Rattle.lattice.proofs.Naming.{point_at_place}

-- ---- each step by the test that a program makes
module _ (n : ℕ) (p : LatticePoint) where
  pub stays_first : (step : ℕ) → step < 2 → p.a ≡ 0 → p ≡ step_from n p step
  unfolding step_from
  stays_first zero lt e = rw (eq-eqb p.a 0 e) refl
  stays_first (suc zero) lt e = rw (eq-eqb p.a 0 e) refl
  stays_first (suc (suc step)) lt e = absurd (let z : ⊥ = omega arith in z)

  pub stays_second : (step : ℕ) → 2 ≤ step → step < 4 → p.b ≡ 0 → p ≡ step_from n p step
  unfolding step_from
  stays_second zero le lt e = absurd (let z : ⊥ = omega arith in z)
  stays_second (suc zero) le lt e = absurd (let z : ⊥ = omega arith in z)
  stays_second (suc (suc zero)) le lt e = rw (eq-eqb p.b 0 e) refl
  stays_second (suc (suc (suc zero))) le lt e = rw (eq-eqb p.b 0 e) refl
  stays_second (suc (suc (suc (suc step)))) le lt e = absurd (let z : ⊥ = omega arith in z)

  pub stays_third : (step : ℕ) → 4 ≤ step → p.a + p.b ≡ n → p ≡ step_from n p step
  unfolding step_from
  stays_third zero le e = absurd (let z : ⊥ = omega arith in z)
  stays_third (suc zero) le e = absurd (let z : ⊥ = omega arith in z)
  stays_third (suc (suc zero)) le e = absurd (let z : ⊥ = omega arith in z)
  stays_third (suc (suc (suc zero))) le e = absurd (let z : ⊥ = omega arith in z)
  stays_third (suc (suc (suc (suc zero)))) le e = rw (eq-eqb (p.a + p.b) n e) refl
  stays_third (suc (suc (suc (suc (suc step))))) le e = rw (eq-eqb (p.a + p.b) n e) refl

  pub step_first_third : (step : ℕ) → step ≡ 0 → p.a ≢ 0 → point_at p.face (p.a - 1) p.b ≡ step_from n p step
  unfolding step_from
  step_first_third step e d = rw (e, ne_eqb p.a 0 d) refl

  pub step_first_second : (step : ℕ) → step ≡ 1 → p.a ≢ 0 → point_at p.face (p.a - 1) (p.b + 1) ≡ step_from n p step
  unfolding step_from
  step_first_second step e d = rw (e, ne_eqb p.a 0 d) refl

  pub step_second_third : (step : ℕ) → step ≡ 2 → p.b ≢ 0 → point_at p.face p.a (p.b - 1) ≡ step_from n p step
  unfolding step_from
  step_second_third step e d = rw (e, ne_eqb p.b 0 d) refl

  pub step_second_first : (step : ℕ) → step ≡ 3 → p.b ≢ 0 → point_at p.face (p.a + 1) (p.b - 1) ≡ step_from n p step
  unfolding step_from
  step_second_first step e d = rw (e, ne_eqb p.b 0 d) refl

  pub step_third_second : (step : ℕ) → step ≡ 4 → p.a + p.b ≢ n → point_at p.face p.a (p.b + 1) ≡ step_from n p step
  unfolding step_from
  step_third_second step e d = rw (e, ne_eqb (p.a + p.b) n d) refl

  pub step_third_first : (step : ℕ) → 4 ≤ step → step ≢ 4 → p.a + p.b ≢ n → point_at p.face (p.a + 1) p.b ≡ step_from n p step
  unfolding step_from
  step_third_first zero le ne d = absurd (let z : ⊥ = omega arith in z)
  step_third_first (suc zero) le ne d = absurd (let z : ⊥ = omega arith in z)
  step_third_first (suc (suc zero)) le ne d = absurd (let z : ⊥ = omega arith in z)
  step_third_first (suc (suc (suc zero))) le ne d = absurd (let z : ⊥ = omega arith in z)
  step_third_first (suc (suc (suc (suc zero)))) le ne d = absurd (ne refl)
  step_third_first (suc (suc (suc (suc (suc step))))) le ne d = rw (ne_eqb (p.a + p.b) n d) refl

-- ---- a step that leaves its point leads to a neighbouring point of the lattice
pub record SteppedTo (n : ℕ) (p q : LatticePoint) : Type 0 where
  pub same_face : q.face ≡ p.face
  pub on_lattice : OnLattice n q
  pub is_step_lem : Step p.a p.b q.a q.b

pub record StepOrStay (n : ℕ) (p q : LatticePoint) : Type 0 where
  pub on_lattice : OnLattice n q
  pub unless_same : q ≢ p → SteppedTo n p q

module _ (n : ℕ) (p : LatticePoint) (on : OnLattice n p) where
  stay : (q : LatticePoint) → q ≡ p → StepOrStay n p q
  stay q e = record { on_lattice = rw e on; unless_same = λ d. absurd (d e) }

  move : (a b : ℕ) → a + b ≤ n → Step p.a p.b a b → StepOrStay n p (point_at p.face a b)
  move a b le s =
      let q : OnLattice n (point_at p.face a b) = record { face_below = on.face_below; weights_within = le } in
      record { on_lattice = q; unless_same = λ d. record { same_face = refl; on_lattice = q; is_step_lem = s } }

  pub step_or_stay : (step : ℕ) → StepOrStay n p (step_from n p step)
  step_or_stay zero = go (cases_eq p.a 0)
    where
      go : (p.a ≡ 0) ⊎ (p.a ≢ 0) → StepOrStay n p (step_from n p 0)
      go (inl e) = stay _ (sym (stays_first n p 0 (omega arith) e))
      go (inr d) = rw (← step_first_third n p 0 refl d) (move (p.a - 1) p.b (omega (arith, on.weights_within)) (a_to_c (omega arith) refl))
  step_or_stay (suc zero) = go (cases_eq p.a 0)
    where
      go : (p.a ≡ 0) ⊎ (p.a ≢ 0) → StepOrStay n p (step_from n p 1)
      go (inl e) = stay _ (sym (stays_first n p 1 (omega arith) e))
      go (inr d) = rw (← step_first_second n p 1 refl d) (move (p.a - 1) (p.b + 1) (omega (arith, on.weights_within)) (a_to_b (omega arith) (omega arith)))
  step_or_stay (suc (suc zero)) = go (cases_eq p.b 0)
    where
      go : (p.b ≡ 0) ⊎ (p.b ≢ 0) → StepOrStay n p (step_from n p 2)
      go (inl e) = stay _ (sym (stays_second n p 2 (omega arith) (omega arith) e))
      go (inr d) = rw (← step_second_third n p 2 refl d) (move p.a (p.b - 1) (omega (arith, on.weights_within)) (b_to_c refl (omega arith)))
  step_or_stay (suc (suc (suc zero))) = go (cases_eq p.b 0)
    where
      go : (p.b ≡ 0) ⊎ (p.b ≢ 0) → StepOrStay n p (step_from n p 3)
      go (inl e) = stay _ (sym (stays_second n p 3 (omega arith) (omega arith) e))
      go (inr d) = rw (← step_second_first n p 3 refl d) (move (p.a + 1) (p.b - 1) (omega (arith, on.weights_within)) (b_to_a (omega arith) (omega arith)))
  step_or_stay (suc (suc (suc (suc zero)))) = go (cases_eq (p.a + p.b) n)
    where
      go : (p.a + p.b ≡ n) ⊎ (p.a + p.b ≢ n) → StepOrStay n p (step_from n p 4)
      go (inl e) = stay _ (sym (stays_third n p 4 (omega arith) e))
      go (inr d) = rw (← step_third_second n p 4 refl d) (move p.a (p.b + 1) (omega (arith, on.weights_within)) (c_to_b refl (omega arith)))
  step_or_stay (suc (suc (suc (suc (suc step))))) = go (cases_eq (p.a + p.b) n)
    where
      go : (p.a + p.b ≡ n) ⊎ (p.a + p.b ≢ n) → StepOrStay n p (step_from n p (suc (suc (suc (suc (suc step))))))
      go (inl e) = stay _ (sym (stays_third n p (suc (suc (suc (suc (suc step))))) (omega arith) e))
      go (inr d) = rw (← step_third_first n p (suc (suc (suc (suc (suc step))))) (omega arith) (λ z. let y : ⊥ = omega arith in y) d) (move (p.a + 1) p.b (omega (arith, on.weights_within)) (c_to_a (omega arith) refl))

-- each step has its number
pub record StepNumber (n face a b a₁ b₁ : ℕ) : Type 0 where
  pub number : ℕ
  pub below : number < 6
  pub leads : step_from n (point_at face a b) number ≡ point_at face a₁ b₁
  pub leaves : point_at face a₁ b₁ ≢ point_at face a b

point_same : (face : ℕ) {a b a₁ b₁ : ℕ} → a ≡ a₁ → b ≡ b₁ → point_at face a b ≡ point_at face a₁ b₁
point_same face e d = rw (e, d) refl

module _ (n face a b a₁ b₁ : ℕ) (to-within : a₁ + b₁ ≤ n) where
  a_differs : a₁ ≢ a → point_at face a₁ b₁ ≢ point_at face a b
  a_differs d e = d (ap (λ (p : LatticePoint). p.a) e)

  b_differs : b₁ ≢ b → point_at face a₁ b₁ ≢ point_at face a b
  b_differs d e = d (ap (λ (p : LatticePoint). p.b) e)

  pub step_number : Step a b a₁ b₁ → StepNumber n face a b a₁ b₁
  step_number (b_to_a e d) = record { number = 3; below = omega arith; leads = sym (step_second_first n (point_at face a b) 3 refl (λ z. let y : ⊥ = omega arith in y)) ∙ point_same face (omega arith) (omega arith); leaves = a_differs (λ z. let y : ⊥ = omega arith in y) }
  step_number (c_to_a e d) = record { number = 5; below = omega arith; leads = sym (step_third_first n (point_at face a b) 5 (omega arith) (λ z. let y : ⊥ = omega arith in y) (λ z. let y : ⊥ = omega arith in y)) ∙ point_same face (omega arith) (omega arith); leaves = a_differs (λ z. let y : ⊥ = omega arith in y) }
  step_number (c_to_b e d) = record { number = 4; below = omega arith; leads = sym (step_third_second n (point_at face a b) 4 refl (λ z. let y : ⊥ = omega arith in y)) ∙ point_same face (omega arith) (omega arith); leaves = b_differs (λ z. let y : ⊥ = omega arith in y) }
  step_number (a_to_b e d) = record { number = 1; below = omega arith; leads = sym (step_first_second n (point_at face a b) 1 refl (λ z. let y : ⊥ = omega arith in y)) ∙ point_same face (omega arith) (omega arith); leaves = a_differs (λ z. let y : ⊥ = omega arith in y) }
  step_number (a_to_c e d) = record { number = 0; below = omega arith; leads = sym (step_first_third n (point_at face a b) 0 refl (λ z. let y : ⊥ = omega arith in y)) ∙ point_same face (omega arith) (omega arith); leaves = a_differs (λ z. let y : ⊥ = omega arith in y) }
  step_number (b_to_c e d) = record { number = 2; below = omega arith; leads = sym (step_second_third n (point_at face a b) 2 refl (λ z. let y : ⊥ = omega arith in y)) ∙ point_same face (omega arith) (omega arith); leaves = b_differs (λ z. let y : ⊥ = omega arith in y) }

-- different points have different places
pub places_differ : (n : ℕ) (q p : LatticePoint) → OnLattice n q → OnLattice n p → q ≢ p → place_of n q ≢ place_of n p
places_differ n q p onq onp d e = d (sym (point_at_place n q onq) ∙ ap (point_number n) e ∙ point_at_place n p onp)

-- the program's steps stand in the order of their numbers
pub step_number_at : (d : Program.Step) (i : ℕ) → i < 6 → number_of_step (get_or (FirstToThird ∷ FirstToSecond ∷ SecondToThird ∷ SecondToFirst ∷ ThirdToSecond ∷ ThirdToFirst ∷ []) i d) ≡ i
step_number_at d zero lt = refl
step_number_at d (suc zero) lt = refl
step_number_at d (suc (suc zero)) lt = refl
step_number_at d (suc (suc (suc zero))) lt = refl
step_number_at d (suc (suc (suc (suc zero)))) lt = refl
step_number_at d (suc (suc (suc (suc (suc zero))))) lt = refl
step_number_at d (suc (suc (suc (suc (suc (suc i)))))) lt = absurd (let z : ⊥ = omega arith in z)
