-- Laws of placing: which rows and columns are near a converted coordinate. Assumes nothing.
use Rattle.std.proofs.Common.{◌≡◌, ℕ, suc, ◌+◌, ◌-◌, ◌*◌, ◌/◌, ◌%◌, ◌<◌, ◌≤◌, min, Bool, true, false, ◌&&◌, ltb, leb, ◌⊎◌, ℤ, pos, negsuc, nat_abs, sym, refl, ap, ◌∙◌, subst, inl, inr, ⊎_elim, true≢false, mul-le-mul_right, mul_assoc, add-mul, arith, ltb-true, le-ltb, le-leb}
use native.Mathlib.Decide.{dec_lt}
use lib.Signed.{lt_z}
use lib.Ieee.{lt}
use lib.Arith.{digits_div, digits_mod}
use borrow.Author.Tests.{lt-leb}
use Rattle.binary64.proofs.Tests.{leb_alike}
use Rattle.binary64.specs.Convert.{to_i64}
use Rattle.vector.specs.declared.Vector3.{Vector3}
use Rattle.grid.specs.declared.cube_face.Projected.{Projected}
use Rattle.grid.specs.declared.placement.CellRange.{CellRange}
use Rattle.grid.specs.declared.placement.Placement.{Placement}
use Rattle.binary64.specs.Constants.{positive_zero}
use Rattle.grid.specs.CubeFace.{face_projection}
use Rattle.grid.specs.Settings.{greatest_margin}
use Rattle.grid.specs.Cells.{near, across_cells, placed_in}
use Rattle.grid.specs.Held.{held_on}
use Rattle.grid.specs.Placing.{CellsBelow, Near, Placed, within}
use Rattle.grid.proofs.Held.{held_behind}

abbrev range : ℕ → ℕ → CellRange
range first end = record { start = first; end = end }

and_alike : {p q r s : Bool} → p ≡ r → q ≡ s → (p && q) ≡ (r && s)
and_alike e f = λ i. e i && f i

-- ---- the rows or columns near a whole number, among g
-- a number below 0 that lies further off than the margin
pub near_none_below : (margin g k : ℕ) → margin < suc k → Near margin g (negsuc k) (range 0 0)
unfolding near
near_none_below margin g k far = record {
  ordered = omega arith;
  inside = omega arith;
  few = omega arith;
  exact = λ c lt. lt-leb (suc k + c) margin (omega arith) ∙ sym (and_alike (le-leb 0 c (omega arith)) (le-ltb c 0 (omega arith)));
}

-- one that does not: the cells end where the margin does, or the face
pub near_below : (margin g k end : ℕ) → suc k ≤ margin → end ≤ g → end ≤ margin - k → ((end ≡ margin - k) ⊎ (end ≡ g)) → Near margin g (negsuc k) (range 0 end)
unfolding near
near_below margin g k end close inside limit at-end = record {
  ordered = omega arith;
  inside = inside;
  few = omega arith;
  exact = λ c lt. upper c lt at-end ∙ sym (and_alike (le-leb 0 c (omega arith)) refl);
}
  where
    upper : (c : ℕ) → c < g → (end ≡ margin - k) ⊎ (end ≡ g) → leb (suc k + c) margin ≡ ltb c end
    upper c lt (inl e) = leb_alike (suc c) end (suc k + c) margin (λ h. omega arith) (λ h. omega arith)
    upper c lt (inr e) = leb_alike (suc c) end (suc k + c) margin (λ h. omega arith) (λ h. omega arith)

pub near_none_above : (margin g k : ℕ) → g + margin ≤ k → Near margin g (pos k) (range g g)
unfolding near
near_none_above margin g k far = record {
  ordered = omega arith;
  inside = omega arith;
  few = omega arith;
  exact = λ c lt. and_alike (lt-leb k (c + margin) (omega arith)) refl ∙ sym (and_alike (lt-leb g c (omega arith)) refl);
}

-- the lesser of two numbers is one of them
pub least_end : (end a b : ℕ) → end ≡ min a b → (end ≡ a) ⊎ (end ≡ b)
least_end end a b e = go (dec_lt a b)
  where
    go : Dec (a < b) → (end ≡ a) ⊎ (end ≡ b)
    go (yes h) = inl (omega arith)
    go (no h) = inr (omega arith)

-- the end is one behind the margin above k, or the last
pub near_inside : (margin g k first end : ℕ) → first ≡ k - margin → first ≤ end → end ≤ g → end ≤ k + margin + 1 → ((end ≡ k + margin + 1) ⊎ (end ≡ g)) → Near margin g (pos k) (range first end)
unfolding near
near_inside margin g k first end at_first ordered inside limit at-end = record {
  ordered = ordered;
  inside = inside;
  few = omega arith;
  exact = λ c lt. and_alike (leb_alike first c k (c + margin) (λ h. omega arith) (λ h. omega arith)) (upper c lt at-end);
}
  where
    upper : (c : ℕ) → c < g → (end ≡ k + margin + 1) ⊎ (end ≡ g) → leb c (k + margin) ≡ ltb c end
    upper c lt (inl e) = leb_alike (suc c) end c (k + margin) (λ h. omega arith) (λ h. omega arith)
    upper c lt (inr e) = leb_alike (suc c) end c (k + margin) (λ h. omega arith) (λ h. omega arith)

-- some range is that of a whole number
near_range : (margin g : ℕ) (z : ℤ) → (r : CellRange) × Near margin g z r
near_range margin g (negsuc k) = go (dec_lt margin (suc k)) (dec_lt g (margin - k))
  where
    go : Dec (margin < suc k) → Dec (g < margin - k) → (r : CellRange) × Near margin g (negsuc k) r
    go (yes far) cut = (range 0 0, near_none_below margin g k far)
    go (no close) (yes cut) = (range 0 g, near_below margin g k g (omega arith) (omega arith) (omega arith) (inr refl))
    go (no close) (no whole) = (range 0 (margin - k), near_below margin g k (margin - k) (omega arith) (omega arith) (omega arith) (inl refl))
near_range margin g (pos k) = go (dec_lt k (g + margin)) (dec_lt g (k + margin + 1))
  where
    go : Dec (k < g + margin) → Dec (g < k + margin + 1) → (r : CellRange) × Near margin g (pos k) r
    go (no far) cut = (range g g, near_none_above margin g k (omega arith))
    go (yes close) (yes cut) = (range (k - margin) g, near_inside margin g k (k - margin) g refl (omega arith) (omega arith) (omega arith) (inr refl))
    go (yes close) (no whole) = (range (k - margin) (k + margin + 1), near_inside margin g k (k - margin) (k + margin + 1) refl (omega arith) (omega arith) (omega arith) (inl refl))

-- ---- the same by the tests of a signed number, for the margins that row 20 lets pass
pub near_none_below_tested : (margin g below : ℕ) (z : ℤ) → margin ≤ greatest_margin → lt_z z (pos 0) ≡ true → CellsBelow z below → margin < below → Near margin g z (range 0 0)
near_none_below_tested margin g below (pos a) small h is far = absurd (let l = ltb-true a 0 h in let y : ⊥ = omega arith in y)
near_none_below_tested margin g below (negsuc k) small h is far = near_none_below margin g k (omega arith)

pub near_below_tested : (margin g below end : ℕ) (z : ℤ) → margin ≤ greatest_margin → lt_z z (pos 0) ≡ true → CellsBelow z below → below ≤ margin → end ≤ g → end ≤ margin + 1 - below → ((end ≡ margin + 1 - below) ⊎ (end ≡ g))
    → Near margin g z (range 0 end)
near_below_tested margin g below end (pos a) small h is close inside limit at-end = absurd (let l = ltb-true a 0 h in let y : ⊥ = omega arith in y)
near_below_tested margin g below end (negsuc k) small h is close inside limit at-end = near_below margin g k end (omega arith) inside (omega arith) (⊎_elim (λ e. inl (omega arith)) (λ e. inr e) at-end)

pub not_negative : (z : ℤ) → lt_z z (pos 0) ≡ false → z ≡ pos (nat_abs z)
not_negative (pos a) h = refl
not_negative (negsuc a) h = absurd (true≢false h)

-- ---- the cells of a face
-- row i and column j of a face, of g each, by the cell's number: "face·g·g + ci·g + cj"
module _ (margin g face i j : ℕ) (li : i < g) (lj : j < g) where
  in_face : i * g + j < g * g
  in_face = let k = mul-le-mul_right g li in omega arith

  pub face_of_cell : (face * (g * g) + (i * g + j)) / (g * g) ≡ face
  face_of_cell = digits_div face in_face

  pub row_of_cell : (face * (g * g) + (i * g + j)) % (g * g) / g ≡ i
  row_of_cell = ap (λ (k : ℕ). k / g) (digits_mod face in_face) ∙ digits_div i lj

  pub column_of_cell : (face * (g * g) + (i * g + j)) % g ≡ j
  column_of_cell =
      let e : face * (g * g) + (i * g + j) ≡ (face * g + i) * g + j = simp (add-mul, mul_assoc) (omega arith) in
      ap (λ (k : ℕ). k % g) e ∙ digits_mod (face * g + i) lj

  placed_by_face : (v : Vector3) → placed_in margin g (face * (g * g) + (i * g + j)) v
      ≡ (lt positive_zero (face_projection face v).d
      && (near margin (to_i64 (across_cells g (face_projection face v).u (face_projection face v).d)) i
      && near margin (to_i64 (across_cells g (face_projection face v).w (face_projection face v).d)) j))
  unfolding placed_in
  placed_by_face v = rw (face_of_cell, row_of_cell, column_of_cell) refl

abbrev placement : CellRange → CellRange → ℕ → Placement
placement rows columns held = record { rows = rows; columns = columns; held = held }

-- a face that the vertex is in front of
pub placed_near : (margin g face : ℕ) (v : Vector3) (p : Projected) (rows columns : CellRange) (held : ℕ) → p ≡ face_projection face v → lt positive_zero p.d ≡ true
    → Near margin g (to_i64 (across_cells g p.u p.d)) rows → Near margin g (to_i64 (across_cells g p.w p.d)) columns → held ≡ held_on g v face → Placed margin g face v (placement rows columns held)
placed_near margin g face v p rows columns held e front r c h = record {
  rows_ordered = r.ordered;
  rows_inside = r.inside;
  rows_few = r.few;
  columns_ordered = c.ordered;
  columns_inside = c.inside;
  columns_few = c.few;
  exact = λ i j li lj. placed_by_face margin g face i j li lj v
      ∙ (λ t. let q = sym e t in lt positive_zero q.d && (near margin (to_i64 (across_cells g q.u q.d)) i && near margin (to_i64 (across_cells g q.w q.d)) j))
      ∙ (λ t. front t && (r.exact i li t && c.exact j lj t));
  held_exact = h;
}

-- one that it is not in front of
pub placed_nowhere : (margin g face : ℕ) (v : Vector3) (p : Projected) → p ≡ face_projection face v → lt positive_zero p.d ≡ false → Placed margin g face v (placement (range 0 0) (range 0 0) 0)
placed_nowhere margin g face v p e behind = record {
  rows_ordered = omega arith;
  rows_inside = omega arith;
  rows_few = omega arith;
  columns_ordered = omega arith;
  columns_inside = omega arith;
  columns_few = omega arith;
  exact = λ i j li lj. placed_by_face margin g face i j li lj v
      ∙ (λ t. let q = sym e t in lt positive_zero q.d && (near margin (to_i64 (across_cells g q.u q.d)) i && near margin (to_i64 (across_cells g q.w q.d)) j))
      ∙ (λ t. behind t && (near margin (to_i64 (across_cells g p.u p.d)) i && near margin (to_i64 (across_cells g p.w p.d)) j))
      ∙ sym (λ t. (le-leb 0 i (omega arith) t && le-ltb i 0 (omega arith) t) && within 0 0 j);
  held_exact = sym (held_behind g face v (ap (λ (q : Projected). lt positive_zero q.d) (sym e) ∙ behind));
}

-- every vertex is placed on every face, without rows on one that it is not in front of
pub some_placement : (margin g face : ℕ) (v : Vector3) → (p : Placement) × Placed margin g face v p × (lt positive_zero (face_projection face v).d ≡ false → p.rows.end ≡ p.rows.start)
some_placement margin g face v = go (lt positive_zero (face_projection face v).d) refl
  where
    seen : Projected
    seen = face_projection face v

    go : (b : Bool) → lt positive_zero seen.d ≡ b → (p : Placement) × Placed margin g face v p × (lt positive_zero seen.d ≡ false → p.rows.end ≡ p.rows.start)
    go true e =
        let rows = near_range margin g (to_i64 (across_cells g seen.u seen.d)) in
        let columns = near_range margin g (to_i64 (across_cells g seen.w seen.d)) in
        (placement rows.0 columns.0 (held_on g v face), placed_near margin g face v seen rows.0 columns.0 (held_on g v face) refl e rows.1 columns.1 refl, λ h. absurd (true≢false (sym e ∙ h)))
    go false e = (placement (range 0 0) (range 0 0) 0, placed_nowhere margin g face v seen refl e, λ h. refl)

pub placed_same : {margin g face : ℕ} {v w : Vector3} {p : Placement} → w ≡ v → Placed margin g face w p → Placed margin g face v p
placed_same {margin} {g} {face} {p} e h = subst (λ (x : Vector3). Placed margin g face x p) e h
