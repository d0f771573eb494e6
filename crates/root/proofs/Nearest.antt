-- `square_root_nearest`: no value of the format lies nearer to √x than the root that `square_root` gives, in either format. `square_root_finite`: that root is finite; `square_root_fits`: it is a value of the format. Assumes nothing.
use Rattle.std.proofs.Common.{◌≡◌, ℕ, zero, suc, ◌+◌, ◌-◌, ◌*◌, ◌/◌, ◌%◌, ◌^◌, ◌<◌, ◌≤◌, Bool, true, false, cond, ◌&&◌, T, eqb, ltb, leb, ◌⊎◌, ℤ, pos, sym, refl, ap, ◌∙◌, subst, inl, inr, true≢false, zero-le, le_trans, le_of_eq, lt_of_lt_of_le, lt_of_le_of_lt, le_of_lt, lt_irrefl, mul-le-mul_right, zero-lt-suc, mul_assoc, mul_comm, add-mul, mul-le-mul, lt_of_mul-lt-mul_right, mul-le-mul_left, mul-lt-mul_of_pos_right, mul-pos, one-mul, pow-suc, zero-mul, mul_right_comm, le_of_mul-le-mul_right, mul-div_cancel, mul_left_comm, arith, lit≤, eqb→eq, ltb→lt, lt→ltb, pow_pos, pow_mono, pow-add}
use native.Mathlib.Nat.{mul-mul-mul_comm, mul-div-mul_right}
use lib.Ieee.{Float, nan, inf, fin, Format, binary32, binary64, prec, emax, low, size, up, down, below as beneath, lt, le, fits}
use lib.Ieee.Digits.{size-lt}
use lib.Ieee.Fits.{round-fits, and_r, two, two-le_pos, up_pos, down_pos}
use lib.Ieee.Exact.{HasValue}
use lib.Ieee.Order.{drop, kept}
use lib.Ieee.Scale.{grid, finite}
use lib.Ieee.Positive.{num, den, positive, value→cross}
use Rattle.binary64.proofs.NotNan.{value_finite}
use Rattle.binary64.proofs.SignedOrder.{signed_of_not_below}
use Rattle.rounding.proofs.RoundSticky.{pow_lt_back}
use Rattle.rounding.specs.TiesToEven.{abs_diff, InRange}
use Rattle.rounding.proofs.NearestDigits.{abs_diff_mul, even_pow, even_product, rounded_nearest, as_near_on_grid}
use Rattle.rounding.proofs.TiesToEven.{in_units, round_units}
use Rattle.root.specs.Root.{integer_root, root_in_halves, scaled_root, square_root}
use Rattle.root.specs.Middle.{MiddleAtMostRoot, MiddleAtLeastRoot}
use Rattle.root.proofs.IntegerRoot.{square_lt_back, double_square, integer_root_lem}

-- ---- the middle between two values v and q in units, compared with √n, which is in halves t
-- t is 2r for a square n, and otherwise 2r + 1
abbrev Halves : ℕ → ℕ → ℕ → Type 0
Halves n r t = ((t ≡ 2 * r) × (r * r ≡ n)) ⊎ (t ≡ 2 * r + 1)

halves : (n r : ℕ) → Halves n r (root_in_halves n r)
halves n r = go (eqb (r * r) n) (eqb→eq (r * r) n)
  where
    go : (b : Bool) → (T b → r * r ≡ n) → Halves n r (cond b (2 * r) (2 * r + 1))
    go true h = inl (refl, h tt)
    go false h = inr refl

square_le : (a b : ℕ) → a ≤ b → a * a ≤ b * b
square_le a b h = mul-le-mul h h

module _ (n r t v q : ℕ) (least : r * r ≤ n) (most : n < (r + 1) * (r + 1)) (is : Halves n r t) (near : abs_diff t (q * 2) ≤ abs_diff t (v * 2)) (apart : t ≡ 2 * r + 1 → v + q ≡ t → ⊥) where
  middle_below : v < q → (v + q) * (v + q) ≤ 4 * n
  middle_below l =
      let m : v + q ≤ t = omega arith in
      le_trans (square_le (v + q) (2 * r) (go is m)) (le_trans (le_of_eq (double_square r)) (mul-le-mul_left 4 least))
    where
      go : Halves n r t → v + q ≤ t → v + q ≤ 2 * r
      go (inl (e, s)) m = omega arith
      go (inr e) m = let d : v + q ≡ t → ⊥ = apart e in omega arith

  middle_above : q < v → 4 * n ≤ (v + q) * (v + q)
  middle_above l = let m : t ≤ v + q = omega arith in go is m
    where
      go : Halves n r t → t ≤ v + q → 4 * n ≤ (v + q) * (v + q)
      go (inl (e, s)) m = le_trans (le_of_eq (ap (λ (x : ℕ). 4 * x) (sym s) ∙ sym (double_square r))) (square_le (2 * r) (v + q) (let k : 2 * r ≤ v + q = omega arith in k))
      go (inr e) m =
          let d : v + q ≡ t → ⊥ = apart e in
          le_trans (mul-le-mul_left 4 (le_of_lt most)) (le_trans (le_of_eq (sym (double_square (r + 1)))) (square_le (2 * (r + 1)) (v + q) (let k : 2 * (r + 1) ≤ v + q = omega arith in k)))

-- ---- the root of c * 2 ^ low / 4 ^ low, that is of c units
-- a format's smallest value has a root of more than prec digits in units of that value, and emax + 1 is even
deep : (f : Format) → prec f + prec f ≤ low f
deep binary32 = lit≤ tt
deep binary64 = lit≤ tt

half_range : Format → ℕ
half_range f = suc (emax f) / 2

halved : (f : Format) → suc (emax f) ≡ half_range f + half_range f
unfolding half_range
halved binary32 = refl
halved binary64 = refl

half_less : (f : Format) → half_range f ≤ emax f
unfolding half_range
half_less binary32 = lit≤ tt
half_less binary64 = lit≤ tt

unit_halves : (l x : ℕ) → x * 2 ^ (l + 1) ≡ x * 2 * 2 ^ l
unit_halves l x = ap (λ (z : ℕ). x * z) (pow-add 2 l 1 ∙ mul_comm (2 ^ l) 2) ∙ sym (mul_assoc x 2 (2 ^ l))

abs_diff_halves : (l t x : ℕ) → abs_diff (t * 2 ^ l) (x * 2 ^ (l + 1)) ≡ abs_diff t (x * 2) * 2 ^ l
abs_diff_halves l t x = ap (abs_diff (t * 2 ^ l)) (unit_halves l x) ∙ sym (abs_diff_mul t (x * 2) (2 ^ l))

module _ (f : Format) (c : ℕ) (C : 0 < c) where
  radicand : ℕ
  radicand = c * 2 ^ low f

  whole_root : ℕ
  whole_root = integer_root (size radicand) radicand

  in_halves : ℕ
  in_halves = root_in_halves radicand whole_root

  bounds : (whole_root * whole_root ≤ radicand) × (radicand < (whole_root + 1) * (whole_root + 1))
  unfolding whole_root
  bounds = integer_root_lem radicand

  is_halves : Halves radicand whole_root in_halves
  unfolding in_halves
  is_halves = halves radicand whole_root

  -- the whole root has more than prec digits
  long : 2 ^ prec f ≤ whole_root
  unfolding radicand
  long =
      let a : 2 ^ prec f * 2 ^ prec f ≤ radicand =
      le_trans (le_of_eq (sym (pow-add 2 (prec f) (prec f)))) (le_trans (pow_mono (deep f)) (le_trans (le_of_eq (sym (one-mul (2 ^ low f)))) (mul-le-mul_right (2 ^ low f) C))) in
      let b : 2 ^ prec f < whole_root + 1 = square_lt_back (2 ^ prec f) (whole_root + 1) (lt_of_le_of_lt a bounds.1) in
      omega arith

  result : ℕ
  result = grid f in_halves (2 ^ (low f + 1))

  -- so the result is a multiple of 2, and so is each value that lies as near
  drops : in_halves ≡ 2 * whole_root + 1 → 0 < drop (prec f) (in_halves * 2 ^ low f) (2 ^ (low f + 1))
  drops e =
      let q : in_halves * 2 ^ low f / 2 ^ (low f + 1) ≡ whole_root =
      ap (λ (z : ℕ). in_halves * 2 ^ low f / z) (pow-add 2 (low f) 1 ∙ mul_comm (2 ^ low f) 2) ∙ mul-div-mul_right in_halves 2 (pow_pos (low f)) ∙ ap (λ (z : ℕ). z / 2) e ∙ (let d : (2 * whole_root + 1) / 2 ≡ whole_root = omega arith in d) in
      subst (λ (z : ℕ). 0 < size z - prec f) (sym q) (more (size whole_root) (prec f) (pow_lt_back (prec f) (size whole_root) (lt_of_le_of_lt long (size-lt whole_root))))
    where
      more : (z p : ℕ) → p < z → 0 < z - p
      more z p h = omega arith

  even_units : (w k : ℕ) → 0 < k → w * 2 ^ k % 2 ≡ 0
  even_units w k h = ap (λ (z : ℕ). z % 2) (mul_comm w (2 ^ k)) ∙ even_product (2 ^ k) w (even_pow k h)

  module _ (m j : ℕ) (M : m < 2 ^ prec f) where
    near : abs_diff in_halves (result * 2) ≤ abs_diff in_halves (m * 2 ^ j * 2)
    unfolding result
    near =
        le_of_mul-le-mul_right
        (le_trans (le_of_eq (sym (abs_diff_halves (low f) in_halves (grid f in_halves (2 ^ (low f + 1))))))
        (le_trans (rounded_nearest (prec f) (in_halves * 2 ^ low f) (2 ^ (low f + 1)) m j (two-le_pos (prec f) (two f)) (pow_pos (low f + 1)) M) (le_of_eq (abs_diff_halves (low f) in_halves (m * 2 ^ j))))) (pow_pos (low f))

    apart : in_halves ≡ 2 * whole_root + 1 → m * 2 ^ j + result ≡ in_halves → ⊥
    unfolding result
    apart e h =
        let q = grid f in_halves (2 ^ (low f + 1)) in
        let same : abs_diff in_halves (q * 2) ≡ abs_diff in_halves (m * 2 ^ j * 2) = as_far in_halves (m * 2 ^ j) q h in
        let at = as_near_on_grid (prec f) (in_halves * 2 ^ low f) (2 ^ (low f + 1)) m j (two-le_pos (prec f) (two f)) (pow_pos (low f + 1)) M
        (abs_diff_halves (low f) in_halves q ∙ ap (λ (z : ℕ). z * 2 ^ low f) same ∙ sym (abs_diff_halves (low f) in_halves (m * 2 ^ j))) in
        odd_sum (m * 2 ^ j) q whole_root (ap (λ (z : ℕ). z % 2) at.1 ∙ even_units at.0 (drop (prec f) (in_halves * 2 ^ low f) (2 ^ (low f + 1))) (drops e))
        (even_units (kept (prec f) (in_halves * 2 ^ low f) (2 ^ (low f + 1))) (drop (prec f) (in_halves * 2 ^ low f) (2 ^ (low f + 1))) (drops e)) (h ∙ e)
      where
        as_far : (t v q : ℕ) → v + q ≡ t → abs_diff t (q * 2) ≡ abs_diff t (v * 2)
        as_far t v q h = omega arith

        odd_sum : (v q r : ℕ) → v % 2 ≡ 0 → q % 2 ≡ 0 → v + q ≡ 2 * r + 1 → ⊥
        odd_sum v q r a b h = omega arith

    below : m * 2 ^ j < result → (m * 2 ^ j + result) * (m * 2 ^ j + result) ≤ 4 * radicand
    below = middle_below radicand whole_root in_halves (m * 2 ^ j) result bounds.0 bounds.1 is_halves near apart

    above : result < m * 2 ^ j → 4 * radicand ≤ (m * 2 ^ j + result) * (m * 2 ^ j + result)
    above = middle_above radicand whole_root in_halves (m * 2 ^ j) result bounds.0 bounds.1 is_halves near apart

  -- the root of a value below 2 ^ (emax + 1) is far below it
  in_range : c < 2 ^ suc (emax f) * 2 ^ low f → InRange f in_halves (2 ^ (low f + 1))
  unfolding radicand
  in_range h =
      let L = 2 ^ low f in
      let g = half_range f in
      let p = prec f in
      let s : radicand < 2 ^ g * L * (2 ^ g * L) =
      lt_of_lt_of_le (mul-lt-mul_of_pos_right h (pow_pos (low f)))
      (le_of_eq (ap (λ (z : ℕ). z * L * L) (ap (λ (z : ℕ). 2 ^ z) (halved f) ∙ pow-add 2 g g) ∙ mul_assoc (2 ^ g * 2 ^ g) L L ∙ mul-mul-mul_comm (2 ^ g) (2 ^ g) L L)) in
      let k : whole_root < 2 ^ g * L = square_lt_back whole_root (2 ^ g * L) (lt_of_le_of_lt bounds.0 s) in
      let u : in_halves < 2 ^ g * L * 2 = small is_halves k in
      lt_of_lt_of_le (mul-lt-mul_of_pos_right u (pow_pos p))
      (le_trans (le_of_eq (regroup (2 ^ g) L (2 ^ p)))
      (le_trans (mul-le-mul_right (L * 2) (mul-le-mul (pow_mono (half_less f)) (ones (2 ^ p) (2 ^ suc p) (pow_pos p) (pow-suc 2 p))))
      (le_of_eq (ap (λ (z : ℕ). 2 ^ emax f * (2 ^ suc p - 1) * z) (sym (pow-add 2 (low f) 1))))))
    where
      small : Halves radicand whole_root in_halves → whole_root < 2 ^ half_range f * 2 ^ low f → in_halves < 2 ^ half_range f * 2 ^ low f * 2
      small (inl (e, s)) k = omega arith
      small (inr e) k = omega arith

      regroup : (g l p : ℕ) → g * l * 2 * p ≡ g * p * (l * 2)
      regroup g l p = simp (mul_assoc, mul_comm, mul_left_comm)

      ones : (x y : ℕ) → 0 < x → y ≡ x * 2 → x ≤ y - 1
      ones x y h e = omega arith

  root_units : c < 2 ^ suc (emax f) * 2 ^ low f → HasValue (scaled_root f radicand) false result (2 ^ low f)
  unfolding scaled_root result in_halves whole_root
  root_units h = round_units f false in_halves (2 ^ (low f + 1)) (pow_pos (low f + 1)) (in_range h)

-- ---- from units to values
module _ (nv dv nq dq nx dx v q c L : ℕ) (l : 0 < L) (nv-is : nv * L ≡ v * dv) (nq-is : nq * L ≡ q * dq) (nx-is : nx * L ≡ c * dx) where
  sum_units : (nv * dq + nq * dv) * L ≡ (v + q) * (dv * dq)
  sum_units =
      add-mul (nv * dq) (nq * dv) L
      ∙ (λ i. (mul_right_comm nv dq L ∙ ap (λ (z : ℕ). z * dq) nv-is ∙ mul_assoc v dv dq) i + (mul_right_comm nq dv L ∙ ap (λ (z : ℕ). z * dv) nq-is ∙ mul_assoc q dq dv ∙ ap (λ (z : ℕ). q * z) (mul_comm dq dv)) i)
      ∙ sym (add-mul v q (dv * dq))

  square_units : (nv * dq + nq * dv) * (nv * dq + nq * dv) * dx * (L * L) ≡ (v + q) * (v + q) * (dv * dq * (dv * dq) * dx)
  square_units =
      regroup (nv * dq + nq * dv) dx L ∙ ap (λ (z : ℕ). z * z * dx) sum_units ∙ ap (λ (z : ℕ). z * dx) (mul-mul-mul_comm (v + q) (dv * dq) (v + q) (dv * dq)) ∙ mul_assoc ((v + q) * (v + q)) (dv * dq * (dv * dq)) dx
    where
      regroup : (s d l : ℕ) → s * s * d * (l * l) ≡ s * l * (s * l) * d
      regroup s d l = simp (mul_assoc, mul_comm, mul_left_comm)

  root_units_of : 4 * nx * (dv * dq * (dv * dq)) * (L * L) ≡ 4 * (c * L) * (dv * dq * (dv * dq) * dx)
  root_units_of = regroup 4 nx (dv * dq * (dv * dq)) L ∙ ap (λ (z : ℕ). 4 * (dv * dq * (dv * dq)) * L * z) nx-is ∙ back 4 (dv * dq * (dv * dq)) L c dx
    where
      regroup : (k n e l : ℕ) → k * n * e * (l * l) ≡ k * e * l * (n * l)
      regroup k n e l = simp (mul_assoc, mul_left_comm)

      back : (k e l c d : ℕ) → k * e * l * (c * d) ≡ k * (c * l) * (e * d)
      back k e l c d = simp (mul_assoc, mul_comm, mul_left_comm)

  at_most : (v + q) * (v + q) ≤ 4 * (c * L) → (nv * dq + nq * dv) * (nv * dq + nq * dv) * dx ≤ 4 * nx * (dv * dq * (dv * dq))
  at_most h = le_of_mul-le-mul_right (le_trans (le_of_eq square_units) (le_trans (mul-le-mul_right (dv * dq * (dv * dq) * dx) h) (le_of_eq (sym root_units_of)))) (mul-pos l l)

  at_least : 4 * (c * L) ≤ (v + q) * (v + q) → 4 * nx * (dv * dq * (dv * dq)) ≤ (nv * dq + nq * dv) * (nv * dq + nq * dv) * dx
  at_least h = le_of_mul-le-mul_right (le_trans (le_of_eq root_units_of) (le_trans (mul-le-mul_right (dv * dq * (dv * dq) * dx) h) (le_of_eq (sym square_units)))) (mul-pos l l)

-- the order of two values is that of their units
units_lt : (nv dv nq dq v q L : ℕ) → 0 < L → nv * L ≡ v * dv → nq * L ≡ q * dq → nv * dq < nq * dv → v < q
units_lt nv dv nq dq v q L l nv-is nq-is h =
    lt_of_mul-lt-mul_right (dv * dq)
    (lt_of_le_of_lt (le_of_eq (sym (mul_assoc v dv dq) ∙ ap (λ (z : ℕ). z * dq) (sym nv-is) ∙ mul_right_comm nv L dq))
    (lt_of_lt_of_le (mul-lt-mul_of_pos_right h l) (le_of_eq (mul_right_comm nq dv L ∙ ap (λ (z : ℕ). z * dv) nq-is ∙ mul_assoc q dq dv ∙ ap (λ (z : ℕ). q * z) (mul_comm dq dv)))))

-- ---- comparisons of values from zero up
zero_below : (n : ℕ) (d : ℤ) → T (le (fin false 0 (pos 0)) (fin true n d)) → n * up d ≡ 0
zero_below n d t = omega (arith, signed_of_not_below (fin true n d) true (n * up d) (down d) (refl, refl) t)

pub no_negative : (m : ℕ) (e : ℤ) → T (le (fin false 0 (pos 0)) (fin true (suc m) e)) → ⊥
no_negative m e t = lt_irrefl 0 (subst (λ (z : ℕ). 0 < z) (zero_below (suc m) e t) (mul-pos (zero-lt-suc m) (up_pos e)))

less_cross : (v q : Float) (c L : ℕ) → T (le (fin false 0 (pos 0)) v) → T (finite v) → HasValue q false c L → T (lt v q) → num v * den q < num q * den v
unfolding lt
less_cross nan q c L z u h t = absurd u
less_cross (inf s) q c L z u h t = absurd u
less_cross (fin s n d) nan c L z u h t = absurd h
less_cross (fin s n d) (inf w) c L z u h t = absurd h
less_cross (fin s n d) (fin true m e) c L z u h t = absurd (true≢false h.0)
less_cross (fin false n d) (fin false m e) c L z u h t = ltb→lt (n * up d * down e) (m * up e * down d) t
less_cross (fin true n d) (fin false m e) c L z u h t =
    let none : n * up d * down e ≡ 0 = ap (λ (x : ℕ). x * down e) (zero_below n d z) ∙ zero-mul (down e) in
    let some : 0 < n * up d * down e + m * up e * down d = ltb→lt 0 (n * up d * down e + m * up e * down d) t in
    drop_zero (n * up d * down e) (m * up e * down d) none some
  where
    drop_zero : (a b : ℕ) → a ≡ 0 → 0 < a + b → a < b
    drop_zero a b e h = omega arith

more_cross : (v q : Float) (c L : ℕ) → T (finite v) → HasValue q false c L → T (lt q v) → num q * den v < num v * den q
unfolding lt
more_cross nan q c L u h t = absurd u
more_cross (inf s) q c L u h t = absurd u
more_cross (fin s n d) nan c L u h t = absurd h
more_cross (fin s n d) (inf w) c L u h t = absurd h
more_cross (fin s n d) (fin true m e) c L u h t = absurd (true≢false h.0)
more_cross (fin false n d) (fin false m e) c L u h t = ltb→lt (m * up e * down d) (n * up d * down e) t
more_cross (fin true n d) (fin false m e) c L u h t = absurd t

-- ---- the root of a value above zero
-- x is `count` units of 2 ^ -low
record UnitsOf (f : Format) (x : Float) : Type 0 where
  count : ℕ
  value : num x * 2 ^ low f ≡ count * den x
  some : 0 < count
  small : count < 2 ^ suc (emax f) * 2 ^ low f
  root_is : square_root f x ≡ scaled_root f (count * 2 ^ low f)

units_of : (f : Format) (x : Float) → T (fits f x) → T (positive x) → UnitsOf f x
unfolding square_root fits
units_of f (fin false zero e) t p = absurd (lt_irrefl 0 (ltb→lt 0 0 p))
units_of f (fin false (suc m) e) t p =
    let at = in_units f false (suc m) e t in
    let L = 2 ^ low f in
    let c = suc m * 2 ^ at.1 in
    let a = eqb (suc m % 2) 1 && ltb (suc m) (2 ^ prec f) && leb (down e) (2 ^ low f) in
    let b = ltb (suc m * up e) (2 ^ suc (emax f) * down e) in
    let bound : suc m * up e < 2 ^ suc (emax f) * down e = ltb→lt (suc m * up e) (2 ^ suc (emax f) * down e) (and_r a b t) in record {
      count = c;
      value = at.2;
      some = mul-pos (zero-lt-suc m) (pow_pos at.1);
      small = lt_of_mul-lt-mul_right (down e) (lt_of_le_of_lt (le_of_eq (sym at.2)) (lt_of_lt_of_le (mul-lt-mul_of_pos_right bound (pow_pos (low f))) (le_of_eq (mul_right_comm (2 ^ suc (emax f)) (down e) L))));
      root_is = ap (scaled_root f)
          (ap (λ (z : ℕ). z / down e) (ap (λ (z : ℕ). suc m * up e * z) (pow-add 2 (low f) (low f)) ∙ sym (mul_assoc (suc m * up e) L L) ∙ ap (λ (z : ℕ). z * L) at.2 ∙ mul_right_comm c (down e) L) ∙ mul-div_cancel (c * L) (down_pos e));
    }
units_of f nan t p = elim p [ ]
units_of f (inf _) t p = elim p [ ]
units_of f (fin true _ e) t p = elim p [ ]

root_value : (f : Format) (x : Float) (u : UnitsOf f x) → HasValue (square_root f x) false (result f u.count u.some) (2 ^ low f)
unfolding radicand
root_value f x u = subst (λ (z : Float). HasValue z false (result f u.count u.some) (2 ^ low f)) (sym u.root_is) (root_units f u.count u.some u.small)

-- The root of a value above zero is finite.
positive-finite : (f : Format) (x : Float) → T (fits f x) → T (positive x) → T (finite (square_root f x))
positive-finite f x t p =
    let u = units_of f x t p in
    value_finite (square_root f x) false (result f u.count u.some) (2 ^ low f) (root_value f x u)

-- what the root of x is to a value v: where v lies below it, their middle is not above √x, and where v lies above it, not below √x
abbrev NoneNearer : Float → Float → Float → Type 0
NoneNearer x v q = (T (lt v q) → MiddleAtMostRoot x v q) × (T (lt q v) → MiddleAtLeastRoot x v q)

positive_nearest : (f : Format) (x : Float) → T (fits f x) → T (positive x) → (s : Bool) (m : ℕ) (e : ℤ) → T (fits f (fin s m e)) → T (le (fin false 0 (pos 0)) (fin s m e)) → NoneNearer x (fin s m e) (square_root f x)
unfolding radicand
positive_nearest f x t p s m e ft z =
    let u = units_of f x t p in
    let at = in_units f s m e ft in
    let v = m * 2 ^ at.1 in
    let q = square_root f x in
    let c = result f u.count u.some in
    let L = 2 ^ low f in
    let l : 0 < L = pow_pos (low f) in
    let h : HasValue q false c L = root_value f x u in
    let nq : num q * L ≡ c * den q = value→cross q c L h in (
      λ (less : T (lt (fin s m e) q)).
          at_most (m * up e) (down e) (num q) (den q) (num x) (den x) v c u.count L l at.2 nq u.value
          (below f u.count u.some m at.1 at.0 (units_lt (m * up e) (down e) (num q) (den q) v c L l at.2 nq (less_cross (fin s m e) q c L z tt h less))),
      λ (more : T (lt q (fin s m e))).
          at_least (m * up e) (down e) (num q) (den q) (num x) (den x) v c u.count L l at.2 nq u.value
          (above f u.count u.some m at.1 at.0 (units_lt (num q) (den q) (m * up e) (down e) c v L l nq at.2 (more_cross (fin s m e) q c L tt h more))),
    )

-- A zero is its own root, and no value from zero up lies below it.
not_below_zero : (s w : Bool) (a b : ℕ) → b ≡ 0 → (T w → a ≡ 0) → T (beneath w a s b) → ⊥
not_below_zero false false a b z o t = none a b z (ltb→lt a b t)
  where
    none : (a b : ℕ) → b ≡ 0 → a < b → ⊥
    none a b z h = omega arith
not_below_zero true false a b z o t = t
not_below_zero false true a b z o t = none a b z (o tt) (ltb→lt 0 (a + b) t)
  where
    none : (a b : ℕ) → b ≡ 0 → a ≡ 0 → 0 < a + b → ⊥
    none a b z y h = omega arith
not_below_zero true true a b z o t = none a b (o tt) (ltb→lt b a t)
  where
    none : (a b : ℕ) → a ≡ 0 → b < a → ⊥
    none a b z h = omega arith

zero_nearest : (f : Format) (s : Bool) (e : ℤ) (w : Bool) (n : ℕ) (d : ℤ) → T (le (fin false 0 (pos 0)) (fin w n d)) → NoneNearer (fin s 0 e) (fin w n d) (square_root f (fin s 0 e))
unfolding square_root lt
zero_nearest f s e w n d z = (
  λ (less : T (beneath w (n * up d * down e) s (0 * up e * down d))).
      absurd (not_below_zero s w (n * up d * down e) (0 * up e * down d) (ap (λ (x : ℕ). x * down d) (zero-mul (up e)) ∙ zero-mul (down d)) (size w z) less),
  λ more. le_trans (le_of_eq (ap (λ (x : ℕ). 4 * x * (down d * down e * (down d * down e))) (zero-mul (up e)) ∙ zero-mul (down d * down e * (down d * down e)))) zero-le,
)
  where
    size : (w : Bool) → T (le (fin false 0 (pos 0)) (fin w n d)) → T w → n * up d * down e ≡ 0
    size true z t = ap (λ (x : ℕ). x * down e) (zero_below n d z) ∙ zero-mul (down e)
    size false z t = absurd t

-- The root of a finite value from 0 up, −0 too, is finite.
pub square_root_finite : (f : Format) (x : Float) → T (fits f x) → T (finite x) → T (le (fin false 0 (pos 0)) x) → T (finite (square_root f x))
unfolding square_root
square_root_finite f nan t u z = absurd u
square_root_finite f (inf s) t u z = absurd u
square_root_finite f (fin s zero e) t u z = tt
square_root_finite f (fin false (suc m) e) t u z = positive-finite f (fin false (suc m) e) t (lt→ltb 0 (suc m) (zero-lt-suc m))
square_root_finite f (fin true (suc m) e) t u z = absurd (no_negative m e z)

-- The root of a value of the format is one.
pub square_root_fits : (f : Format) (x : Float) → T (fits f x) → T (fits f (square_root f x))
unfolding square_root scaled_root fits
square_root_fits f nan t = tt
square_root_fits f (inf true) t = tt
square_root_fits f (inf false) t = tt
square_root_fits f (fin s zero e) t = t
square_root_fits f (fin true (suc m) e) t = tt
square_root_fits f (fin false (suc m) e) t = round-fits f false _ _

-- For every finite value x of the format from 0 up with the root q, and every finite value v of the format from 0 up: v < q gives (v + q)² ≤ 4x, and q < v gives 4x ≤ (v + q)².
-- So no value of the format lies nearer to √x than q.
pub square_root_nearest : (f : Format) (x : Float) → T (fits f x) → T (finite x) → T (le (fin false 0 (pos 0)) x) → (v : Float) → T (fits f v) → T (finite v) → T (le (fin false 0 (pos 0)) v)
    → (T (lt v (square_root f x)) → MiddleAtMostRoot x v (square_root f x)) × (T (lt (square_root f x) v) → MiddleAtLeastRoot x v (square_root f x))
square_root_nearest f nan t u z v vt vu vz = absurd u
square_root_nearest f (inf s) t u z v vt vu vz = absurd u
square_root_nearest f (fin s m e) t u z nan vt vu vz = absurd vu
square_root_nearest f (fin s m e) t u z (inf w) vt vu vz = absurd vu
square_root_nearest f (fin s zero e) t u z (fin w n d) vt vu vz = zero_nearest f s e w n d vz
square_root_nearest f (fin false (suc m) e) t u z (fin w n d) vt vu vz = positive_nearest f (fin false (suc m) e) t (lt→ltb 0 (suc m) (zero-lt-suc m)) w n d vt vz
square_root_nearest f (fin true (suc m) e) t u z (fin w n d) vt vu vz = absurd (no_negative m e z)
