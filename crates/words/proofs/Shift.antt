-- Numbers of two digits in a base P = A * B: divided by A, and multiplied by A within the two digits. Assumes nothing.
use Rattle.std.proofs.Common.{◌≡◌, ℕ, ◌+◌, ◌-◌, ◌*◌, ◌/◌, ◌%◌, ◌^◌, ◌<◌, ◌≤◌, sym, ap, ◌∙◌, le_of_eq, lt_of_lt_of_le, lt_of_le_of_lt, add_assoc, mod-lt, mod-eq_of_lt, mul_assoc, mul_comm, div-lt_iff_lt-mul, add-mul, lt_of_mul-lt-mul_right, mul-lt-mul_of_pos_right, div-add-mod', mul_right_comm, arith, pow-add}
use native.Mathlib.Nat.{mul-add-div_right, mul-add-mod_self_right, mul-div-mul_right, div-div-eq-div-mul}
use lib.Arith.{digits_lt, digits_mod}

pub pow_split : (d w : ℕ) → d ≤ w → 2 ^ d * 2 ^ (w - d) ≡ 2 ^ w
pow_split d w h = sym (pow-add 2 d (w - d)) ∙ ap (λ (x : ℕ). 2 ^ x) (let k : d + (w - d) ≡ w = omega arith in k)

-- ---- a shift by 64 - d places: by one, and by the 63 - d that are left, so that neither is by a whole word
pow_in_two_steps : (d : ℕ) → d < 64 → 2 * 2 ^ (63 - d) ≡ 2 ^ (64 - d)
pow_in_two_steps d h = sym (pow-add 2 1 (63 - d)) ∙ ap (λ (x : ℕ). 2 ^ x) (let k : 1 + (63 - d) ≡ 64 - d = omega arith in k)

pub right_in_two_steps : (x d : ℕ) → d < 64 → x / 2 / 2 ^ (63 - d) ≡ x / 2 ^ (64 - d)
right_in_two_steps x d h = div-div-eq-div-mul x 2 (2 ^ (63 - d)) ∙ ap (λ (y : ℕ). x / y) (pow_in_two_steps d h)

module _ (A B P : ℕ) (ab : A * B ≡ P) (pos_a : 0 < A) (pos_b : 0 < B) where
  -- ---- right: what leaves the high digit goes to the top of the low digit
  across : (x : ℕ) → x * B ≡ x / A * P + x % A * B
  across x =
      ap (λ (y : ℕ). y * B) (sym (div-add-mod' x A)) ∙ add-mul (x / A * A) (x % A) B
      ∙ ap (λ (y : ℕ). y + x % A * B) (mul_assoc (x / A) A B ∙ ap (λ (y : ℕ). x / A * y) ab)

  rest_lt : (x : ℕ) → x % A * B < P
  rest_lt x = lt_of_lt_of_le (mul-lt-mul_of_pos_right (mod-lt x pos_a) pos_b) (le_of_eq ab)

  across_mod : (x : ℕ) → x * B % P ≡ x % A * B
  across_mod x = ap (λ (y : ℕ). y % P) (across x) ∙ digits_mod (x / A) (rest_lt x)

  pub right_low_lt : (h l : ℕ) → l < P → h * B % P + l / A < P
  right_low_lt h l L =
      lt_of_le_of_lt (le_of_eq (ap (λ (y : ℕ). y + l / A) (across_mod h)))
      (lt_of_lt_of_le (digits_lt (mod-lt h pos_a) ((div-lt_iff_lt-mul pos_a).1 (lt_of_lt_of_le L (le_of_eq (sym ab ∙ mul_comm A B))))) (le_of_eq ab))

  whole_of : (h l : ℕ) → h * P + l ≡ h * B * A + l
  whole_of h l = ap (λ (y : ℕ). y + l) (ap (λ (y : ℕ). h * y) (sym ab ∙ mul_comm A B) ∙ sym (mul_assoc h B A))

  pub right_value : (h l : ℕ) → h / A * P + (h * B % P + l / A) ≡ (h * P + l) / A
  right_value h l =
      sym (add_assoc (h / A * P) (h * B % P) (l / A))
      ∙ ap (λ (y : ℕ). h / A * P + y + l / A) (across_mod h)
      ∙ ap (λ (y : ℕ). y + l / A) (sym (across h))
      ∙ sym (ap (λ (y : ℕ). y / A) (whole_of h l) ∙ mul-add-div_right pos_a (h * B) l)

  -- the low digit alone says what is shifted out
  pub right_rest : (h l : ℕ) → (h * P + l) % A ≡ l % A
  right_rest h l = ap (λ (y : ℕ). y % A) (whole_of h l) ∙ mul-add-mod_self_right (h * B) A l

  -- ---- left, where the high digit has room
  pub left_high_lt : (h l : ℕ) → h * A < P → l < P → h * A % P + l / B < P
  left_high_lt h l H L =
      lt_of_le_of_lt (le_of_eq (ap (λ (y : ℕ). y + l / B) (mod-eq_of_lt H)))
      (lt_of_lt_of_le (digits_lt (lt_of_mul-lt-mul_right A (lt_of_lt_of_le H (le_of_eq (sym ab ∙ mul_comm A B)))) ((div-lt_iff_lt-mul pos_b).1 (lt_of_lt_of_le L (le_of_eq (sym ab))))) (le_of_eq (mul_comm B A ∙ ab)))

  pub left_value : (h l : ℕ) → h * A < P → (h * A % P + l / B) * P + l * A % P ≡ (h * P + l) * A
  left_value h l H =
      let e : l / B ≡ l * A / P = sym (ap (λ (y : ℕ). l * A / y) (sym ab ∙ mul_comm A B) ∙ mul-div-mul_right l B pos_a) in
      let f : l * A / P * P + l * A % P ≡ l * A = div-add-mod' (l * A) P in
      ap (λ (y : ℕ). (y + l / B) * P + l * A % P) (mod-eq_of_lt H)
      ∙ ap (λ (y : ℕ). (h * A + y) * P + l * A % P) e
      ∙ ap (λ (y : ℕ). y + l * A % P) (add-mul (h * A) (l * A / P) P)
      ∙ add_assoc (h * A * P) (l * A / P * P) (l * A % P)
      ∙ ap (λ (y : ℕ). h * A * P + y) f
      ∙ ap (λ (y : ℕ). y + l * A) (mul_right_comm h A P)
      ∙ sym (add-mul (h * P) l A)
