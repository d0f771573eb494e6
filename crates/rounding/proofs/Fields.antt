-- A finite value of a format by the fields of its bit pattern: sign, significand, and the exponent counted from the smallest value. Over any format; IEEE 754-2019, 3.4. Assumes nothing.
use mathlib.Core.Path.{◌≡◌, refl, sym, ap, ◌∙◌, subst}
use mathlib.Core.Logic.{inl, inr}
use Prim.Native.Nat.{ℕ, suc, ◌+◌, ◌-◌, ◌*◌, ◌/◌, ◌%◌, ◌^◌, ◌<◌}
use native.Mathlib.Nat.{zero-lt-suc, le_trans, le_of_eq, lt_of_lt_of_le, le_of_suc-le-suc, eq-or-lt_of_le, mul_comm, mul-pos, mod-lt, div-lt_iff_lt-mul, le-add_left}
use native.Mathlib.Omega.{arith}
use mathlib.Core.Bool.{Bool, true, false, cond}
use lib.Dec.{T, leb, eqb, eqb_refl}
use lib.Pow.{pow_pos}
use lib.Ieee.{Float, nan, inf, Format, prec, low, hid, ones, top, fits, odd, of_fields, of_bits, to_bits}
use lib.Ieee.Exact.{HasValue, odd_sign}
use lib.Ieee.Fits.{two, reach}
use lib.Ieee.Scale.{finite}
use lib.Ieee.Bits.{of_bits-to_bits}
use Rattle.rounding.proofs.BitPattern.{hid_double}

-- ---- the fields of a pattern
of_bits_fields : (f : Format) (n : ℕ) → of_bits f n ≡ of_fields f (leb (top f) n) (n % top f / hid f) (n % hid f)
unfolding of_bits
of_bits_fields f n = refl

fields_subnormal : (f : Format) (s : Bool) (t : ℕ) → of_fields f s 0 t ≡ odd (prec f) s t 0 (low f)
unfolding of_fields
fields_subnormal f s t = refl

fields_normal : (f : Format) (s : Bool) (t k : ℕ) → T (finite (of_fields f s (suc k) t)) → (suc k ≡ ones f → ⊥) × (of_fields f s (suc k) t ≡ odd (prec f) s (hid f + t) k (low f))
unfolding of_fields
fields_normal f s t k = go (eqb (suc k) (ones f)) (eqb t 0) (λ (e : suc k ≡ ones f). subst (λ (x : ℕ). T (eqb (suc k) x)) e (eqb_refl (suc k)))
  where
    go : (b c : Bool) → (suc k ≡ ones f → T b) → T (finite (cond b (cond c (inf s) nan) (odd (prec f) s (hid f + t) k (low f))))
        → (suc k ≡ ones f → ⊥) × (cond b (cond c (inf s) nan) (odd (prec f) s (hid f + t) k (low f)) ≡ odd (prec f) s (hid f + t) k (low f))
    go true true h v = absurd v
    go true false h v = absurd v
    go false c h v = (λ e. h e, refl)

-- ---- the value
pub record UnpackedValue (f : Format) (x : Float) (s : Bool) (m e : ℕ) : Type 0 where
  pub value : HasValue x s (m * 2 ^ e) (2 ^ low f)
  pub significand : m < 2 ^ prec f
  pub exponent : e < ones f - 1

module _ (f : Format) (x : Float) (held : T (fits f x)) (finite-x : T (finite x)) where
  n : ℕ
  n = to_bits f x

  x_fields : x ≡ of_fields f (leb (top f) n) (n % top f / hid f) (n % hid f)
  unfolding n
  x_fields = sym (of_bits-to_bits f x held) ∙ of_bits_fields f (to_bits f x)

  fraction_lt : (m : ℕ) → m % hid f < hid f
  fraction_lt m = mod-lt m (pow_pos (prec f - 1))

  pub unpacked_subnormal : to_bits f x % top f / hid f ≡ 0 → UnpackedValue f x (leb (top f) (to_bits f x)) (to_bits f x % hid f) 0
  unfolding n
  unpacked_subnormal z =
      let t = n % hid f in
      let s = leb (top f) n in
      let e : x ≡ odd (prec f) s t 0 (low f) = x_fields ∙ ap (λ (k : ℕ). of_fields f s k t) z ∙ fields_subnormal f s t in record {
        value = subst (λ (y : Float). HasValue y s (t * 2 ^ 0) (2 ^ low f)) (sym e) (odd_sign (prec f) s t 0 (low f));
        significand = lt_of_lt_of_le (fraction_lt n) (le_trans (le-add_left (hid f) (hid f)) (le_of_eq (sym (hid_double f))));
        exponent = let a = two f in let b = reach f in let k : 0 < ones f - 1 = omega arith in k;
      }

  pub unpacked_normal : (to_bits f x % top f / hid f ≡ 0 → ⊥) → UnpackedValue f x (leb (top f) (to_bits f x)) (hid f + to_bits f x % hid f) (to_bits f x % top f / hid f - 1)
  unfolding n
  unpacked_normal z =
      let t = n % hid f in
      let s = leb (top f) n in
      let F = n % top f / hid f in
      let k : F ≡ suc (F - 1) = omega arith in
      let e : x ≡ of_fields f s (suc (F - 1)) t = x_fields ∙ ap (λ (k : ℕ). of_fields f s k t) k in
      let r = fields_normal f s t (F - 1) (subst (λ (y : Float). T (finite y)) e finite-x) in
      let H = pow_pos (prec f - 1) in record {
        value = subst (λ (y : Float). HasValue y s ((hid f + t) * 2 ^ (F - 1)) (2 ^ low f)) (sym (e ∙ r.1)) (odd_sign (prec f) s (hid f + t) (F - 1) (low f));
        significand = lt_of_lt_of_le (within (hid f) t (fraction_lt n)) (le_of_eq (sym (hid_double f)));
        exponent =
            below F (ones f) (λ h. z h)
            ((div-lt_iff_lt-mul H).1 (lt_of_lt_of_le (mod-lt n (mul-pos H (zero-lt-suc (ones f)))) (le_of_eq (mul_comm (hid f) (suc (ones f))))))
            (λ h. r.0 (sym k ∙ h));
      }
    where
      within : (h t : ℕ) → t < h → h + t < h + h
      within h t l = omega arith

      below : (F N : ℕ) → (F ≡ 0 → ⊥) → F < suc N → (F ≡ N → ⊥) → F - 1 < N - 1
      below F N a h g = elim (eq-or-lt_of_le (le_of_suc-le-suc h)) [ inl e ↦ absurd (g e) | inr l ↦ omega arith ]
