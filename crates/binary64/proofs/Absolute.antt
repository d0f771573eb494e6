-- Laws of the absolute value: when it is at most a bound (`abs_within`) and when at least one (`abs_from_above`, `abs_from_below`); that of a quotient by a value above zero is the quotient of the dividend's (`abs_div`). Assumes nothing.
use Rattle.std.proofs.Common.{◌≡◌, ℕ, ◌<◌, Bool, true, false, T, ◌⊎◌, sym, refl, ap, ◌∙◌, subst, inl, inr, true≢false, arith, ltb→lt, ne_eqb}
use lib.Ieee.{Float, nan, inf, fin, Format, round, div, neg, le, is_nan}
use lib.Ieee.Bits.{is_false}
use Rattle.std.proofs.lemmas.Float.{T_from_false, le_refl, le_right, le_trans, le_of_not-lt}
use lib.Ieee.Positive.{positive}
use lib.Ieee.Scale.{finite}
use Rattle.binary64.specs.Absolute.{abs}
use Rattle.binary64.proofs.FloatOrder.{signs_apart}
use Rattle.binary64.proofs.Negation.{neg_neg, neg_round}
use Rattle.binary64.proofs.NotNan.{Signed, infinite, number, round_signed}
use Rattle.binary64.proofs.SignedOrder.{neg_le}

pub abs_finite : (x : Float) → T (finite x) → T (finite (abs x))
unfolding abs
abs_finite (fin s m e) h = tt
abs_finite nan h = elim h [ ]
abs_finite (inf _) h = elim h [ ]

abs_either : (x : Float) → (abs x ≡ x) ⊎ (abs x ≡ neg x)
unfolding abs neg
abs_either nan = inl refl
abs_either (inf false) = inl refl
abs_either (inf true) = inr refl
abs_either (fin false m e) = inl refl
abs_either (fin true m e) = inr refl

abs_neg : (x : Float) → abs (neg x) ≡ abs x
unfolding abs neg
abs_neg nan = refl
abs_neg (inf s) = refl
abs_neg (fin s m e) = refl

not_above_abs : (x : Float) → is_nan x ≡ false → T (le x (abs x))
unfolding abs is_nan
not_above_abs nan h = absurd (true≢false h)
not_above_abs (inf false) h = le_refl (inf false) tt
not_above_abs (inf true) h = le_of_not-lt (inf false) (inf true) tt tt (T_from_false _ (signs_apart infinite infinite))
not_above_abs (fin false m e) h = le_refl (fin false m e) tt
not_above_abs (fin true m e) h = le_of_not-lt (fin false m e) (fin true m e) tt tt (T_from_false _ (signs_apart (number m e) (number m e)))

-- ---- bounds
pub abs_bounded_finite : (x b : Float) → T (finite b) → T (le (abs x) b) → T (finite x)
unfolding abs le
abs_bounded_finite nan (fin t n d) B h = absurd h
abs_bounded_finite (inf s) (fin t n d) B h = absurd h
abs_bounded_finite (fin s m e) b B h = tt
abs_bounded_finite nan nan B h = elim B [ ]
abs_bounded_finite nan (inf _) B h = elim B [ ]
abs_bounded_finite (inf s) nan B h = elim B [ ]
abs_bounded_finite (inf s) (inf _) B h = elim B [ ]

pub abs_within : (x b : Float) → T (le (neg b) x) → T (le x b) → T (le (abs x) b)
abs_within x b least most = go (abs_either x)
  where
    go : (abs x ≡ x) ⊎ (abs x ≡ neg x) → T (le (abs x) b)
    go (inl e) = rw e most
    go (inr e) = rw e (subst (λ (z : Float). T (le (neg x) z)) (neg_neg b) (neg_le (neg b) x least))

pub abs_from_above : (x b : Float) → T (le b x) → T (le b (abs x))
abs_from_above x b h = le_trans b x (abs x) h (not_above_abs x (is_false (is_nan x) (le_right b x h)))

pub abs_from_below : (x b : Float) → T (le x (neg b)) → T (le b (abs x))
abs_from_below x b h =
    subst (λ (z : Float). T (le b z)) (abs_neg x) (abs_from_above (neg x) b (subst (λ (z : Float). T (le z (neg x))) (neg_neg b) (neg_le x (neg b) h)))

pub abs_of_positive : (x : Float) → T (positive x) → abs x ≡ x
unfolding abs
abs_of_positive (fin false m e) h = refl
abs_of_positive nan h = elim h [ ]
abs_of_positive (inf _) h = elim h [ ]
abs_of_positive (fin true m e) h = elim h [ ]

-- ---- operations
own_abs : {x : Float} → Signed false x → abs x ≡ x
unfolding abs
own_abs infinite = refl
own_abs (number m e) = refl

abs_round : (f : Format) (s : Bool) (a c : ℕ) → abs (round f s a c) ≡ round f false a c
abs_round f false a c = own_abs (round_signed f false a c)
abs_round f true a c = ap abs (sym (neg_round f false a c)) ∙ abs_neg (round f false a c) ∙ own_abs (round_signed f false a c)

pub abs_div : (f : Format) (x y : Float) → T (finite x) → T (positive y) → abs (div f x y) ≡ div f (abs x) y
unfolding abs div
abs_div f (fin s m e) (fin false k g) X Y =
    let some : 0 < k = ltb→lt 0 k Y in
    rw (ne_eqb k 0 (λ z. omega arith)) (abs_round f _ _ _)
abs_div f nan y X Y = elim X [ ]
abs_div f (inf _) y X Y = elim X [ ]
abs_div f (fin s m e) nan X Y = elim Y [ ]
abs_div f (fin s m e) (inf _) X Y = elim Y [ ]
abs_div f (fin s m e) (fin true k g) X Y = elim Y [ ]
