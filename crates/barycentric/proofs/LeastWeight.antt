-- What the least of three weights is: NaN where all are, one of the three, with none of them below it, and the same in whatever order they come. Assumes nothing.
use mathlib.Core.Path.{◌≡◌, sym, ap, ◌∙◌}
use mathlib.Core.Logic.{◌⊎◌, inl, inr, ⊎_elim}
use mathlib.Core.Bool.{Bool, true, false, ◌&&◌, ◌||◌, false≢true}
use lib.Dec.{T}
use lib.Ieee.{Float, binary64, lt, le, is_nan, fits}
use lib.Ieee.Bits.{is_true}
use Rattle.std.proofs.lemmas.Bool.{and_parts, or_cases, false_from_ne_true}
use Rattle.std.proofs.lemmas.Float.{T_from_true, lt_of_le_of_lt}
use Rattle.binary64.specs.Minimum.{minimum_number}
use Rattle.binary64.proofs.Minimum.{minimum_operand, minimum_nan, first_not_below, second_not_below, still_not_below}
use Rattle.binary64.proofs.MinimumRank.{minimum_commutes, minimum_associates}
use Rattle.vector.specs.declared.Weights.{Weights}
use Rattle.vector.specs.Triangle.{weights}
use Rattle.barycentric.specs.LeastWeight.{least_weight}
use Rattle.barycentric.specs.Laws.{NoneBelow, HasSameLeast}

pub least_weight_nan : (t : Weights) → is_nan (least_weight t) ≡ (is_nan t.u && is_nan t.v && is_nan t.w)
unfolding least_weight
least_weight_nan t = minimum_nan (minimum_number t.u t.v) t.w ∙ ap (λ (b : Bool). b && is_nan t.w) (minimum_nan t.u t.v)

pub none_below_least : (t : Weights) → NoneBelow t
unfolding least_weight
none_below_least t =
    let two = minimum_number t.u t.v in
    record {
      u_not_below = still_not_below t.u two t.w (λ e. (both e).0) (first_not_below t.u t.v);
      v_not_below = still_not_below t.v two t.w (λ e. (both e).1) (second_not_below t.u t.v);
      w_not_below = second_not_below two t.w;
    }
  where
    both : is_nan (minimum_number t.u t.v) ≡ true → (is_nan t.u ≡ true) × (is_nan t.v ≡ true)
    both e = and_parts (is_nan t.u) (is_nan t.v) (sym (minimum_nan t.u t.v) ∙ e)

-- So a weight that is at most a bound says that the least does not exceed it, and no minimum need be taken.
pub least_not_above : (t : Weights) (bound : Float) → ((le t.u bound || le t.v bound) || le t.w bound) ≡ true → lt bound (least_weight t) ≡ false
least_not_above t bound h =
    let none = none_below_least t in
    elim (or_cases (le t.u bound || le t.v bound) (le t.w bound) h) [
      | inl two ↦ ⊎_elim (λ e. held t.u e none.u_not_below) (λ e. held t.v e none.v_not_below) (or_cases (le t.u bound) (le t.v bound) two)
      | inr e ↦ held t.w e none.w_not_below
    ]
  where
    held : (weight : Float) → le weight bound ≡ true → lt weight (least_weight t) ≡ false → lt bound (least_weight t) ≡ false
    held weight e not_below = false_from_ne_true (lt bound (least_weight t)) (λ above. false≢true (sym not_below ∙ is_true _ (lt_of_le_of_lt weight bound (least_weight t) (T_from_true _ e) (T_from_true _ above))))

pub least_weight_is_weight : (t : Weights) → ((least_weight t ≡ t.u) ⊎ (least_weight t ≡ t.v)) ⊎ (least_weight t ≡ t.w)
unfolding least_weight
least_weight_is_weight t = elim (minimum_operand (minimum_number t.u t.v) t.w) [
  | inl two ↦ elim (minimum_operand t.u t.v) [ inl e ↦ inl (inl (two ∙ e)) | inr e ↦ inl (inr (two ∙ e)) ]
  | inr e ↦ inr e
]

-- ---- in any order
module _ (u v w : Float) (fu : T (fits binary64 u)) (fv : T (fits binary64 v)) (fw : T (fits binary64 w)) where
  first_exchanged : least_weight (weights v u w) ≡ least_weight (weights u v w)
  unfolding least_weight
  first_exchanged = ap (λ (m : Float). minimum_number m w) (minimum_commutes v u fv fu)

  last_exchanged : least_weight (weights u w v) ≡ least_weight (weights u v w)
  unfolding least_weight
  last_exchanged = minimum_associates u w v fu fw fv ∙ ap (minimum_number u) (minimum_commutes w v fw fv) ∙ sym (minimum_associates u v w fu fv fw)

pub least_weight_any_order : (u v w : Float) → T (fits binary64 u) → T (fits binary64 v) → T (fits binary64 w) → HasSameLeast u v w
least_weight_any_order u v w fu fv fw =
    let vuw' = first_exchanged u v w fu fv fw in
    let uwv' = last_exchanged u v w fu fv fw in
    record {
      uwv = uwv';
      vuw = vuw';
      vwu = last_exchanged v u w fv fu fw ∙ vuw';
      wuv = first_exchanged u w v fu fw fv ∙ uwv';
      wvu = first_exchanged v w u fv fw fu ∙ last_exchanged v u w fv fu fw ∙ vuw';
    }
