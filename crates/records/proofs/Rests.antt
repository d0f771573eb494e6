-- Laws of what is left of a text. Assumes nothing.
use Rattle.std.proofs.Common.{ℕ, ◌+◌, ◌≤◌, ◌<◌, ◌≡◌, List, length, drop, sym, ap, ◌∙◌, arith, length-drop}
use Rattle.std.proofs.lemmas.List.{drop-drop}
use Rattle.records.specs.At.{place_before, IsRest}

pub rest_whole : (text : List ℕ) → IsRest text text
rest_whole text = let e : place_before text text ≡ 0 = omega arith in sym (ap (λ (n : ℕ). drop n text) e)

module _ (text rest : List ℕ) (is : IsRest text rest) where
  pub rest_within : length rest ≤ length text
  rest_within = let size = ap length is in omega (arith, length-drop (place_before text rest) text)

  module _ (i : ℕ) (le : i ≤ length rest) where
    pub place_behind : place_before text (drop i rest) ≡ place_before text rest + i
    place_behind = let within = rest_within in omega (arith, length-drop i rest)

    pub rest_behind : IsRest text (drop i rest)
    rest_behind = ap (drop i) is ∙ drop-drop i (place_before text rest) text ∙ ap (λ (n : ℕ). drop n text) (sym place_behind)

module _ (text : List ℕ) (place : ℕ) (lt : place < length text) where
  pub rest_place : place_before text (drop place text) ≡ place
  rest_place = omega (arith, length-drop place text)

  pub rest_from : IsRest text (drop place text)
  rest_from = ap (λ (n : ℕ). drop n text) (sym rest_place)
