-- Laws of digits that a loop passes one by one. Assumes nothing.
use Rattle.std.proofs.Common.{ℕ, ◌+◌, ◌*◌, ◌^◌, ◌≤◌, ◌<◌, ◌≡◌, ◌≢◌, List, [], ◌∷◌, Option, None, Some, length, drop, refl, sym, ap, ◌∙◌, arith, add-one}
use Rattle.std.proofs.lemmas.Option.{none-some}
use native.Mathlib.Nat.{pow-suc, pow-le-pow_right}
use borrow.Author.Tests.{le-leb, lt-leb}
use Rattle.records.specs.At.{place_before, IsRest}
use Rattle.records.specs.Words.{byte_at, digit_value, leading_digits, with_digits, digits_word, digits_at, split_behind}
use Rattle.records.proofs.Rests.{rest_whole, rest_within, place_behind, rest_behind}

pub digits_none : (rest : List ℕ) → digit_value (byte_at rest 0) ≡ None → leading_digits rest ≡ []
unfolding leading_digits
digits_none [] e = refl
digits_none (byte ∷ rest) e = ap (λ (v : Option ℕ). elim v [ None ↦ [] | Some digit ↦ digit ∷ leading_digits rest ]) e

digits_first : (rest : List ℕ) (digit : ℕ) → digit_value (byte_at rest 0) ≡ Some digit → leading_digits rest ≡ digit ∷ leading_digits (drop 1 rest)
unfolding leading_digits digit_value
digits_first [] digit e = absurd (none-some digit e)
digits_first (byte ∷ rest) digit e = ap (λ (v : Option ℕ). elim v [ None ↦ [] | Some first ↦ first ∷ leading_digits rest ]) e

pub text_left : (rest : List ℕ) (digit : ℕ) → digit_value (byte_at rest 0) ≡ Some digit → 1 ≤ length rest
unfolding digit_value
text_left [] digit e = absurd (none-some digit e)
text_left (byte ∷ rest) digit e = omega arith

-- The digits before what is left are passed, and `value` is their number.
pub record Passed (text rest : List ℕ) (value : ℕ) : Type 0 where
  pub left : IsRest text rest
  pub few : place_before text rest ≤ 16
  pub small : value < 16 ^ place_before text rest
  pub counted : length (leading_digits text) ≡ place_before text rest + length (leading_digits rest)
  pub number : with_digits 0 (leading_digits text) ≡ with_digits value (leading_digits rest)

pub passed_none : (text : List ℕ) → Passed text text 0
passed_none text =
    let e : place_before text text ≡ 0 = omega arith in
    record { left = rest_whole text; few = omega arith; small = rw e (omega arith); counted = omega arith; number = refl }

module _ {text rest : List ℕ} {value : ℕ} (p : Passed text rest value) where
  -- one digit more fits 64 bits
  pub passed_room : place_before text rest < 16 → value < 2 ^ 60
  passed_room h =
      let small = p.small in
      let most : 16 ^ place_before text rest ≤ 16 ^ 15 = let le : place_before text rest ≤ 15 = omega arith in pow-le-pow_right (omega arith) le in
      omega arith

  module _ {digit : ℕ} (e : digit_value (byte_at rest 0) ≡ Some digit) where
    some_left : 1 ≤ length rest
    some_left = text_left rest digit e

    pub passed_next : digit < 16 → place_before text rest < 16 → Passed text (drop 1 rest) (value * 16 + digit)
    unfolding with_digits
    passed_next h k =
        let first = digits_first rest digit e in
        let place = place_behind text rest p.left 1 some_left in
        record {
          left = rest_behind text rest p.left 1 some_left;
          few = omega arith;
          small = let s = p.small in rw (place, add-one, pow-suc) (omega arith);
          counted =
              let c = p.counted in
              let f = ap length first in
              omega arith;
          number = p.number ∙ ap (with_digits value) first;
        }

    -- a digit behind 16 of them
    pub passed_long : place_before text rest ≡ 16 → digits_at text 0 ≡ None
    unfolding digits_at digits_word
    passed_long k =
        let c = p.counted in
        let f = ap length (digits_first rest digit e) in
        let many : 16 < length (leading_digits text) = omega arith in
        rw (le-leb 1 (length (leading_digits text)) (omega arith), lt-leb (length (leading_digits text)) 16 many) refl

  -- no digit follows
  module _ (e : leading_digits rest ≡ []) where
    counted_all : length (leading_digits text) ≡ place_before text rest
    counted_all = let c = p.counted in let f = ap length e in omega arith

    pub passed_nothing : length rest ≡ length text → digits_at text 0 ≡ None
    unfolding digits_at digits_word
    passed_nothing k =
        let c = counted_all in
        rw (lt-leb 1 (length (leading_digits text)) (omega arith)) refl

    pub passed_all : length rest ≢ length text → split_behind text (digits_at text 0) ≡ Some (value, rest)
    unfolding digits_at digits_word with_digits
    passed_all k =
        let c = counted_all in
        let few = p.few in
        let within = rest_within text rest p.left in
        let behind : drop (0 + place_before text rest) text ≡ rest = ap (λ (n : ℕ). drop n text) (omega arith) ∙ sym p.left in
        rw (le-leb 1 (length (leading_digits text)) (omega arith), le-leb (length (leading_digits text)) 16 (omega arith), c, p.number ∙ ap (with_digits value) e, behind) refl
