-- Laws of the words that what is left of a text begins with. Assumes nothing.
use Rattle.std.proofs.Common.{ℕ, ◌+◌, ◌<◌, ◌≡◌, Bool, true, false, not, ◌&&◌, cond, List, Option, None, Some, eqb, ltb, length, drop, refl, sym, ap, ◌∙◌, subst, arith, length-drop}
use Rattle.std.specs.Option.{option_map}
use Rattle.std.specs.Cmp.{first_so, second_so}
use Rattle.std.proofs.lemmas.List.{drop-drop, get_or-drop}
use Rattle.std.proofs.lemmas.Option.{none-some, same_Some}
use Rattle.std.proofs.lemmas.Bool.Decides.{nat_tests}
use Rattle.std.proofs.lemmas.Bool.{ltb-true, eqb-true}
use Rattle.std.proofs.Math.Nat.{add-zero}
use native.Mathlib.Decide.{dec_lt}
use lib.ListN.{get_or-eq_default}
use Rattle.records.specs.declared.reader.Fault.TheVariants.{Malformed}
use Rattle.records.specs.At.{At, reader_at, place_before, IsRest}
use Rattle.records.specs.Words.{Word, Reading, byte_at, line_feed, space, word_to, digits_word, digits_at, leading_digits, with_digits, spells_nan, nan_pattern, token_at, split_behind, line_goes_on, delimited, next_text, next_word, succeeded, failed}
use Rattle.records.proofs.Rests.{rest_from, rest_place}

abbrev has_feed : List ℕ → ℕ → Bool
has_feed text end = eqb (byte_at text end) line_feed

byte_behind : (text : List ℕ) (start : ℕ) → byte_at (drop start text) 0 ≡ byte_at text start
byte_behind text start = get_or-drop start text 0 0 ∙ ap (λ (n : ℕ). byte_at text n) (add-zero start)

within_behind : (text : List ℕ) (start : ℕ) → ltb 0 (length (drop start text)) ≡ ltb start (length text)
within_behind text start = let size = length-drop start text in grind (arith, nat_tests)

line_behind : (text : List ℕ) (start : ℕ) → line_goes_on (drop start text) 0 ≡ line_goes_on text start
unfolding line_goes_on
line_behind text start = rw (byte_behind text start) (ap (λ (within : Bool). within && not (has_feed text start)) (within_behind text start))

pub line_left : (text rest : List ℕ) → IsRest text rest → line_goes_on rest 0 ≡ line_goes_on text (place_before text rest)
line_left text rest is = ap (λ (left : List ℕ). line_goes_on left 0) is ∙ line_behind text (place_before text rest)

-- a word, with so many bytes before the text
abbrev moved : ℕ → Word → Word
moved start word = word_to word.value (start + word.end)

digits_moved : (text : List ℕ) (start : ℕ) → digits_at text start ≡ option_map (moved start) (digits_at (drop start text) 0)
unfolding digits_at digits_word
digits_moved text start = go (leading_digits (drop start text)) _
  where
    go : (digits : List ℕ) (few : Bool) → cond few (Some (word_to (with_digits 0 digits) (start + length digits))) None
        ≡ option_map (moved start) (cond few (Some (word_to (with_digits 0 digits) (0 + length digits))) None)
    go digits true = ap (λ (n : ℕ). Some (word_to (with_digits 0 digits) (start + n))) (omega arith)
    go digits false = refl

token_moved : (text : List ℕ) (start : ℕ) → token_at text start ≡ option_map (moved start) (token_at (drop start text) 0)
unfolding token_at spells_nan
token_moved text start =
    rw (byte_behind text start, get_or-drop start text 1 0, get_or-drop start text 2 0)
    (go (spells_nan text start) _ _ (digits_moved text start))
  where
    go : (nan : Bool) (here : Option Word) (there : Option Word) → here ≡ option_map (moved start) there
        → cond nan (Some (word_to nan_pattern (start + 3))) here ≡ option_map (moved start) (cond nan (Some (word_to nan_pattern (0 + 3))) there)
    go true here there e = refl
    go false here there e = e

-- ---- what follows a word
abbrev goes_on : List ℕ → ℕ → Bool
goes_on text end = eqb (byte_at text end) space && line_goes_on text (end + 1)

feed_within : (text : List ℕ) (end : ℕ) → has_feed text end ≡ true → end < length text
feed_within text end e = go (dec_lt end (length text))
  where
    go : Dec (end < length text) → end < length text
    go (yes h) = h
    go (no h) =
        let none : byte_at text end ≡ 0 = get_or-eq_default text 0 (omega arith) in
        let feed : byte_at text end ≡ 10 = eqb-true (byte_at text end) line_feed e in
        absurd (omega arith)

space_within : (text : List ℕ) (end : ℕ) → goes_on text end ≡ true → end + 1 < length text
unfolding line_goes_on
space_within text end e = ltb-true (end + 1) (length text) (first_so (ltb (end + 1) (length text)) _ (second_so (eqb (byte_at text end) space) (line_goes_on text (end + 1)) e))

next_from : (text : List ℕ) (end : ℕ) → next_text (drop end text) ≡ cond (has_feed text end) (Some (drop end text)) (cond (goes_on text end) (Some (drop (end + 1) text)) None)
unfolding next_text
next_from text end = rw (byte_behind text end, drop-drop 1 end text, line_behind text (end + 1)) refl

module _ (text : List ℕ) (start number end : ℕ) where
  abbrev word_delimited : Reading ℕ
  word_delimited = delimited (reader_at text start) (word_to number end)

  not_delimited : next_text (drop end text) ≡ None → word_delimited ≡ failed Malformed (reader_at text start)
  unfolding delimited
  not_delimited e = go (has_feed text end) (goes_on text end) (sym (next_from text end) ∙ e)
    where
      go : (feed more : Bool) → cond feed (Some (drop end text)) (cond more (Some (drop (end + 1) text)) None) ≡ None
          → cond feed (succeeded number (reader_at text end)) (cond more (succeeded number (reader_at text (end + 1))) (failed Malformed (reader_at text start))) ≡ failed Malformed (reader_at text start)
      go true more q = absurd (none-some _ (sym q))
      go false true q = absurd (none-some _ (sym q))
      go false false q = refl

  -- a reader may go on with what follows the word
  record GoesOn (next : List ℕ) : Type 0 where
    left : IsRest text next
    word : word_delimited ≡ succeeded number (reader_at text (place_before text next))

  goes_from : (place : ℕ) → place < length text → word_delimited ≡ succeeded number (reader_at text place) → GoesOn (drop place text)
  goes_from place h e = record {
    left = rest_from text place h;
    word = rw (rest_place text place h) e;
  }

  goes_on_with : {next : List ℕ} → next_text (drop end text) ≡ Some next → GoesOn next
  unfolding delimited
  goes_on_with {next} e = go (has_feed text end) (goes_on text end) (feed_within text end) (space_within text end) refl refl (sym (next_from text end) ∙ e)
    where
      go : (feed more : Bool) → (feed ≡ true → end < length text) → (more ≡ true → end + 1 < length text) → has_feed text end ≡ feed → goes_on text end ≡ more
          → cond feed (Some (drop end text)) (cond more (Some (drop (end + 1) text)) None) ≡ Some next → GoesOn next
      go true more h k is also q = subst GoesOn (same_Some _ _ q) (goes_from end (h refl) (rw is refl))
      go false true h k is also q = subst GoesOn (same_Some _ _ q) (goes_from (end + 1) (k refl) (rw (is, also) refl))
      go false false h k is also q = absurd (none-some _ q)

-- ---- the next word
module _ (text rest : List ℕ) (is : IsRest text rest) where
  abbrev from : At
  from = reader_at text (place_before text rest)

  token_here : token_at text from.place ≡ option_map (moved from.place) (token_at rest 0)
  token_here = token_moved text from.place ∙ ap (λ (left : List ℕ). option_map (moved from.place) (token_at left 0)) (sym is)

  abbrev with_word : Option Word → Reading ℕ
  with_word token = elim token [ None ↦ failed Malformed from | Some word ↦ delimited from word ]

  pub no_token : split_behind rest (token_at rest 0) ≡ None → failed Malformed from ≡ next_word from
  unfolding next_word
  no_token e = go (token_at rest 0) e token_here
    where
      go : (token : Option Word) → split_behind rest token ≡ None → token_at text from.place ≡ option_map (moved from.place) token → failed Malformed from ≡ with_word (token_at text from.place)
      go None q here = ap with_word (sym here)
      go (Some word) q here = absurd (none-some _ (sym q))

  module _ (number : ℕ) (behind : List ℕ) (e : split_behind rest (token_at rest 0) ≡ Some (number, behind)) where
    record TokenBehind : Type 0 where
      end : ℕ
      here : next_word from ≡ delimited from (word_to number end)
      left : drop end text ≡ behind

    token_behind : TokenBehind
    unfolding next_word
    token_behind = go (token_at rest 0) e token_here
      where
        go : (token : Option Word) → split_behind rest token ≡ Some (number, behind) → token_at text from.place ≡ option_map (moved from.place) token → TokenBehind
        go None q here = absurd (none-some _ q)
        go (Some word) q here =
            let same = same_Some _ _ q in
            record {
              end = from.place + word.end;
              here = ap with_word here ∙ ap (λ (w : ℕ × List ℕ). delimited from (word_to w.0 (from.place + word.end))) same;
              left = sym (drop-drop word.end from.place text) ∙ ap (drop word.end) (sym is) ∙ ap (λ (w : ℕ × List ℕ). w.1) same;
            }

    pub word_refused : next_text behind ≡ None → failed Malformed from ≡ next_word from
    word_refused q =
        let t = token_behind in
        sym (t.here ∙ not_delimited text from.place number t.end (ap next_text t.left ∙ q))

    pub word_read : {next : List ℕ} → next_text behind ≡ Some next → IsRest text next × (succeeded number (reader_at text (place_before text next)) ≡ next_word from)
    word_read q =
        let t = token_behind in
        let next = goes_on_with text from.place number t.end (ap next_text t.left ∙ q) in
        (next.left, sym (t.here ∙ next.word))
