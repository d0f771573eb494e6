-- Laws of lists of words: what is read of a list so far, and what is left of one to compare. Assumes nothing.
use Rattle.std.proofs.Common.{ℕ, zero, suc, ◌+◌, ◌≤◌, ◌<◌, ◌≡◌, List, [], ◌∷◌, Result, Ok, Err, length, map, get_or, drop, refl, sym, ap, ◌∙◌, arith, add-one, get_or-set_other, get_or-set_same}
use native.Mathlib.Decide.{dec_lt}
use Rattle.std.specs.List.{FoldsTo}
use Rattle.sequences.proofs.Range.{last_or_below}
use mathlib.Core.Logic.{◌⊎◌, inl, inr}
use lib.ListN.{set, length-set, drop_of_length-le}
use Rattle.std.proofs.lemmas.List.{length-map, get_or-map, drop_more}
use Rattle.sequences.proofs.Tabulate.{tabulate_unique}
use Rattle.records.specs.declared.reader.Fault.{Fault}
use Rattle.records.specs.At.{At}
use Rattle.records.specs.Words.{Reading, reading, succeeded, failed, go_on, and_then, word_at_most, element_read, expected}
use Rattle.records.specs.Lists.{expected_each, behind_words, number_or_0, number_behind, ListRead}

-- ---- written
-- What writes the same at each step has written it everywhere.
module _ {F A : Type 0} {steps : F → A → F → Type 0} {value : A} (same : (before : F) (x : A) (after : F) → steps before x after → x ≡ value) where
  pub written_everywhere : (list : List A) (first last : F) → FoldsTo steps first list last → (k : ℕ) (d : A) → k < length list → get_or list k d ≡ value
  written_everywhere [] first last folded k d lt = absurd (omega arith)
  written_everywhere (x ∷ list) first last folded zero d lt = same _ _ _ folded.1
  written_everywhere (x ∷ list) first last folded (suc k) d lt = written_everywhere list _ _ folded.2 k d (omega arith)

-- ---- read
module _ {A : Type 0} (most : ℕ) (of_word : ℕ → A) (from : At) where
  -- The first k places of a list are read, and the others hold the value of the word 0.
  pub record ReadSoFar (list : List A) (k : ℕ) (behind : At) : Type 0 where
    pub words : behind_words most from k ≡ succeeded tt behind
    pub elements : (j : ℕ) (d : A) → j < k → get_or list j d ≡ of_word (number_behind most from j)
    pub cleared : (j : ℕ) (d : A) → k ≤ j → j < length list → get_or list j d ≡ of_word 0

  pub read_none : {list : List A} → ((j : ℕ) (d : A) → j < length list → get_or list j d ≡ of_word 0) → ReadSoFar list 0 from
  unfolding behind_words
  read_none h = record { words = refl; elements = λ j d lt. absurd (omega arith); cleared = λ j d le lt. h j d lt }

  module _ {list : List A} {k : ℕ} {behind : At} (r : ReadSoFar list k behind) where
    number_here : number_behind most from k ≡ number_or_0 (word_at_most most behind).outcome
    number_here = ap (λ (first : Reading (Unit {0})). number_or_0 (and_then first (λ _ at. word_at_most most at)).outcome) r.words

    words_next : behind_words most from (suc k) ≡ and_then (word_at_most most behind) (λ _ next. succeeded tt next)
    unfolding behind_words
    words_next = ap (λ (first : Reading (Unit {0})). and_then first (λ _ at. and_then (word_at_most most at) (λ _ next. succeeded tt next))) r.words

    -- a word more
    module _ {x : A} {next : At} (e : succeeded x next ≡ element_read most of_word behind) (lt : k < length list) where
      value_here : x ≡ of_word (number_behind most from k)
      value_here = go (word_at_most most behind).outcome e ∙ ap of_word (sym number_here)
        where
          go : (outcome : Result ℕ Fault) → succeeded x next ≡ go_on outcome (word_at_most most behind).behind (λ number at. succeeded (of_word number) at) → x ≡ of_word (number_or_0 outcome)
          go (Ok number) q = let same = ap (λ (read : Reading A). read.outcome) q in cc
          go (Err fault) q = let same = ap (λ (read : Reading A). read.outcome) q in cc

      words_found : behind_words most from (suc k) ≡ succeeded tt next
      words_found = words_next ∙ go (word_at_most most behind).outcome e
        where
          go : (outcome : Result ℕ Fault) → succeeded x next ≡ go_on outcome (word_at_most most behind).behind (λ number at. succeeded (of_word number) at)
              → ◌≡◌ {A = Reading (Unit {0})} (go_on outcome (word_at_most most behind).behind (λ _ at. succeeded tt at)) (succeeded tt next)
          go (Ok number) q = let r = ap (λ (read : Reading A). succeeded (tt {0}) read.behind) q in sym r
          go (Err fault) q = let same = ap (λ (read : Reading A). read.outcome) q in cc

      pub read_next : ReadSoFar (set list k x) (k + 1) next
      read_next = record {
        words = rw add-one words_found;
        elements = λ j d h. at_place j d (last_or_below j k (omega arith));
        cleared = λ j d le h. get_or-set_other list k j x d (λ q. omega arith) ∙ r.cleared j d (omega arith) (omega (arith, length-set list k x));
      }
        where
          at_place : (j : ℕ) (d : A) → (j ≡ k) ⊎ (j < k) → get_or (set list k x) j d ≡ of_word (number_behind most from j)
          at_place j d (inl q) = rw q (get_or-set_same list k x d lt ∙ value_here)
          at_place j d (inr h) = get_or-set_other list k j x d (λ q. omega arith) ∙ r.elements j d h

    -- a fault
    module _ {fault : Fault} {next : At} (e : failed {A = A} fault next ≡ element_read most of_word behind) (lt : k < length list) where
      word_failed : word_at_most most behind ≡ failed fault next
      word_failed = go (word_at_most most behind).outcome e
        where
          go : (outcome : Result ℕ Fault) → failed {A = A} fault next ≡ go_on outcome (word_at_most most behind).behind (λ number at. succeeded (of_word number) at)
              → reading outcome (word_at_most most behind).behind ≡ failed fault next
          go (Ok number) q = let same = ap (λ (read : Reading A). read.outcome) q in cc
          go (Err other) q =
              let same : other ≡ fault = let outcomes = ap (λ (read : Reading A). read.outcome) q in cc in
              let place : (word_at_most most behind).behind ≡ next = sym (ap (λ (read : Reading A). read.behind) q) in
              rw (same, place) refl

      words_failed : (j : ℕ) → k < j → behind_words most from j ≡ failed fault next
      unfolding behind_words
      words_failed zero h = absurd (omega arith)
      words_failed (suc j) h = go (words_failed j) (dec_lt k j)
        where
          go : (k < j → behind_words most from j ≡ failed fault next) → Dec (k < j) → behind_words most from (suc j) ≡ failed fault next
          go before (yes below) = ap (λ (first : Reading (Unit {0})). and_then first (λ _ at. and_then (word_at_most most at) (λ _ then. succeeded (tt {0}) then))) (before below)
          go before (no least) =
              let same : j ≡ k = omega arith in
              rw same (words_next ∙ ap (λ (word : Reading ℕ). and_then word (λ _ at. succeeded (tt {0}) at)) word_failed)

      number_failed : (j : ℕ) → k ≤ j → number_behind most from j ≡ 0
      number_failed j h = go (dec_lt k j)
        where
          go : Dec (k < j) → number_behind most from j ≡ 0
          go (yes below) = ap (λ (first : Reading (Unit {0})). number_or_0 (and_then first (λ _ at. word_at_most most at)).outcome) (words_failed j below)
          go (no least) =
              let same : j ≡ k = omega arith in
              rw same (number_here ∙ ap (λ (word : Reading ℕ). number_or_0 word.outcome) word_failed)

      pub read_fault : ListRead most of_word from (length list) (failed fault next) list
      read_fault = record {
        words = sym (words_failed (length list) lt);
        elements = tabulate_unique (length list) (λ j. of_word (number_behind most from j)) list (of_word 0) refl (λ j h. each j h (dec_lt j k));
      }
        where
          each : (j : ℕ) → j < length list → Dec (j < k) → get_or list j (of_word 0) ≡ of_word (number_behind most from j)
          each j h (yes below) = r.elements j (of_word 0) below
          each j h (no least) = r.cleared j (of_word 0) (omega arith) h ∙ ap of_word (sym (number_failed j (omega arith)))

    pub read_all : length list ≤ k → k ≤ length list → ListRead most of_word from (length list) (succeeded tt behind) list
    read_all le ge =
        let e : k ≡ length list = omega arith in
        record {
          words = sym r.words ∙ ap (behind_words most from) e;
          elements = tabulate_unique (length list) (λ j. of_word (number_behind most from j)) list (of_word 0) refl (λ j h. r.elements j (of_word 0) (omega arith));
        }

-- ---- compared
module _ {A : Type 0} (word_of : A → ℕ) (list : List A) where
  -- what is left of the list from a place on
  abbrev pub rest_expected : ℕ → At → Reading (Unit {0})
  rest_expected i from = expected_each (drop i (map word_of list)) from

  module _ (i : ℕ) (from : At) where
    module _ {x : A} (lt : i < length list) (is : x ≡ get_or list i x) where
      rest_first : rest_expected i from ≡ and_then (expected (word_of x) from) (λ _ behind. rest_expected (i + 1) behind)
      unfolding expected_each
      rest_first =
          let word : get_or (map word_of list) i 0 ≡ word_of x = get_or-map word_of list i x 0 lt ∙ ap word_of (sym is) in
          let below : i < length (map word_of list) = simp length-map lt in
          rw (drop_more (map word_of list) i 0 below, word) refl

      pub each_next : {behind : At} → succeeded tt behind ≡ expected (word_of x) from → rest_expected (i + 1) behind ≡ rest_expected i from
      each_next e = ap (λ (first : Reading (Unit {0})). and_then first (λ _ at. rest_expected (i + 1) at)) e ∙ sym rest_first

      pub each_fault : {fault : Fault} {behind : At} → failed fault behind ≡ expected (word_of x) from → failed fault behind ≡ rest_expected i from
      each_fault e = ap (λ (first : Reading (Unit {0})). and_then first (λ _ at. rest_expected (i + 1) at)) e ∙ sym rest_first

    pub each_all : length list ≤ i → rest_expected i from ≡ succeeded tt from
    unfolding expected_each
    each_all h = let all : length (map word_of list) ≤ i = simp length-map h in rw (drop_of_length-le (map word_of list) all) refl
