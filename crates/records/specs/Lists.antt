-- Lists in a record (crates/replay/README.md, "Form"): compared, and read. Definitions only.
-- A list of doubles is compared as the list of their bit patterns, `map pattern`.
use Rattle.std.specs.Prelude.{ℕ, zero, suc, ◌≡◌, Bool, cond, List, [], ◌∷◌, Result, Ok, Err, Float}
use Rattle.std.specs.Float.{binary64}
use Rattle.std.specs.Float.Ieee.{to_bits}
use Rattle.sequences.specs.Tabulate.{tabulate}
use Rattle.records.specs.At.{At}
use Rattle.records.specs.declared.reader.Fault.{Fault}
use Rattle.records.specs.Words.{Reading, succeeded, and_then, word_at_most, expected}
use Rattle.records.specs.Hash.{hash_of}

-- "A double is its bit pattern; every NaN is `nan`": there is one NaN here, and its pattern is `nan_pattern`.
abbrev pub pattern : Float → ℕ
pattern x = to_bits binary64 x

-- "A list is one word an element": each is expected in its turn.
unfoldable pub expected_each : List ℕ → At → Reading (Unit {0})
expected_each [] from = succeeded tt from
expected_each (number ∷ rest) from = and_then (expected number from) (λ _ behind. expected_each rest behind)

-- "a hash in place of each list", where numbers have `size` bytes.
unfoldable pub expected_list : Bool → ℕ → List ℕ → At → Reading (Unit {0})
expected_list hashed size numbers from = cond hashed (expected (hash_of size numbers) from) (expected_each numbers from)

-- n words, each at most `most`.
unfoldable pub behind_words : ℕ → At → ℕ → Reading (Unit {0})
behind_words most from zero = succeeded tt from
behind_words most from (suc n) = and_then (behind_words most from n) (λ _ behind. and_then (word_at_most most behind) (λ _ next. succeeded tt next))

-- The number of a word, and 0 where none was read.
abbrev pub number_or_0 : Result ℕ Fault → ℕ
number_or_0 (Ok number) = number
number_or_0 (Err fault) = 0

-- The number of the word behind n words. From the first fault on it is 0.
abbrev pub number_behind : ℕ → At → ℕ → ℕ
number_behind most from n = number_or_0 (and_then (behind_words most from n) (λ _ behind. word_at_most most behind)).outcome

-- A list was read, one word an element: what it holds, and where the reader stands. A number becomes an element by `of_word`.
pub record ListRead {A : Type 0} (most : ℕ) (of_word : ℕ → A) (from : At) (places : ℕ) (read : Reading (Unit {0})) (list : List A) : Type 0 where
  pub words : read ≡ behind_words most from places
  pub elements : list ≡ tabulate places (λ k. of_word (number_behind most from k))
