-- The words of a record (crates/replay/README.md, "Form"). A text is a list of bytes (ASCII). Definitions only.
use Rattle.std.specs.Prelude.{ℕ, ◌+◌, ◌-◌, ◌*◌, Bool, not, ◌&&◌, cond, List, [], ◌∷◌, Option, None, Some, option_map, Result, Ok, Err, ltb, leb, eqb, length, get_or, drop}
use Rattle.std.specs.List.{position}
use Rattle.std.specs.Option.{unwrap_or}
use Rattle.records.specs.declared.reader.Fault.{Fault}
use Rattle.records.specs.declared.reader.Fault.TheVariants.{Malformed, TooGreat, Different, TooMany}
use Rattle.records.specs.At.{At, reader_at}

abbrev pub space : ℕ
space = 32

abbrev pub line_feed : ℕ
line_feed = 10

-- The byte at a place, and 0 behind the text's end.
abbrev pub byte_at : List ℕ → ℕ → ℕ
byte_at text place = get_or text place 0

-- ---- tokens

-- A number that a text has, and where the text goes on behind it.
pub record Word : Type 0 where
  pub value : ℕ
  pub end : ℕ

abbrev pub word_to : ℕ → ℕ → Word
word_to value end = record { value = value; end = end }

-- "hexadecimal digits (lower case ..)": what a byte counts as a digit, 0 to 9 or a to f; nothing where it is none.
unfoldable pub digit_value : ℕ → Option ℕ
digit_value byte = cond (leb 48 byte && leb byte 57) (Some (byte - 48)) (cond (leb 97 byte && leb byte 102) (Some (byte - 97 + 10)) None)

-- The digits that a text begins with.
unfoldable pub leading_digits : List ℕ → List ℕ
leading_digits [] = []
leading_digits (byte ∷ rest) = elim (digit_value byte) [ None ↦ [] | Some digit ↦ digit ∷ leading_digits rest ]

-- A number with further digits written behind it.
unfoldable pub with_digits : ℕ → List ℕ → ℕ
with_digits number [] = number
with_digits number (digit ∷ rest) = with_digits (number * 16 + digit) rest

-- "a number in hexadecimal digits (.., 16 at most)": the word of these digits, without what follows.
unfoldable pub digits_word : ℕ → List ℕ → Option Word
digits_word start digits = cond (leb 1 (length digits) && leb (length digits) 16) (Some (word_to (with_digits 0 digits) (start + length digits))) None

-- The digits from a place on.
unfoldable pub digits_at : List ℕ → ℕ → Option Word
digits_at text start = digits_word start (leading_digits (drop start text))

-- "or `nan`": the bytes n, a, n.
unfoldable pub spells_nan : List ℕ → ℕ → Bool
spells_nan text start = eqb (byte_at text start) 110 && (eqb (byte_at text (start + 1)) 97 && eqb (byte_at text (start + 2)) 110)

-- "every NaN is `nan`, as the bits of a NaN are free": it stands for one bit pattern.
abbrev pub nan_pattern : ℕ
nan_pattern = 0x7ff8000000000000

-- A word without what follows it: `nan`, or digits.
unfoldable pub token_at : List ℕ → ℕ → Option Word
token_at text start = cond (spells_nan text start) (Some (word_to nan_pattern (start + 3))) (digits_at text start)

-- A word's number, and the text behind the word.
abbrev pub split_behind : List ℕ → Option Word → Option (ℕ × List ℕ)
split_behind text word = option_map (λ w. (w.value, drop w.end text)) word

-- ---- what a reader takes

-- What came of a reading, and where the reader stands behind it.
pub record Reading (A : Type 0) : Type 0 where
  pub outcome : Result A Fault
  pub behind : At

module _ {A : Type 0} where
  abbrev pub reading : Result A Fault → At → Reading A
  reading outcome behind = record { outcome = outcome; behind = behind }

  abbrev pub succeeded : A → At → Reading A
  succeeded a behind = reading (Ok a) behind

  abbrev pub failed : Fault → At → Reading A
  failed fault behind = reading (Err fault) behind

module _ {A B : Type 0} where
  -- A reading behind another. Behind a fault nothing is read: the fault stays, and the reader stays where it is.
  abbrev pub go_on : Result A Fault → At → (A → At → Reading B) → Reading B
  go_on (Ok a) behind next = next a behind
  go_on (Err fault) behind next = failed fault behind

  abbrev pub and_then : Reading A → (A → At → Reading B) → Reading B
  and_then first next = go_on first.outcome first.behind next

-- ---- words

-- Whether a line has a byte at a place.
unfoldable pub line_goes_on : List ℕ → ℕ → Bool
line_goes_on text place = ltb place (length text) && not (eqb (byte_at text place) line_feed)

-- "A record is a line: words with one space between them": behind a token stands the line feed, and the reader stays at it; or a space with more of the line behind it, and the reader passes the space.
unfoldable pub delimited : At → Word → Reading ℕ
delimited from word =
    cond (eqb (byte_at from.text word.end) line_feed) (succeeded word.value (reader_at from.text word.end))
    (cond (eqb (byte_at from.text word.end) space && line_goes_on from.text (word.end + 1)) (succeeded word.value (reader_at from.text (word.end + 1))) (failed Malformed from))

-- The same by the text behind a token: what the reader goes on with.
unfoldable pub next_text : List ℕ → Option (List ℕ)
next_text behind =
    cond (eqb (byte_at behind 0) line_feed) (Some behind)
    (cond (eqb (byte_at behind 0) space && line_goes_on (drop 1 behind) 0) (Some (drop 1 behind)) None)

-- The next word. The reader stays before one that is malformed.
unfoldable pub next_word : At → Reading ℕ
next_word from = elim (token_at from.text from.place) [ None ↦ failed Malformed from | Some word ↦ delimited from word ]

-- A number, where it is at most `most`.
abbrev pub limited : ℕ → ℕ → At → Reading ℕ
limited most number behind = cond (leb number most) (succeeded number behind) (failed TooGreat behind)

-- The next word, its number at most `most`.
unfoldable pub word_at_most : ℕ → At → Reading ℕ
word_at_most most from = and_then (next_word from) (limited most)

-- The next word as a value of a type, of which `most` is the greatest word.
abbrev pub element_read : {A : Type 0} → ℕ → (ℕ → A) → At → Reading A
element_read most of_word from = and_then (word_at_most most from) (λ number behind. succeeded (of_word number) behind)

-- ---- comparisons

-- A number, where it is the expected one.
abbrev pub compared : ℕ → ℕ → At → Reading (Unit {0})
compared number other behind = cond (eqb other number) (succeeded tt behind) (failed Different behind)

-- The next word, compared with a number.
unfoldable pub expected : ℕ → At → Reading (Unit {0})
expected number from = and_then (next_word from) (compared number)

-- ---- lines

-- A line ends where the reader stands.
abbrev pub finished : At → Result (Unit {0}) Fault
finished from = cond (line_goes_on from.text from.place) (Err TooMany) (Ok tt)

-- How far the first line feed is, if there is one.
abbrev pub line_feed_at : List ℕ → Option ℕ
line_feed_at text = position (λ byte. eqb byte line_feed) text

-- The bytes before the first line feed.
abbrev pub line_length : List ℕ → ℕ
line_length text = unwrap_or (line_feed_at text) (length text)

-- The place of the first line feed from a place on, or the text's end.
abbrev pub line_end : List ℕ → ℕ → ℕ
line_end text start = start + line_length (drop start text)
