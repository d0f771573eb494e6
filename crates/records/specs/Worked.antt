-- Worked cases of this crate's definitions: words, lists and hashes. Definitions only.
use Rattle.std.specs.Prelude.{ℕ, ◌≡◌, Bool, true, false, List, [], ◌∷◌, Result, Ok, Err, map}
use Rattle.std.specs.Result.{is_ok}
use Rattle.std.specs.Float.{nan}
use Rattle.records.specs.declared.reader.Fault.{Fault}
use Rattle.records.specs.declared.reader.Fault.TheVariants.{Malformed}
use Rattle.records.specs.At.{reader_at}
use Rattle.records.specs.Words.{nan_pattern, next_word}
use Rattle.records.specs.Lists.{pattern, expected_each}
use Rattle.records.specs.Hash.{offset_basis, hashed_bytes, bytes_of_each}

-- the first word of a text, and the place behind it
abbrev pub first_word : List ℕ → Result ℕ Fault × ℕ
first_word text = let word = next_word (reader_at text 0) in (word.outcome, word.behind.place)

-- a word that is malformed, with the reader before it
abbrev pub malformed : Result ℕ Fault × ℕ
malformed = (Err Malformed, 0)

-- whether a text holds the numbers 1 and 2
abbrev pub holds_one_two : List ℕ → Bool
holds_one_two text = is_ok (expected_each (1 ∷ 2 ∷ []) (reader_at text 0)).outcome

pub record WorkedRecords : Type 0 where
  -- `1f 0`, `1f`, `nan 0` and 16 digits, each with a line feed behind it
  pub good_words :
      map first_word
      ((49 ∷ 102 ∷ 32 ∷ 48 ∷ 10 ∷ [])
      ∷ (49 ∷ 102 ∷ 10 ∷ [])
      ∷ (110 ∷ 97 ∷ 110 ∷ 32 ∷ 48 ∷ 10 ∷ [])
      ∷ (102 ∷ 102 ∷ 102 ∷ 102 ∷ 102 ∷ 102 ∷ 102 ∷ 102 ∷ 102 ∷ 102 ∷ 102 ∷ 102 ∷ 102 ∷ 102 ∷ 102 ∷ 102 ∷ 10 ∷ [])
      ∷ [])
      ≡ (Ok 31, 3) ∷ (Ok 31, 2) ∷ (Ok nan_pattern, 4) ∷ (Ok 0xffffffffffffffff, 16) ∷ []
  -- upper case, 17 digits, more than `nan`, no word, a line that does not end, a space at a line's end
  pub bad_words :
      map first_word
      ((49 ∷ 70 ∷ 10 ∷ [])
      ∷ (48 ∷ 48 ∷ 48 ∷ 48 ∷ 48 ∷ 48 ∷ 48 ∷ 48 ∷ 48 ∷ 48 ∷ 48 ∷ 48 ∷ 48 ∷ 48 ∷ 48 ∷ 48 ∷ 49 ∷ 10 ∷ [])
      ∷ (110 ∷ 97 ∷ 110 ∷ 111 ∷ 10 ∷ [])
      ∷ (10 ∷ [])
      ∷ (49 ∷ [])
      ∷ (49 ∷ 32 ∷ 10 ∷ [])
      ∷ [])
      ≡ malformed ∷ malformed ∷ malformed ∷ malformed ∷ malformed ∷ malformed ∷ []
  -- what `nan` stands for is the pattern of a NaN
  pub nan_word : pattern nan ≡ nan_pattern
  -- `1 2`, `1 3`, `2 2`, `1`, and `1 2` with two spaces
  pub lists :
      map holds_one_two
      ((49 ∷ 32 ∷ 50 ∷ 10 ∷ [])
      ∷ (49 ∷ 32 ∷ 51 ∷ 10 ∷ [])
      ∷ (50 ∷ 32 ∷ 50 ∷ 10 ∷ [])
      ∷ (49 ∷ 10 ∷ [])
      ∷ (49 ∷ 32 ∷ 32 ∷ 50 ∷ 10 ∷ [])
      ∷ [])
      ≡ true ∷ false ∷ false ∷ false ∷ false ∷ []
  -- the published hashes of `a` and `foobar`
  pub hashes : map (hashed_bytes offset_basis) ((97 ∷ []) ∷ (102 ∷ 111 ∷ 111 ∷ 98 ∷ 97 ∷ 114 ∷ []) ∷ []) ≡ 0xaf63dc4c8601ec8c ∷ 0x85944171f73967e8 ∷ []
  -- the bytes of a number stand least significant first: 25185 is `ab`, 97 + 256 · 98
  pub bytes_in_order : bytes_of_each 2 (25185 ∷ 99 ∷ []) ≡ 97 ∷ 98 ∷ 99 ∷ 0 ∷ []
