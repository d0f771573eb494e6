-- The worked cases, by evaluation. Assumes nothing.
use Rattle.std.proofs.Common.{refl}
use lib.Ieee.{to_bits}
use Rattle.records.specs.Words.{digit_value, leading_digits, with_digits, digits_word, digits_at, spells_nan, token_at, line_goes_on, delimited, next_word, expected}
use Rattle.records.specs.Lists.{expected_each}
use Rattle.records.specs.Hash.{hashed_byte, hashed_bytes, bytes_of, bytes_of_each}
use Rattle.records.specs.Worked.{WorkedRecords}

pub worked_records_hold : WorkedRecords
unfolding to_bits digit_value leading_digits with_digits digits_word digits_at spells_nan token_at line_goes_on delimited next_word expected expected_each hashed_byte hashed_bytes bytes_of bytes_of_each
worked_records_hold = record { good_words = refl; bad_words = refl; nan_word = refl; lists = refl; hashes = refl; bytes_in_order = refl }
