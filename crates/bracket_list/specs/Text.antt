-- Numbers and bracket lists as bytes (ASCII). Definitions only.
use Rattle.std.specs.Prelude.{ℕ, zero, suc, ◌+◌, ◌/◌, ◌%◌, Bool, true, false, List, [], ◌∷◌, ◌++◌, map, ltb}
use Rattle.std.specs.List.{join_with_byte}

abbrev pub space : ℕ
space = 32

abbrev pub opening : ℕ
opening = 40

abbrev pub closing : ℕ
closing = 41

abbrev pub line_feed : ℕ
line_feed = 10

-- The decimal digits of n, no leading zero, by at most `most` digits. A test is an argument, so that the digits further up are asked for only where there are any.
unfoldable pub digits_within : ℕ → Bool → ℕ → List ℕ
digits_within zero small n = []
digits_within (suc most) true n = (48 + n) ∷ []
digits_within (suc most) false n = digits_within most (ltb (n / 10) 10) (n / 10) ++ ((48 + n % 10) ∷ [])

-- A number of at most ten digits, as every u32 is.
unfoldable pub decimal : ℕ → List ℕ
decimal n = digits_within 10 (ltb n 10) n

-- Numbers with one space between them.
unfoldable pub spaced : List ℕ → List ℕ
spaced ns = join_with_byte space (map decimal ns)

-- A text in brackets.
abbrev pub bracketed : List ℕ → List ℕ
bracketed text = opening ∷ (text ++ (closing ∷ []))

-- `(word number)`, the word in bytes with the space behind it
abbrev pub field : List ℕ → ℕ → List ℕ
field word n = bracketed (word ++ decimal n)

-- A line: its text and a line feed.
abbrev pub line : List ℕ → List ℕ
line text = text ++ (line_feed ∷ [])
