-- Where a reader stands. Definitions only.
use Rattle.std.specs.Prelude.{ℕ, ◌-◌, ◌≡◌, List, length, drop}

-- A text, and the place in it of the next word.
pub record At : Type 0 where
  pub text : List ℕ
  pub place : ℕ

abbrev pub reader_at : List ℕ → ℕ → At
reader_at text place = record { text = text; place = place }

-- The place in a text behind which so much of it is left.
abbrev pub place_before : List ℕ → List ℕ → ℕ
place_before text rest = length text - length rest

-- A text ends with all that is left of it.
abbrev pub IsRest : List ℕ → List ℕ → Type 0
IsRest text rest = rest ≡ drop (place_before text rest) text
