-- Which vectors pass as positions (row 5) and as directions (row 9). Definitions only.
use Rattle.std.specs.Prelude.{◌≡◌, Bool, true, false, ◌&&◌, pos, negsuc, Float, Result, Ok, Err}
use Rattle.std.specs.Float.{fin}
use Rattle.std.specs.Float.Ieee.{le}
use Rattle.std.specs.Float.Ieee.Scale.{finite}
use Rattle.refusal.specs.declared.Refusal.{Refusal}
use Rattle.refusal.specs.declared.Refusal.TheVariants.{Direction}
use Rattle.refusal.specs.Refusal.{Verdict, row, answer}
use Rattle.vector.specs.declared.Vector3.{Vector3}
use Rattle.vector.specs.Vector.{squared_length}

-- 2 ^ -40 and 2 ^ 40
abbrev pub least_squared_length : Float
least_squared_length = fin false 1 (negsuc 39)

abbrev pub greatest_squared_length : Float
greatest_squared_length = fin false 1 (pos 40)

-- Row 5 lets pass a position, and row 9 a direction, whose components are finite (IEEE 754-2019, 5.7.2) and whose squared length, as it is computed, is from 2 ^ -40 to 2 ^ 40, both ends included.
unfoldable pub admissible : Vector3 → Bool
admissible v =
    finite v.x && finite v.y && finite v.z
    && (le least_squared_length (squared_length v) && le (squared_length v) greatest_squared_length)

-- The same as a fact.
abbrev pub IsAdmissible : Vector3 → Type 0
IsAdmissible v = admissible v ≡ true

-- Row 9, and then the next rows.
abbrev pub direction_row : Vector3 → Verdict → Verdict
direction_row v next = row (admissible v) Direction next

-- A direction that passes row 9, or that row's refusal.
unfoldable pub direction_of : Vector3 → Result Vector3 Refusal
unfolding admissible
direction_of v = answer (direction_row v (Ok tt)) Err (Ok v)
