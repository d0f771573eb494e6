-- Twelve worked cases as one table. Definitions only.
-- `fin s m e` is m · 2^e, negative where s is true, and m is odd in the one form that a double has; `negsuc k` is −k − 1.
use Rattle.std.specs.Prelude.{◌+◌, ◌-◌, ◌^◌, true, false, List, [], ◌∷◌, pos, negsuc}
use Rattle.std.specs.Float.{fin}
use Rattle.binary64.specs.Constants.{positive_zero, one}
use Rattle.vector.specs.Vector.{vector}
use Rattle.cases.specs.Cases.{Case, Question, integer_from, side_for, slot_of_point, neighbours_of, face_of, cells_of_one, root_of, fused_of, Answer, integer, number, numbers, double, cells}

infix 70 ◌gives◌
abbrev ◌gives◌ : Question → Answer → Case
question gives expected = record { question = question; expected = expected }

abbrev pub table : List Case
table =
    -- A fraction is cut toward zero, and a value above the range gives its upper end: −0.5, −1.5 and 2^63.
    integer_from (fin true 1 (negsuc 0)) gives integer (pos 0)
    ∷ integer_from (fin true 3 (negsuc 0)) gives integer (negsuc 0)
    ∷ integer_from (fin false 1 (pos 63)) gives integer (pos (2 ^ 63 - 1))
    -- The sides of the grids of the lattices of frequency 1, 2 and 80.
    ∷ side_for 12 gives number 2
    ∷ side_for 42 gives number 4
    ∷ side_for 64002 gives number 124
    -- The slot of the point (2, 0) in a face of the lattice of frequency 3.
    ∷ slot_of_point 3 2 0 gives number 7
    -- The first of the twelve lists of the lattice of frequency 1.
    ∷ neighbours_of 1 0 gives numbers (1 ∷ 2 ∷ 3 ∷ 6 ∷ 7 ∷ [])
    -- (0, 0, −2) points to the last face.
    ∷ face_of (vector positive_zero positive_zero (fin true 1 (pos 1))) gives number 5
    -- The single vertex (1, 1, 1) stands in one cell of each of the three faces that it is in front of.
    ∷ cells_of_one (vector one one one) gives cells (3 ∷ 11 ∷ 19 ∷ []) (0 ∷ 0 ∷ 0 ∷ [])
    -- The root of 2.25 is 1.5.
    ∷ root_of (fin false 9 (negsuc 1)) gives double (fin false 3 (negsuc 0))
    -- The square of 1 + 2^−52 less 1 + 2^−51, rounded once, is 2^−104.
    ∷ fused_of (fin false (2 ^ 52 + 1) (negsuc 51)) (fin false (2 ^ 52 + 1) (negsuc 51)) (fin true (2 ^ 51 + 1) (negsuc 50)) gives double (fin false 1 (negsuc 103))
    ∷ []
