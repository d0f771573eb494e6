-- Laws of the master faces: every corner is one of the twelve points. Assumes nothing.
use mathlib.Core.Bool.{Bool, true, ◌&&◌}
use mathlib.Core.List.{List, [], ◌∷◌}
use mathlib.Core.Path.{◌≡◌, refl, ap, ◌∙◌}
use Prim.Native.Nat.{ℕ, zero, suc, ◌+◌, ◌*◌, ◌<◌}
use native.Mathlib.Omega.{arith}
use lib.Dec.{T, ltb, ltb→lt}
use lib.Ieee.Fits.{and_l, and_r}
use lib.ListN.{get_or, length}
use Rattle.icosahedron.specs.Icosahedron.{face_vertices, face_corner}

-- all entries of a list lie below a bound, as a test
abbrev pub entries_below : ℕ → List ℕ → Bool
entries_below bound [] = true
entries_below bound (x ∷ xs) = ltb x bound && entries_below bound xs

-- Where all entries lie below a bound above 0, so does what is read anywhere: past the end that is 0.
pub entries_below_lem : (bound : ℕ) (xs : List ℕ) → 0 < bound → T (entries_below bound xs) → (k : ℕ) → get_or xs k 0 < bound
entries_below_lem bound [] z t k = z
entries_below_lem bound (x ∷ xs) z t zero = ltb→lt x bound (and_l (ltb x bound) (entries_below bound xs) t)
entries_below_lem bound (x ∷ xs) z t (suc k) = entries_below_lem bound xs z (and_r (ltb x bound) (entries_below bound xs) t) k

pub face_corner_below : (face corner : ℕ) → face_corner face corner < 12
unfolding face_corner
face_corner_below face corner = entries_below_lem 12 face_vertices (omega arith) tt (face * 3 + corner)

-- A list as the rows of a table of three columns.
abbrev pub by_three : List ℕ → List (List ℕ)
by_three (x ∷ (y ∷ (z ∷ rest))) = (x ∷ y ∷ z ∷ []) ∷ by_three rest
by_three (x ∷ (y ∷ [])) = []
by_three (x ∷ []) = []
by_three [] = []

-- What stands at a row and a column of the table stands at 3·row + column of the list.
pub by_three_at : (xs : List ℕ) (row column : ℕ) → row < length (by_three xs) → column < 3 → get_or (get_or (by_three xs) row []) column 0 ≡ get_or xs (row * 3 + column) 0
by_three_at [] row column h c = absurd (omega arith)
by_three_at (x ∷ []) row column h c = absurd (omega arith)
by_three_at (x ∷ (y ∷ [])) row column h c = absurd (omega arith)
by_three_at (x ∷ (y ∷ (z ∷ rest))) zero zero h c = refl
by_three_at (x ∷ (y ∷ (z ∷ rest))) zero (suc zero) h c = refl
by_three_at (x ∷ (y ∷ (z ∷ rest))) zero (suc (suc zero)) h c = refl
by_three_at (x ∷ (y ∷ (z ∷ rest))) zero (suc (suc (suc column))) h c = absurd (omega arith)
by_three_at (x ∷ (y ∷ (z ∷ rest))) (suc row) column h c =
    let e : suc (suc (suc (row * 3 + column))) ≡ suc row * 3 + column = omega arith in
    by_three_at rest row column (omega arith) c ∙ ap (λ (k : ℕ). get_or (x ∷ (y ∷ (z ∷ rest))) k 0) e
