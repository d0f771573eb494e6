-- Laws of tables of faces and corners: what stands at a face and a corner, by its number 3·face + place. Assumes nothing.
use Rattle.std.proofs.Common.{◌≡◌, ℕ, zero, suc, ◌+◌, ◌*◌, ◌/◌, ◌%◌, ◌<◌, List, [], map, length, get_or, refl, ap, ◌∙◌, arith}
use Rattle.std.proofs.Math.ListN.{get_or-map}
use Rattle.icosahedron.specs.declared.Corner.{Corner}
use Rattle.icosahedron.specs.declared.Corner.TheVariants.{A, B, C}
use Rattle.icosahedron.specs.Corners.{corner_number}
use Rattle.icosahedron.proofs.Faces.{by_three, by_three_at}

abbrev pub entry_number : ℕ × Corner → ℕ
entry_number e = e.0 * 3 + corner_number e.1

abbrev corner_numbered : ℕ → Corner
corner_numbered zero = A
corner_numbered (suc zero) = B
corner_numbered (suc (suc place)) = C

abbrev pub entry_numbered : ℕ → ℕ × Corner
entry_numbered number = (number / 3, corner_numbered (number % 3))

same_place : (place : ℕ) → place < 3 → corner_number (corner_numbered place) ≡ place
same_place zero lt = refl
same_place (suc zero) lt = refl
same_place (suc (suc zero)) lt = refl
same_place (suc (suc (suc place))) lt = absurd (let z : ⊥ = omega arith in z)

same_number : (number : ℕ) → entry_number (entry_numbered number) ≡ number
same_number number = let p = same_place (number % 3) (omega arith) in omega arith

-- the entries that have the numbers of a list, as the rows of a table
pub table_at : (numbers : List ℕ) (row column : ℕ) → row < length (by_three numbers) → column < 3
    → entry_number (get_or (get_or (map (map entry_numbered) (by_three numbers)) row []) column (entry_numbered 0)) ≡ get_or numbers (row * 3 + column) 0
table_at numbers row column h c =
    ap (λ (r : List (ℕ × Corner)). entry_number (get_or r column (entry_numbered 0))) (get_or-map (map entry_numbered) (by_three numbers) row [])
    ∙ ap entry_number (get_or-map entry_numbered (get_or (by_three numbers) row []) column 0) ∙ same_number (get_or (get_or (by_three numbers) row []) column 0)
    ∙ by_three_at numbers row column h c

-- a number's face and place
corner_below : (corner : Corner) → corner_number corner < 3
corner_below A = omega arith
corner_below B = omega arith
corner_below C = omega arith

pub face_of_number : {number : ℕ} (face : ℕ) (corner : Corner) → face * 3 + corner_number corner ≡ number → number / 3 ≡ face
face_of_number face corner e = let b = corner_below corner in omega arith

pub place_of_number : {number : ℕ} (face : ℕ) (corner : Corner) → face * 3 + corner_number corner ≡ number → number % 3 ≡ corner_number corner
place_of_number face corner e = let b = corner_below corner in omega arith
