-- Lists one behind another, with their starts: compressed sparse rows. Definitions only.
-- The lists are a family f over the numbers below n; a mesh's neighbour lists, a grid's cells and the triangles at each vertex are such families.
use Rattle.std.specs.Prelude.{ℕ, zero, suc, ◌*◌, ◌≤◌, ◌<◌, ◌≡◌, List, [], ◌++◌, length, get_or}
use Rattle.std.proofs.Math.Seq.{slice}
use Rattle.sequences.specs.Range.{sum_below}
use Rattle.sequences.specs.Tabulate.{tabulate}

module _ {A : Type 0} where
  -- the lists f 0, f 1, .., f (n - 1), one behind another
  unfoldable pub concatenate : ℕ → (ℕ → List A) → List A
  concatenate zero f = []
  concatenate (suc n) f = concatenate n f ++ f n

  -- where the list f v starts among them, and at n where they end: the prefix sums of their lengths
  unfoldable pub start_of : (ℕ → List A) → ℕ → ℕ
  start_of f v = sum_below (λ k. length (f k)) v

  -- the starts of n lists, one more than there are lists
  unfoldable pub starts_of : ℕ → (ℕ → List A) → List ℕ
  starts_of n f = tabulate (suc n) (start_of f)

  -- the list v, read from starts and entries
  unfoldable pub part : List ℕ → List A → ℕ → List A
  part starts entries v = slice (get_or starts v 0) (get_or starts (suc v) 0) entries

  -- the same where the starts count blocks of the width w, as triangle starts count triples
  unfoldable pub block_part : ℕ → List ℕ → List A → ℕ → List A
  block_part w starts entries v = slice (get_or starts v 0 * w) (get_or starts (suc v) 0 * w) entries

  -- starts and entries of n lists. Rows 3, 17 and 18 refuse what is otherwise: another length, not from 0, falling, the last not the entry count.
  pub record CompressedRows (n : ℕ) (starts : List ℕ) (entries : List A) : Type 0 where
    pub size : length starts ≡ suc n
    pub first : get_or starts 0 0 ≡ 0
    pub ascend : (v : ℕ) → v < n → get_or starts v 0 ≤ get_or starts (suc v) 0
    pub last : get_or starts n 0 ≡ length entries
