-- Permutations of the numbers below n as lists, their inverses, and lists moved by them. Definitions only.
-- A permutation holds the new id at each old one, its inverse the old id at each new one.
use Rattle.std.specs.Prelude.{ℕ, zero, suc, ◌≤◌, ◌<◌, ◌≡◌, ◌≢◌, Bool, true, false, not, ◌&&◌, cond, List, map, ltb, eqb, length, get_or}
use Rattle.sequences.specs.Range.{all_below}
use Rattle.sequences.specs.Tabulate.{tabulate, block}
use Rattle.sequences.specs.Starts.{concatenate}
use Rattle.sequences.specs.Ascending.{sort}

-- the number at the place v
abbrev pub at : List ℕ → ℕ → ℕ
at l v = get_or l v 0

-- p maps the numbers below n onto themselves, and b is its inverse there
pub record Bijection (n : ℕ) (p b : ℕ → ℕ) : Type 0 where
  pub maps : (v : ℕ) → v < n → p v < n
  pub inverse_maps : (v : ℕ) → v < n → b v < n
  pub left_inverse : (v : ℕ) → v < n → b (p v) ≡ v
  pub right_inverse : (v : ℕ) → v < n → p (b v) ≡ v

-- q is a permutation of the ids below n: n of them, all below n, none twice
pub record IsPermutation (n : ℕ) (q : List ℕ) : Type 0 where
  pub size : length q ≡ n
  pub below : (v : ℕ) → v < n → at q v < n
  pub injective : (u v : ℕ) → u < n → v < n → at q u ≡ at q v → u ≡ v

-- ---- the test of row 6
-- the number at the place v is below n and unlike those before it
unfoldable pub is_fresh : ℕ → List ℕ → ℕ → Bool
is_fresh n q v = ltb (at q v) n && all_below (λ u. not (eqb (at q u) (at q v))) v

-- n numbers, each of them so
unfoldable pub is_permutation : ℕ → List ℕ → Bool
is_permutation n q = eqb (length q) n && all_below (is_fresh n q) n

-- the test by marks, after v places: the marked numbers are those met. `marked` may read bytes, Booleans or the bits of words
pub record Marks (n : ℕ) (q : List ℕ) (marked : ℕ → Bool) (v : ℕ) : Type 0 where
  pub passed : all_below (is_fresh n q) v ≡ true
  pub unmarked_unmet : (x : ℕ) → x < n → marked x ≡ false → (u : ℕ) → u < v → at q u ≢ x
  pub marked_met : (x : ℕ) → x < n → marked x ≡ true → (u : ℕ) × (u < v) × (at q u ≡ x)

-- ---- inverse, identity, composition
-- the last of the first k places of q that holds i, 0 where none does
unfoldable pub last_place_of : List ℕ → ℕ → ℕ → ℕ
last_place_of q zero i = 0
last_place_of q (suc k) i = cond (eqb (at q k) i) k (last_place_of q k i)

-- the old id at each new one: the place of i in q, for each i
unfoldable pub inverse : List ℕ → List ℕ
inverse q = tabulate (length q) (last_place_of q (length q))

-- the inverse being written over a buffer, after v places of q
pub record Inverting (n : ℕ) (q old now : List ℕ) (v : ℕ) : Type 0 where
  pub same_length : length now ≡ length old
  pub inverted : (u : ℕ) → u < v → at now (at q u) ≡ u
  pub untouched : (i : ℕ) → n ≤ i → at now i ≡ at old i

-- each number at its own place
unfoldable pub identity : ℕ → List ℕ
identity n = tabulate n (λ v. v)

-- p, then q: each p(v) becomes q(p(v))
unfoldable pub compose : List ℕ → List ℕ → List ℕ
compose q p = map (at q) p

-- ---- lists moved by a permutation
module _ {A : Type 0} where
  -- blocks of the width w: the block at p(v) is the one that was at v. Positions have width 3
  unfoldable pub moved_blocks : ℕ → List ℕ → List A → A → List A
  moved_blocks w q l d = concatenate (length q) (λ i. block w l d (at (inverse q) i))

  -- single elements: place p(v) holds what v held
  abbrev pub moved : List ℕ → List A → A → List A
  moved q l d = moved_blocks 1 q l d

  -- an element for each pair: place p(v)·n + p(w) holds what v·n + w held
  unfoldable pub moved_pairs : List ℕ → List A → A → List A
  moved_pairs q l d = concatenate (length q) (λ i. moved q (block (length q) l d (at (inverse q) i)) d)

-- ---- lists of ids renumbered
-- the list at the new id i: the list that was at the old one, with each entry taken through p, ascending, repeats side by side
unfoldable pub relabelled : List ℕ → (ℕ → List ℕ) → ℕ → List ℕ
relabelled q lists i = sort (map (at q) (lists (at (inverse q) i)))
