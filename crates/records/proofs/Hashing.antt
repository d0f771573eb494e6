-- Laws of the hash: of one number's bytes, and of a list's. Assumes nothing.
use Rattle.std.proofs.Common.{ℕ, suc, ◌+◌, ◌-◌, ◌/◌, ◌%◌, ◌≤◌, ◌<◌, ◌≡◌, List, [], ◌∷◌, ◌++◌, length, map, get_or, drop, refl, sym, ap, ◌∙◌, arith}
use lib.ListN.{drop_of_length-le}
use Rattle.std.proofs.lemmas.List.{length-map, get_or-map, drop_more}
use Rattle.records.specs.Hash.{hashed_byte, hashed_bytes, bytes_of, bytes_of_each}

-- one byte more of a number
pub bytes_next : (hash left rest : ℕ) → 0 < left → hashed_bytes (hashed_byte hash (rest % 256)) (bytes_of (left - 1) (rest / 256)) ≡ hashed_bytes hash (bytes_of left rest)
unfolding hashed_bytes bytes_of
bytes_next hash left rest h = let e : left ≡ suc (left - 1) = omega arith in sym (ap (λ (n : ℕ). hashed_bytes hash (bytes_of n rest)) e)

pub bytes_all : (hash left rest : ℕ) → left ≤ 0 → hashed_bytes hash (bytes_of left rest) ≡ hash
unfolding hashed_bytes bytes_of
bytes_all hash left rest h = let e : left ≡ 0 = omega arith in rw e refl

hashed_append : (hash : ℕ) (first rest : List ℕ) → hashed_bytes hash (first ++ rest) ≡ hashed_bytes (hashed_bytes hash first) rest
unfolding hashed_bytes
hashed_append hash [] rest = refl
hashed_append hash (byte ∷ first) rest = hashed_append (hashed_byte hash byte) first rest

module _ {A : Type 0} (word_of : A → ℕ) (size : ℕ) (list : List A) where
  -- what is left of a list from a place on, put into a hash
  abbrev pub rest_hashed : ℕ → ℕ → ℕ
  rest_hashed i hash = hashed_bytes hash (bytes_of_each size (drop i (map word_of list)))

  -- one element more
  pub hash_next : (i hash : ℕ) {x : A} → i < length list → x ≡ get_or list i x → rest_hashed (i + 1) (hashed_bytes hash (bytes_of size (word_of x))) ≡ rest_hashed i hash
  unfolding bytes_of_each
  hash_next i hash {x} lt is =
      let word : get_or (map word_of list) i 0 ≡ word_of x = get_or-map word_of list i x 0 lt ∙ ap word_of (sym is) in
      let below : i < length (map word_of list) = simp length-map lt in
      rw (drop_more (map word_of list) i 0 below, word) (sym (hashed_append hash (bytes_of size (word_of x)) (bytes_of_each size (drop (i + 1) (map word_of list)))))

  pub hash_all : (i hash : ℕ) → length list ≤ i → rest_hashed i hash ≡ hash
  unfolding bytes_of_each hashed_bytes
  hash_all i hash h = let all : length (map word_of list) ≤ i = simp length-map h in rw (drop_of_length-le (map word_of list) all) refl
