-- Laws of numbers with one space between them, where a list is written number by number. Assumes nothing.
use Rattle.std.proofs.Common.{◌≡◌, ℕ, zero, suc, ◌+◌, ◌-◌, ◌*◌, ◌^◌, ◌<◌, ◌≤◌, List, [], ◌∷◌, ◌++◌, map, length, take, drop, get_or, refl, sym, ap, ◌∙◌, append_assoc, length-append, add-one, arith}
use Rattle.std.specs.List.{join_with_byte}
use Rattle.std.specs.Fmt as library
use Rattle.std.proofs.Math.Seq.{take_all}
use Rattle.std.proofs.lemmas.List.{get_or-map, length-map}
use Rattle.bracket_list.specs.Text.{space, spaced}
use Rattle.bracket_list.proofs.Numerals.{decimals_are, length_decimal}

join_suc : (l : List (List ℕ)) (i : ℕ) → suc i < length l → join_with_byte space (take (suc (suc i)) l) ≡ join_with_byte space (take (suc i) l) ++ (space ∷ get_or l (suc i) [])
join_suc [] i lt = absurd (omega arith)
join_suc (x ∷ []) i lt = absurd (omega arith)
join_suc (x ∷ y ∷ ys) zero lt = refl
join_suc (x ∷ y ∷ ys) (suc i) lt =
    ap (λ (t : List ℕ). x ++ (space ∷ t)) (join_suc (y ∷ ys) i (omega arith)) ∙ sym (append_assoc x (space ∷ join_with_byte space (take (suc i) (y ∷ ys))) (space ∷ get_or (y ∷ ys) (suc i) []))

-- a front is no longer than the whole
pub join_front : (k : ℕ) (l : List (List ℕ)) → length (join_with_byte space (take k l)) ≤ length (join_with_byte space l)
join_front zero l = omega arith
join_front (suc k) [] = omega arith
join_front (suc zero) (x ∷ []) = omega arith
join_front (suc (suc k)) (x ∷ []) = omega arith
join_front (suc zero) (x ∷ y ∷ ys) = simp length-append (omega arith)
join_front (suc (suc k)) (x ∷ y ∷ ys) = let r = join_front (suc k) (y ∷ ys) in simp length-append (omega arith)

-- ten digits and a space for each
pub length_spaced : (l : List ℕ) → length (spaced l) ≤ 11 * length l
unfolding spaced
length_spaced [] = omega arith
length_spaced (x ∷ []) = let d = length_decimal x in omega arith
length_spaced (x ∷ y ∷ ys) = let r = length_spaced (y ∷ ys) in let d = length_decimal x in simp length-append (omega arith)

-- what the library writes of numbers
pub spaced_is : (ns : List ℕ) → ((i : ℕ) → get_or ns i 0 < 2 ^ 32) → join_with_byte space (map library.decimal ns) ≡ spaced ns
unfolding spaced
spaced_is ns few = ap (join_with_byte space) (decimals_are ns few)

module _ {A : Type 0} (text : A → List ℕ) where
  -- one text more, that of x of those behind the first
  pub join_more : (xs : List A) (i : ℕ) (x : A) → i < length (take (length xs - 1) (drop 1 xs)) → x ≡ get_or (take (length xs - 1) (drop 1 xs)) i x
      → join_with_byte space (take (i + 1) (map text xs)) ++ (space ∷ text x) ≡ join_with_byte space (take (i + 1 + 1) (map text xs))
  join_more [] i x lt e = absurd (omega arith)
  join_more (y ∷ ys) i x lt e =
      let all : take (length (y ∷ ys) - 1) ys ≡ ys = take_all (length (y ∷ ys) - 1) ys (omega arith) in
      let within : i < length ys = rw all at lt in
      let item : text x ≡ get_or (map text ys) i [] = ap text (rw all at e) ∙ sym (get_or-map text ys i x [] within) in
      rw (add-one (i + 1), add-one i, item) (sym (join_suc (map text (y ∷ ys)) i (omega (arith, length-map ys text))))
