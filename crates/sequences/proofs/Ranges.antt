-- The library's iterators over a range of numbers, as the tests of numbers below n: `all_range`. Assumes nothing.
use Prim.Native.Nat.{ℕ, zero, suc, ◌+◌}
use native.Mathlib.Omega.{arith}
use mathlib.Core.Path.{◌≡◌, refl, ap, ◌∙◌}
use mathlib.Core.Bool.{Bool, true, false, ◌&&◌}
use mathlib.Core.List.{List, [], ◌∷◌, ◌++◌}
use Rattle.std.specs.List.{list_all, range_with_len}
use Rattle.std.proofs.lemmas.List.Folds.{list_all-append}
use Rattle.sequences.specs.Range.{all_below}

range_more : (a n : ℕ) → range_with_len a (suc n) ≡ range_with_len a n ++ ((a + n) ∷ [])
range_more a zero = let e : a ≡ a + 0 = omega arith in ap (λ (k : ℕ). k ∷ []) e
range_more a (suc n) = ap (λ (xs : List ℕ). a ∷ xs) (range_more (a + 1) n ∙ (let e : (a + 1) + n ≡ a + suc n = omega arith in ap (λ (k : ℕ). range_with_len (a + 1) n ++ (k ∷ [])) e))

and_true : (b : Bool) → b && true ≡ b
and_true true = refl
and_true false = refl

-- `all` over the numbers below n
pub all_range : (p : ℕ → Bool) (n : ℕ) → list_all p (range_with_len 0 n) ≡ all_below p n
unfolding all_below
all_range p zero = refl
all_range p (suc n) =
    ap (list_all p) (range_more 0 n) ∙ list_all-append p (range_with_len 0 n) ((0 + n) ∷ [])
    ∙ ap (λ (b : Bool). list_all p (range_with_len 0 n) && b) (and_true (p (0 + n)) ∙ (let e : 0 + n ≡ n = omega arith in ap p e))
    ∙ ap (λ (b : Bool). b && p n) (all_range p n)
