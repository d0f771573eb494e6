-- Elements that pass a test, of a list and of the numbers below n. Definitions only.
use Rattle.std.specs.Prelude.{ℕ, Bool, cond, List, [], ◌∷◌}
use Rattle.sequences.specs.Tabulate.{tabulate}

module _ {A : Type 0} where
  -- the elements that pass the test p, in their order
  unfoldable pub filter : (A → Bool) → List A → List A
  filter p [] = []
  filter p (x ∷ xs) = cond (p x) (x ∷ filter p xs) (filter p xs)

-- the numbers below n that pass the test p, ascending: a cell's ids, a vertex's neighbours
unfoldable pub filter_range : (ℕ → Bool) → ℕ → List ℕ
filter_range p n = filter p (tabulate n (λ i. i))
