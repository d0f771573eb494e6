-- The numbers below n: a test of each, a test of some, and a sum over them; one store into a family over them. Definitions only.
-- A row of checks over ids, positions or starts is `all_below`; a total of lengths is `sum_below`.
use Rattle.std.specs.Prelude.{ℕ, zero, suc, ◌+◌, ◌<◌, ◌≡◌, ◌≢◌, Bool, true, false, not, ◌&&◌, ◌||◌, cond, List, eqb, get_or}

-- p holds at each number below n
unfoldable pub all_below : (ℕ → Bool) → ℕ → Bool
all_below p zero = true
all_below p (suc n) = all_below p n && p n

-- the first number below n at which p fails; n where there is none
unfoldable pub first_failing : (ℕ → Bool) → ℕ → ℕ
first_failing p zero = 0
first_failing p (suc n) = cond (all_below p n) (cond (p n) (suc n) n) (first_failing p n)

-- p holds at some number below n
unfoldable pub some_below : (ℕ → Bool) → ℕ → Bool
some_below p zero = false
some_below p (suc n) = some_below p n || p n

-- g 0 + g 1 + .. + g (n - 1)
unfoldable pub sum_below : (ℕ → ℕ) → ℕ → ℕ
sum_below g zero = 0
sum_below g (suc n) = sum_below g n + g n

-- a family over the numbers below n, before and after one store: x stands at i, the others are as they were.
-- The family may be a list's elements, its blocks, or its marks.
pub record Updated {A : Type 0} (n : ℕ) (before after : ℕ → A) (i : ℕ) (x : A) : Type 0 where
  pub here : after i ≡ x
  pub elsewhere : (j : ℕ) → j < n → j ≢ i → after j ≡ before j

-- marks kept as numbers: a place is marked where its number is not 0
unfoldable pub nonzero_at : List ℕ → ℕ → Bool
nonzero_at l i = not (eqb (get_or l i 0) 0)
