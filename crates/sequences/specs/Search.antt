-- The first number below n that passes a test. Definitions only.
use Rattle.std.specs.Prelude.{ℕ, zero, suc, ◌≤◌, ◌<◌, ◌≡◌, Bool, true, false, cond, ltb}

-- the first number below n that passes the test p, n where none does
unfoldable pub first_below : (ℕ → Bool) → ℕ → ℕ
first_below p zero = 0
first_below p (suc n) = cond (ltb (first_below p n) n) (first_below p n) (cond (p n) n (suc n))

-- k is that number: it passes and none before it does, or there is none
pub record First (p : ℕ → Bool) (n k : ℕ) : Type 0 where
  pub at_most : k ≤ n
  pub passes : k < n → p k ≡ true
  pub none_before : (i : ℕ) → i < k → p i ≡ false
