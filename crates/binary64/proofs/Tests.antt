-- Tests of numbers that answer alike, and the two ways that one can go. Assumes nothing.
use Rattle.std.proofs.Common.{◌≡◌, ℕ, suc, ◌<◌, ◌≤◌, Bool, true, false, ltb, leb, ◌⊎◌, refl, inl, inr, suc-le-suc, le_of_suc-le-suc, le-leb, leb-false, leb-true}
use borrow.Author.Tests.{lt-leb}

-- The test a ≤ b with its answer and what it tells.
abbrev pub Tested : ℕ → ℕ → Type 0
Tested a b = ((a ≤ b) × (leb a b ≡ true)) ⊎ ((b < a) × (leb a b ≡ false))

pub tested : (a b : ℕ) → Tested a b
tested a b = go (leb a b) refl
  where
    go : (t : Bool) → leb a b ≡ t → Tested a b
    go true e = inl (leb-true a b e, e)
    go false e = inr (leb-false a b e, e)

pub leb_alike : (a b c d : ℕ) → (a ≤ b → c ≤ d) → (b < a → d < c) → leb c d ≡ leb a b
leb_alike a b c d holds fails = go (leb a b) refl
  where
    go : (t : Bool) → leb a b ≡ t → leb c d ≡ t
    go true e = le-leb c d (holds (leb-true a b e))
    go false e = lt-leb c d (fails (leb-false a b e))

pub ltb_alike : (a b c d : ℕ) → (a < b → c < d) → (b ≤ a → d ≤ c) → ltb c d ≡ ltb a b
ltb_alike a b c d holds fails = leb_alike (suc a) b (suc c) d holds (λ l. suc-le-suc (fails (le_of_suc-le-suc l)))
