-- The first element with the least key, as the nearest of a cell's candidates. Definitions only.
use Rattle.std.specs.Prelude.{ℕ, ◌≡◌, cond, ltb}
use mathlib.Core.List.{List, [], ◌∷◌, Memᴰ}

module _ {A : Type 0} where
  -- of `best` and the elements that follow, the first whose key is least
  unfoldable pub least : (A → ℕ) → A → List A → A
  least key best [] = best
  least key best (x ∷ xs) = least key (cond (ltb (key x) (key best)) x best) xs

  -- a alone of the list has the key k
  abbrev pub Alone : {K : Type 0} → (A → K) → List A → A → K → Type 0
  Alone key l a k = (b : A) → Memᴰ b l → key b ≡ k → b ≡ a
