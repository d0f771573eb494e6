-- Lists given by index, their equal blocks, and what a store or a loop of stores from the front leaves. Definitions only.
use Rattle.std.specs.Prelude.{ℕ, zero, suc, ◌+◌, ◌*◌, ◌≤◌, ◌<◌, ◌≡◌, List, [], ◌∷◌, ◌++◌, length, get_or, drop}

module _ {A : Type 0} where
  -- f 0, f 1, .., f (n - 1)
  unfoldable pub tabulate : ℕ → (ℕ → A) → List A
  tabulate zero f = []
  tabulate (suc n) f = tabulate n f ++ (f n ∷ [])

  -- the block i of a list that is cut into blocks of the width w: positions have width 3
  unfoldable pub block : ℕ → List A → A → ℕ → List A
  block w l d i = tabulate w (λ k. get_or l (i * w + k) d)

  -- a buffer after `new` was written from its front, the places behind as they were
  unfoldable pub overwrite : List A → List A → List A
  overwrite new old = new ++ drop (length new) old

  -- a loop writes `new` over `old` from the front and has written k places: `now` agrees with `new` below k and with `old` from k on
  pub record Overwritten (new old now : List A) (k : ℕ) (d : A) : Type 0 where
    pub same_length : length now ≡ length old
    pub written : (i : ℕ) → i < k → get_or now i d ≡ get_or new i d
    pub untouched : (i : ℕ) → k ≤ i → get_or now i d ≡ get_or old i d
