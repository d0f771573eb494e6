-- Laws of paths: one behind another (`paths_joined`), and the other way where neighbours are mutual (`path_back`). Assumes nothing.
use Prim.Native.Nat.{ℕ, suc, ◌+◌, ◌<◌}
use native.Mathlib.Omega.{arith}
use native.Mathlib.Numerals.{add-one}
use mathlib.Core.Path.{◌≡◌, subst}
use mathlib.Core.List.{List, Memᴰ}
use Rattle.walk.specs.Paths.{PathTo, here, onward}

pub paths_joined : (lists : ℕ → List ℕ) {v w x j k : ℕ} → PathTo lists v w j → PathTo lists w x k → PathTo lists v x (k + j)
paths_joined lists {v} {w} {j = j} p here = let e : j ≡ 0 + j = omega arith in subst (PathTo lists v w) e p
paths_joined lists {v} {x = x} {j = j} p (onward {k = k} q m) = let e : suc (k + j) ≡ suc k + j = omega arith in subst (PathTo lists v x) e (onward (paths_joined lists p q) m)

module _ (lists : ℕ → List ℕ) {n : ℕ} (below : (v : ℕ) → v < n → (x : ℕ) → Memᴰ x (lists v) → x < n)
    (mutual_lists : (v w : ℕ) → v < n → w < n → Memᴰ w (lists v) → Memᴰ v (lists w)) where
  path_below : {v w k : ℕ} → v < n → PathTo lists v w k → w < n
  path_below lt here = lt
  path_below lt (onward {w} {x} p m) = below w (path_below lt p) x m

  -- the same path the other way
  pub path_back : {v w k : ℕ} → v < n → PathTo lists v w k → PathTo lists w v k
  path_back lt here = here
  path_back lt (onward {w} {x} p m) = let wlt = path_below lt p in rw add-one at (paths_joined lists (onward here (mutual_lists w x wlt (below w wlt x m) m)) (path_back lt p))
