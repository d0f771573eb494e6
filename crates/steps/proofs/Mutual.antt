-- Where neighbours are mutual, as many steps lead back as forth: `steps_mutual`. Assumes nothing.
use Prim.Native.Nat.{ℕ, ◌≤◌, ◌<◌}
use native.Mathlib.Omega.{arith}
use native.Mathlib.Decide.{dec_lt}
use mathlib.Core.Path.{◌≡◌}
use mathlib.Core.List.{List, Memᴰ}
use Rattle.sequences.proofs.Search.{first_below_lem}
use Rattle.walk.proofs.Paths.{path_back}
use Rattle.steps.specs.Steps.{steps_to}
use Rattle.steps.proofs.Paths.{is_near, within_path, steps_at_most, steps_shortest}

module _ (lists : ℕ → List ℕ) {n : ℕ} (below : (v : ℕ) → v < n → (x : ℕ) → Memᴰ x (lists v) → x < n)
    (mutual_lists : (v w : ℕ) → v < n → w < n → Memᴰ w (lists v) → Memᴰ v (lists w)) where
  steps_back : (v w : ℕ) → v < n → steps_to lists n v w < n → steps_to lists n w v ≤ steps_to lists n v w
  steps_back v w vlt lt = steps_at_most lists w n v (steps_to lists n v w) (within_path lists w (path_back lists below mutual_lists vlt (steps_shortest lists v n w lt).path))

  pub steps_mutual : (v w : ℕ) → v < n → w < n → steps_to lists n v w ≡ steps_to lists n w v
  unfolding steps_to
  steps_mutual v w vlt wlt =
      let a = (first_below_lem (is_near lists v w) n).at_most in
      let b = (first_below_lem (is_near lists w v) n).at_most in
      elim (dec_lt (steps_to lists n v w) n) [
        | yes l ↦ let r = steps_back v w vlt l in let s = steps_back w v wlt (omega arith) in omega arith
        | no g ↦ elim (dec_lt (steps_to lists n w v) n) [ yes l ↦ let s = steps_back w v wlt l in absurd (omega arith) | no h ↦ omega arith ]
      ]
