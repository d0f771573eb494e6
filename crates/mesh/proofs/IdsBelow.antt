-- What row 4 tells of ids that it lets pass, and how the greatest of them decides it. Assumes nothing.
use Prim.Native.Nat.{ℕ, ◌≤◌, ◌<◌}
use native.Mathlib.Omega.{arith}
use mathlib.Core.Path.{◌≡◌, sym, subst, ◌∙◌}
use mathlib.Core.Logic.{◌⊎◌, inl, inr}
use mathlib.Core.Bool.{Bool, true}
use mathlib.Core.List.{List, Memᴰ}
use lib.Dec.{ltb}
use lib.ListN.{length, get_or}
use borrow.Author.Tests.{ltb-true, lt-ltb, le-ltb}
use Rattle.std.proofs.lemmas.Bool.{cases_lt}
use Rattle.sequences.proofs.Range.{all_below_at, all_below_intro, all_below_fails}
use Rattle.sequences.proofs.Tabulate.{member_get_d}
use Rattle.std.specs.Option.{MatchOption}
use Rattle.std.specs.Prelude.{Option, None, Some, IsTrue}
use Rattle.mesh.specs.Rows.{ids_below}

pub ids_below_at : (n : ℕ) (ids : List ℕ) (i : ℕ) → ids_below n ids ≡ true → i < length ids → get_or ids i 0 < n
unfolding ids_below
ids_below_at n ids i h l = ltb-true (get_or ids i 0) n (all_below_at _ (length ids) i h l)

pub ids_below_member : (n : ℕ) (ids : List ℕ) (v : ℕ) → ids_below n ids ≡ true → Memᴰ v ids → v < n
ids_below_member n ids v h m = let k = member_get_d v ids 0 m in subst (λ (x : ℕ). x < n) k.2 (ids_below_at n ids k.0 h k.1)

-- ---- row 4 by the greatest of all
-- one of the ids, and none is greater
pub record Greatest (ids : List ℕ) (greatest : ℕ) : Type 0 where
  pub found : (place : ℕ) × (place < length ids) × (get_or ids place 0 ≡ greatest)
  pub over : (i : ℕ) → i < length ids → get_or ids i 0 ≤ greatest

pub none_decides : (n : ℕ) (ids : List ℕ) → length ids ≡ 0 → true ≡ ids_below n ids
unfolding ids_below
none_decides n ids empty = sym (all_below_intro (λ i. ltb (get_or ids i 0) n) (length ids) (λ i inside. absurd (omega arith)))

pub greatest_decides : (n : ℕ) (ids : List ℕ) (greatest : ℕ) → Greatest ids greatest → ltb greatest n ≡ ids_below n ids
unfolding ids_below
greatest_decides n ids greatest h = go (cases_lt greatest n)
  where
    go : (greatest < n) ⊎ (n ≤ greatest) → ltb greatest n ≡ ids_below n ids
    go (inl lt) = lt-ltb greatest n lt ∙ sym (all_below_intro (λ i. ltb (get_or ids i 0) n) (length ids) (λ i inside. let o = h.over i inside in lt-ltb (get_or ids i 0) n (omega arith)))
    go (inr ge) =
        let place = h.found in
        le-ltb greatest n ge ∙ sym (all_below_fails (λ i. ltb (get_or ids i 0) n) (length ids) place.0 place.1 (le-ltb (get_or ids place.0 0) n (omega (arith, place.2))))

-- what a test of the greatest, if there is one, answers
pub decides : (n : ℕ) (ids : List ℕ) {b : Bool} (greatest : Option ℕ) → MatchOption greatest (length ids ≡ 0) (Greatest ids) → MatchOption greatest (IsTrue b) (λ x. b ≡ ltb x n) → b ≡ ids_below n ids
decides n ids None empty is = is ∙ none_decides n ids empty
decides n ids (Some x) h is = is ∙ greatest_decides n ids x h
