-- Laws of the first number that passes a test. Assumes nothing.
use Prim.Native.Nat.{ℕ, zero, suc, ◌≤◌, ◌<◌}
use native.Mathlib.Nat.{not-suc-le-zero}
use native.Mathlib.Omega.{arith}
use mathlib.Core.Path.{◌≡◌, refl, ap, ◌∙◌}
use mathlib.Core.Logic.{◌⊎◌, inl, inr}
use mathlib.Core.Bool.{Bool, true, false, cond}
use lib.Dec.{ltb}
use borrow.Author.Tests.{ltb-true, ltb-false}
use Rattle.std.proofs.lemmas.Bool.{both_ways, cases_lt}
use Rattle.sequences.specs.Range.{some_below}
use Rattle.sequences.specs.Search.{first_below, First}
use Rattle.sequences.proofs.Range.{last_or_below, some_below_at}

-- it is what its name says
pub first_below_lem : (p : ℕ → Bool) (n : ℕ) → First p n (first_below p n)
unfolding first_below
first_below_lem p zero = record { at_most = omega arith; passes = λ h. absurd (not-suc-le-zero h); none_before = λ i h. absurd (not-suc-le-zero h) }
first_below_lem p (suc n) = go (ltb (first_below p n) n) refl (p n) refl (first_below_lem p n)
  where
    none : first_below p n ≡ n → First p n (first_below p n) → (i : ℕ) → i < n → p i ≡ false
    none e f i lt = f.none_before i (omega arith)

    upto : ((i : ℕ) → i < n → p i ≡ false) → p n ≡ false → (i : ℕ) → (i ≡ n) ⊎ (i < n) → p i ≡ false
    upto f e i (inl q) = ap p q ∙ e
    upto f e i (inr k) = f i k

    go : (b : Bool) → ltb (first_below p n) n ≡ b → (c : Bool) → p n ≡ c → First p n (first_below p n) → First p (suc n) (cond b (first_below p n) (cond c n (suc n)))
    go true e c q f = let lt = ltb-true (first_below p n) n e in record { at_most = omega arith; passes = λ h. f.passes lt; none_before = f.none_before }
    go false e true q f =
        let same : first_below p n ≡ n = omega (arith, ltb-false (first_below p n) n e, f.at_most) in
        record { at_most = omega arith; passes = λ h. q; none_before = none same f }
    go false e false q f =
        let same : first_below p n ≡ n = omega (arith, ltb-false (first_below p n) n e, f.at_most) in
        record { at_most = omega arith; passes = λ h. absurd (let y : ⊥ = omega arith in y); none_before = λ i lt. upto (none same f) q i (last_or_below i n lt) }

-- where some number passes, the first is found
pub first_found : (p : ℕ → Bool) (n : ℕ) → some_below p n ≡ true → (first_below p n < n) × (p (first_below p n) ≡ true)
first_found p n h = go (cases_lt (first_below p n) n)
  where
    go : (first_below p n < n) ⊎ (n ≤ first_below p n) → (first_below p n < n) × (p (first_below p n) ≡ true)
    go (inl lt) = (lt, (first_below_lem p n).passes lt)
    go (inr le) = let r = some_below_at p n h in absurd (both_ways (p r.0) ((first_below_lem p n).none_before r.0 (omega (arith, r.1))) r.2)
