-- Laws of tests and sums over the numbers below n. Assumes nothing.
-- A loop that tests each index: `all_below_intro` or `all_below_suc` when it passes, `all_below_fails` when it refuses. A passed test gives its fact by `all_below_at`.
-- A search for one that passes: `some_below_intro`, `some_below_at`. A search for the first that fails: `first_failing_at` when it is found, and what it is by `first_failing_lem`.
-- Marks kept as numbers: `nonzero_marked`, `zero_unmarked`, `marked_by_set`. A sum in another order: `sum_bijection` (Permutation); a one-to-one choice: `sum_injection`, and from it `pigeonhole`.
use Prim.Native.Nat.{ℕ, zero, suc, ◌+◌, ◌*◌, ◌≤◌, ◌<◌}
use native.Mathlib.Nat.{not-suc-le-zero, eq-or-lt_of_le, le_of_suc-le-suc, mul-add}
use native.Mathlib.Omega.{arith}
use native.Mathlib.Numerals.{add-one}
use mathlib.Core.Path.{◌≡◌, refl, sym, ap, ◌∙◌}
use mathlib.Core.Logic.{◌⊎◌, inl, inr, ◌≢◌}
use mathlib.Core.Bool.{Bool, true, false, not, ◌&&◌, ◌||◌, cond}
use mathlib.Core.List.{List}
use lib.Dec.{eqb}
use lib.ListN.{length, get_or, set}
use lib.Seq.{get_or-set_same, get_or-set_other}
use borrow.Author.Tests.{eq-eqb, ne_eqb}
use Rattle.std.proofs.lemmas.Bool.{cases_Bool, and_parts, and_from, and_right, or_cases, or_left, or_right, both_ways}
use Rattle.sequences.specs.Range.{all_below, first_failing, some_below, sum_below, Updated, nonzero_at}

pub last_or_below : (i n : ℕ) → i < suc n → (i ≡ n) ⊎ (i < n)
last_or_below i n h = eq-or-lt_of_le (le_of_suc-le-suc h)

-- ---- a test of each number below n
pub all_below_at : (p : ℕ → Bool) (n i : ℕ) → all_below p n ≡ true → i < n → p i ≡ true
unfolding all_below
all_below_at p zero i h lt = absurd (not-suc-le-zero lt)
all_below_at p (suc n) i h lt = go (all_below_at p n i (and_parts (all_below p n) (p n) h).0) (last_or_below i n lt)
  where
    go : (i < n → p i ≡ true) → (i ≡ n) ⊎ (i < n) → p i ≡ true
    go below (inl e) = ap p e ∙ (and_parts (all_below p n) (p n) h).1
    go below (inr k) = below k

pub all_below_intro : (p : ℕ → Bool) (n : ℕ) → ((i : ℕ) → i < n → p i ≡ true) → all_below p n ≡ true
unfolding all_below
all_below_intro p zero h = refl
all_below_intro p (suc n) h = and_from (all_below p n) (p n) (all_below_intro p n (λ i lt. h i (omega arith))) (h n (omega arith))

-- one more turn of a loop that tests
pub all_below_suc : (p : ℕ → Bool) (n : ℕ) → all_below p n ≡ true → p n ≡ true → all_below p (n + 1) ≡ true
unfolding all_below
all_below_suc p n h e = rw add-one (and_from (all_below p n) (p n) h e)

-- one that fails refuses all
pub all_below_fails : (p : ℕ → Bool) (n i : ℕ) → i < n → p i ≡ false → all_below p n ≡ false
unfolding all_below
all_below_fails p zero i lt h = absurd (not-suc-le-zero lt)
all_below_fails p (suc n) i lt h = go (all_below_fails p n i) (last_or_below i n lt)
  where
    go : (i < n → p i ≡ false → all_below p n ≡ false) → (i ≡ n) ⊎ (i < n) → all_below p n && p n ≡ false
    go below (inl e) = and_right (all_below p n) (p n) (ap p (sym e) ∙ h)
    go below (inr k) = rw (below k h) refl

-- ---- a test of some number below n
pub some_below_at : (p : ℕ → Bool) (n : ℕ) → some_below p n ≡ true → (i : ℕ) × (i < n) × (p i ≡ true)
unfolding some_below
some_below_at p zero h = let z : ◌≡◌ {A = ℕ} 0 1 = cc in absurd (let y : ⊥ = omega arith in y)
some_below_at p (suc n) h = go (some_below_at p n) (or_cases (some_below p n) (p n) h)
  where
    go : (some_below p n ≡ true → (i : ℕ) × (i < n) × (p i ≡ true)) → (some_below p n ≡ true) ⊎ (p n ≡ true) → (i : ℕ) × (i < suc n) × (p i ≡ true)
    go below (inl e) = let r = below e in (r.0, omega arith, r.2)
    go below (inr e) = (n, omega arith, e)

pub some_below_intro : (p : ℕ → Bool) (n i : ℕ) → i < n → p i ≡ true → some_below p n ≡ true
unfolding some_below
some_below_intro p zero i lt h = absurd (not-suc-le-zero lt)
some_below_intro p (suc n) i lt h = go (some_below_intro p n i) (last_or_below i n lt)
  where
    go : (i < n → p i ≡ true → some_below p n ≡ true) → (i ≡ n) ⊎ (i < n) → some_below p n || p n ≡ true
    go below (inl e) = or_right (some_below p n) (p n) (ap p (sym e) ∙ h)
    go below (inr k) = or_left (some_below p n) (p n) (below k h)

-- ---- a sum
pub sum_extensional : (f g : ℕ → ℕ) (n : ℕ) → ((i : ℕ) → i < n → f i ≡ g i) → sum_below f n ≡ sum_below g n
unfolding sum_below
sum_extensional f g zero h = refl
sum_extensional f g (suc n) h = let a = sum_extensional f g n (λ i lt. h i (omega arith)) in let b = h n (omega arith) in omega arith

pub sum_below_monotone : (f : ℕ → ℕ) (a b : ℕ) → a ≤ b → sum_below f a ≤ sum_below f b
unfolding sum_below
sum_below_monotone f zero b h = omega arith
sum_below_monotone f (suc a) zero h = absurd (not-suc-le-zero h)
sum_below_monotone f (suc a) (suc b) h = go (sum_below_monotone f (suc a) b) (last_or_below (suc a) (suc b) (omega arith))
  where
    go : (suc a ≤ b → sum_below f (suc a) ≤ sum_below f b) → (suc a ≡ suc b) ⊎ (suc a < suc b) → sum_below f (suc a) ≤ sum_below f (suc b)
    go below (inl e) = let q : sum_below f (suc a) ≡ sum_below f (suc b) = ap (sum_below f) e in omega arith
    go below (inr k) = let r = below (omega arith) in omega arith

-- a sum before and after one store
pub sum_updated : {n t x : ℕ} {before after : ℕ → ℕ} → t < n → Updated n before after t x → sum_below after n + before t ≡ sum_below before n + x
unfolding sum_below
sum_updated {n = zero} lt u = absurd (not-suc-le-zero lt)
sum_updated {n = suc n} {t} {x} {before} {after} lt u = go sum_updated (last_or_below t n lt)
  where
    narrow : Updated n before after t x
    narrow = record { here = u.here; elsewhere = λ j lt ne. u.elsewhere j (omega arith) ne }

    go : (t < n → Updated n before after t x → sum_below after n + before t ≡ sum_below before n + x) → (t ≡ n) ⊎ (t < n) → sum_below after (suc n) + before t ≡ sum_below before (suc n) + x
    go below (inl e) =
        let a = sum_extensional after before n (λ i lt. u.elsewhere i (omega arith) (λ q. omega arith)) in
        let b : after n ≡ x = ap after (sym e) ∙ u.here in
        let c : before t ≡ before n = ap before e in
        omega arith
    go below (inr k) = let a = below k narrow in let b = u.elsewhere n (omega arith) (λ e. omega arith) in omega arith

-- g with 0 at t
without : ℕ → (ℕ → ℕ) → ℕ → ℕ
without t g i = cond (eqb i t) 0 (g i)

without_other : (t : ℕ) (g : ℕ → ℕ) (i : ℕ) → i ≢ t → without t g i ≡ g i
unfolding without
without_other t g i h = rw (ne_eqb i t h)

without_updated : (n t : ℕ) (g : ℕ → ℕ) → Updated n g (without t g) t 0
unfolding without
without_updated n t g = record { here = rw (eq-eqb t t refl); elsewhere = λ j lt ne. rw (ne_eqb j t ne) }

-- what g gives at n different numbers below m adds up to no more than what it gives in all
pub sum_injection : (p g : ℕ → ℕ) (n m : ℕ) → ((i : ℕ) → i < n → p i < m) → ((i j : ℕ) → i < n → j < n → p i ≡ p j → i ≡ j) → sum_below (λ i. g (p i)) n ≤ sum_below g m
unfolding sum_below
sum_injection p g zero m b inj = omega arith
sum_injection p g (suc n) m b inj =
    let r = sum_injection p (without (p n) g) n m (λ i lt. b i (omega arith)) (λ i j hi hj. inj i j (omega arith) (omega arith)) in
    let e = sum_extensional (λ i. without (p n) g (p i)) (λ i. g (p i)) n
    (λ i lt. without_other (p n) g (p i) (λ e. absurd (let q = inj i n (omega arith) (omega arith) e in omega arith))) in
    let s = sum_updated (b n (omega arith)) (without_updated m (p n) g) in
    omega arith

sum_of_ones : (n : ℕ) → sum_below (λ i. 1) n ≡ n
unfolding sum_below
sum_of_ones zero = refl
sum_of_ones (suc n) = let r = sum_of_ones n in omega arith

-- a one-to-one map of the numbers below n among themselves leaves none out
pub pigeonhole : (p : ℕ → ℕ) (n t : ℕ) → ((i : ℕ) → i < n → p i < n) → ((i j : ℕ) → i < n → j < n → p i ≡ p j → i ≡ j) → t < n → ((i : ℕ) → i < n → p i ≢ t) → ⊥
pigeonhole p n t b inj lt miss =
    let r = sum_injection p (without t (λ i. 1)) n n b inj in
    let e = sum_extensional (λ i. without t (λ i. 1) (p i)) (λ i. 1) n (λ i k. without_other t (λ i. 1) (p i) (miss i k)) in
    let s = sum_updated lt (without_updated n t (λ i. 1)) in
    let o = sum_of_ones n in
    omega arith

-- ---- one store
module _ {A : Type 0} where
  -- the elements of a list before and after a store
  pub updated_by_set : (n : ℕ) (l : List A) (i : ℕ) (x d : A) → i < length l → Updated n (λ j. get_or l j d) (λ j. get_or (set l i x) j d) i x
  updated_by_set n l i x d lt = record { here = get_or-set_same l i x d lt; elsewhere = λ j lj ne. get_or-set_other l i j x d ne }

  -- the same seen through a function, such as a test of marks
  pub updated_through : {B : Type 0} {n : ℕ} {before after : ℕ → A} {i : ℕ} {x : A} (f : A → B) → Updated n before after i x → Updated n (λ j. f (before j)) (λ j. f (after j)) i (f x)
  updated_through f u = record { here = ap f u.here; elsewhere = λ j lj ne. ap f (u.elsewhere j lj ne) }

-- ---- marks kept as numbers
pub nonzero_marked : (l : List ℕ) (i : ℕ) → get_or l i 0 ≢ 0 → nonzero_at l i ≡ true
unfolding nonzero_at
nonzero_marked l i h = rw (ne_eqb (get_or l i 0) 0 h) refl

pub zero_unmarked : (l : List ℕ) (i : ℕ) → get_or l i 0 ≡ 0 → nonzero_at l i ≡ false
unfolding nonzero_at
zero_unmarked l i e = rw (eq-eqb (get_or l i 0) 0 e) refl

-- a mark is set
pub marked_by_set : (n : ℕ) (l : List ℕ) (i : ℕ) → i < length l → Updated n (nonzero_at l) (nonzero_at (set l i 1)) i true
unfolding nonzero_at
marked_by_set n l i lt = updated_through (λ k. not (eqb k 0)) (updated_by_set n l i 1 0 lt)

-- ---- none below n passes
pub some_below_none : (p : ℕ → Bool) (n i : ℕ) → some_below p n ≡ false → i < n → p i ≡ false
some_below_none p n i none lt = go (cases_Bool (p i))
  where
    go : (p i ≡ true) ⊎ (p i ≡ false) → p i ≡ false
    go (inl t) = absurd (both_ways (some_below p n) none (some_below_intro p n i lt t))
    go (inr f) = f

-- ---- sums of sums and multiples
pub sum_add : (f g : ℕ → ℕ) (n : ℕ) → sum_below (λ i. f i + g i) n ≡ sum_below f n + sum_below g n
unfolding sum_below
sum_add f g zero = refl
sum_add f g (suc n) = let e = sum_add f g n in omega arith

pub sum_multiple : (c : ℕ) (f : ℕ → ℕ) (n : ℕ) → sum_below (λ i. c * f i) n ≡ c * sum_below f n
unfolding sum_below
sum_multiple c f zero = omega arith
sum_multiple c f (suc n) = let e = sum_multiple c f n in let d = mul-add c (sum_below f n) (f n) in omega arith

-- ---- the first that fails
pub first_failing_at : (p : ℕ → Bool) (n i : ℕ) → i < n → all_below p i ≡ true → p i ≡ false → first_failing p n ≡ i
unfolding first_failing
first_failing_at p zero i lt all fails = absurd (not-suc-le-zero lt)
first_failing_at p (suc n) i lt all fails = go (last_or_below i n lt) (first_failing_at p n i)
  where
    go : (i ≡ n) ⊎ (i < n) → (i < n → all_below p i ≡ true → p i ≡ false → first_failing p n ≡ i) → cond (all_below p n) (cond (p n) (suc n) n) (first_failing p n) ≡ i
    go (inl e) earlier = rw (← e, all, fails) refl
    go (inr below) earlier = rw (all_below_fails p n i below fails) (earlier below all fails)

-- where one fails, p holds at each number before the first that does, and fails there
pub first_failing_lem : (p : ℕ → Bool) (n : ℕ) → all_below p n ≡ false → (first_failing p n < n) × (all_below p (first_failing p n) ≡ true) × (p (first_failing p n) ≡ false)
unfolding all_below first_failing
first_failing_lem p zero h = let z : ◌≡◌ {A = ℕ} 0 1 = cc in absurd (let y : ⊥ = omega arith in y)
first_failing_lem p (suc n) h = go (cases_Bool (all_below p n)) (first_failing_lem p n)
  where
    First : ℕ → ℕ → Type 0
    First k limit = (k < limit) × (all_below p k ≡ true) × (p k ≡ false)

    go : (all_below p n ≡ true) ⊎ (all_below p n ≡ false) → (all_below p n ≡ false → First (first_failing p n) n) → First (cond (all_below p n) (cond (p n) (suc n) n) (first_failing p n)) (suc n)
    go (inl all) earlier =
        let fails : p n ≡ false = (rw all at h) in
        rw (all, fails) (omega arith, all, fails)
    go (inr some) earlier = let r = earlier some in rw some (omega arith, r.1, r.2)
