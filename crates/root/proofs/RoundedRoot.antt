-- A significand of 53 digits whose middles to the next ones lie on both sides of a root: it is the root's, rounded to nearest (IEEE 754-2019, 4.3.1). Assumes nothing.
use Rattle.std.proofs.Common.{◌≡◌, ℕ, zero, suc, ◌+◌, ◌-◌, ◌*◌, ◌/◌, ◌%◌, ◌^◌, ◌<◌, ◌≤◌, Bool, true, false, not, ◌&&◌, T, ltb, inl, inr, true≢false, sym, ap, ◌∙◌, subst, mul-le-mul_right, lt_of_not-le, arith, ltb-true, ltb-false}
use Rattle.std.specs.Prelude.{◌↔◌, IsTrue}
use Prim.Native.Nat.{Ordering}
use lib.Ieee.{Float, binary64, low, nearest, size, fits, of_bits, to_bits, is_nan}
use lib.Ieee.Bits.{of_bits-to_bits, to_bits-of_bits}
use lib.Ieee.Nearest.{closest}
use Rattle.std.proofs.lemmas.Bool.{lt-ltb, le-ltb}
use Rattle.binary64.proofs.NotNan.{round_not_nan}
use Rattle.binary64.proofs.Tests.{Tested, tested}
use Rattle.rounding.proofs.Compare.{compare_unique}
use Rattle.rounding.proofs.RoundWord.{normal_pattern}
use Rattle.root.specs.Root.{integer_root, root_in_halves, scaled_root}
use Rattle.root.proofs.IntegerRoot.{double_square, square_of_sum, integer_root_lem}
use Rattle.root.proofs.StickyRoot.{word_place, full_significand, significand_lt, word_rounds}
use Rattle.root.specs.Places.{squared_place, significand_place, root_zeros, significand_zeros}

-- ---- the nearest whole number, by what is left of 2048
closest_below : (n k : ℕ) → n / 2048 ≡ k → n % 2048 * 2 < 2048 → closest n 2048 ≡ k
closest_below n k q r = ap (nearest (n / 2048)) (compare_unique Ordering.lt (n % 2048 * 2) 2048 r) ∙ q

closest_above : (n k : ℕ) → n / 2048 + 1 ≡ k → 2048 < n % 2048 * 2 → closest n 2048 ≡ k
closest_above n k q r = ap (nearest (n / 2048)) (compare_unique Ordering.gt (n % 2048 * 2) 2048 r) ∙ omega (arith, q)

-- k, for the 54 digits 2k or 2k − 1 of a root with a sticky bit behind them
closest_even : (k s : ℕ) → s ≤ 1 → closest (2 * k * 2 ^ 10 + s) 2048 ≡ k
closest_even k s h = closest_below (2 * k * 2 ^ 10 + s) k (omega arith) (omega arith)

closest_odd : (k s : ℕ) → 0 < k → s ≡ 1 → closest ((2 * k - 1) * 2 ^ 10 + s) 2048 ≡ k
closest_odd k s p h = closest_above ((2 * k - 1) * 2 ^ 10 + s) k (omega arith) (omega arith)

-- ---- the 54 digits of the root of 4 * radicand, with what they leave
square_before : (k : ℕ) → 0 < k → (2 * k - 1) * (2 * k - 1) + 4 * k ≡ 4 * (k * k) + 1
square_before k p =
    let s = square_of_sum (2 * k - 1) 1 in
    let e : 2 * k - 1 + 1 ≡ 2 * k = omega arith in
    let d : (2 * k - 1 + 1) * (2 * k - 1 + 1) ≡ 4 * (k * k) = ap (λ (x : ℕ). x * x) e ∙ double_square k in
    omega arith

record Digits (radicand k : ℕ) : Type 0 where
  pub digits : ℕ
  pub left : ℕ
  pub whole : digits * digits + left ≡ 4 * radicand
  pub small : left ≤ 2 * digits
  pub rounds : closest (digits * 2 ^ 10 + (1 - (1 - left))) 2048 ≡ k

digits_of : (radicand k : ℕ) → 0 < k → k * k < radicand + k → radicand ≤ k * k + k → Digits radicand k
digits_of radicand k p lo hi = go (tested (k * k) radicand)
  where
    go : Tested (k * k) radicand → Digits radicand k
    go (inl (below, t)) =
        let d = double_square k in record {
          digits = 2 * k;
          left = 4 * radicand - 4 * (k * k);
          whole = omega arith;
          small = omega arith;
          rounds = closest_even k (1 - (1 - (4 * radicand - 4 * (k * k)))) (omega arith);
        }
    go (inr (above, t)) =
        let d = square_before k p in record {
          digits = 2 * k - 1;
          left = 4 * radicand - (2 * k - 1) * (2 * k - 1);
          whole = omega arith;
          small = omega arith;
          rounds = closest_odd k (1 - (1 - (4 * radicand - (2 * k - 1) * (2 * k - 1)))) p (omega arith);
        }

-- ---- the root of word * 4 ^ half / 2 ^ 1138, and the significand k at its place
-- the word in squared units of that place
abbrev pub scaled_word : ℕ → ℕ
scaled_word word = word * 2 ^ significand_zeros

module _ (word half k : ℕ) (word_least : 2 ^ 62 ≤ word) (word_below : word < 2 ^ 64) (half_below : half < 1500) where
  from_digits : Digits (scaled_word word) k → of_bits binary64 ((half + significand_place) * 2 ^ 52 + k) ≡ scaled_root binary64 (word * 2 ^ (2 * half + squared_place))
  from_digits d =
      let s = 1 - (1 - d.left) in
      let whole : d.digits * d.digits + d.left ≡ word * 2 ^ root_zeros = omega (arith, d.whole) in
      let top = full_significand d.digits d.left word d.small whole word_least in
      let below = significand_lt d.digits d.left word whole word_below in
      ap (of_bits binary64) (let z : (half + significand_place) * 2 ^ 52 + k ≡ 0 + ((half + significand_place) * 2 ^ 52 + closest (d.digits * 2 ^ 10 + s) 2048) = omega (arith, d.rounds) in z)
      ∙ normal_pattern binary64 false (d.digits * 2 ^ 10 + s) (half + word_place) 1266 (omega arith) (omega arith) (half + significand_place) (omega arith) (omega arith)
      ∙ word_rounds d.digits d.left word half s d.small whole word_least (omega arith) (λ z. omega arith) (λ z. omega arith)

  pub rounded_root : 0 < k → k * k < scaled_word word + k → scaled_word word ≤ k * k + k → of_bits binary64 ((half + significand_place) * 2 ^ 52 + k) ≡ scaled_root binary64 (word * 2 ^ (2 * half + squared_place))
  rounded_root some lo hi = from_digits (digits_of (scaled_word word) k some lo hi)

-- ---- the significand of a root: the whole number that is nearest to it
record NearestWhole (n : ℕ) : Type 0 where
  pub whole : ℕ
  pub short : whole * whole < n + whole
  pub reaches : n ≤ whole * whole + whole

nearest_whole : (n : ℕ) → 0 < n → NearestWhole n
nearest_whole n some = go (integer_root (size n) n) (integer_root_lem n).0 (integer_root_lem n).1 (tested n (integer_root (size n) n * integer_root (size n) n + integer_root (size n) n))
  where
    go : (r : ℕ) → r * r ≤ n → n < (r + 1) * (r + 1) → Tested n (r * r + r) → NearestWhole n
    go zero least most t = absurd (let s = square_of_sum 0 1 in let z : ⊥ = omega arith in z)
    go (suc r) least most (inl (below, t)) = record { whole = suc r; short = omega arith; reaches = below }
    go (suc r) least most (inr (above, t)) = let s = square_of_sum (suc r) 1 in record { whole = suc r + 1; short = omega arith; reaches = omega arith }

-- a rounded root is a number
pub root_number : (n : ℕ) → is_nan (scaled_root binary64 n) ≡ false
unfolding scaled_root
root_number n = round_not_nan binary64 false (root_in_halves n (integer_root (size n) n)) (2 ^ (low binary64 + 1))

-- ---- as the program has it: the test of a candidate's bits, of which the last 52 are those of its significand
abbrev significand_of : ℕ → ℕ
significand_of bits = 2 ^ 52 + bits % 2 ^ 52

pub record Passes (word half bits : ℕ) : Type 0 where
  pub place : bits ≡ (half + significand_place) * 2 ^ 52 + significand_of bits
  pub short : significand_of bits * significand_of bits < scaled_word word + significand_of bits
  pub reaches : scaled_word word ≤ significand_of bits * significand_of bits + significand_of bits

module _ (word half : ℕ) (least : 2 ^ 62 ≤ word) (most : word ≤ 2 ^ 64 - 2 ^ 11) (short : half ≤ 1050) where
  -- what passes is the rounded root
  pub candidate_accepted : (candidate : Float) → T (fits binary64 candidate) → Passes word half (to_bits binary64 candidate) → candidate ≡ scaled_root binary64 (word * 2 ^ (2 * half + squared_place))
  candidate_accepted candidate held p =
      sym (of_bits-to_bits binary64 candidate held) ∙ ap (of_bits binary64) p.place
      ∙ rounded_root word half (significand_of (to_bits binary64 candidate)) least (omega arith) (omega arith) (omega arith) p.short p.reaches

  significand : NearestWhole (scaled_word word)
  significand = nearest_whole (scaled_word word) (omega arith)

  pattern : ℕ
  pattern = (half + significand_place) * 2 ^ 52 + significand.whole

  in_binade : (2 ^ 52 ≤ significand.whole) × (significand.whole < 2 ^ 53)
  in_binade = bounds significand.whole significand.short significand.reaches
    where
      bounds : (k : ℕ) → k * k < scaled_word word + k → scaled_word word ≤ k * k + k → (2 ^ 52 ≤ k) × (k < 2 ^ 53)
      bounds k lo hi = (
        lt_of_not-le {n = k} {m = 2 ^ 52 - 1} (λ (l : k ≤ 2 ^ 52 - 1). let s = mul-le-mul_right k l in let z : ⊥ = omega arith in z),
        lt_of_not-le (λ (g : 2 ^ 53 ≤ k). let s = mul-le-mul_right k g in let z : ⊥ = omega arith in z),
      )

  pattern_rounds : of_bits binary64 pattern ≡ scaled_root binary64 (word * 2 ^ (2 * half + squared_place))
  unfolding pattern
  pattern_rounds = let b = in_binade in rounded_root word half significand.whole least (omega arith) (omega arith) (omega arith) significand.short significand.reaches

  root_bits : to_bits binary64 (scaled_root binary64 (word * 2 ^ (2 * half + squared_place))) ≡ pattern
  unfolding pattern
  root_bits =
      let b = in_binade in
      ap (to_bits binary64) (sym pattern_rounds)
      ∙ to_bits-of_bits binary64 pattern (omega arith) (subst (λ (b : Bool). T (not b)) (sym (ap is_nan pattern_rounds ∙ root_number (word * 2 ^ (2 * half + squared_place)))) tt)

  -- and it passes
  pub root_accepted : (candidate : Float) → candidate ≡ scaled_root binary64 (word * 2 ^ (2 * half + squared_place)) → Passes word half (to_bits binary64 candidate)
  unfolding pattern
  root_accepted candidate e = subst (λ (bits : ℕ). Passes word half bits) (sym (ap (to_bits binary64) e ∙ root_bits)) (passes significand.whole in_binade.0 in_binade.1 significand.short significand.reaches)
    where
      passes : (k : ℕ) → 2 ^ 52 ≤ k → k < 2 ^ 53 → k * k < scaled_word word + k → scaled_word word ≤ k * k + k → Passes word half ((half + significand_place) * 2 ^ 52 + k)
      passes k from below lo hi =
          let bits = (half + significand_place) * 2 ^ 52 + k in
          let same : k ≡ significand_of bits = omega arith in record {
            place = omega arith;
            short = subst (λ (s : ℕ). s * s < scaled_word word + s) same lo;
            reaches = subst (λ (s : ℕ). scaled_word word ≤ s * s + s) same hi;
          }

pub both_tests : (a b : Bool) (square above below value : ℕ) → a ≡ ltb square above → b ≡ ltb below value → IsTrue (a && not b) ↔ ((square < above) × (value ≤ below))
both_tests a b square above below value f g = (by_tests a b f g, of_tests)
  where
    by_tests : (a b : Bool) → a ≡ ltb square above → b ≡ ltb below value → IsTrue (a && not b) → (square < above) × (value ≤ below)
    by_tests true false f g t = (ltb-true square above (sym f), ltb-false below value (sym g))
    by_tests true true f g t = absurd (true≢false (sym t))
    by_tests false b f g t = absurd (true≢false (sym t))

    of_tests : (square < above) × (value ≤ below) → IsTrue (a && not b)
    of_tests (lo, hi) = ap (λ (z : Bool). z && not b) (f ∙ lt-ltb square above lo) ∙ ap not (g ∙ le-ltb below value hi)
