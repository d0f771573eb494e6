-- The total order of all binary64 data, on their encodings: bit patterns as numbers below 2 ^ 64. Definitions only.
use Rattle.std.specs.Prelude.{◌≡◌, ℕ, ◌+◌, ◌-◌, ◌%◌, ◌^◌, Bool, true, false, cond, not, ◌||◌, nat_le, Float}
use Rattle.std.specs.Bool.{beq}
use Rattle.std.specs.Float.{binary64}
use Rattle.std.specs.Float.Ieee.{lt, of_bits, to_bits, nan_bits}
use Rattle.std.specs.declared.cmp.Ordering.{Ordering}
use Rattle.std.specs.declared.cmp.Ordering.TheVariants.{Less, Equal, Greater}

-- IEEE 754-2019, 3.4: the sign is the first of the 64 digits.
abbrev pub is_negative : ℕ → Bool
is_negative b = nat_le (2 ^ 63) b

-- IEEE 754-2019, 6.2.1: a NaN is quiet where the first of its 52 trailing significand digits is 1, and signaling otherwise. The clause says "should"; it holds of every machine that this engine is built for. The 51 digits behind it are its payload.
abbrev pub is_quiet : ℕ → Bool
is_quiet b = nat_le (2 ^ 51) (b % 2 ^ 52)

abbrev pub payload : ℕ → ℕ
payload b = b % 2 ^ 51

-- IEEE 754-2019, 5.10 d) 3) ii) for +NaN: signaling orders below quiet. The order of payloads, which that edition need not fix, is ours: the lesser below the greater, as the 2008 edition and Rust's `total_cmp` have it.
unfoldable pub positive_nan_order : ℕ → ℕ → Bool
positive_nan_order x y = cond (beq (is_quiet x) (is_quiet y)) (nat_le (payload x) (payload y)) (is_quiet y)

-- IEEE 754-2019, 5.10 d) 3) i) for two NaNs: the negative sign orders below the positive. For −NaN ii) and the order of payloads are reversed.
unfoldable pub nan_order : ℕ → ℕ → Bool
unfolding positive_nan_order
nan_order x y =
    cond (beq (is_negative x) (is_negative y)) (cond (is_negative x) (positive_nan_order y x) (positive_nan_order x y)) (is_negative x)

-- IEEE 754-2019, 5.10 a) to c) for two data that are no NaN: by their values, and −0 below +0.
unfoldable pub number_order : ℕ → ℕ → Bool
unfolding lt of_bits
number_order x y =
    cond (lt (of_bits binary64 x) (of_bits binary64 y)) true
    (cond (lt (of_bits binary64 y) (of_bits binary64 x)) false (is_negative x || not (is_negative y)))

-- IEEE 754-2019, 5.10: totalOrder(x, y). By d) 1) and 2) a number stands above every −NaN and below every +NaN.
unfoldable pub total_order : ℕ → ℕ → Bool
unfolding number_order nan_order nan_bits
total_order x y =
    cond (nan_bits binary64 x)
    (cond (nan_bits binary64 y) (nan_order x y) (is_negative x))
    (cond (nan_bits binary64 y) (not (is_negative y)) (number_order x y))

-- The same as an answer by cases.
unfoldable pub total_ordering : ℕ → ℕ → Ordering
unfolding total_order
total_ordering x y = cond (total_order x y) (cond (total_order y x) Equal Less) Greater

-- x stands below y, and not y below x.
abbrev pub StrictlyBelow : ℕ → ℕ → Type 0
StrictlyBelow x y = (total_order x y ≡ true) × (total_order y x ≡ false)

-- How many of the 2 ^ 64 encodings stand below b in the total order: its place, counted from 0.
unfoldable pub rank_of_bits : ℕ → ℕ
rank_of_bits b = cond (is_negative b) (2 ^ 64 - 1 - b) (2 ^ 63 + b)

-- The rank of a double. A NaN has neither sign nor payload here and counts as the encoding 0x7ff8_0000_0000_0000, which is what to_bits gives it.
unfoldable pub rank_of : Float → ℕ
unfolding rank_of_bits to_bits
rank_of x = rank_of_bits (to_bits binary64 x)
