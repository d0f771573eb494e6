-- Laws of decimal numbers: they are what the library writes, and their length. Assumes nothing.
use Rattle.std.proofs.Common.{◌≡◌, ℕ, zero, suc, ◌/◌, ◌^◌, ◌<◌, ◌≤◌, Bool, true, false, List, [], ◌∷◌, map, ltb, length, length-append, get_or, refl, sym, ap, arith, lt-ltb, le-ltb}
use Rattle.std.specs.Fmt as library
use Rattle.std.proofs.lemmas.Fmt.{AppendsLastDigit, decimal_from_appends, length-decimal-le}
use Rattle.bracket_list.specs.Text.{digits_within, decimal}

digits_append : AppendsLastDigit (λ most n. digits_within most (ltb n 10) n)
unfolding digits_within
digits_append = record { one = λ most n small. rw (lt-ltb n 10 small) refl; more = λ most n le. rw (le-ltb n 10 le) refl }

-- what the library writes
pub decimal_is : (n : ℕ) → n < 2 ^ 32 → library.decimal n ≡ decimal n
unfolding decimal
decimal_is n lt =
    sym (decimal_from_appends (λ most n. digits_within most (ltb n 10) n) digits_append 10 n (omega arith) (length-decimal-le 10 n (omega arith) (omega arith) (omega arith)))

pub decimal_length : (n : ℕ) → n < 2 ^ 32 → length (library.decimal n) ≡ length (decimal n)
decimal_length n lt = ap length (decimal_is n lt)

pub decimals_are : (ns : List ℕ) → ((i : ℕ) → get_or ns i 0 < 2 ^ 32) → map library.decimal ns ≡ map decimal ns
decimals_are [] few = refl
decimals_are (n ∷ ns) few = rw (decimal_is n (few 0), decimals_are ns (λ i. few (suc i))) refl

length_digits : (most : ℕ) (small : Bool) (n : ℕ) → length (digits_within most small n) ≤ most
unfolding digits_within
length_digits zero small n = omega arith
length_digits (suc most) true n = omega arith
length_digits (suc most) false n = let r = length_digits most (ltb (n / 10) 10) (n / 10) in simp length-append (omega arith)

-- "at most ten digits"
pub length_decimal : (n : ℕ) → length (decimal n) ≤ 10
unfolding decimal
length_decimal n = length_digits 10 (ltb n 10) n
