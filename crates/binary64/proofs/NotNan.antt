-- Where the operations of IEEE 754-2019, 5.4.1 give no NaN: a rounded number is none (`round_not_nan`), a difference from a finite value is none (`sub_not_nan`). A finite value is none (`finite_number`); what is finite: `value_finite`, `between_finite`, `signed_finite`.
-- Squares and sums of them have the sign + and are none: `square_signed`, `add_signed`, `signed_not_nan`. Assumes nothing.
use Rattle.std.proofs.Common.{◌≡◌, ℕ, zero, suc, ◌+◌, ◌-◌, ◌*◌, ◌^◌, Bool, true, false, cond, not, ◌&&◌, T, ltb, ℤ, refl, true≢false}
use mathlib.Core.Path.{subst⁻¹}
use mathlib.Core.Bool.{beq}
use lib.Ieee.{Float, nan, inf, fin, Format, low, prec, emax, odd, units, round, sum, add, sub, neg, mul, le, is_nan}
use lib.Ieee.Exact.{HasValue}
use lib.Ieee.Fits.{round_is}
use lib.Ieee.Scale.{finite}

-- ---- a rounded number is no NaN, and has the sign it is given
-- an infinity or a number of the sign s
pub data Signed (s : Bool) : Float → Type 0 where
  infinite : Signed s (inf s)
  number : (m : ℕ) (e : ℤ) → Signed s (fin s m e)

pub signed_not_nan : {s : Bool} {x : Float} → Signed s x → is_nan x ≡ false
unfolding is_nan
signed_not_nan infinite = refl
signed_not_nan (number m e) = refl

odd_signed : (d : ℕ) (s : Bool) (q k l : ℕ) → Signed s (odd d s q k l)
unfolding odd
odd_signed d s zero k l = number _ _
odd_signed d s (suc q) k l = number _ _

cond_signed : {s : Bool} (b : Bool) (x y : Float) → Signed s x → Signed s y → Signed s (cond b x y)
cond_signed true x y h k = h
cond_signed false x y h k = k

units_signed : (f : Format) (s : Bool) (q k : ℕ) → Signed s (units f s q k)
unfolding units
units_signed f s q k = cond_signed (ltb (q * 2 ^ k) (2 ^ (low f + suc (emax f)))) _ _ (odd_signed (suc (prec f)) s q k (low f)) infinite

pub round_signed : (f : Format) (s : Bool) (a c : ℕ) → Signed s (round f s a c)
round_signed f s a c = subst⁻¹ (Signed s) (round_is f s a c) (units_signed f s _ _)

-- ---- finite values
pub finite_number : (x : Float) → T (finite x) → is_nan x ≡ false
unfolding is_nan
finite_number (fin s m e) t = refl
finite_number nan t = elim t [ ]
finite_number (inf _) t = elim t [ ]

-- the same as a test
pub finite_not_nan : (x : Float) → T (finite x) → T (not (is_nan x))
finite_not_nan x t = rw (finite_number x t) tt

pub value_finite : (x : Float) (s : Bool) (a c : ℕ) → HasValue x s a c → T (finite x)
value_finite (fin t m e) s a c h = tt
value_finite nan s a c h = elim h [ ]
value_finite (inf _) s a c h = elim h [ ]

-- What lies between two finite values is finite, and what has the sign + and is at most one.
pub between_finite : (low x high : Float) → T (finite low) → T (finite high) → T (le low x) → T (le x high) → T (finite x)
unfolding le
between_finite (fin s m e) nan (fin t n d) L H h k = absurd k
between_finite (fin s m e) (inf true) (fin t n d) L H h k = absurd h
between_finite (fin s m e) (inf false) (fin t n d) L H h k = absurd k
between_finite (fin s m e) (fin u o g) (fin t n d) L H h k = tt
between_finite nan _ high L H h k = elim L [ ]
between_finite (inf _) _ high L H h k = elim L [ ]
between_finite (fin s m e) nan nan L H h k = elim H [ ]
between_finite (fin s m e) nan (inf _) L H h k = elim H [ ]
between_finite (fin s m e) (inf false) nan L H h k = elim H [ ]
between_finite (fin s m e) (inf false) (inf _) L H h k = elim H [ ]
between_finite (fin s m e) (inf true) nan L H h k = elim H [ ]
between_finite (fin s m e) (inf true) (inf _) L H h k = elim H [ ]
between_finite (fin s m e) (fin u o g) nan L H h k = elim H [ ]
between_finite (fin s m e) (fin u o g) (inf _) L H h k = elim H [ ]

pub signed_finite : {x : Float} (b : Float) → Signed false x → T (finite b) → T (le x b) → T (finite x)
unfolding le
signed_finite (fin t n d) infinite B h = absurd h
signed_finite (fin t n d) (number m e) B h = tt
signed_finite nan _ B h = elim B [ ]
signed_finite (inf _) _ B h = elim B [ ]

-- ---- the operations
pub square_signed : (f : Format) (x : Float) → is_nan x ≡ false → Signed false (mul f x x)
unfolding mul is_nan
square_signed f nan h = absurd (true≢false h)
square_signed f (inf true) h = infinite
square_signed f (inf false) h = infinite
square_signed f (fin true m e) h = round_signed f false _ _
square_signed f (fin false m e) h = round_signed f false _ _

pub add_signed : (f : Format) {x y : Float} → Signed false x → Signed false y → Signed false (add f x y)
unfolding add sum
add_signed f infinite infinite = infinite
add_signed f infinite (number n d) = infinite
add_signed f (number m e) infinite = infinite
add_signed f (number m e) (number n d) = round_signed f false _ _

cond_not_nan : (b : Bool) (x y : Float) → is_nan x ≡ false → is_nan y ≡ false → is_nan (cond b x y) ≡ false
cond_not_nan true x y h k = h
cond_not_nan false x y h k = k

pub round_not_nan : (f : Format) (s : Bool) (a c : ℕ) → is_nan (round f s a c) ≡ false
round_not_nan f s a c = signed_not_nan (round_signed f s a c)

sum_not_nan : (f : Format) (s : Bool) (a : ℕ) (t : Bool) (b c : ℕ) → is_nan (sum f s a t b c) ≡ false
unfolding sum
sum_not_nan f s a t b c =
    cond_not_nan (beq s t) _ _ (round_not_nan f s (a + b) c) (cond_not_nan (ltb a b) _ _ (round_not_nan f t (b - a) c) (round_not_nan f (s && ltb b a) (a - b) c))

pub sub_not_nan : (f : Format) (x y : Float) → is_nan x ≡ false → T (finite y) → is_nan (sub f x y) ≡ false
unfolding sub add neg is_nan
sub_not_nan f nan y h k = h
sub_not_nan f (inf s) nan h k = absurd k
sub_not_nan f (inf s) (inf t) h k = absurd k
sub_not_nan f (inf s) (fin t n d) h k = refl
sub_not_nan f (fin s m e) nan h k = absurd k
sub_not_nan f (fin s m e) (inf t) h k = absurd k
sub_not_nan f (fin s m e) (fin t n d) h k = sum_not_nan f s _ _ _ _
