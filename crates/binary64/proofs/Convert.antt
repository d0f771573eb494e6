-- Laws of the conversion to a signed 64-bit whole number, for callers. Assumes nothing.
use Rattle.std.proofs.Common.{◌≡◌, ℕ, ◌-◌, ◌*◌, ◌/◌, ◌^◌, ◌<◌, min, true, false, pos, neg_ℤ, ap, true≢false}
use mathlib.Core.Bool.{false≢true}
use lib.Ieee.{nan, Float, fin, up, down, inf}
use lib.Ieee.Exact.{HasValue}
use lib.Ieee.Fits.{down_pos}
use lib.Ieee.Nearest.{div_same}
use Rattle.binary64.specs.Convert.{to_i64}

-- A number a / c: without its fraction, and at most the greatest i64.
pub to_i64_nonnegative : (x : Float) (a c : ℕ) → 0 < c → HasValue x false a c → to_i64 x ≡ pos (min (a / c) (2 ^ 63 - 1))
unfolding to_i64
to_i64_nonnegative (fin true m e) a c p v = absurd (true≢false v.0)
to_i64_nonnegative (fin false m e) a c p v = ap (λ (n : ℕ). pos (min n (2 ^ 63 - 1))) (div_same (m * up e) (down e) a c (down_pos e) p v.1)
to_i64_nonnegative nan a c p v = elim v [ ]
to_i64_nonnegative (inf _) a c p v = elim v [ ]

-- A number -(a / c): toward zero, and at least the least i64.
pub to_i64_negative : (x : Float) (a c : ℕ) → 0 < c → HasValue x true a c → to_i64 x ≡ neg_ℤ (pos (min (a / c) (2 ^ 63)))
unfolding to_i64
to_i64_negative (fin false m e) a c p v = absurd (false≢true v.0)
to_i64_negative (fin true m e) a c p v = ap (λ (n : ℕ). neg_ℤ (pos (min n (2 ^ 63)))) (div_same (m * up e) (down e) a c (down_pos e) p v.1)
to_i64_negative nan a c p v = elim v [ ]
to_i64_negative (inf _) a c p v = elim v [ ]
