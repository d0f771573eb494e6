-- Laws of negation. Assumes nothing.
use Rattle.std.proofs.Common.{◌≡◌, ℕ, zero, suc, ◌+◌, ◌-◌, ◌*◌, ◌/◌, ◌%◌, ◌^◌, Bool, true, false, cond, not, ltb, refl, ap}
use Prim.Native.Nat.{compare}
use lib.Ieee.{Float, nan, inf, fin, Format, prec, emax, low, size, nearest, odd, units, round, neg}
use lib.Ieee.Exact.{HasValue}

pub neg_neg : (x : Float) → neg (neg x) ≡ x
unfolding neg
neg_neg nan = refl
neg_neg (inf true) = refl
neg_neg (inf false) = refl
neg_neg (fin true m e) = refl
neg_neg (fin false m e) = refl

pub neg_value : (x : Float) (s : Bool) (a c : ℕ) → HasValue x s a c → HasValue (neg x) (not s) a c
unfolding neg
neg_value (fin t m e) s a c v = (ap not v.0, v.1)
neg_value nan s a c v = elim v [ ]
neg_value (inf _) s a c v = elim v [ ]

neg_odd : (d : ℕ) (s : Bool) (q k l : ℕ) → neg (odd d s q k l) ≡ odd d (not s) q k l
unfolding neg odd
neg_odd d s zero k l = refl
neg_odd d s (suc q) k l = refl

neg_units : (f : Format) (s : Bool) (q k : ℕ) → neg (units f s q k) ≡ units f (not s) q k
unfolding units
neg_units f s q k = go (ltb (q * 2 ^ k) (2 ^ (low f + suc (emax f))))
  where
    go : (b : Bool) → neg (cond b (odd (suc (prec f)) s q k (low f)) (inf s)) ≡ cond b (odd (suc (prec f)) (not s) q k (low f)) (inf (not s))
    go true = neg_odd (suc (prec f)) s q k (low f)
    go false = unfold neg in refl

-- Rounding to nearest (IEEE 754-2019, 4.3.1) treats the two signs alike.
pub neg_round : (f : Format) (s : Bool) (a c : ℕ) → neg (round f s a c) ≡ round f (not s) a c
unfolding round
neg_round f s a c =
    let n = a * 2 ^ low f in
    let k = size (n / c) - prec f in
    let u = c * 2 ^ k in
    neg_units f s (nearest (n / u) (compare (n % u * 2) u)) k
