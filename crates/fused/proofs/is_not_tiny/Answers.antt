use Rattle.std.proofs.Common.{◌≡◌, Bool, true, false, not, ◌||◌, refl, sym}
use mathlib.Core.Bool.{beq, false≢true}
use lib.Ieee.{Float, nan, inf, fin, lt, neg, of_bits}
use Rattle.fused.specs.Tiny.{least_product}
use Rattle.fused.proofs.is_not_tiny.Goals as goal

-- not both
other_below : (x : Float) → lt least_product x ≡ true → lt x (neg least_product) ≡ false
unfolding lt neg
other_below nan h = absurd (false≢true h)
other_below (inf true) h = absurd (false≢true h)
other_below (inf false) h = refl
other_below (fin true m e) h = absurd (false≢true h)
other_below (fin false m e) h = refl

differs : (p q : Bool) → (p ≡ true → q ≡ false) → not (beq p q) ≡ (p || q)
differs true true apart = sym (apart refl)
differs true false apart = refl
differs false true apart = refl
differs false false apart = refl

pub returns : goal.returns
unfolding of_bits
returns c = differs (lt least_product c.args.x) (lt c.args.x (neg least_product)) (other_below c.args.x)
