-- What the tests for a NaN tell of x. Assumes nothing.
use Rattle.std.proofs.Common.{◌≡◌, Bool, true, false, T, sym, refl, ap, ◌∙◌, subst, true≢false}
use mathlib.Core.Bool.{false≢true}
use lib.Ieee.{Float, nan, inf, fin, ne, is_nan}
use lib.Ieee.Compare.{differs_from_itself, nan_differs}

pub only_nan : (x : Float) → is_nan x ≡ true → x ≡ nan
unfolding is_nan
only_nan nan h = refl
only_nan (inf s) h = absurd (false≢true h)
only_nan (fin s m e) h = absurd (false≢true h)

-- Only a NaN differs from itself.
pub is_nan_lem : (x : Float) → ne x x ≡ true → x ≡ nan
is_nan_lem x h = differs_from_itself x (subst T (sym h) tt)

pub not_nan : (x : Float) → ne x x ≡ false → is_nan x ≡ false
unfolding is_nan
not_nan nan h = absurd (true≢false (sym nan_differs ∙ h))
not_nan (inf s) h = refl
not_nan (fin s m e) h = refl

pub same_number : (x : Float) → is_nan x ≡ false → ne x x ≡ false
unfolding is_nan
same_number x h = go (ne x x) refl
  where
    go : (b : Bool) → ne x x ≡ b → ne x x ≡ false
    go true e = absurd (true≢false (sym (ap is_nan (is_nan_lem x e)) ∙ h))
    go false e = e
