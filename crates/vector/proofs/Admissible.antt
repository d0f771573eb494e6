-- Laws of `admissible`. A vector whose squared length is at most 2 ^ 40 has finite components, so that a program need not test them. Assumes nothing.
use mathlib.Core.Path.{◌≡◌, refl}
use mathlib.Core.Bool.{Bool, true, false, ◌&&◌, true≢false}
use lib.Dec.{T}
use lib.Ieee.Fits.{and_l, and_r}
use Prim.Native.Nat.{ℕ}
use lib.IntN.{ℤ}
use lib.Ieee.{Float, nan, inf, fin, Format, binary64, add, mul, le, lt, eq}
use lib.Ieee.Scale.{finite}
use Rattle.std.proofs.lemmas.Bool.{and_right}
use Rattle.vector.specs.declared.Vector3.{Vector3}
use Rattle.vector.specs.Vector.{squared_length}
use Rattle.vector.specs.Direction.{admissible, least_squared_length, greatest_squared_length}

-- NaN or +∞: not at most any finite value
data Unbounded : Float → Type 0 where
  unordered : Unbounded nan
  infinite : Unbounded (inf false)

unbounded_square : (f : Format) (x : Float) → finite x ≡ false → Unbounded (mul f x x)
unfolding mul
unbounded_square f nan h = unordered
unbounded_square f (inf true) h = infinite
unbounded_square f (inf false) h = infinite
unbounded_square f (fin s m e) h = absurd (true≢false h)

unbounded_left : (f : Format) (x y : Float) → Unbounded x → Unbounded (add f x y)
unfolding add
unbounded_left f nan y unordered = unordered
unbounded_left f (inf false) nan infinite = unordered
unbounded_left f (inf false) (inf true) infinite = unordered
unbounded_left f (inf false) (inf false) infinite = infinite
unbounded_left f (inf false) (fin s m e) infinite = infinite
unbounded_left f (inf true) y x4 = elim x4 [ ]
unbounded_left f (fin _ _ _) y x6 = elim x6 [ ]

unbounded_right : (f : Format) (x y : Float) → Unbounded y → Unbounded (add f x y)
unfolding add
unbounded_right f nan y h = unordered
unbounded_right f (inf s) nan unordered = unordered
unbounded_right f (inf true) (inf false) infinite = unordered
unbounded_right f (inf false) (inf false) infinite = infinite
unbounded_right f (fin s m e) nan unordered = unordered
unbounded_right f (fin s m e) (inf false) infinite = infinite
unbounded_right f (inf false) (inf true) h = elim h [ ]
unbounded_right f (inf true) (inf true) h = elim h [ ]
unbounded_right f (inf s) (fin _ _ _) h = elim h [ ]
unbounded_right f (fin s m e) (inf true) h = elim h [ ]
unbounded_right f (fin s m e) (fin _ _ _) h = elim h [ ]

unbounded_above : (x : Float) (s : Bool) (m : ℕ) (e : ℤ) → Unbounded x → le x (fin s m e) ≡ false
unfolding le lt eq
unbounded_above nan s m e unordered = refl
unbounded_above (inf false) s m e infinite = refl
unbounded_above (inf true) s m e x4 = elim x4 [ ]
unbounded_above (fin _ _ _) s m e x6 = elim x6 [ ]

-- three tests that fail only where the last one does may be left out
redundant : (a b c p q : Bool) → (a ≡ false → q ≡ false) → (b ≡ false → q ≡ false) → (c ≡ false → q ≡ false) → (p && q) ≡ (a && b && c && (p && q))
redundant true true true p q h i j = refl
redundant true true false p q h i j = and_right p q (j refl)
redundant true false c p q h i j = and_right p q (i refl)
redundant false b c p q h i j = and_right p q (h refl)

-- the comparisons of the squared length decide alone
pub admissible_by_length : (v : Vector3) → (le least_squared_length (squared_length v) && le (squared_length v) greatest_squared_length) ≡ admissible v
unfolding admissible
admissible_by_length v =
    redundant (finite v.x) (finite v.y) (finite v.z) (le least_squared_length (squared_length v)) (le (squared_length v) greatest_squared_length)
    (λ h. above (unbounded_left binary64 _ _ (unbounded_left binary64 _ _ (unbounded_square binary64 v.x h))))
    (λ h. above (unbounded_left binary64 _ _ (unbounded_right binary64 _ _ (unbounded_square binary64 v.y h))))
    (λ h. above (unbounded_right binary64 _ _ (unbounded_square binary64 v.z h)))
  where
    above : Unbounded (squared_length v) → le (squared_length v) greatest_squared_length ≡ false
    above h = unbounded_above (squared_length v) _ _ _ h

-- every component is finite
pub record Finite (v : Vector3) : Type 0 where
  pub x_finite : T (finite v.x)
  pub y_finite : T (finite v.y)
  pub z_finite : T (finite v.z)

-- what a vector that rows 5 and 9 let pass has
pub record Admissible (v : Vector3) : Type 0 where
  pub components : Finite v
  pub not_below : T (le least_squared_length (squared_length v))
  pub not_above : T (le (squared_length v) greatest_squared_length)

pub admissible_parts : (v : Vector3) → T (admissible v) → Admissible v
unfolding admissible
admissible_parts v t =
    let x = finite v.x in
    let y = finite v.y in
    let z = finite v.z in
    let p = le least_squared_length (squared_length v) in
    let q = le (squared_length v) greatest_squared_length in
    let all-finite = and_l (x && y && z) (p && q) t in
    let ends = and_r (x && y && z) (p && q) t in
    record {
      components = record { x_finite = and_l x y (and_l (x && y) z all-finite); y_finite = and_r x y (and_l (x && y) z all-finite); z_finite = and_r (x && y) z all-finite };
      not_below = and_l p q ends;
      not_above = and_r p q ends;
    }
