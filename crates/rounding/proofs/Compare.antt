-- `compare` gives the one ordering that holds. Assumes nothing.
use mathlib.Core.Path.{◌≡◌, refl, subst}
use Prim.Native.Nat.{ℕ, ◌≤◌, ◌<◌, compare, Ordering}
use native.Mathlib.Omega.{arith}
use mathlib.Core.Bool.{not}
use lib.Dec.{T, is_le, compare_is_eq, eqb, leb→le, nleb→lt, eqb→eq, eqb_refl}
use lib.Arith.{lt_of_le-ne}

abbrev pub Compares : Ordering → ℕ → ℕ → Type 0
Compares Ordering.lt a b = a < b
Compares Ordering.eq a b = a ≡ b
Compares Ordering.gt a b = b < a

pub compare_holds : (a b : ℕ) → Compares (compare a b) a b
compare_holds a b = go (compare a b) (leb→le a b) (nleb→lt a b) (eqb→eq a b) (λ (e : a ≡ b). subst (λ (x : ℕ). T (eqb a x)) e (eqb_refl a))
  where
    go : (o : Ordering) → (T (is_le o) → a ≤ b) → (T (not (is_le o)) → b < a) → (T (compare_is_eq o) → a ≡ b) → (a ≡ b → T (compare_is_eq o)) → Compares o a b
    go Ordering.lt h k e n = lt_of_le-ne (h tt) n
    go Ordering.eq h k e n = e tt
    go Ordering.gt h k e n = k tt

orderings_exclude : (o p : Ordering) (a b : ℕ) → Compares o a b → Compares p a b → o ≡ p
orderings_exclude Ordering.lt Ordering.lt a b x y = refl
orderings_exclude Ordering.lt Ordering.eq a b x y = absurd (omega arith)
orderings_exclude Ordering.lt Ordering.gt a b x y = absurd (omega arith)
orderings_exclude Ordering.eq Ordering.lt a b x y = absurd (omega arith)
orderings_exclude Ordering.eq Ordering.eq a b x y = refl
orderings_exclude Ordering.eq Ordering.gt a b x y = absurd (omega arith)
orderings_exclude Ordering.gt Ordering.lt a b x y = absurd (omega arith)
orderings_exclude Ordering.gt Ordering.eq a b x y = absurd (omega arith)
orderings_exclude Ordering.gt Ordering.gt a b x y = refl

pub compare_unique : (o : Ordering) (a b : ℕ) → Compares o a b → compare a b ≡ o
compare_unique o a b h = orderings_exclude (compare a b) o a b (compare_holds a b) h
