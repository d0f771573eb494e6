-- The order that numbers a queue: the id at place k has the number k, and an id that is not in the queue has none. Assumes nothing.
-- Where the queue has all ids the order is its inverse: `order_inverse`.
use Prim.Native.Nat.{ℕ, ◌<◌}
use native.Mathlib.Omega.{arith}
use mathlib.Core.Path.{◌≡◌, sym, ap, ◌∙◌}
use mathlib.Core.Logic.{◌⊎◌, inl, inr}
use mathlib.Core.Bool.{true, false}
use mathlib.Core.List.{List, [], Memᴰ}
use lib.ListN.{length, replicate, length-replicate, get_or-replicate}
use Rattle.std.proofs.lemmas.Bool.{cases_Bool}
use Rattle.sequences.specs.Ascending.{is_member}
use Rattle.sequences.specs.Permutation.{at, IsPermutation, inverse}
use Rattle.sequences.proofs.Tabulate.{length_tabulate, tabulate_at, tabulate_unique, member_get_d, get_d_member}
use Rattle.sequences.proofs.Ascending.{is_member_true, member_is_member}
use Rattle.sequences.proofs.Permutation.{inverse_unique, inverse_permutation}
use Rattle.walk.specs.Walk.{unreached, place_from, order_of}
use Rattle.walk.specs.Buffers.{DistinctIds}
use Rattle.walk.proofs.Queue.{place_of_member, place_of_absent, ids_injective, ids_below_lem, ids_permutation}

pub length_order : (n : ℕ) (q : List ℕ) → length (order_of n q) ≡ n
unfolding order_of
length_order n q = length_tabulate n (place_from 0 q)

pub number_of_absent : (n : ℕ) (q : List ℕ) (v : ℕ) → v < n → (Memᴰ v q → ⊥) → at (order_of n q) v ≡ unreached
unfolding order_of
number_of_absent n q v lt absent = tabulate_at n (place_from 0 q) v 0 lt ∙ go (cases_Bool (is_member v q))
  where
    go : (is_member v q ≡ true) ⊎ (is_member v q ≡ false) → place_from 0 q v ≡ unreached
    go (inl e) = absurd (absent (is_member_true v q e))
    go (inr e) = place_of_absent 0 q v e

-- no id has entered
pub order_of_none : (n : ℕ) → order_of n [] ≡ replicate n unreached
unfolding order_of place_from
order_of_none n = sym (tabulate_unique n (place_from 0 []) (replicate n unreached) 0 (length-replicate n unreached) (λ v lt. get_or-replicate n v unreached 0 lt))

module _ {n : ℕ} {q : List ℕ} (h : DistinctIds n q) where
  pub number_of_place : (k : ℕ) → k < length q → at (order_of n q) (at q k) ≡ k
  unfolding order_of
  number_of_place k lt =
      let r = place_of_member 0 q (at q k) (member_is_member (at q k) q (get_d_member q k 0 lt)) in
      let same = ids_injective h r.0 k r.1 lt r.3 in
      tabulate_at n (place_from 0 q) (at q k) 0 (ids_below_lem h k lt) ∙ (let e : place_from 0 q (at q k) ≡ k = omega arith in e)

  -- an id of the queue has its place as number
  pub number_of_member : (v : ℕ) → Memᴰ v q → (at (order_of n q) v < length q) × (at q (at (order_of n q) v) ≡ v)
  number_of_member v m =
      let r = member_get_d v q 0 m in
      let e : at (order_of n q) v ≡ r.0 = ap (at (order_of n q)) (sym r.2) ∙ number_of_place r.0 r.1 in
      (omega arith, ap (at q) e ∙ r.2)

  module _ (all : length q ≡ n) where
    pub order_inverse : order_of n q ≡ inverse q
    order_inverse = inverse_unique (ids_permutation h all) (order_of n q) (length_order n q) (λ k lt. number_of_place k (omega arith))

    pub order_permutation : IsPermutation n (order_of n q)
    order_permutation = rw order_inverse (inverse_permutation (ids_permutation h all))
