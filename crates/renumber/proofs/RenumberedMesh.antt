-- Laws of a renumbered mesh. It passes rows 2 to 4 again (`renumbered_adjacency`), its parts have the lengths they had, and positions and lists have gone where the permutation says (`renumbered`).
-- Its lists ascend (`renumbered_ascends`). By the identity they are sorted, and nothing else changes (`identity_positions`, `identity_lists`); one renumbering after another is that by the composition (`renumbered_twice`). Assumes nothing.
use Prim.Native.Nat.{ℕ, suc, ◌+◌, ◌-◌, ◌*◌, ◌≤◌, ◌<◌}
use native.Mathlib.Omega.{arith}
use mathlib.Core.Path.{◌≡◌, refl, sym, ap, ◌∙◌}
use mathlib.Core.List.{List, map}
use lib.ListN.{length, get_or}
use lib.Ieee.{nan}
use Rattle.sequences.specs.Starts.{concatenate, starts_of}
use Rattle.sequences.specs.Ascending.{Nondecreasing, sort}
use Rattle.sequences.specs.Permutation.{at, IsPermutation, inverse, identity, compose, moved_blocks, relabelled}
use Rattle.sequences.proofs.Tabulate.{get_d_member}
use Rattle.sequences.proofs.Starts.{starts_at, start_suc, starts_extensional, length_concatenate, concatenate_extensional, concatenate_member, concatenate_part, compressed_rows}
use Rattle.sequences.proofs.Sorted.{sort_again}
use Rattle.sequences.proofs.Permutation.{permutation_bijection, length_moved_blocks, moved_blocks_from, moved_blocks_identity, moved_blocks_compose, relabelled_at, length_relabelled, relabelled_total, relabelled_below, relabelled_nondecreasing, relabelled_identity, relabelled_compose, relabelled_extensional}
use Rattle.mesh.specs.Mesh.{Mesh, count, position_of, neighbours}
use Rattle.mesh.specs.Rows.{longest_list}
use Rattle.mesh.proofs.Facts.{AdjacencyFacts}
use Rattle.mesh.proofs.Neighbours.{neighbour_below, neighbours_limited, entries_of_neighbours}
use Rattle.mesh.proofs.Renumbered.{Renumbered}
use Rattle.renumber.specs.Renumber.{renumbered_mesh}

neighbours_from : (m : Mesh) (q : List ℕ) (i : ℕ) → i < count m → neighbours (renumbered_mesh q m) i ≡ relabelled q (neighbours m) i
unfolding neighbours renumbered_mesh
neighbours_from m q i lt = concatenate_part (count m) (relabelled q (neighbours m)) i lt

-- every list ascends, repeats side by side
pub renumbered_ascends : (m : Mesh) {q : List ℕ} → IsPermutation (count m) q → (i : ℕ) → i < count m → Nondecreasing (neighbours (renumbered_mesh q m) i)
renumbered_ascends m {q} h i lt = rw (neighbours_from m q i lt) (relabelled_nondecreasing h (neighbours m) i)

module _ (m : Mesh) (facts : AdjacencyFacts m) {q : List ℕ} (h : IsPermutation (count m) q) where
  -- ---- lengths
  renumbered_positions_length : length (renumbered_mesh q m).positions ≡ count m * 3
  unfolding renumbered_mesh
  renumbered_positions_length = length_moved_blocks h 3 m.positions nan

  pub renumbered_count : count (renumbered_mesh q m) ≡ count m
  renumbered_count = omega (arith, renumbered_positions_length)

  pub same_entries_length : length (renumbered_mesh q m).entries ≡ length m.entries
  unfolding renumbered_mesh
  same_entries_length =
      length_concatenate (count m) (relabelled q (neighbours m)) ∙ relabelled_total h (neighbours m)
      ∙ sym (length_concatenate (count m) (neighbours m)) ∙ ap length (entries_of_neighbours m facts)

  -- ---- positions and lists
  position_from : (i : ℕ) → i < count m → position_of (renumbered_mesh q m).positions i ≡ position_of m.positions (at (inverse q) i)
  unfolding position_of renumbered_mesh
  position_from i lt =
      let from = moved_blocks_from h 3 m.positions nan i in
      let new : i * 3 + 0 ≡ i * 3 = omega arith in
      let old : at (inverse q) i * 3 + 0 ≡ at (inverse q) i * 3 = omega arith in
      let first = sym (ap (λ (j : ℕ). get_or (moved_blocks 3 q m.positions nan) j nan) new) ∙ from 0 lt (omega arith) ∙ ap (λ (j : ℕ). get_or m.positions j nan) old in
      rw (first, from 1 lt (omega arith), from 2 lt (omega arith)) refl

  pub renumbered : Renumbered m (renumbered_mesh q m) (at q) (at (inverse q))
  renumbered =
      let b = permutation_bijection h in
      record {
        bijection = b;
        same_count = renumbered_count;
        positions = λ v lt. position_from (at q v) (b.maps v lt) ∙ ap (position_of m.positions) (b.left_inverse v lt);
        lists = λ v lt. ap sort (neighbours_from m q (at q v) (b.maps v lt) ∙ relabelled_at h (neighbours m) v lt) ∙ sort_again (map (at q) (neighbours m v));
      }

  -- ---- the mesh rows
  renumbered_limited : (v : ℕ) → v < count m → get_or (starts_of (count m) (relabelled q (neighbours m))) (suc v) 0 - get_or (starts_of (count m) (relabelled q (neighbours m))) v 0 ≤ longest_list
  renumbered_limited v lt =
      let lists = relabelled q (neighbours m) in
      let old = (permutation_bijection h).inverse_maps v lt in
      omega (arith, starts_at (count m) lists v (omega arith), starts_at (count m) lists (suc v) lt, start_suc lists v, length_relabelled h (neighbours m) v, neighbours_limited m facts (at (inverse q) v) old)

  renumbered_id_below : (i : ℕ) → i < length (concatenate (count m) (relabelled q (neighbours m))) → get_or (concatenate (count m) (relabelled q (neighbours m))) i 0 < count m
  renumbered_id_below i lt =
      let entry = concatenate_member (count m) (relabelled q (neighbours m)) _ (get_d_member (concatenate (count m) (relabelled q (neighbours m))) i 0 lt) in
      relabelled_below h (neighbours m) (λ v lv. neighbour_below m facts v) entry.0 entry.1 _ entry.2

  pub renumbered_adjacency : AdjacencyFacts (renumbered_mesh q m)
  unfolding renumbered_mesh
  renumbered_adjacency =
      let same = renumbered_count in
      record {
        three_each = omega (arith, renumbered_positions_length);
        some = omega (arith, facts.some);
        few = omega (arith, facts.few);
        rows = rw same (compressed_rows (count m) (relabelled q (neighbours m)));
        limited = λ v lt. renumbered_limited v (omega arith);
        ids_below_lem = λ i lt. omega (arith, renumbered_id_below i lt);
      }

-- ---- by the identity
module _ (m : Mesh) (facts : AdjacencyFacts m) where
  pub identity_positions : (renumbered_mesh (identity (count m)) m).positions ≡ m.positions
  unfolding renumbered_mesh
  identity_positions = moved_blocks_identity (count m) 3 m.positions nan facts.three_each

  pub identity_lists : (i : ℕ) → i < count m → neighbours (renumbered_mesh (identity (count m)) m) i ≡ sort (neighbours m i)
  identity_lists i lt = neighbours_from m (identity (count m)) i lt ∙ relabelled_identity (count m) (neighbours m) (λ v lv. neighbour_below m facts v) i lt

-- ---- renumbered again
module _ (m : Mesh) (facts : AdjacencyFacts m) {p q : List ℕ} (h : IsPermutation (count m) p) (k : IsPermutation (count m) q) where
  list_again : (i : ℕ) → i < count m → relabelled q (neighbours (renumbered_mesh p m)) i ≡ relabelled (compose q p) (neighbours m) i
  list_again i lt =
      relabelled_extensional q (neighbours (renumbered_mesh p m)) (relabelled p (neighbours m)) i (neighbours_from m p (at (inverse q) i) ((permutation_bijection k).inverse_maps i lt))
      ∙ relabelled_compose h k (neighbours m) (λ v lv. neighbour_below m facts v) i lt

  positions_again : moved_blocks 3 q (renumbered_mesh p m).positions nan ≡ moved_blocks 3 (compose q p) m.positions nan
  unfolding renumbered_mesh
  positions_again = moved_blocks_compose h k 3 m.positions nan

  starts_again : starts_of (count (renumbered_mesh p m)) (relabelled q (neighbours (renumbered_mesh p m))) ≡ starts_of (count m) (relabelled (compose q p) (neighbours m))
  starts_again =
      ap (λ (n : ℕ). starts_of n (relabelled q (neighbours (renumbered_mesh p m)))) (renumbered_count m facts h)
      ∙ starts_extensional (count m) (relabelled q (neighbours (renumbered_mesh p m))) (relabelled (compose q p) (neighbours m)) (λ v lt. ap length (list_again v lt))

  entries_again : concatenate (count (renumbered_mesh p m)) (relabelled q (neighbours (renumbered_mesh p m))) ≡ concatenate (count m) (relabelled (compose q p) (neighbours m))
  entries_again =
      ap (λ (n : ℕ). concatenate n (relabelled q (neighbours (renumbered_mesh p m)))) (renumbered_count m facts h)
      ∙ concatenate_extensional (count m) (relabelled q (neighbours (renumbered_mesh p m))) (relabelled (compose q p) (neighbours m)) list_again

  -- p, then q
  pub renumbered_twice : renumbered_mesh q (renumbered_mesh p m) ≡ renumbered_mesh (compose q p) m
  unfolding renumbered_mesh
  renumbered_twice = rw (positions_again, starts_again, entries_again) refl
