-- Laws of renumbered data, with entries a vertex that row 7 lets pass. The length and the tail stay (`renumbered_data_length`, `renumbered_data_tail`; in either form that of one entry a vertex, `renumbered_data_single_tail`), and what stands where say `renumbered_single` and `renumbered_pair`.
-- Nothing moves by the identity, and one renumbering after another is that by the composition. Assumes nothing.
use Prim.Native.Nat.{ℕ, ◌+◌, ◌-◌, ◌*◌, ◌/◌, ◌≤◌, ◌<◌}
use native.Mathlib.Nat.{div-mul-le_self, mul-le-mul_right, mul-one, mul-pos}
use native.Mathlib.Omega.{arith}
use mathlib.Core.Path.{◌≡◌, refl, sym, ap, ap₂, ◌∙◌}
use mathlib.Core.Bool.{Bool, true, false, ◌||◌}
use mathlib.Core.List.{List}
use lib.Dec.{eqb}
use lib.ListN.{length, get_or, drop}
use lib.Ieee.{Float, nan}
use borrow.Author.Tests.{eqb-true, eq-eqb}
use Rattle.std.proofs.lemmas.List.{drop-drop}
use Rattle.std.proofs.lemmas.Nat.{le-div}
use Rattle.sequences.specs.Tabulate.{block}
use Rattle.sequences.specs.Permutation.{at, IsPermutation, identity, compose, moved, moved_pairs}
use Rattle.sequences.proofs.Tabulate.{length_block, block_at}
use Rattle.sequences.proofs.Permutation.{length_moved, moved_at, moved_blocks_identity, moved_blocks_compose, length_moved_pairs, moved_pairs_at, moved_pairs_identity, moved_pairs_compose}
use Rattle.sequences.proofs.Slabs.{length_slabs, slab_of, slabs_tail, slabs_unique, slabs_extensional, slabs_compose}
use Rattle.renumber.specs.Renumber.{entries_per_vertex_fit, renumbered_slab, renumbered_data}

-- ---- the two forms of data
pub fit_single : (n : ℕ) → entries_per_vertex_fit n 1 ≡ true
unfolding entries_per_vertex_fit
fit_single n = refl

pub fit_paired : (n : ℕ) → entries_per_vertex_fit n n ≡ true
unfolding entries_per_vertex_fit
fit_paired n = last (eqb n 1) (eq-eqb n n refl)
  where
    last : (t : Bool) → eqb n n ≡ true → t || eqb n n ≡ true
    last true e = refl
    last false e = e

-- Row 7 lets two forms pass, one entry a vertex and one a pair. With one vertex they agree, and the first is meant.
pub data Form (n each : ℕ) : Type 0 where
  single : eqb each 1 ≡ true → each ≡ 1 → Form n each
  paired : eqb each 1 ≡ false → each ≡ n → Form n each

pub form_of : (n each : ℕ) → entries_per_vertex_fit n each ≡ true → Form n each
unfolding entries_per_vertex_fit
form_of n each fit = go (eqb each 1) refl fit
  where
    go : (t : Bool) → eqb each 1 ≡ t → t || eqb each n ≡ true → Form n each
    go true e h = single e (eqb-true each 1 e)
    go false e h = paired e (eqb-true each n h)

fit_some : (n each : ℕ) → 1 ≤ n → entries_per_vertex_fit n each ≡ true → 0 < n * each
fit_some n each some fit = go (form_of n each fit)
  where
    go : Form n each → 0 < n * each
    go (single t e) = rw e (mul-pos some (omega arith))
    go (paired t e) = rw e (mul-pos some some)

-- ---- one slab
pub slab_single : (q : List ℕ) (each : ℕ) (slab : List Float) → eqb each 1 ≡ true → renumbered_slab q each slab ≡ moved q slab nan
unfolding renumbered_slab
slab_single q each slab e = rw e refl

pub slab_paired : (q : List ℕ) (each : ℕ) (slab : List Float) → eqb each 1 ≡ false → renumbered_slab q each slab ≡ moved_pairs q slab nan
unfolding renumbered_slab
slab_paired q each slab e = rw e refl

pub length_renumbered_slab : {n : ℕ} {q : List ℕ} → IsPermutation n q → (each : ℕ) → entries_per_vertex_fit n each ≡ true → (slab : List Float) → length (renumbered_slab q each slab) ≡ n * each
length_renumbered_slab {n} {q} h each fit slab = go (form_of n each fit)
  where
    go : Form n each → length (renumbered_slab q each slab) ≡ n * each
    go (single t e) = rw (slab_single q each slab t, e) (length_moved h slab nan ∙ sym (mul-one n))
    go (paired t e) = rw (slab_paired q each slab t, e) (length_moved_pairs h slab nan)

slab_identity : (n each : ℕ) → entries_per_vertex_fit n each ≡ true → (slab : List Float) → length slab ≡ n * each → renumbered_slab (identity n) each slab ≡ slab
slab_identity n each fit slab size = go (form_of n each fit)
  where
    go : Form n each → renumbered_slab (identity n) each slab ≡ slab
    go (single t e) = slab_single (identity n) each slab t ∙ moved_blocks_identity n 1 slab nan (size ∙ ap (λ (k : ℕ). n * k) e)
    go (paired t e) = slab_paired (identity n) each slab t ∙ moved_pairs_identity n slab nan (size ∙ ap (λ (k : ℕ). n * k) e)

slab_compose : {n : ℕ} {p q : List ℕ} → IsPermutation n p → IsPermutation n q → (each : ℕ) → entries_per_vertex_fit n each ≡ true → (slab : List Float)
    → renumbered_slab q each (renumbered_slab p each slab) ≡ renumbered_slab (compose q p) each slab
slab_compose {n} {p} {q} h k each fit slab = go (form_of n each fit)
  where
    go : Form n each → renumbered_slab q each (renumbered_slab p each slab) ≡ renumbered_slab (compose q p) each slab
    go (single t e) = rw (slab_single p each slab t, slab_single q each (moved p slab nan) t, slab_single (compose q p) each slab t) (moved_blocks_compose h k 1 slab nan)
    go (paired t e) = rw (slab_paired p each slab t, slab_paired q each (moved_pairs p slab nan) t, slab_paired (compose q p) each slab t) (moved_pairs_compose h k slab nan)

-- ---- all slabs, and the tail
-- where two lists agree from a place on, they do so from a later one
drop_later : (from later : ℕ) (l r : List Float) → from ≤ later → drop from l ≡ drop from r → drop later l ≡ drop later r
drop_later from later l r le e =
    let whole : from + (later - from) ≡ later = omega arith in
    ap (λ (k : ℕ). drop k l) (sym whole) ∙ sym (drop-drop (later - from) from l) ∙ ap (drop (later - from)) e ∙ drop-drop (later - from) from r ∙ ap (λ (k : ℕ). drop k r) whole

-- so many places of whole slabs, of whatever width, are no more than those of slabs of one entry a vertex
whole_places : (places n each : ℕ) → 1 ≤ n → places / (n * each) * (n * each) ≤ places / n * n
whole_places places n each some =
    let slabs : ℕ = places / (n * each) in
    let swapped : slabs * each * n ≡ slabs * (n * each) = omega arith in
    let fewer : slabs * each ≤ places / n = le-div (slabs * each) places n some (omega (arith, swapped, div-mul-le_self places (n * each))) in
    omega (arith, swapped, mul-le-mul_right n fewer)

module _ {n : ℕ} {q : List ℕ} (h : IsPermutation n q) (each : ℕ) (fit : entries_per_vertex_fit n each ≡ true) (values : List Float) where
  keeps : (slab : List Float) → length slab ≡ n * each → length (renumbered_slab q each slab) ≡ n * each
  keeps slab e = length_renumbered_slab h each fit slab

  pub renumbered_data_length : length (renumbered_data n q each values) ≡ length values
  unfolding renumbered_data
  renumbered_data_length = length_slabs (n * each) (renumbered_slab q each) values nan keeps

  pub renumbered_data_tail : drop (length values / (n * each) * (n * each)) (renumbered_data n q each values) ≡ drop (length values / (n * each) * (n * each)) values
  unfolding renumbered_data
  renumbered_data_tail = slabs_tail (n * each) (renumbered_slab q each) values nan keeps

  pub renumbered_data_single_tail : 1 ≤ n → drop (length values / n * n) (renumbered_data n q each values) ≡ drop (length values / n * n) values
  renumbered_data_single_tail some =
      drop_later (length values / (n * each) * (n * each)) (length values / n * n) (renumbered_data n q each values) values (whole_places (length values) n each some) renumbered_data_tail

  renumbered_data_at : (s k : ℕ) → s < length values / (n * each) → k < n * each
      → get_or (renumbered_data n q each values) (s * (n * each) + k) nan ≡ get_or (renumbered_slab q each (block (n * each) values nan s)) k nan
  unfolding renumbered_data
  renumbered_data_at s k ls lk =
      sym (block_at (n * each) (renumbered_data n q each values) nan s k nan lk)
      ∙ ap (λ (l : List Float). get_or l k nan) (slab_of (n * each) (renumbered_slab q each) values nan keeps s ls)

-- in each whole slab, place q(v) holds what v held
pub renumbered_single : {n : ℕ} {q : List ℕ} → IsPermutation n q → (values : List Float) (s v : ℕ) → s < length values / n → v < n
    → get_or (renumbered_data n q 1 values) (s * n + at q v) nan ≡ get_or values (s * n + v) nan
renumbered_single {n} {q} h values s v ls lv =
    let one : n * 1 ≡ n = mul-one n in
    let below = h.below v lv in
    ap (λ (w : ℕ). get_or (renumbered_data n q 1 values) (s * w + at q v) nan) (sym one)
    ∙ renumbered_data_at h 1 (fit_single n) values s (at q v) (rw one ls) (omega arith)
    ∙ ap (λ (l : List Float). get_or l (at q v) nan) (slab_single q 1 (block (n * 1) values nan s) refl)
    ∙ moved_at h (block (n * 1) values nan s) nan v lv
    ∙ block_at (n * 1) values nan s v nan (omega arith)
    ∙ ap (λ (w : ℕ). get_or values (s * w + v) nan) one

-- in the second form, place q(v)·n + q(w) holds what v·n + w held
pub renumbered_pair : {n : ℕ} {q : List ℕ} → IsPermutation n q → (values : List Float) (s v w : ℕ) → s < length values / (n * n) → v < n → w < n
    → get_or (renumbered_data n q n values) (s * (n * n) + (at q v * n + at q w)) nan ≡ get_or values (s * (n * n) + (v * n + w)) nan
renumbered_pair {n} {q} h values s v w ls lv lw =
    renumbered_data_at h n (fit_paired n) values s (at q v * n + at q w) ls (inside (at q v) (at q w) (h.below v lv) (h.below w lw))
    ∙ go (form_of n n (fit_paired n)) ∙ block_at (n * n) values nan s (v * n + w) nan (inside v w lv lw)
  where
    inside : (i j : ℕ) → i < n → j < n → i * n + j < n * n
    inside i j li lj = omega (arith, mul-le-mul_right n li)

    slab : List Float
    slab = block (n * n) values nan s

    -- with one vertex the place of the pair is that of the vertex
    go : Form n n → get_or (renumbered_slab q n slab) (at q v * n + at q w) nan ≡ get_or slab (v * n + w) nan
    go (single t e) =
        let new-place : at q v * n + at q w ≡ at q v = omega (arith, h.below v lv, h.below w lw, ap (λ (k : ℕ). at q v * k) e) in
        let old-place : v ≡ v * n + w = omega (arith, ap (λ (k : ℕ). v * k) e) in
        ap₂ (λ (l : List Float) (k : ℕ). get_or l k nan) (slab_single q n slab t) new-place ∙ moved_at h slab nan v lv ∙ ap (λ (k : ℕ). get_or slab k nan) old-place
    go (paired t e) = ap (λ (l : List Float). get_or l (at q v * n + at q w) nan) (slab_paired q n slab t) ∙ moved_pairs_at h slab nan v w lv lw

-- ---- renumbered by the identity, and again
pub renumbered_data_identity : (n each : ℕ) → 1 ≤ n → entries_per_vertex_fit n each ≡ true → (values : List Float) → renumbered_data n (identity n) each values ≡ values
unfolding renumbered_data
renumbered_data_identity n each some fit values =
    let same : (slab : List Float) → length slab ≡ n * each → renumbered_slab (identity n) each slab ≡ slab = slab_identity n each fit in
    sym (slabs_unique (n * each) (renumbered_slab (identity n) each) values nan (λ slab e. ap length (same slab e) ∙ e) values (fit_some n each some fit) refl
    (λ s lt. sym (same (block (n * each) values nan s) (length_block (n * each) values nan s))) (λ j le. refl))

-- p, then q
pub renumbered_data_compose : {n : ℕ} {p q : List ℕ} → IsPermutation n p → IsPermutation n q → (each : ℕ) → 1 ≤ n → entries_per_vertex_fit n each ≡ true → (values : List Float)
    → renumbered_data n q each (renumbered_data n p each values) ≡ renumbered_data n (compose q p) each values
unfolding renumbered_data
renumbered_data_compose {n} {p} {q} h k each some fit values =
    slabs_compose (n * each) (renumbered_slab p each) (renumbered_slab q each) values nan (fit_some n each some fit)
    (λ slab e. length_renumbered_slab h each fit slab) (λ slab e. length_renumbered_slab k each fit slab)
    ∙ slabs_extensional (n * each) (λ slab. renumbered_slab q each (renumbered_slab p each slab)) (renumbered_slab (compose q p) each) values nan (λ slab e. slab_compose h k each fit slab)
