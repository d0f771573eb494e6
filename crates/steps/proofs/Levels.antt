-- Levels of a walk: the vertices within k steps are what it has found once all nearer ones were left. Assumes nothing.
-- In a loop over levels: `level_continued`, and `within_stays` where none is new. Of the walk as a whole: `level`.
use Prim.Native.Nat.{ℕ, zero, suc, ◌+◌, ◌-◌, ◌≤◌, ◌<◌}
use native.Mathlib.Omega.{arith}
use native.Mathlib.Decide.{dec_lt}
use mathlib.Core.Path.{◌≡◌, refl, sym, ap, subst, ◌∙◌}
use mathlib.Core.List.{List, [], ◌∷◌, ◌++◌, append-nil, append_assoc, Memᴰ}
use lib.ListN.{length, get_or, take}
use Rattle.sequences.specs.Starts.{concatenate}
use Rattle.sequences.proofs.Starts.{concatenate_member, member_concatenate, concatenate_extensional}
use Rattle.walk.specs.Walk.{entered, begun, continued}
use Rattle.walk.specs.declared.Reach.{Reach}
use Rattle.walk.specs.Buffers.{Holding, Continued}
use Rattle.walk.proofs.Continued.{continued_again}
use Rattle.walk.proofs.Queue.{entered_longer, entered_keeps}
use Rattle.walk.proofs.Reading.{entered_has, entered_append, entered_known}
use Rattle.walk.proofs.Reached.{continued_reads}
use Rattle.steps.specs.Steps.{entries_of, within_steps}

-- so many lists, then so many more
pub concatenate_add : {A : Type 0} (m n : ℕ) (f : ℕ → List A) → concatenate (m + n) f ≡ concatenate m f ++ concatenate n (λ i. f (m + i))
unfolding concatenate
concatenate_add {A} m zero f = let e : m + 0 ≡ m = omega arith in ap (λ (k : ℕ). concatenate k f) e ∙ sym (append-nil (concatenate m f))
concatenate_add {A} m (suc n) f =
    let e : m + suc n ≡ suc (m + n) = omega arith in
    ap (λ (k : ℕ). concatenate k f) e ∙ ap (λ (l : List A). l ++ f (m + n)) (concatenate_add m n f)
    ∙ append_assoc (concatenate m f) (concatenate n (λ i. f (m + i))) (f (m + n))

module _ (lists : ℕ → List ℕ) (v : ℕ) where
  -- how many vertices are nearer than k steps: the first place of those that are k steps away
  unfoldable pub nearer : ℕ → ℕ
  nearer zero = 0
  nearer (suc k) = length (within_steps lists v k)

  pub nearer_within : (k : ℕ) → nearer k ≤ length (within_steps lists v k)
  unfolding within_steps nearer
  nearer_within zero = omega arith
  nearer_within (suc k) = entered_longer (within_steps lists v k) (entries_of lists (within_steps lists v k))

  -- the list of the vertex at a place
  abbrev list_at : ℕ → ℕ → List ℕ
  list_at k i = lists (get_or (within_steps lists v k) i 0)

  -- the lists of the nearer ones have been read
  nearer_read : (k i : ℕ) → i < nearer k → (x : ℕ) → Memᴰ x (list_at k i) → Memᴰ x (within_steps lists v k)
  unfolding within_steps entries_of nearer
  nearer_read zero i lt x m = absurd (omega arith)
  nearer_read (suc k) i lt x m =
      let q = within_steps lists v k in
      entered_has q (entries_of lists q) x (member_concatenate (length q) (list_at k) x i lt (subst (λ (w : ℕ). Memᴰ x (lists w)) (entered_keeps q (entries_of lists q) i lt) m))

  -- the lists of those that are k steps away, read behind all within k steps
  level_step : (k j : ℕ) → nearer k + j ≡ length (within_steps lists v k) → entered (within_steps lists v k) (concatenate j (λ i. list_at k (nearer k + i))) ≡ within_steps lists v (suc k)
  unfolding within_steps entries_of
  level_step k j e =
      let q = within_steps lists v k in
      let known : entered q (concatenate (nearer k) (list_at k)) ≡ q =
      entered_known q (concatenate (nearer k) (list_at k)) (λ x m. let r = concatenate_member (nearer k) (list_at k) x m in nearer_read k r.0 r.1 x r.2) in
      let split = ap (λ (n : ℕ). concatenate n (list_at k)) (sym e) ∙ concatenate_add (nearer k) j (list_at k) in
      sym (ap (entered q) split ∙ entered_append q (concatenate (nearer k) (list_at k)) (concatenate j (λ i. list_at k (nearer k + i)))
      ∙ ap (λ (l : List ℕ). entered l (concatenate j (λ i. list_at k (nearer k + i)))) known)

  -- a walk that has found all within k steps, and leaves those that are k steps away, finds all within one step more
  pub level_continued : (k : ℕ) → (continued lists (begun (within_steps lists v k)) (nearer k) (length (within_steps lists v k) - nearer k)).queue ≡ within_steps lists v (suc k)
  unfolding continued
  level_continued k =
      let q = within_steps lists v k in
      let within = nearer_within k in
      let j = length q - nearer k in
      let z : 0 + j ≡ j = omega arith in
      ap (λ (i : ℕ). (continued lists (begun q) (nearer k) i).queue) (sym z) ∙ continued_reads lists (begun q) (nearer k) 0 j (omega arith)
      ∙ ap (entered q) (concatenate_extensional j (λ i. list_at k (nearer k + (0 + i))) (λ i. list_at k (nearer k + i)) (λ i lt. let w : nearer k + (0 + i) ≡ nearer k + i = omega arith in ap (list_at k) w))
      ∙ level_step k j (omega arith)

  -- the walk from v, once all nearer ones were left
  pub level : (k : ℕ) → (continued lists (begun (v ∷ [])) 0 (nearer k)).queue ≡ within_steps lists v k
  unfolding within_steps nearer continued
  level zero = refl
  level (suc k) =
      let q = within_steps lists v k in
      let before = level k in
      let within = nearer_within k in
      let j = length q - nearer k in
      let e : length q ≡ nearer k + j = omega arith in
      let first = begun (v ∷ []) in
      let reads = rw before at (continued_reads lists first 0 (nearer k) j (let r = ap length before in omega arith)) in
      ap (λ (i : ℕ). (continued lists first 0 i).queue) e ∙ reads
      ∙ ap (entered q) (concatenate_extensional j (λ i. list_at k (0 + (nearer k + i))) (λ i. list_at k (nearer k + i)) (λ i lt. let w : 0 + (nearer k + i) ≡ nearer k + i = omega arith in ap (list_at k) w))
      ∙ level_step k j (omega arith)

  -- where none is k steps away none is further
  within_same : (k : ℕ) → length (within_steps lists v k) ≤ nearer k → within_steps lists v (suc k) ≡ within_steps lists v k
  unfolding within_steps entries_of
  within_same k le =
      let q = within_steps lists v k in
      entered_known q (entries_of lists q) (λ x m. let r = concatenate_member (length q) (list_at k) x m in nearer_read k r.0 (omega (arith, r.1)) x r.2)

  pub within_stays : (k j : ℕ) → length (within_steps lists v k) ≤ nearer k → within_steps lists v (k + j) ≡ within_steps lists v k
  unfolding nearer
  within_stays k zero le = let e : k + 0 ≡ k = omega arith in ap (within_steps lists v) e
  within_stays k (suc j) le =
      let e : k + suc j ≡ suc k + j = omega arith in
      let s = within_same k le in
      ap (within_steps lists v) e ∙ within_stays (suc k) j (let r = ap length s in omega arith) ∙ s

  -- likewise where so many levels were to be entered
  pub within_end : (k n : ℕ) → k ≤ n → (k < n → length (within_steps lists v k) ≤ nearer k) → within_steps lists v n ≡ within_steps lists v k
  within_end k n le last = elim (dec_lt k n) [
    | yes lt ↦ let e : n ≡ k + (n - k) = omega arith in ap (within_steps lists v) e ∙ within_stays k (n - k) (last lt)
    | no nl ↦ let e : n ≡ k = omega arith in ap (within_steps lists v) e
  ]

-- ---- a level is entered
pub level_entered : {n : ℕ} {lists : ℕ → List ℕ} (v k : ℕ) {old order₀ list₀ order list : List ℕ} {begin reached : ℕ} {reach : Reach} → begin ≡ nearer lists v k
    → Holding n (within_steps lists v k) old reached order₀ list₀ → Continued (length order₀) lists (take reached list₀) begin (reached - begin) list₀ reach order list
    → Holding n (within_steps lists v (suc k)) old reach.vertices order list
level_entered {n} {lists} v k begins h t = rw (begins, ← h.size, level_continued lists v k) at (continued_again h t).holds
