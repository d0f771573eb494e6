-- What the buffers hold once an id was tried: nothing new where it has a number, and else an island behind what was found. Assumes nothing.
use Prim.Native.Nat.{ℕ, suc, ◌+◌, ◌-◌, ◌≤◌, ◌<◌}
use native.Mathlib.Omega.{arith}
use mathlib.Core.Path.{◌≡◌, refl, sym, ap, subst, ◌∙◌}
use mathlib.Core.Logic.{◌≢◌}
use mathlib.Core.List.{List, [], ◌∷◌, ◌++◌, Memᴰ}
use lib.ListN.{length, get_or, take, set, length-append}
use Rattle.sequences.specs.Starts.{start_of}
use Rattle.sequences.specs.Tabulate.{overwrite}
use Rattle.sequences.proofs.Range.{sum_injection}
use Rattle.walk.specs.declared.Reach.{Reach}
use Rattle.walk.specs.Walk.{begun, continued, unreached}
use Rattle.walk.specs.Buffers.{Holding, Continued}
use Rattle.walk.proofs.Queue.{ids_at_most, ids_below_lem, ids_injective, unnumbered_absent, numbered_member, holding_longer, holding_order_length, holding_take, queue_with}
use Rattle.walk.proofs.Continued.{continued_again, continued_counted, continued_end, continued_ids, continued_longer}
use Rattle.islands.specs.Islands.{Islands, with_root, island_from, islands_below}
use Rattle.islands.proofs.Numbered.{islands_ids, islands_read}

-- a walk that goes on from the place where its root entered leaves all that there are: as many places as there are vertices
pub island_continued : {n : ℕ} {lists : ℕ → List ℕ} → ((v : ℕ) → v < n → (x : ℕ) → Memᴰ x (lists v) → x < n)
    → {ids : List ℕ} {reached next : ℕ} {old order₀ queue₀ order queue : List ℕ} {reach : Reach} → Holding n ids old next order₀ queue₀ → reached ≤ n
    → Continued (length order₀) lists (take next queue₀) reached (length order₀ - reached) queue₀ reach order queue → Continued n lists ids reached n old reach order queue
island_continued {n} {lists} below {ids} {reached} {next} {old} {order₀} h le t =
    let w = rw (holding_order_length h) at (continued_again h t) in
    let few = ids_at_most (continued_ids lists (begun ids) reached h.once below (n - reached)) in
    let same = continued_end lists (begun ids) reached (n - reached) n (omega arith) (λ lt. omega arith) in
    record { holds = rw same w.holds; entries_agree = rw same w.entries_agree }

-- an island was entered behind what was found: its buffers, its entries and its start
pub record Entered (n : ℕ) (found next : Islands) (old old_starts starts : List ℕ) (read reached : ℕ) (reach : Reach) (order queue : List ℕ) : Type 0 where
  pub holds : Holding n next.visit.queue old reach.vertices order queue
  pub entries_agree : read + reach.entries ≡ next.visit.entries_read
  pub counted : length found.starts + 1 ≡ length next.starts
  pub starts_written : set starts (length found.starts) reached ≡ overwrite next.starts old_starts

module _ (lists : ℕ → List ℕ) {n : ℕ} (k : ℕ) {old order queue : List ℕ} {reached : ℕ} (h : Holding n (islands_below lists n k).visit.queue old reached order queue) (few : n ≤ unreached) (lt : k < n) where
  abbrev found : Islands
  found = islands_below lists n k

  -- it has a number
  pub tried_old : get_or order k 0 ≢ unreached → islands_below lists n (suc k) ≡ islands_below lists n k
  unfolding islands_below
  tried_old ne = rw (numbered_member h few k lt ne) refl

  -- it has none
  tried_new : get_or order k 0 ≡ unreached → islands_below lists n (suc k) ≡ island_from lists n (islands_below lists n k) k
  unfolding islands_below
  tried_new e = rw (unnumbered_absent h few k lt e) refl

  pub island_entered : get_or order k 0 ≡ unreached → {read : ℕ} {starts old_starts order₁ queue₁ : List ℕ} {reach : Reach} → read ≡ (islands_below lists n k).visit.entries_read
      → starts ≡ overwrite (islands_below lists n k).starts old_starts → length (islands_below lists n k).starts < length old_starts
      → Continued (length order) lists (take reached queue ++ (k ∷ [])) reached (length order) queue reach order₁ queue₁
      → Entered n (islands_below lists n k) (islands_below lists n (suc k)) old old_starts starts read reached reach order₁ queue₁
  island_entered e {read} {starts} {old_starts} {order₁} {queue₁} {reach} read_is starts_is room t =
      let w = rw (holding_order_length h, holding_take h) at t in
      let ids = found.visit.queue ++ (k ∷ []) in
      let counted : continued lists (with_root found.visit k) (length found.visit.queue) n ≡ record { queue = (continued lists (begun ids) reached n).queue; entries_read = found.visit.entries_read + (continued lists (begun ids) reached n).entries_read } =
      ap (λ (from : ℕ). continued lists (with_root found.visit k) from n) h.size ∙ continued_counted lists ids found.visit.entries_read reached n in
      subst (λ (next : Islands). Entered n found next old old_starts starts read reached reach order₁ queue₁) (sym (tried_new e)) (record {
        holds = rw counted (holding_longer h grown w.holds);
        entries_agree = rw counted (omega (arith, read_is, w.entries_agree));
        counted = sym (length-append found.starts (length found.visit.queue ∷ []));
        starts_written = rw (← h.size, starts_is) (queue_with found.starts old_starts (length found.visit.queue) room);
      })
    where
      grown : length found.visit.queue ≤ length (continued lists (begun (found.visit.queue ++ (k ∷ []))) reached n).queue
      grown = let a = length-append found.visit.queue (k ∷ []) in let b = continued_longer lists (begun (found.visit.queue ++ (k ∷ []))) reached n in omega arith

-- no more entries than there are
pub islands_read_at_most : (lists : ℕ → List ℕ) {n : ℕ} → ((v : ℕ) → v < n → (x : ℕ) → Memᴰ x (lists v) → x < n) → (k : ℕ) → k ≤ n → (islands_below lists n k).visit.entries_read ≤ start_of lists n
unfolding start_of
islands_read_at_most lists {n} below k le =
    let q = (islands_below lists n k).visit.queue in
    let ids = islands_ids lists below k le in
    let r = sum_injection (λ j. get_or q j 0) (λ v. length (lists v)) (length q) n (λ j lj. ids_below_lem ids j lj) (λ i j li lj e. ids_injective ids i j li lj e) in
    omega (arith, islands_read lists below k le)
