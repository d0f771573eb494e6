-- The outcome of a call by what its checks found: one law for each return, and back, what a call found (`islands_found`) and what an accepted one did (`islands_accepted`). Assumes nothing.
use Prim.Native.Nat.{ℕ, ◌<◌}
use native.Mathlib.Omega.{arith}
use mathlib.Core.Path.{◌≡◌, refl, sym, ap, ◌∙◌}
use mathlib.Core.Logic.{◌⊎◌, inl, inr, ◌≢◌}
use mathlib.Core.Bool.{Bool, true, false}
use mathlib.Core.List.{List, ◌++◌}
use lib.Dec.{leb}
use lib.ListN.{length, drop}
use borrow.Author.Tests.{le-leb, lt-leb}
use Rattle.std.proofs.lemmas.Bool.{and_from, and_right, and_parts, leb-true}
use Rattle.std.specs.Prelude.{Ok, Err}
use Rattle.sequences.specs.Tabulate.{overwrite}
use Rattle.refusal.specs.declared.Refusal.{Refusal}
use Rattle.refusal.specs.declared.Refusal.TheVariants.{Room}
use Rattle.refusal.specs.Refusal.{number_of, Verdict}
use Rattle.refusal.proofs.Rows.{EachReason}
use Rattle.mesh.specs.Mesh.{Mesh, count, neighbours}
use Rattle.mesh.specs.Rows.{adjacency_rows}
use Rattle.mesh.specs.Laws.{IndexTold}
use Rattle.mesh.proofs.Refusals.{told_none, adjacency_index, adjacency_reasons}
use Rattle.walk.specs.Walk.{order_of}
use Rattle.walk.proofs.Queue.{holding_order_length}
use Rattle.islands.specs.declared.IslandCount.{IslandCount}
use Rattle.islands.specs.Islands.{islands_of, Numbered}
use Rattle.islands.specs.Outcomes.{IslandsOutcome, islands_outcome, islands_fit, islands_walked, walk_islands}
use Rattle.islands.specs.Laws.{IslandsChecked}

-- a row of the mesh refuses
pub islands_refused : (m : Mesh) (order queue starts : List ℕ) (reason : Refusal) → adjacency_rows m ≡ Err reason → islands_outcome (Err reason) order queue starts ≡ walk_islands m order queue starts
unfolding walk_islands
islands_refused m order queue starts reason e = rw e refl

module _ (m : Mesh) (order queue starts : List ℕ) (passed : adjacency_rows m ≡ Ok tt) where
  -- a slice is too short
  pub islands_short : (length order < count m) ⊎ ((length queue < count m) ⊎ (length starts < count m)) → islands_outcome (Err Room) order queue starts ≡ walk_islands m order queue starts
  unfolding walk_islands islands_fit
  islands_short short = rw (passed, unfit short) refl
    where
      unfit : (length order < count m) ⊎ ((length queue < count m) ⊎ (length starts < count m)) → islands_fit (count m) order queue starts ≡ false
      unfit (inl lt) = rw (lt-leb (count m) (length order) lt) refl
      unfit (inr (inl lt)) = and_right (leb (count m) (length order)) _ (rw (lt-leb (count m) (length queue) lt) refl)
      unfit (inr (inr lt)) = and_right (leb (count m) (length order)) _ (and_right (leb (count m) (length queue)) _ (lt-leb (count m) (length starts) lt))

-- every row passes
module _ (m : Mesh) {order queue starts : List ℕ} (checked : IslandsChecked m order queue starts) where
  fits : islands_fit (count m) order queue starts ≡ true
  unfolding islands_fit
  fits =
      and_from (leb (count m) (length order)) _ (le-leb _ _ checked.order_room)
      (and_from (leb (count m) (length queue)) (leb (count m) (length starts)) (le-leb _ _ checked.queue_room) (le-leb _ _ checked.starts_room))

  pub islands_passed : walk_islands m order queue starts ≡ islands_walked m order queue starts
  unfolding walk_islands
  islands_passed = rw (checked.rows, fits) refl

  -- all are numbered
  module _ {found : IslandCount} {left filled written : List ℕ} (done : Numbered (count m) (neighbours m) queue starts found left filled written) where
    order_left : left ++ drop (count m) order ≡ overwrite (order_of (count m) (islands_of (count m) (neighbours m)).visit.queue) order
    unfolding overwrite neighbours
    order_left = (rw (← holding_order_length done.holds)) ∙ ap (λ (l : List ℕ). overwrite l order) done.holds.numbered

    pub islands_made : islands_outcome (Ok found) (left ++ drop (count m) order) filled written ≡ walk_islands m order queue starts
    unfolding islands_walked neighbours
    islands_made = rw (islands_passed, ← done.counted, ← done.entries_agree, order_left, done.holds.queued, done.starts_written) refl

-- ---- what a call found
-- a row refuses, which is not 13, or all islands were walked
pub data IslandsFound (m : Mesh) (order queue starts : List ℕ) : Type 0 where
  islands_refuse : (reason : Refusal) → IndexTold m.starts reason → number_of reason ≢ 13 → walk_islands m order queue starts ≡ islands_outcome (Err reason) order queue starts
      → IslandsFound m order queue starts
  islands_met : IslandsChecked m order queue starts → walk_islands m order queue starts ≡ islands_walked m order queue starts → IslandsFound m order queue starts

pub islands_found : (m : Mesh) (order queue starts : List ℕ) → IslandsFound m order queue starts
unfolding walk_islands islands_fit
islands_found m order queue starts = go (adjacency_rows m) refl (islands_fit (count m) order queue starts) refl
  where
    rows_not_13 : EachReason (λ reason. number_of reason ≢ 13) (adjacency_rows m)
    rows_not_13 = adjacency_reasons (λ reason. number_of reason ≢ 13) m (λ z. omega arith) (λ z. omega arith) (λ z. omega arith) (λ index falls z. omega arith) (λ z. omega arith)

    go : (v : Verdict) → adjacency_rows m ≡ v → (b : Bool) → islands_fit (count m) order queue starts ≡ b → IslandsFound m order queue starts
    go (Err reason) p b q = islands_refuse reason (adjacency_index m reason p) (rows_not_13 reason p) (rw p refl)
    go (Ok _) p false q = islands_refuse Room (told_none m.starts Room (λ z. omega arith)) (λ z. omega arith) (rw (p, q) refl)
    go (Ok _) p true q =
        let both = and_parts _ _ q in
        let rest = and_parts _ _ both.1 in
        islands_met (record { rows = p; order_room = leb-true _ _ both.0; queue_room = leb-true _ _ rest.0; starts_room = leb-true _ _ rest.1 }) (rw (p, q) refl)

-- an accepted call: every row passes, and all islands were walked
pub record IslandsAccepted (m : Mesh) (order queue starts : List ℕ) (found : IslandCount) : Type 0 where
  pub checked : IslandsChecked m order queue starts
  pub all_walked : walk_islands m order queue starts ≡ islands_walked m order queue starts
  pub islands_agree : found.islands ≡ length (islands_of (count m) (neighbours m)).starts
  pub read_agree : found.entries_read ≡ (islands_of (count m) (neighbours m)).visit.entries_read

pub islands_accepted : (m : Mesh) (order queue starts : List ℕ) (found : IslandCount) → (walk_islands m order queue starts).answered ≡ Ok found
    → IslandsAccepted m order queue starts found
unfolding islands_walked
islands_accepted m order queue starts found e = go (islands_found m order queue starts)
  where
    go : IslandsFound m order queue starts → IslandsAccepted m order queue starts found
    go (islands_refuse reason told not_13 o) = absurd (let a = ap (λ (w : IslandsOutcome). w.answered) o in let y : ⊥ = cc in y)
    go (islands_met checked o) =
        let all = islands_of (count m) (neighbours m) in
        let same : record { islands = length all.starts; entries_read = all.visit.entries_read } ≡ found = let a = ap (λ (w : IslandsOutcome). w.answered) o in cc in
        record { checked = checked; all_walked = o; islands_agree = sym (ap (λ (c : IslandCount). c.islands) same); read_agree = sym (ap (λ (c : IslandCount). c.entries_read) same) }
