-- A turn of a search that doesn't find its target in the list that it reads: what it has found then. Assumes nothing.
use Prim.Native.Nat.{ℕ, suc, ◌+◌, ◌≤◌, ◌<◌}
use native.Mathlib.Omega.{arith}
use mathlib.Core.Path.{◌≡◌, sym, ap, subst, ◌∙◌}
use mathlib.Core.Logic.{inl, inr}
use mathlib.Core.List.{List, [], ◌∷◌, Memᴰ}
use lib.ListN.{length, get_or, take}
use Rattle.sequences.specs.Starts.{part}
use Rattle.sequences.proofs.Range.{last_or_below}
use Rattle.walk.specs.Walk.{begun, continued, entered}
use Rattle.walk.specs.Buffers.{Holding}
use Rattle.walk.proofs.Queue.{holding_at, holding_then, entered_longer, entered_keeps}
use Rattle.walk.proofs.Continued.{Turn}

-- what the walk from a vertex has found after so many places, in none of whose lists the target stands
pub record SearchedSoFar (n : ℕ) (lists : ℕ → List ℕ) (from target head read : ℕ) (old : List ℕ) (reached : ℕ) (order queue : List ℕ) : Type 0 where
  pub holds : Holding n (continued lists (begun (from ∷ [])) 0 head).queue old reached order queue
  pub entries_agree : read ≡ (continued lists (begun (from ∷ [])) 0 head).entries_read
  pub passed : head ≤ reached
  pub absent : (i : ℕ) → i < head → Memᴰ target (lists (get_or (continued lists (begun (from ∷ [])) 0 head).queue i 0)) → ⊥

pub next_turn : {n from target head reached read reached₁ : ℕ} {starts entries old order queue order₁ queue₁ : List ℕ}
    → Turn n (from ∷ []) 0 head starts entries (get_or queue head 0) read
    → Holding n (continued (part starts entries) (begun (from ∷ [])) 0 head).queue old reached order queue → head < reached
    → ((i : ℕ) → i < head → Memᴰ target (part starts entries (get_or (continued (part starts entries) (begun (from ∷ [])) 0 head).queue i 0)) → ⊥)
    → Holding (length order) (entered (take reached queue) (part starts entries (get_or queue head 0))) queue reached₁ order₁ queue₁
    → (Memᴰ target (part starts entries (get_or queue head 0)) → ⊥)
    → SearchedSoFar n (part starts entries) from target (suc head) (read + length (part starts entries (get_or queue head 0))) old reached₁ order₁ queue₁
next_turn {n} {from} {target} {head} {reached} {read} {reached₁} {starts} {entries} {old} {order} {queue} {order₁} {queue₁} here h room absent list_read missing =
    let lists = part starts entries in
    let visit = continued lists (begun (from ∷ [])) 0 head in
    let list = lists (get_or queue head 0) in
    let longer = entered_longer visit.queue list in
    let holds : Holding n (continued lists (begun (from ∷ [])) 0 (suc head)).queue old reached₁ order₁ queue₁ = rw here.queue_next (holding_then h list list_read) in
    record {
      holds = holds;
      entries_agree = here.read_next;
      passed = omega (arith, longer, holds.size, ap length here.queue_next, h.size);
      absent = λ j lt m.
          let same = ap (λ (l : List ℕ). get_or l j 0) here.queue_next ∙ entered_keeps visit.queue list j (omega (arith, h.size)) in
          let m : Memᴰ target (lists (get_or visit.queue j 0)) = subst (λ (x : ℕ). Memᴰ target (lists x)) same m in
          elim (last_or_below j head lt) [
            | inl e ↦ missing (subst (λ (x : ℕ). Memᴰ target (lists x)) (ap (λ (k : ℕ). get_or visit.queue k 0) e ∙ sym (holding_at h head room)) m)
            | inr l ↦ absent j l m
          ];
    }
