-- Parts of a lent grid as code reads them, by blocks of a width, and what a query answers at the part of a cell and of a vertex. Assumes nothing.
use Rattle.std.proofs.Common.{◌≡◌, ℕ, suc, ◌+◌, ◌-◌, ◌*◌, ◌<◌, ◌≤◌, true, List, length, get_or, take, drop, sym, refl, ap, ◌∙◌, mul-one, add-one, le-leb}
use borrow.Author.Tests.{lt-leb}
use Rattle.sequences.proofs.Tabulate.{slice_as_take}
use Rattle.std.specs.Prelude.{Ok, Err}
use Rattle.sequences.specs.Starts.{part, block_part}
use Rattle.refusal.specs.declared.Refusal.{Refusal}
use Rattle.refusal.specs.declared.Refusal.TheVariants.{Starts, StartsFall}
use Rattle.refusal.specs.Refusal.{Verdict, row, then}
use Rattle.refusal.proofs.Rows.{row_then}
use Rattle.mesh.specs.Rows.{not_falling}
use Rattle.grid_query.specs.Cell.{part_within, part_rows}

module _ (w : ℕ) (starts : List ℕ) (places i : ℕ) (next : Verdict) where
  part_rows_then : part_rows w starts places i next ≡ then (part_rows w starts places i (Ok tt)) next
  part_rows_then =
      ap (row (not_falling starts i) (StartsFall (suc i))) (row_then (part_within w starts places i) Starts (Ok tt) next)
      ∙ row_then (not_falling starts i) (StartsFall (suc i)) (row (part_within w starts places i) Starts (Ok tt)) next

  -- where the part's own rows pass, those behind them decide
  pub part_passed : part_rows w starts places i (Ok tt) ≡ Ok tt → part_rows w starts places i next ≡ next
  part_passed h = part_rows_then ∙ ap (λ (v : Verdict). then v next) h

  pub part_refused : (reason : Refusal) → part_rows w starts places i (Ok tt) ≡ Err reason → part_rows w starts places i next ≡ Err reason
  part_refused reason h = part_rows_then ∙ ap (λ (v : Verdict). then v next) h

-- blocks of one
pub one_by_one : (starts values : List ℕ) (i : ℕ) → block_part 1 starts values i ≡ part starts values i
unfolding block_part part
one_by_one starts values i = rw (mul-one (get_or starts i 0), mul-one (get_or starts (suc i) 0)) refl

-- ---- what the code of a part tests and takes
module _ (w : ℕ) (starts values : List ℕ) (i : ℕ) (rises : get_or starts i 0 ≤ get_or starts (i + 1) 0) where
  ascends : not_falling starts i ≡ true
  ascends = le-leb _ _ (rw (← add-one i) rises)

  pub part_runs_past : length values < get_or starts (i + 1) 0 * w → part_rows w starts (length values) i (Ok tt) ≡ Err Starts
  unfolding part_within
  part_runs_past past = rw (ascends, lt-leb (get_or starts (suc i) 0 * w) (length values) (rw (← add-one i) past)) refl

  pub part_passes : get_or starts (i + 1) 0 * w ≤ length values → part_rows w starts (length values) i (Ok tt) ≡ Ok tt
  unfolding part_within
  part_passes within = rw (ascends, le-leb (get_or starts (suc i) 0 * w) (length values) (rw (← add-one i) within)) refl

pub part_taken : (w : ℕ) (starts values : List ℕ) (i : ℕ) → take (get_or starts (i + 1) 0 * w - get_or starts i 0 * w) (drop (get_or starts i 0 * w) values) ≡ block_part w starts values i
unfolding block_part
part_taken w starts values i = sym (slice_as_take (get_or starts i 0 * w) (get_or starts (i + 1) 0 * w) values) ∙ rw (add-one i) refl
