-- `mesh::lists_limited` meets its contract: the row before this one has each pair of neighbours ascend, so each length is a difference. Assumes nothing.
use Rattle.std.proofs.Common.{rules, ℕ, Bool, true, false, ◌≡◌, refl, sym, subst, ap, ◌∙◌, ◌+◌, ◌-◌, ◌≤◌, ◌<◌, length, arith, add-one, get_or, drop, List, [], ◌∷◌, Bor, Some}
use Rattle.std.specs.Bool.{MatchBool}
use Rattle.std.specs.Iterator.{Yields}
use Rattle.std.specs.Slice.Iter.{windows_rest, windows_size}
use Rattle.std.specs.Slice.ArrayWindows.{array_windows_parts, array_windows_steps}
use Rattle.std.proofs.lemmas.Iterator.{window_more}
use borrow.Author.Tests.{le-leb, lt-leb}
use Rattle.sequences.proofs.Range.{all_below_intro, all_below_fails}
use Rattle.mesh.specs.Rows.{lists_limited}
use Rattle.mesh.proofs.Falls.{fall_none}
use Rattle.mesh.proofs.lists_limited.Goals as goal

-- the windows that are left are those of the end of the starts
record Left (starts rest : List ℕ) (size : ℕ) : Type 0 where
  two : size ≡ 2
  short : length rest ≤ length starts
  end : rest ≡ drop (length starts - length rest) starts

left : (starts : List ℕ) (xs : List (Bor (List ℕ))) (s t : _) → Yields (array_windows_steps {n = 2}) s xs t → Left starts (windows_rest (array_windows_parts s)) (windows_size (array_windows_parts s))
    → Left starts (windows_rest (array_windows_parts t)) (windows_size (array_windows_parts t))
left starts [] s t same l = subst (λ u. Left starts (windows_rest (array_windows_parts u)) (windows_size (array_windows_parts u))) same l
left starts (x ∷ xs) s t y l =
    let m = window_more starts (array_windows_parts s) (array_windows_parts y.0) (Some x) x refl y.1 (omega (arith, l.two)) l.short l.end in
    left starts xs y.0 t y.2 (record { two = y.1.0 ∙ l.two; short = omega (arith, m.0, l.short); end = m.1 })

pub all-requires-clause-callable : goal.all-requires-clause-callable
all-requires-clause-callable c =
    let starts = c.args.starts.now in
    let some = c.array_windows.ensures in
    let parts = array_windows_parts c.array_windows.result in
    let first : Left starts (windows_rest parts) (windows_size parts) = record {
      two = some.size;
      short = omega (arith, some.len);
      end = some.rest ∙ ap (λ (n : ℕ). drop n starts) {x = 0} {y = length starts - length (windows_rest parts)} (omega (arith, some.len));
    } in
    record {
      at = λ xs t q x u y folds e.
          let l = left starts xs c.array_windows.result t y first in
          let place : ℕ = length starts - length (windows_rest (array_windows_parts t)) in
          let m = window_more starts (array_windows_parts t) (array_windows_parts u) (Some x) x refl e (omega (arith, l.two)) l.short l.end in
          let inside : place + 2 ≤ length starts = omega (arith, l.two, l.short, m.2) in
          let before : get_or x.now 0 0 ≡ get_or starts (place + 0) 0 = m.3 0 0 (omega (arith, l.two)) in
          let start : get_or x.now 1 0 ≡ get_or starts (place + 1) 0 = m.3 1 0 (omega (arith, l.two)) in
          let up = fall_none starts c.requires.ascending (place + 1) (omega arith) (omega arith) in
          let back : place + 1 - 1 ≡ place + 0 = omega arith in
          let two : length x.now ≡ 2 = e.1.3 ∙ l.two in
          let ordered : get_or x.now 0 0 ≤ get_or x.now 1 0 = let r = rw back at up in omega (arith, before, start) in
          search (rules, arith);
    }

pairs_limited : (starts : List ℕ) (b : Bool)
    → MatchBool b ((k : ℕ) → k + 2 ≤ length starts → get_or starts (k + 1) 0 - get_or starts k 0 ≤ 32) ((k : ℕ) × (k + 2 ≤ length starts) × (32 < get_or starts (k + 1) 0 - get_or starts k 0))
    → b ≡ lists_limited (length starts - 1) starts
unfolding lists_limited
pairs_limited starts true h = sym (all_below_intro _ _ (λ v lt. let e = add-one v in le-leb _ _ (rw e at (h v (omega arith)))))
pairs_limited starts false h = sym (all_below_fails _ _ h.0 (omega (arith, h.1)) (let e = add-one h.0 in lt-leb _ _ (rw e at h.2)))

pub returns : goal.returns
returns c = pairs_limited c.args.starts.now c.all.result (search rules)
