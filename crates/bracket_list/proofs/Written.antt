-- Laws of texts written one behind another. Assumes nothing.
use Rattle.std.proofs.Common.{◌≡◌, ℕ, List, [], ◌++◌, sym, ap, ◌∙◌, append_assoc, append-nil, length, length-append}
use Rattle.arrayvec.specs.ArrayVec.{ArrayVec}
use Rattle.bracket_list.specs.Output.{Written}

-- what is known of the items alone
pub written : {before after : ArrayVec ℕ} {text : List ℕ} → after.items ≡ before.items ++ text → Written before text after
written {before} {after} {text} e = record { items = e; len = ap length e ∙ length-append before.items text }

-- nothing was written
pub written_none : (lines : ArrayVec ℕ) → Written lines [] lines
written_none lines = written (sym (append-nil lines.items))

-- one text, and another one behind it
pub written_then : {a b c : ArrayVec ℕ} {x y : List ℕ} → Written a x b → Written b y c → Written a (x ++ y) c
written_then {a} {b} {c} {x} {y} first second = written (second.items ∙ ap (λ (l : List ℕ). l ++ y) first.items ∙ append_assoc a.items x y)

-- the same text, written otherwise
pub written_as : {a b : ArrayVec ℕ} {x y : List ℕ} → x ≡ y → Written a x b → Written a y b
written_as e w = rw e at w
