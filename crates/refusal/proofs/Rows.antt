-- Laws of chains of rows: a chain passes exactly where each of its rows does, and what holds of each row's reason holds of every reason that the chain refuses with. Assumes nothing.
use native.Mathlib.Omega.{arith}
use Prim.Native.Nat.{ℕ}
use mathlib.Core.Path.{◌≡◌, refl, sym, ap, subst}
use mathlib.Core.Bool.{Bool, true, false}
use Rattle.refusal.specs.declared.Refusal.{Refusal}
use Rattle.std.specs.Prelude.{Ok, Err}
use Rattle.refusal.specs.Refusal.{Verdict, row, then, answer}

pub refused_not_passed : (reason : Refusal) → ◌≡◌ {A = Verdict} (Err reason) (Ok tt) → ⊥
refused_not_passed reason h = let z : ◌≡◌ {A = ℕ} 0 1 = cc in omega arith

pub row_passed : (b : Bool) (reason : Refusal) (next : Verdict) → row b reason next ≡ Ok tt → (b ≡ true) × (next ≡ Ok tt)
row_passed true reason next h = (refl, h)
row_passed false reason next h = absurd (refused_not_passed reason h)

pub then_passed : (v next : Verdict) → then v next ≡ Ok tt → (v ≡ Ok tt) × (next ≡ Ok tt)
then_passed (Ok tt) next h = (refl, h)
then_passed (Err reason) next h = absurd (refused_not_passed reason h)

-- a row before a chain and further rows is a row before the chain, and then the further rows
pub row_then : (b : Bool) (reason : Refusal) (v next : Verdict) → row b reason (then v next) ≡ then (row b reason v) next
row_then true reason v next = refl
row_then false reason v next = refl

-- an answer that no refusal gives shows that the rows passed
pub answer_passed : {A : Type 0} (P : A → Type 0) (v : Verdict) (refused : Refusal → A) (accepted : A) → P (answer v refused accepted) → ((reason : Refusal) → P (refused reason) → ⊥) → v ≡ Ok tt
answer_passed P (Ok tt) refused accepted h never = refl
answer_passed P (Err reason) refused accepted h never = absurd (never reason h)

-- an answer that is no refusal was accepted
pub answer_accepted : {A : Type 0} (v : Verdict) (refused : Refusal → A) (accepted x : A) → ((reason : Refusal) → refused reason ≡ x → ⊥) → answer v refused accepted ≡ x
    → (v ≡ Ok tt) × (accepted ≡ x)
answer_accepted (Ok tt) refused accepted x never h = (refl, h)
answer_accepted (Err reason) refused accepted x never h = absurd (never reason h)

-- an answer that tells a reason, which nothing accepted does, shows that the rows gave it
pub answer_refused : {A : Type 0} (P : A → Type 0) (v : Verdict) (refused : Refusal → A) (accepted : A) (reason : Refusal) → (P accepted → ⊥) → ((other : Refusal) → P (refused other) → other ≡ reason)
    → P (answer v refused accepted) → v ≡ Err reason
answer_refused P (Ok tt) refused accepted reason never tells h = absurd (never h)
answer_refused P (Err other) refused accepted reason never tells h = ap Err (tells other h)

-- two answers behind the same rows stand to each other as their cases do
pub answers_relate : {A B : Type 0} (R : A → B → Type 0) (v : Verdict) (refused : Refusal → A) (accepted : A) (refused₁ : Refusal → B) (accepted₁ : B)
    → ((reason : Refusal) → R (refused reason) (refused₁ reason)) → R accepted accepted₁ → R (answer v refused accepted) (answer v refused₁ accepted₁)
answers_relate R (Ok tt) refused accepted refused₁ accepted₁ both-refused both-accepted = both-accepted
answers_relate R (Err reason) refused accepted refused₁ accepted₁ both-refused both-accepted = both-refused reason

-- ---- reasons: what holds of each row's own reason holds of the reason that a chain refuses with
abbrev pub EachReason : (Refusal → Type 0) → Verdict → Type 0
EachReason P v = (reason : Refusal) → v ≡ Err reason → P reason

module _ (P : Refusal → Type 0) where
  pub reasons_passed : EachReason P (Ok tt)
  reasons_passed reason h = absurd (refused_not_passed reason (sym h))

  pub reasons_refused : (own : Refusal) → P own → EachReason P (Err own)
  reasons_refused own p reason h = subst P (let same : own ≡ reason = cc in same) p

  pub reasons_row : (b : Bool) (own : Refusal) (next : Verdict) → (b ≡ false → P own) → (b ≡ true → EachReason P next) → EachReason P (row b own next)
  reasons_row true own next mine rest = rest refl
  reasons_row false own next mine rest = reasons_refused own (mine refl)

  pub reasons_then : (v next : Verdict) → EachReason P v → EachReason P next → EachReason P (then v next)
  reasons_then (Ok tt) next first rest = rest
  reasons_then (Err own) next first rest = first

  -- the same of what an answer tells, where P of a reason gives Q of its answer
  pub reasons_answer : {A : Type 0} (Q : A → Type 0) (v : Verdict) (refused : Refusal → A) (accepted : A) → EachReason P v → ((own : Refusal) → P own → Q (refused own)) → Q accepted → Q (answer v refused accepted)
  reasons_answer Q (Ok tt) refused accepted each tells other = other
  reasons_answer Q (Err own) refused accepted each tells other = tells own (each own refl)
