-- A request's line is matched byte by byte. Assumes nothing.
use Rattle.std.proofs.Common.{◌≡◌, ℕ, Option, Some, arith, refl, sym, subst}
use Rattle.std.proofs.lemmas.Slice.Eq.{text_from_reads}
use Rattle.bracket_list.specs.LatticeList.{request, requested_frequency}
use Rattle.bracket_list.proofs.requested.Goals as goal

pub returns-in-40 : goal.returns-in-40
unfolding requested_frequency
returns-in-40 c =
    let text = text_from_reads c.args.input.now (request 49) (omega arith) (omega arith, (omega arith, (omega arith, (omega arith, (omega arith, (omega arith, (omega arith, (omega arith, (omega arith, (omega arith, (omega arith, (omega arith, tt)))))))))))) in
    subst (λ s. ◌≡◌ {A = Option ℕ} (Some 1) (requested_frequency s)) (sym text) refl

pub returns-in-40-2 : goal.returns-in-40-2
unfolding requested_frequency
returns-in-40-2 c =
    let text = text_from_reads c.args.input.now (request 50) (omega arith) (omega arith, (omega arith, (omega arith, (omega arith, (omega arith, (omega arith, (omega arith, (omega arith, (omega arith, (omega arith, (omega arith, (omega arith, tt)))))))))))) in
    subst (λ s. ◌≡◌ {A = Option ℕ} (Some 2) (requested_frequency s)) (sym text) refl

pub returns-in-40-3 : goal.returns-in-40-3
unfolding requested_frequency
returns-in-40-3 c =
    let text = text_from_reads c.args.input.now (request 51) (omega arith) (omega arith, (omega arith, (omega arith, (omega arith, (omega arith, (omega arith, (omega arith, (omega arith, (omega arith, (omega arith, (omega arith, (omega arith, tt)))))))))))) in
    subst (λ s. ◌≡◌ {A = Option ℕ} (Some 3) (requested_frequency s)) (sym text) refl

pub returns-in-40-4 : goal.returns-in-40-4
unfolding requested_frequency
returns-in-40-4 c =
    let text = text_from_reads c.args.input.now (request 52) (omega arith) (omega arith, (omega arith, (omega arith, (omega arith, (omega arith, (omega arith, (omega arith, (omega arith, (omega arith, (omega arith, (omega arith, (omega arith, tt)))))))))))) in
    subst (λ s. ◌≡◌ {A = Option ℕ} (Some 4) (requested_frequency s)) (sym text) refl
