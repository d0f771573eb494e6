-- `take_word` goes on behind the word.
use Rattle.std.proofs.Common.{◌≡◌, sym, ap, ◌∙◌, arith}
use Rattle.std.specs.Option.{option_map}
use Rattle.std.proofs.lemmas.Result.{err_from_is_err_and}
use Rattle.records.specs.declared.reader.Fault.TheVariants.{Malformed}
use Rattle.records.proofs.Tokens.{no_token, word_refused, word_read}
use Rattle.records.proofs.reader.Reader.take_word.Goals as goal

pub returns-in_err-number : goal.returns-in_err-number
returns-in_err-number c =
    let p = err_from_is_err_and c.from_residual.result c.from_residual.ensures.1 in
    let fault : p.0 ≡ Malformed = grind arith in
    let none = sym c.token.ensures ∙ ap (option_map _) c.in_err-number.ensures.ok_part in
    rw (p.1, fault, ← c.self.view_is) (no_token _ _ c.self.invariant none)

pub returns-in_err-self-inside : goal.returns-in_err-self-inside
returns-in_err-self-inside c =
    let p = err_from_is_err_and c.from_residual-in_err-self-inside.result c.from_residual-in_err-self-inside.ensures.1 in
    let fault : p.0 ≡ Malformed = grind arith in
    let some = sym c.token.ensures ∙ ap (option_map _) c.in_ok-number.ensures.ok_part in
    let none = sym c.next_text.ensures ∙ ap (option_map _) c.in_err-self-inside.ensures.ok_part in
    rw (p.1, fault, ← c.self.view_is) (word_refused _ _ c.self.invariant _ _ some none)

pub invariant_of-self : goal.invariant_of-self
invariant_of-self c =
    let some = sym c.token.ensures ∙ ap (option_map _) c.in_ok-number.ensures.ok_part in
    let next = sym c.next_text.ensures ∙ ap (option_map _) c.in_ok-self-inside.ensures.ok_part in
    (word_read _ _ c.self.invariant _ _ some next).0

pub returns : goal.returns
returns c =
    let some = sym c.token.ensures ∙ ap (option_map _) c.in_ok-number.ensures.ok_part in
    let next = sym c.next_text.ensures ∙ ap (option_map _) c.in_ok-self-inside.ensures.ok_part in
    rw (← c.self.view_is) (word_read _ _ c.self.invariant _ _ some next).1
