use Rattle.std.proofs.Common.{◌≡◌, ℕ, ◌+◌, ◌-◌, Bool, cond, ◌∙◌, pow_pos, rules}
use Rattle.std.specs.Bool.{beq}
use Rattle.std.specs.Float.{binary64}
use Rattle.words.specs.Value.{value}
use Rattle.words.specs.declared.TwoWords.{TwoWords}
use Rattle.words.proofs.Order.{less_by_value}
use Rattle.fused.specs.declared.SignedWords.{SignedWords}
use Rattle.fused.proofs.Outcomes.{value_chosen, ordered_positive, ordered_zero}
use Rattle.fused.proofs.add_aligned.Goals as goal

abbrev number : SignedWords → ℕ
number x = value x.words

-- the sum or the difference, as a number
total_is : (p : Bool) (r s d : TwoWords) (g l : ℕ) → r ≡ cond p s d → value s ≡ g + l → value d ≡ g - l → value r ≡ cond p (g + l) (g - l)
total_is p r s d g l h a b = value_chosen (λ (x : TwoWords). value x) p s d r h ∙ (λ i. cond p (a i) (b i))

pub returns-then-eq : goal.returns-then-eq
returns-then-eq c =
    let x = c.args.x in
    let y = c.args.y in
    let p = c.lt-swap.result in
    let t = beq x.negative y.negative in
    let g = c.choose-greater.result in
    let l = c.choose-lesser.result in
    ordered_zero p (number x) (number y) (number g) (number l) (value_chosen number p y x g c.choose-greater.ensures) (value_chosen number p x y l c.choose-lesser.ensures)
    binary64 x.negative y.negative c.args.exponent _ _ (c.lt-swap.ensures ∙ less_by_value x.words y.words (search rules) (search rules))
    (total_is t _ _ _ (number g) (number l) c.choose-total.ensures c.add.ensures c.sub.ensures) (search rules) c.requires.nonzero (pow_pos 2276)

pub returns : goal.returns
returns c =
    let x = c.args.x in
    let y = c.args.y in
    let p = c.lt-swap.result in
    let t = beq x.negative y.negative in
    let g = c.choose-greater.result in
    let l = c.choose-lesser.result in
    c.round_and_pack.ensures
    ∙ ordered_positive p (number x) (number y) (number g) (number l) (value_chosen number p y x g c.choose-greater.ensures) (value_chosen number p x y l c.choose-lesser.ensures)
    binary64 x.negative y.negative c.args.exponent _ _ (c.lt-swap.ensures ∙ less_by_value x.words y.words (search rules) (search rules))
    (total_is t _ _ _ (number g) (number l) c.choose-total.ensures c.add.ensures c.sub.ensures) _ (value_chosen (λ (z : SignedWords). z.negative) p y x g c.choose-greater.ensures) (search rules)
