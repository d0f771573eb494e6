use Rattle.std.proofs.Common.{◌≡◌, ℕ, ◌+◌, ◌-◌, ◌*◌, ◌^◌, ◌≤◌, subst, arith, pow_pos}
use Rattle.words.specs.Sticky.{StickyEquivalent}
use Rattle.words.proofs.StickyShift.{sticky_compose}
use Rattle.words.proofs.Shift.{pow_split}
use Rattle.words.proofs.shift_words_right_sticky.Goals as goal

-- first by a word, then by the rest
by_a_word : (d n w v : ℕ) → 64 ≤ d → StickyEquivalent 2 (2 ^ 64) n w → StickyEquivalent 2 (2 ^ (d - 64)) w v → StickyEquivalent 2 (2 ^ d) n (0 * 2 ^ 64 + v)
by_a_word d n w v g a b =
    subst (λ (D : ℕ). StickyEquivalent 2 D n (0 * 2 ^ 64 + v)) (pow_split 64 d g)
    (subst (λ (t : ℕ). StickyEquivalent 2 (2 ^ 64 * 2 ^ (d - 64)) n t) (let e : v ≡ 0 * 2 ^ 64 + v = omega arith in e) (sticky_compose 2 (2 ^ 64) (2 ^ (d - 64)) n w v (omega arith) (pow_pos 64) (pow_pos (d - 64)) a b))

pub returns : goal.returns
returns c = by_a_word _ _ _ _ c.if-shift-lt64.false c.collapse_sticky-word.ensures c.shift_right_sticky.ensures
