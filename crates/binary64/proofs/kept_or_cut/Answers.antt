use Rattle.std.proofs.Common.{◌≡◌, ◌-◌, ◌^◌, true, false, true≢false, ℤ, pos, negsuc, sym, ◌∙◌, subst, inl, inr, w64}
use lib.Signed.{le_z}
use lib.Ieee.{fits, binary64, of_int, eq}
use denote.Floats.{passes}
use mir.ValLaws.{to_z-of_z}
use Rattle.binary64.proofs.ConvertedSteps.{far_kept, same_kept, other_cut}
use Rattle.binary64.proofs.kept_or_cut.Goals as goal
use Rattle.binary64.proofs.kept_or_cut.Goals.{then-whole-ge-NO_FRACTION, else-whole-ge-NO_FRACTION, then-whole, else-whole}

pub returns-then-whole-x : goal.returns-then-whole-x
returns-then-whole-x c =
    let fits_x = passes (fits binary64 c.args.x) c.well_formed.0.1 in
    let below = c.requires.below_end in
    let least = c.requires.from_least in
    let whole = to_z-of_z w64 c.args.whole c.ranges.whole ∙ c.requires.its_whole in
    elim c.if-whole.branch [
      | then-whole w ↦ elim c.if-whole-ge-NO_FRACTION.branch [
        | then-whole-ge-NO_FRACTION v ↦ far_kept c.args.x fits_x below least (inl (subst (λ (z : ℤ). le_z (pos (2 ^ 53)) z ≡ true) whole v.if-whole-ge-NO_FRACTION.true))
        | else-whole-ge-NO_FRACTION v ↦ far_kept c.args.x fits_x below least (inr (subst (λ (z : ℤ). le_z z (negsuc (2 ^ 53 - 1)) ≡ true) whole (sym v.value-is ∙ w.if-whole.true)))
      ]
      | else-whole w ↦ same_kept c.args.x fits_x below least (subst (λ (z : ℤ). eq (of_int binary64 z) c.args.x ≡ true) whole (sym w.value-is ∙ c.if-whole-x.true))
    ]

pub returns-else-whole-x : goal.returns-else-whole-x
returns-else-whole-x c = elim c.if-whole.branch [
  | then-whole w ↦ absurd (true≢false (sym w.if-whole.true ∙ (sym w.value-is ∙ c.if-whole-x.false)))
  | else-whole w ↦
      other_cut c.args.x (passes (fits binary64 c.args.x) c.well_formed.0.1) c.requires.below_end c.requires.from_least
      (subst (λ (z : ℤ). eq (of_int binary64 z) c.args.x ≡ false) (to_z-of_z w64 c.args.whole c.ranges.whole ∙ c.requires.its_whole) (sym w.value-is ∙ c.if-whole-x.false))
]
