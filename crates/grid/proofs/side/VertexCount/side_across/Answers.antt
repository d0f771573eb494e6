-- `grid::side::VertexCount::side_across` meets its contract. Assumes nothing.
use Rattle.std.proofs.Common.{◌≡◌, refl, ◌∙◌}
use lib.Ieee.{binary64, of_bits, of_int, round, mul, div}
use Rattle.binary64.specs.Convert.{whole}
use Rattle.root.specs.Root.{square_root}
use Rattle.grid.proofs.side.VertexCount.side_across.Goals as goal

six : of_bits binary64 0x4018000000000000 ≡ whole 6
unfolding of_bits of_int round
six = refl

pub returns : goal.returns
returns c =
    λ i. mul binary64 ((c.sqrt.ensures ∙ (λ j. square_root binary64 (div binary64 (whole c.args.self.count) (six j)))) i) c.args.factor
