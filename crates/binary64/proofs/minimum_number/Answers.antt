use Rattle.std.proofs.Common.{refl, sym, ◌∙◌, arith}
use denote.Floats.{passes}
use lib.Ieee.{binary64, fits, is_nan, add}
use Rattle.binary64.specs.Minimum.{minimum_number}
use Rattle.binary64.proofs.Nan.{only_nan}
use Rattle.binary64.proofs.TotalOrder.{rank_of_lt}
use Rattle.binary64.proofs.Minimum.{first_is_minimum}
use Rattle.binary64.proofs.MinimumRank.{first_by_rank, second_by_rank}
use Rattle.binary64.proofs.minimum_number.Goals as goal

-- equal, and y has the lesser rank
pub returns-then-rank : goal.returns-then-rank
returns-then-rank c =
    second_by_rank c.args.x c.args.y (passes (fits binary64 c.args.x) c.well_formed.0.1) (passes (fits binary64 c.args.y) c.well_formed.1.0.1) (omega (arith, c.rank.ensures, c.rank-then-x-y.ensures))

pub returns-else-rank : goal.returns-else-rank
returns-else-rank c =
    first_by_rank c.args.x c.args.y (passes (fits binary64 c.args.x) c.well_formed.0.1) (passes (fits binary64 c.args.y) c.well_formed.1.0.1) (omega (arith, c.rank.ensures, c.rank-then-x-y.ensures))

-- two NaNs
pub returns-then-is_nan-2 : goal.returns-then-is_nan-2
unfolding minimum_number is_nan add
returns-then-is_nan-2 c =
    rw (only_nan c.args.x (sym c.is_nan.ensures.value ∙ c.if-is_nan.true), only_nan c.args.y (sym c.is_nan-then-is_nan.ensures.value ∙ c.if-is_nan-2.true)) refl

-- x alone is a NaN
pub returns-else-is_nan-2 : goal.returns-else-is_nan-2
unfolding minimum_number is_nan
returns-else-is_nan-2 c =
    rw (only_nan c.args.x (sym c.is_nan.ensures.value ∙ c.if-is_nan.true)) refl

-- y is below
pub returns-then-y-x : goal.returns-then-y-x
returns-then-y-x c =
    second_by_rank c.args.x c.args.y (passes (fits binary64 c.args.x) c.well_formed.0.1) (passes (fits binary64 c.args.y) c.well_formed.1.0.1) (rank_of_lt c.args.y c.args.x (passes (fits binary64 c.args.y) c.well_formed.1.0.1) (passes (fits binary64 c.args.x) c.well_formed.0.1) c.if-y-x.true)

pub returns-else-y-x : goal.returns-else-y-x
returns-else-y-x c =
    first_is_minimum c.args.x c.args.y (sym c.is_nan.ensures.value ∙ c.if-is_nan.false) c.if-x-y.false c.if-y-x.false
