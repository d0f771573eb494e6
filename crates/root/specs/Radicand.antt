-- What the value stands for whose root is wanted. Definitions only.
use Rattle.std.specs.Prelude.{◌+◌, ◌*◌, ◌^◌, Float}
use Rattle.std.specs.Float.{binary64}
use Rattle.root.specs.declared.Radicand.{Radicand}
use Rattle.root.specs.Root.{scaled_root}
use Rattle.root.specs.Places.{squared_place}

-- the root of significand * 4 ^ half / 2 ^ normalised_scale, rounded
abbrev pub radicand_root : Radicand → Float
radicand_root r = scaled_root binary64 (r.significand * 2 ^ (2 * r.half + squared_place))
