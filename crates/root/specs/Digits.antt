-- What the state of a square root stands for that is worked out digit by digit. Definitions only.
use Rattle.std.specs.Prelude.{ℕ, ◌+◌, ◌*◌, ◌^◌}
use Rattle.root.specs.declared.RootState.{RootState}

-- The radicand's digits so far are significand² + remainder, and the others are still to come: 4 ^ k times the first radicand, once k digits of the root are found.
abbrev pub scaled_radicand : RootState → ℕ
scaled_radicand s = (s.root.significand * s.root.significand + s.root.remainder) * 2 ^ 64 + s.radicand
