-- The number that two words hold. Definitions only.
use Rattle.std.specs.Prelude.{ℕ, ◌+◌, ◌*◌, ◌^◌}
use Rattle.words.specs.declared.TwoWords.{TwoWords}

-- The high word counts 2 ^ 64 each.
abbrev pub value : TwoWords → ℕ
value x = x.hi * 2 ^ 64 + x.lo
