-- What `Frequency::new` answers. Definitions only.
use Rattle.std.specs.Prelude.{ℕ, cond, Result, Ok, Err}
use Rattle.refusal.specs.declared.Refusal.{Refusal}
use Rattle.refusal.specs.declared.Refusal.TheVariants as refusal
use Rattle.icosahedron.specs.declared.frequency.Frequency.{Frequency}
use Rattle.icosahedron.specs.Slots.{frequency_fits}

-- The number of a frequency that passed, or the refusal.
abbrev pub frequency_number : Result Frequency Refusal → Result ℕ Refusal
frequency_number (Ok frequency) = Ok frequency.n
frequency_number (Err reason) = Err reason

-- Row 1 lets a number from 1 to 80 pass.
abbrev pub frequency_of : ℕ → Result ℕ Refusal
frequency_of n = cond (frequency_fits n) (Ok n) (Err refusal.Frequency)
