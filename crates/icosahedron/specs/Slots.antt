-- The slots of a master face's lattice points, and the numbers that belong to a frequency. Definitions only.
use Rattle.std.specs.Prelude.{ℕ, ◌+◌, ◌-◌, ◌*◌, ◌/◌, ◌≤◌, Bool, ◌&&◌, leb}
use Rattle.refusal.specs.declared.Refusal.TheVariants as refusal
use Rattle.refusal.specs.Refusal.{Verdict, row}

-- Row 1 refuses a frequency below 1 or above 80.
abbrev pub greatest_frequency : ℕ
greatest_frequency = 80

unfoldable pub frequency_fits : ℕ → Bool
frequency_fits n = leb 1 n && leb n greatest_frequency

-- The same as a fact.
abbrev pub IsFrequency : ℕ → Type 0
IsFrequency n = (1 ≤ n) × (n ≤ greatest_frequency)

-- Row 1, and then the next rows.
abbrev pub frequency_row : ℕ → Verdict → Verdict
frequency_row n next = row (frequency_fits n) refusal.Frequency next

-- The slot of (a, b) in its face: a(n + 1) − a(a − 1)/2 + b, as row a has n + 1 − a slots. At a = 0 the product a(a − 1) is 0.
unfoldable pub slot_of : ℕ → ℕ → ℕ → ℕ
slot_of n a b = a * (n + 1) - a * (a - 1) / 2 + b

-- "the twenty faces' slots, (n + 1)(n + 2)/2 each, one face behind another"
unfoldable pub slots_per_face : ℕ → ℕ
slots_per_face n = (n + 1) * (n + 2) / 2

-- "Counts: 10n² + 2 vertices"
unfoldable pub lattice_vertex_count : ℕ → ℕ
lattice_vertex_count n = 10 * (n * n) + 2
