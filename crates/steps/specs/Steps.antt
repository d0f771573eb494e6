-- Steps between vertices: levels of a walk begun at one of them, and the entries read until another is met. Definitions only.
use Rattle.std.specs.Prelude.{ℕ, zero, suc, Bool, if◌then◌else◌, ◌==◌, List, [], ◌∷◌, length, slice_index, Option, Some, None, Result, Ok, ok_or}
use Rattle.std.specs.List.{position_or_len}
use Rattle.sequences.specs.Starts.{concatenate}
use Rattle.sequences.specs.Ascending.{is_member}
use Rattle.sequences.specs.Search.{first_below}
use Rattle.refusal.specs.declared.Refusal.{Refusal}
use Rattle.refusal.specs.declared.Refusal.TheVariants.{NoPath}
use Rattle.mesh.specs.Mesh.{Mesh, count, neighbours}
use Rattle.walk.specs.Walk.{entered, walk_from}
use Rattle.steps.specs.declared.Steps.{Steps}

-- ---- levels of a walk
-- The entries of the lists of some ids, read one list behind another.
unfoldable pub entries_of : (ℕ → List ℕ) → List ℕ → List ℕ
entries_of lists ids = concatenate (length ids) (λ i. lists (slice_index ids i))

-- All vertices within k steps, in the order of a walk begun at v: v itself, then what is new in the lists of those within one step fewer. Reading the lists of the nearer ones again changes nothing.
unfoldable pub within_steps : (ℕ → List ℕ) → ℕ → ℕ → List ℕ
within_steps lists v zero = v ∷ []
within_steps lists v (suc k) = let nearer = within_steps lists v k in entered nearer (entries_of lists nearer)

-- The number of steps from v to w among n vertices: the least k with w within k steps; n where there is none.
unfoldable pub steps_to : (ℕ → List ℕ) → ℕ → ℕ → ℕ → ℕ
steps_to lists n v w = first_below (λ k. is_member w (within_steps lists v k)) n

-- ---- a search
abbrev pub is_target : ℕ → ℕ → Bool
is_target w x = x == w

-- The first place of a list that holds w, the length where none does.
abbrev pub first_place : ℕ → List ℕ → ℕ
first_place w list = position_or_len (is_target w) list

-- How many entries a walk from v has read when w is read as an entry for the first time: those of the complete walk before it, and that one.
unfoldable pub entries_until : (ℕ → List ℕ) → ℕ → ℕ → ℕ → ℕ
entries_until lists n v w = suc (first_place w (entries_of lists (walk_from n lists v).queue))

abbrev pub steps_with : ℕ → ℕ → Steps
steps_with steps entries_read = record { steps = steps; entries_read = entries_read }

-- What such a walk tells: how many steps away w is and how many entries were read, where the complete walk has w at all.
unfoldable pub search_from : ℕ → (ℕ → List ℕ) → ℕ → ℕ → Option Steps
search_from n lists v w = if is_member w (walk_from n lists v).queue then Some (steps_with (steps_to lists n v w) (entries_until lists n v w)) else None

-- Between two vertices of a mesh. Where both are one, nothing is read. Row 15 refuses a target that no path reaches.
unfoldable pub steps_found : Mesh → ℕ → ℕ → Result Steps Refusal
steps_found m from to = if from == to then Ok (steps_with 0 0) else ok_or (search_from (count m) (neighbours m) from to) NoPath
