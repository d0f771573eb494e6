-- The walk over all islands: breadth first from the lowest id that has no number, again and again, until each id has one. Definitions only.
use Rattle.std.specs.Prelude.{ℕ, zero, suc, ◌≡◌, if◌then◌else◌, List, [], ◌∷◌, ◌++◌, length}
use Rattle.sequences.specs.Ascending.{is_member}
use Rattle.sequences.specs.Tabulate.{overwrite}
use Rattle.walk.specs.Walk.{Visit, begun, continued}
use Rattle.walk.specs.Buffers.{Holding}
use Rattle.islands.specs.declared.IslandCount.{IslandCount}

-- What was found, and the place in the queue where each island starts: its first number.
pub record Islands : Type 0 where
  pub visit : Visit
  pub starts : List ℕ

-- A root enters behind all that were found.
abbrev pub with_root : Visit → ℕ → Visit
with_root visit v = record { queue = visit.queue ++ (v ∷ []); entries_read = visit.entries_read }

-- The vertices that one walk numbers are an island, whose numbers follow those of the one before: its root enters, and the walk goes on from there to its end.
abbrev pub island_from : (ℕ → List ℕ) → ℕ → Islands → ℕ → Islands
island_from lists n found root =
    let begins = length found.visit.queue in
    record { visit = continued lists (with_root found.visit root) begins n; starts = found.starts ++ (begins ∷ []) }

-- After the ids below k were tried, of n vertices: one without a number begins an island. All ids below it have one, so that it is the lowest without.
unfoldable pub islands_below : (ℕ → List ℕ) → ℕ → ℕ → Islands
islands_below lists n zero = record { visit = begun []; starts = [] }
islands_below lists n (suc k) = let found = islands_below lists n k in if is_member k found.visit.queue then found else island_from lists n found k

-- All islands of n vertices.
unfoldable pub islands_of : ℕ → (ℕ → List ℕ) → Islands
islands_of n lists = islands_below lists n n

-- What the walk over all islands of n vertices leaves: how many there are and how many entries were read, and its slices, `old` and `old_starts` the queue and the island starts before.
pub record Numbered (n : ℕ) (lists : ℕ → List ℕ) (old old_starts : List ℕ) (found : IslandCount) (order queue starts : List ℕ) : Type 0 where
  pub holds : Holding n (islands_of n lists).visit.queue old n order queue
  pub entries_agree : found.entries_read ≡ (islands_of n lists).visit.entries_read
  pub counted : found.islands ≡ length (islands_of n lists).starts
  pub starts_written : starts ≡ overwrite (islands_of n lists).starts old_starts
