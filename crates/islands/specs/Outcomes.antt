-- The call: its checks, and its whole outcome. Definitions only.
use Rattle.std.specs.Prelude.{ℕ, Bool, ◌&&◌, nat_le, List, length, Result, Ok, Err}
use Rattle.sequences.specs.Tabulate.{overwrite}
use Rattle.refusal.specs.declared.Refusal.{Refusal}
use Rattle.refusal.specs.declared.Refusal.TheVariants.{Room}
use Rattle.refusal.specs.Refusal.{row, then, answer}
use Rattle.mesh.specs.Mesh.{Mesh, count, neighbours}
use Rattle.mesh.specs.Rows.{adjacency_rows}
use Rattle.walk.specs.Walk.{order_of}
use Rattle.islands.specs.declared.IslandCount.{IslandCount}
use Rattle.islands.specs.Islands.{islands_of}

-- The whole outcome: how many islands there are and how many entries were read, or why the call is refused, and the lent slices at exit.
pub record IslandsOutcome : Type 0 where
  pub answered : Result IslandCount Refusal
  pub order : List ℕ
  pub queue : List ℕ
  pub island_starts : List ℕ

-- The same from its parts.
abbrev pub islands_outcome : Result IslandCount Refusal → List ℕ → List ℕ → List ℕ → IslandsOutcome
islands_outcome answered order queue island_starts = record { answered = answered; order = order; queue = queue; island_starts = island_starts }

-- Row 8: one place a vertex in each.
unfoldable pub islands_fit : ℕ → List ℕ → List ℕ → List ℕ → Bool
islands_fit n order queue island_starts = nat_le n (length order) && (nat_le n (length queue) && nat_le n (length island_starts))

-- An accepted call numbers all vertices. The places behind the islands' starts are as they were.
unfoldable pub islands_walked : Mesh → List ℕ → List ℕ → List ℕ → IslandsOutcome
islands_walked m order queue island_starts =
    let found = islands_of (count m) (neighbours m) in
    islands_outcome (Ok (record { islands = length found.starts; entries_read = found.visit.entries_read }))
    (overwrite (order_of (count m) found.visit.queue) order) (overwrite found.visit.queue queue) (overwrite found.starts island_starts)

-- The mesh rows 2 to 4, then 8. No vertex is left without a number, so that there is no row 13. A refusal changes nothing.
unfoldable pub walk_islands : Mesh → List ℕ → List ℕ → List ℕ → IslandsOutcome
walk_islands m order queue island_starts =
    answer (then (adjacency_rows m) (row (islands_fit (count m) order queue island_starts) Room (Ok tt))) (λ reason. islands_outcome (Err reason) order queue island_starts) (islands_walked m order queue island_starts)
